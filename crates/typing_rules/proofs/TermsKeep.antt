-- Expressions keep that the contents of objects fit.
use Rattle.std.proofs.Common.{ℕ, true, false}
use Rattle.srmt_base.specs.declared.op.Op.TheVariants.{Add, Sub}
use Rattle.c_tree.specs.declared.operator.PrefixOp.TheVariants as pre
use Rattle.c_tree.specs.declared.operator.PostfixOp.TheVariants as post
use Rattle.typing_rules.specs.Source.{Expr, at, name, number, character, text, parenthesized, index, call, prefix, postfix, sizeof_expr, sizeof_type, cast, binary, conjunction, disjunction, choice, assignment, compound, comma, Exprs, no_exprs, first_expr, TypeName, type_name, Declarator, declarator, Parts, no_parts, pointer_part, array_part, unsized_part, function_part, Parameters, no_parameters, first_parameter, line_of}
use Rattle.typing_rules.specs.Terms.{Term, one_value, Change, change_by}
use Rattle.typing_rules.specs.DeclaratorRules.{Lines, lines_of}
use Rattle.typing_rules.specs.Holding.{Typing}
use Rattle.typing_rules.specs.Typing.{IsStepped, IsTerm, AreAll, IsTypeNamed, AreDerivations, AreParts, AreParameters}
use Rattle.typing_rules.proofs.Keeping.{Keeps, keeps_is, keeps_such, keeps_bind}
use Rattle.typing_rules.proofs.PartsKeep.{keeps_written, keeps_named, keeps_text, keeps_indexed, keeps_indirect, keeps_address, keeps_opposite, keeps_promoted, keeps_negative, keeps_complemented, keeps_computed, keeps_conjoined, keeps_disjoined, keeps_chosen, keeps_target, keeps_assigned, keeps_changed, keeps_cast, keeps_unvalued, keeps_sized, keeps_called, keeps_call}
use Rattle.typing_rules.proofs.DeclaratorsKeep.{keeps_specified, keeps_parameter, keeps_parameter_list}

keeps_stepped : (line : ℕ) (c : Change) {S : Typing Term} → Keeps S → Keeps (IsStepped line c S)
keeps_stepped line c h = keeps_bind h (λ term. keeps_bind (keeps_target term) (λ target. keeps_changed line c target (one_value line)))

mutual
  unfolding IsTerm

  pub keeps_term : (e : Expr) → Keeps (IsTerm e)
  keeps_term (at line (name bytes)) = keeps_named line bytes
  keeps_term (at line (number ty n)) = keeps_is
  keeps_term (at line (character n)) = keeps_is
  keeps_term (at line (text bytes)) = keeps_text line bytes
  keeps_term (at line (parenthesized e)) = keeps_term e
  keeps_term (at line (index e op i)) =
      keeps_bind (keeps_written (line_of e) (keeps_term e)) (λ a.
      keeps_bind (keeps_written (line_of i) (keeps_term i)) (λ b. keeps_indexed line op a b))
  keeps_term (at line (call f op es)) =
      keeps_bind (keeps_term f) (λ callee. keeps_bind (keeps_called callee) (λ function.
      keeps_bind (keeps_all es) (λ arguments. keeps_call line op function arguments)))
  keeps_term (at line (prefix pre.Increment e)) = keeps_stepped line (change_by false (line_of e) Add line) (keeps_term e)
  keeps_term (at line (prefix pre.Decrement e)) = keeps_stepped line (change_by false (line_of e) Sub line) (keeps_term e)
  keeps_term (at line (prefix pre.AddressOf e)) = keeps_bind (keeps_term e) (keeps_address line)
  keeps_term (at line (prefix pre.Indirection e)) = keeps_bind (keeps_written (line_of e) (keeps_term e)) (keeps_indirect line)
  keeps_term (at line (prefix pre.Plus e)) = keeps_bind (keeps_written (line_of e) (keeps_term e)) (keeps_promoted line)
  keeps_term (at line (prefix pre.Minus e)) = keeps_bind (keeps_written (line_of e) (keeps_term e)) (keeps_negative line)
  keeps_term (at line (prefix pre.Complement e)) = keeps_bind (keeps_written (line_of e) (keeps_term e)) (keeps_complemented line)
  keeps_term (at line (prefix pre.Not e)) = keeps_bind (keeps_written (line_of e) (keeps_term e)) (keeps_opposite line)
  keeps_term (at line (postfix post.Increment op e)) = keeps_stepped line (change_by true (line_of e) Add op) (keeps_term e)
  keeps_term (at line (postfix post.Decrement op e)) = keeps_stepped line (change_by true (line_of e) Sub op) (keeps_term e)
  keeps_term (at line (sizeof_expr e)) = keeps_bind (keeps_term e) (λ term. keeps_bind (keeps_unvalued term) (λ type. keeps_sized line type))
  keeps_term (at line (sizeof_type t)) = keeps_bind (keeps_type_named t) (λ type. keeps_sized line type.type)
  keeps_term (at line (cast t e)) =
      keeps_bind (keeps_type_named t) (λ type. keeps_bind (keeps_written (line_of e) (keeps_term e)) (λ a. keeps_cast line type a))
  keeps_term (at line (binary o op e f)) =
      keeps_bind (keeps_written (line_of e) (keeps_term e)) (λ a.
      keeps_bind (keeps_written (line_of f) (keeps_term f)) (λ b. keeps_computed line o op a b))
  keeps_term (at line (conjunction op e f)) =
      keeps_bind (keeps_written (line_of e) (keeps_term e)) (λ a.
      keeps_bind (keeps_written (line_of f) (keeps_term f)) (λ b. keeps_conjoined line op a b))
  keeps_term (at line (disjunction op e f)) =
      keeps_bind (keeps_written (line_of e) (keeps_term e)) (λ a.
      keeps_bind (keeps_written (line_of f) (keeps_term f)) (λ b. keeps_disjoined line op a b))
  keeps_term (at line (choice op c e f)) =
      keeps_bind (keeps_written (line_of c) (keeps_term c)) (λ test. keeps_bind (keeps_written (line_of e) (keeps_term e)) (λ a.
      keeps_bind (keeps_written (line_of f) (keeps_term f)) (λ b. keeps_chosen line op test a b)))
  keeps_term (at line (assignment op e f)) =
      keeps_bind (keeps_term e) (λ left. keeps_bind (keeps_target left) (λ target.
      keeps_bind (keeps_written (line_of f) (keeps_term f)) (λ a. keeps_assigned line op target a)))
  keeps_term (at line (compound o op e f)) =
      keeps_bind (keeps_term e) (λ left. keeps_bind (keeps_target left) (λ target.
      keeps_bind (keeps_written (line_of f) (keeps_term f)) (λ a. keeps_changed line (change_by false (line_of e) o op) target a)))
  keeps_term (at line (comma es e)) = keeps_bind (keeps_all es) (λ dropped. keeps_bind (keeps_written (line_of e) (keeps_term e)) (λ last. keeps_is))

  pub keeps_all : (es : Exprs) → Keeps (AreAll es)
  keeps_all no_exprs = keeps_is
  keeps_all (first_expr e es) = keeps_bind (keeps_written (line_of e) (keeps_term e)) (λ a. keeps_bind (keeps_all es) (λ rest. keeps_is))

  pub keeps_type_named : (t : TypeName) → Keeps (IsTypeNamed t)
  keeps_type_named (type_name s d) =
      keeps_bind (keeps_specified false s) (λ base. keeps_bind (keeps_derivations (lines_of d s.line) d) (λ ds. keeps_such))

  pub keeps_derivations : (lines : Lines) (d : Declarator) → Keeps (AreDerivations d)
  keeps_derivations lines (declarator line naming parts) = keeps_parts lines parts

  pub keeps_parts : (lines : Lines) (ps : Parts) → Keeps (AreParts ps)
  keeps_parts lines no_parts = keeps_is
  keeps_parts lines (pointer_part q ps) = keeps_bind (keeps_parts lines ps) (λ rest. keeps_is)
  keeps_parts lines (array_part line e ps) =
      keeps_bind (keeps_written (line_of e) (keeps_term e)) (λ a. keeps_bind keeps_such (λ n.
      keeps_bind (keeps_parts lines ps) (λ rest. keeps_is)))
  keeps_parts lines (unsized_part line ps) = keeps_bind (keeps_parts lines ps) (λ rest. keeps_is)
  keeps_parts lines (function_part line list ps) =
      keeps_bind (keeps_parameter_list list (keeps_parameters list)) (λ found. keeps_bind (keeps_parts lines ps) (λ rest. keeps_is))

  pub keeps_parameters : (ps : Parameters) → Keeps (AreParameters ps)
  keeps_parameters no_parameters = keeps_is
  keeps_parameters (first_parameter s d rest) =
      keeps_bind (keeps_specified false s) (λ base. keeps_bind (keeps_derivations (lines_of d s.line) d) (λ ds.
      keeps_bind (keeps_parameter s base.type d ds) (λ u. keeps_parameters rest)))
