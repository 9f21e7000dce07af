-- Expressions, declarators and names of types: the ordered function and the relation are one.
use Rattle.std.proofs.Common.{ℕ, true, false}
use Rattle.srmt_base.specs.declared.op.Op.TheVariants.{Add, Sub}
use Rattle.c_tree.specs.declared.operator.PrefixOp.TheVariants as pre
use Rattle.c_tree.specs.declared.operator.PostfixOp.TheVariants as post
use Rattle.c_typed.specs.Typed.{type_of}
use Rattle.c_typed.specs.Constants.{constant_of}
use Rattle.typing_rules.specs.Source.{Expr, at, name, number, character, text, parenthesized, index, call, prefix, postfix, sizeof_expr, sizeof_type, cast, binary, conjunction, disjunction, choice, assignment, compound, comma, Exprs, no_exprs, first_expr, TypeName, type_name, Declarator, declarator, Parts, no_parts, pointer_part, array_part, unsized_part, function_part, Parameters, no_parameters, first_parameter, line_of}
use Rattle.typing_rules.specs.Terms.{Term, one_value, Change, change_by}
use Rattle.typing_rules.specs.DeclaratorRules.{Lines, lines_of}
use Rattle.typing_rules.specs.Checking.{Checking}
use Rattle.typing_rules.specs.Holding.{Typing}
use Rattle.typing_rules.specs.Exact.{Exact}
use Rattle.typing_rules.specs.Ordered.{stepped, term_of, all_of, type_named, derivations_of, parts_of, parameters_of}
use Rattle.typing_rules.specs.Typing.{IsStepped, IsTerm, AreAll, IsTypeNamed, AreDerivations, AreParts, AreParameters}
use Rattle.typing_rules.proofs.Exactness.{exact_pure, exact_bind, exact_ruled, exact_from_result}
use Rattle.typing_rules.proofs.PartsExact.{exact_written, exact_named, exact_text, exact_indexed, exact_indirect, exact_address, exact_opposite, exact_promoted, exact_negative, exact_complemented, exact_computed, exact_conjoined, exact_disjoined, exact_chosen, exact_target, exact_assigned, exact_changed, exact_cast, exact_unvalued, exact_sized, exact_called, exact_call}
use Rattle.typing_rules.proofs.DeclaratorsExact.{exact_specified, length_allows, derived_allows, exact_parameter, exact_parameter_list}

exact_stepped : (line : ℕ) (c : Change) {m : Checking Term} {S : Typing Term} → Exact m S → Exact (stepped line c m) (IsStepped line c S)
exact_stepped line c h = exact_bind h (λ term. exact_bind (exact_target term) (λ target. exact_changed line c target (one_value line)))

mutual
  unfolding term_of IsTerm

  pub exact_term : (e : Expr) → Exact (term_of e) (IsTerm e)
  exact_term (at line (name bytes)) = exact_named line bytes
  exact_term (at line (number ty n)) = exact_pure _
  exact_term (at line (character n)) = exact_pure _
  exact_term (at line (text bytes)) = exact_text line bytes
  exact_term (at line (parenthesized e)) = exact_term e
  exact_term (at line (index e op i)) =
      exact_bind (exact_written (line_of e) (exact_term e)) (λ a. exact_bind (exact_written (line_of i) (exact_term i)) (λ b. exact_indexed line op a b))
  exact_term (at line (call f op es)) =
      exact_bind (exact_term f) (λ callee. exact_bind (exact_called callee)
      (λ function. exact_bind (exact_all es) (λ arguments. exact_call line op function arguments)))
  exact_term (at line (prefix pre.Increment e)) = exact_stepped line (change_by false (line_of e) Add line) (exact_term e)
  exact_term (at line (prefix pre.Decrement e)) = exact_stepped line (change_by false (line_of e) Sub line) (exact_term e)
  exact_term (at line (prefix pre.AddressOf e)) = exact_bind (exact_term e) (exact_address line)
  exact_term (at line (prefix pre.Indirection e)) = exact_bind (exact_written (line_of e) (exact_term e)) (exact_indirect line)
  exact_term (at line (prefix pre.Plus e)) = exact_bind (exact_written (line_of e) (exact_term e)) (exact_promoted line)
  exact_term (at line (prefix pre.Minus e)) = exact_bind (exact_written (line_of e) (exact_term e)) (exact_negative line)
  exact_term (at line (prefix pre.Complement e)) = exact_bind (exact_written (line_of e) (exact_term e)) (exact_complemented line)
  exact_term (at line (prefix pre.Not e)) = exact_bind (exact_written (line_of e) (exact_term e)) (exact_opposite line)
  exact_term (at line (postfix post.Increment op e)) = exact_stepped line (change_by true (line_of e) Add op) (exact_term e)
  exact_term (at line (postfix post.Decrement op e)) = exact_stepped line (change_by true (line_of e) Sub op) (exact_term e)
  exact_term (at line (sizeof_expr e)) = exact_bind (exact_term e) (λ term. exact_bind (exact_unvalued term) (λ type. exact_sized line type))
  exact_term (at line (sizeof_type t)) = exact_bind (exact_type_named t) (λ type. exact_sized line type.type)
  exact_term (at line (cast t e)) =
      exact_bind (exact_type_named t) (λ type. exact_bind (exact_written (line_of e) (exact_term e)) (λ a. exact_cast line type a))
  exact_term (at line (binary o op e f)) =
      exact_bind (exact_written (line_of e) (exact_term e)) (λ a. exact_bind (exact_written (line_of f) (exact_term f)) (λ b. exact_computed line o op a b))
  exact_term (at line (conjunction op e f)) =
      exact_bind (exact_written (line_of e) (exact_term e)) (λ a. exact_bind (exact_written (line_of f) (exact_term f)) (λ b. exact_conjoined line op a b))
  exact_term (at line (disjunction op e f)) =
      exact_bind (exact_written (line_of e) (exact_term e)) (λ a. exact_bind (exact_written (line_of f) (exact_term f)) (λ b. exact_disjoined line op a b))
  exact_term (at line (choice op c e f)) =
      exact_bind (exact_written (line_of c) (exact_term c)) (λ test.
      exact_bind (exact_written (line_of e) (exact_term e)) (λ a.
      exact_bind (exact_written (line_of f) (exact_term f)) (λ b. exact_chosen line op test a b)))
  exact_term (at line (assignment op e f)) =
      exact_bind (exact_term e) (λ left.
      exact_bind (exact_target left) (λ target.
      exact_bind (exact_written (line_of f) (exact_term f)) (λ a. exact_assigned line op target a)))
  exact_term (at line (compound o op e f)) =
      exact_bind (exact_term e) (λ left.
      exact_bind (exact_target left) (λ target.
      exact_bind (exact_written (line_of f) (exact_term f)) (λ a. exact_changed line (change_by false (line_of e) o op) target a)))
  exact_term (at line (comma es e)) =
      exact_bind (exact_all es) (λ dropped. exact_bind (exact_written (line_of e) (exact_term e)) (λ last. exact_pure _))

  pub exact_all : (es : Exprs) → Exact (all_of es) (AreAll es)
  exact_all no_exprs = exact_pure _
  exact_all (first_expr e es) =
      exact_bind (exact_written (line_of e) (exact_term e)) (λ a. exact_bind (exact_all es) (λ rest. exact_pure _))

  pub exact_type_named : (t : TypeName) → Exact (type_named t) (IsTypeNamed t)
  exact_type_named (type_name s d) =
      exact_bind (exact_specified false s) (λ base.
      exact_bind (exact_derivations (lines_of d s.line) d) (λ ds.
      exact_from_result _ _ (derived_allows (lines_of d s.line) false base.type ds)))

  pub exact_derivations : (lines : Lines) (d : Declarator) → Exact (derivations_of lines d) (AreDerivations d)
  exact_derivations lines (declarator line naming parts) = exact_parts lines parts

  pub exact_parts : (lines : Lines) (ps : Parts) → Exact (parts_of lines ps) (AreParts ps)
  exact_parts lines no_parts = exact_pure _
  exact_parts lines (pointer_part q ps) = exact_bind (exact_parts lines ps) (λ rest. exact_pure _)
  exact_parts lines (array_part line e ps) =
      exact_bind (exact_written (line_of e) (exact_term e)) (λ a.
      exact_bind (exact_ruled lines.lengths _ _ (length_allows (type_of a.value) (constant_of a.value))) (λ n.
      exact_bind (exact_parts lines ps) (λ rest. exact_pure _)))
  exact_parts lines (unsized_part line ps) = exact_bind (exact_parts lines ps) (λ rest. exact_pure _)
  exact_parts lines (function_part line list ps) =
      exact_bind (exact_parameter_list list (exact_parameters list)) (λ found. exact_bind (exact_parts lines ps) (λ rest. exact_pure _))

  pub exact_parameters : (ps : Parameters) → Exact (parameters_of ps) (AreParameters ps)
  exact_parameters no_parameters = exact_pure tt
  exact_parameters (first_parameter s d rest) =
      exact_bind (exact_specified false s) (λ base.
      exact_bind (exact_derivations (lines_of d s.line) d) (λ ds.
      exact_bind (exact_parameter s base.type d ds) (λ u. exact_parameters rest)))
