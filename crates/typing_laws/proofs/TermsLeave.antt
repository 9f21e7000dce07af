-- Expressions leave what is known of objects and functions with linkage.
use Rattle.std.proofs.Common.{ℕ, true, false}
use Rattle.srmt_base.specs.declared.op.Op.TheVariants.{Add, Sub}
use Rattle.c_tree.specs.declared.operator.PrefixOp.TheVariants as pre
use Rattle.c_tree.specs.declared.operator.PostfixOp.TheVariants as post
use Rattle.typing_rules.specs.Source.{Expr, at, name, number, character, text, parenthesized, index, call, prefix, postfix, sizeof_expr, sizeof_type, cast, binary, conjunction, disjunction, choice, assignment, compound, comma, Exprs, no_exprs, first_expr, TypeName, type_name, Declarator, declarator, Parts, no_parts, pointer_part, array_part, unsized_part, function_part, Parameters, no_parameters, first_parameter, line_of}
use Rattle.typing_rules.specs.Terms.{Term, one_value, Change, change_by}
use Rattle.typing_rules.specs.Holding.{Typing}
use Rattle.typing_rules.specs.Typing.{IsStepped, IsTerm, AreAll, IsTypeNamed, AreDerivations, AreParts, AreParameters}
use Rattle.typing_laws.proofs.Leaving.{Leaves, leaves_is, leaves_such, leaves_bind}
use Rattle.typing_laws.proofs.PartsLeave.{leaves_written, leaves_named, leaves_text, leaves_indexed, leaves_indirect, leaves_address, leaves_opposite, leaves_promoted, leaves_negative, leaves_complemented, leaves_computed, leaves_conjoined, leaves_disjoined, leaves_chosen, leaves_target, leaves_assigned, leaves_changed, leaves_cast, leaves_unvalued, leaves_sized, leaves_called, leaves_call}
use Rattle.typing_laws.proofs.DeclaratorsLeave.{leaves_specified, leaves_parameter, leaves_parameter_list}

leaves_stepped : (line : ℕ) (c : Change) {S : Typing Term} → Leaves S → Leaves (IsStepped line c S)
leaves_stepped line c h = leaves_bind h (λ term. leaves_bind (leaves_target term) (λ target. leaves_changed line c target (one_value line)))

mutual
  unfolding IsTerm

  pub leaves_term : (e : Expr) → Leaves (IsTerm e)
  leaves_term (at line (name bytes)) = leaves_named line bytes
  leaves_term (at line (number ty n)) = leaves_is
  leaves_term (at line (character n)) = leaves_is
  leaves_term (at line (text bytes)) = leaves_text line bytes
  leaves_term (at line (parenthesized e)) = leaves_term e
  leaves_term (at line (index e op i)) =
      leaves_bind (leaves_written (line_of e) (leaves_term e)) (λ a.
      leaves_bind (leaves_written (line_of i) (leaves_term i)) (λ b. leaves_indexed line op a b))
  leaves_term (at line (call f op es)) =
      leaves_bind (leaves_term f) (λ callee. leaves_bind (leaves_called callee) (λ function.
      leaves_bind (leaves_all es) (λ arguments. leaves_call line op function arguments)))
  leaves_term (at line (prefix pre.Increment e)) = leaves_stepped line (change_by false (line_of e) Add line) (leaves_term e)
  leaves_term (at line (prefix pre.Decrement e)) = leaves_stepped line (change_by false (line_of e) Sub line) (leaves_term e)
  leaves_term (at line (prefix pre.AddressOf e)) = leaves_bind (leaves_term e) (leaves_address line)
  leaves_term (at line (prefix pre.Indirection e)) = leaves_bind (leaves_written (line_of e) (leaves_term e)) (leaves_indirect line)
  leaves_term (at line (prefix pre.Plus e)) = leaves_bind (leaves_written (line_of e) (leaves_term e)) (leaves_promoted line)
  leaves_term (at line (prefix pre.Minus e)) = leaves_bind (leaves_written (line_of e) (leaves_term e)) (leaves_negative line)
  leaves_term (at line (prefix pre.Complement e)) = leaves_bind (leaves_written (line_of e) (leaves_term e)) (leaves_complemented line)
  leaves_term (at line (prefix pre.Not e)) = leaves_bind (leaves_written (line_of e) (leaves_term e)) (leaves_opposite line)
  leaves_term (at line (postfix post.Increment op e)) = leaves_stepped line (change_by true (line_of e) Add op) (leaves_term e)
  leaves_term (at line (postfix post.Decrement op e)) = leaves_stepped line (change_by true (line_of e) Sub op) (leaves_term e)
  leaves_term (at line (sizeof_expr e)) = leaves_bind (leaves_term e) (λ term. leaves_bind (leaves_unvalued term) (λ type. leaves_sized line type))
  leaves_term (at line (sizeof_type t)) = leaves_bind (leaves_type_named t) (λ type. leaves_sized line type.type)
  leaves_term (at line (cast t e)) =
      leaves_bind (leaves_type_named t) (λ type. leaves_bind (leaves_written (line_of e) (leaves_term e)) (λ a. leaves_cast line type a))
  leaves_term (at line (binary o op e f)) =
      leaves_bind (leaves_written (line_of e) (leaves_term e)) (λ a.
      leaves_bind (leaves_written (line_of f) (leaves_term f)) (λ b. leaves_computed line o op a b))
  leaves_term (at line (conjunction op e f)) =
      leaves_bind (leaves_written (line_of e) (leaves_term e)) (λ a.
      leaves_bind (leaves_written (line_of f) (leaves_term f)) (λ b. leaves_conjoined line op a b))
  leaves_term (at line (disjunction op e f)) =
      leaves_bind (leaves_written (line_of e) (leaves_term e)) (λ a.
      leaves_bind (leaves_written (line_of f) (leaves_term f)) (λ b. leaves_disjoined line op a b))
  leaves_term (at line (choice op c e f)) =
      leaves_bind (leaves_written (line_of c) (leaves_term c)) (λ test. leaves_bind (leaves_written (line_of e) (leaves_term e)) (λ a.
      leaves_bind (leaves_written (line_of f) (leaves_term f)) (λ b. leaves_chosen line op test a b)))
  leaves_term (at line (assignment op e f)) =
      leaves_bind (leaves_term e) (λ left. leaves_bind (leaves_target left) (λ target.
      leaves_bind (leaves_written (line_of f) (leaves_term f)) (λ a. leaves_assigned line op target a)))
  leaves_term (at line (compound o op e f)) =
      leaves_bind (leaves_term e) (λ left. leaves_bind (leaves_target left) (λ target.
      leaves_bind (leaves_written (line_of f) (leaves_term f)) (λ a. leaves_changed line (change_by false (line_of e) o op) target a)))
  leaves_term (at line (comma es e)) = leaves_bind (leaves_all es) (λ dropped. leaves_bind (leaves_written (line_of e) (leaves_term e)) (λ last. leaves_is))

  pub leaves_all : (es : Exprs) → Leaves (AreAll es)
  leaves_all no_exprs = leaves_is
  leaves_all (first_expr e es) = leaves_bind (leaves_written (line_of e) (leaves_term e)) (λ a. leaves_bind (leaves_all es) (λ rest. leaves_is))

  pub leaves_type_named : (t : TypeName) → Leaves (IsTypeNamed t)
  leaves_type_named (type_name s d) =
      leaves_bind (leaves_specified false s) (λ base. leaves_bind (leaves_derivations d) (λ ds. leaves_such))

  pub leaves_derivations : (d : Declarator) → Leaves (AreDerivations d)
  leaves_derivations (declarator line naming parts) = leaves_parts parts

  pub leaves_parts : (ps : Parts) → Leaves (AreParts ps)
  leaves_parts no_parts = leaves_is
  leaves_parts (pointer_part q ps) = leaves_bind (leaves_parts ps) (λ rest. leaves_is)
  leaves_parts (array_part line e ps) =
      leaves_bind (leaves_written (line_of e) (leaves_term e)) (λ a. leaves_bind leaves_such (λ n.
      leaves_bind (leaves_parts ps) (λ rest. leaves_is)))
  leaves_parts (unsized_part line ps) = leaves_bind (leaves_parts ps) (λ rest. leaves_is)
  leaves_parts (function_part line list ps) =
      leaves_bind (leaves_parameter_list list (leaves_parameters list)) (λ found. leaves_bind (leaves_parts ps) (λ rest. leaves_is))

  pub leaves_parameters : (ps : Parameters) → Leaves (AreParameters ps)
  leaves_parameters no_parameters = leaves_is
  leaves_parameters (first_parameter s d rest) =
      leaves_bind (leaves_specified false s) (λ base. leaves_bind (leaves_derivations d) (λ ds.
      leaves_bind (leaves_parameter s base.type d ds) (λ u. leaves_parameters rest)))
