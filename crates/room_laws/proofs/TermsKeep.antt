-- Expressions keep an invariant.
use Rattle.std.proofs.Common.{ℕ, true, false}
use Rattle.srmt_base.specs.declared.op.Op.TheVariants.{Add, Sub}
use Rattle.c_tree.specs.declared.operator.PrefixOp.TheVariants as pre
use Rattle.c_tree.specs.declared.operator.PostfixOp.TheVariants as post
use Rattle.typing_rules.specs.Source.{Expr, at, name, number, character, text, parenthesized, index, call, prefix, postfix, sizeof_expr, sizeof_type, cast, binary, conjunction, disjunction, choice, assignment, compound, comma, Exprs, no_exprs, first_expr, TypeName, type_name, Declarator, declarator, Parts, no_parts, pointer_part, array_part, unsized_part, function_part, Parameters, no_parameters, first_parameter, line_of}
use Rattle.typing_rules.specs.Known.{Known}
use Rattle.typing_rules.specs.Terms.{Term, one_value, Change, change_by}
use Rattle.typing_rules.specs.Holding.{Typing}
use Rattle.typing_rules.specs.Typing.{IsStepped, IsTerm, AreAll, IsTypeNamed, AreDerivations, AreParts, AreParameters}
use Rattle.room_laws.proofs.Keeping.{Keeps, Stays, keeps_is, keeps_such, keeps_bind}
use Rattle.room_laws.proofs.PartsKeep.{keeps_written, keeps_named, keeps_text, keeps_indexed, keeps_indirect, keeps_address, keeps_opposite, keeps_promoted, keeps_negative, keeps_complemented, keeps_computed, keeps_conjoined, keeps_disjoined, keeps_chosen, keeps_target, keeps_assigned, keeps_changed, keeps_cast, keeps_unvalued, keeps_sized, keeps_called, keeps_call}
use Rattle.room_laws.proofs.DeclaratorsKeep.{keeps_specified, keeps_parameter, keeps_parameter_list}

module _ {I : Known → Type 0} (stays : Stays I) where
  keeps_stepped : (line : ℕ) (c : Change) {S : Typing Term} → Keeps I S → Keeps I (IsStepped line c S)
  keeps_stepped line c h = keeps_bind h (λ term. keeps_bind (keeps_target stays term) (λ target. keeps_changed stays line c target (one_value line)))

  mutual
    unfolding IsTerm

    pub keeps_term : (e : Expr) → Keeps I (IsTerm e)
    keeps_term (at line (name bytes)) = keeps_named stays line bytes
    keeps_term (at line (number ty n)) = keeps_is
    keeps_term (at line (character n)) = keeps_is
    keeps_term (at line (text bytes)) = keeps_text stays line bytes
    keeps_term (at line (parenthesized e)) = keeps_term e
    keeps_term (at line (index e op i)) =
        keeps_bind (keeps_written stays (line_of e) (keeps_term e)) (λ a.
        keeps_bind (keeps_written stays (line_of i) (keeps_term i)) (λ b. keeps_indexed stays line op a b))
    keeps_term (at line (call f op es)) =
        keeps_bind (keeps_term f) (λ callee. keeps_bind (keeps_called stays callee) (λ function.
        keeps_bind (keeps_all es) (λ arguments. keeps_call stays line op function arguments)))
    keeps_term (at line (prefix pre.Increment e)) = keeps_stepped line (change_by false (line_of e) Add line) (keeps_term e)
    keeps_term (at line (prefix pre.Decrement e)) = keeps_stepped line (change_by false (line_of e) Sub line) (keeps_term e)
    keeps_term (at line (prefix pre.AddressOf e)) = keeps_bind (keeps_term e) (keeps_address stays line)
    keeps_term (at line (prefix pre.Indirection e)) = keeps_bind (keeps_written stays (line_of e) (keeps_term e)) (keeps_indirect stays line)
    keeps_term (at line (prefix pre.Plus e)) = keeps_bind (keeps_written stays (line_of e) (keeps_term e)) (keeps_promoted stays line)
    keeps_term (at line (prefix pre.Minus e)) = keeps_bind (keeps_written stays (line_of e) (keeps_term e)) (keeps_negative stays line)
    keeps_term (at line (prefix pre.Complement e)) = keeps_bind (keeps_written stays (line_of e) (keeps_term e)) (keeps_complemented stays line)
    keeps_term (at line (prefix pre.Not e)) = keeps_bind (keeps_written stays (line_of e) (keeps_term e)) (keeps_opposite stays line)
    keeps_term (at line (postfix post.Increment op e)) = keeps_stepped line (change_by true (line_of e) Add op) (keeps_term e)
    keeps_term (at line (postfix post.Decrement op e)) = keeps_stepped line (change_by true (line_of e) Sub op) (keeps_term e)
    keeps_term (at line (sizeof_expr e)) = keeps_bind (keeps_term e) (λ term. keeps_bind (keeps_unvalued stays term) (λ type. keeps_sized stays line type))
    keeps_term (at line (sizeof_type t)) = keeps_bind (keeps_type_named t) (λ type. keeps_sized stays line type.type)
    keeps_term (at line (cast t e)) =
        keeps_bind (keeps_type_named t) (λ type. keeps_bind (keeps_written stays (line_of e) (keeps_term e)) (λ a. keeps_cast stays line type a))
    keeps_term (at line (binary o op e f)) =
        keeps_bind (keeps_written stays (line_of e) (keeps_term e)) (λ a.
        keeps_bind (keeps_written stays (line_of f) (keeps_term f)) (λ b. keeps_computed stays line o op a b))
    keeps_term (at line (conjunction op e f)) =
        keeps_bind (keeps_written stays (line_of e) (keeps_term e)) (λ a.
        keeps_bind (keeps_written stays (line_of f) (keeps_term f)) (λ b. keeps_conjoined stays line op a b))
    keeps_term (at line (disjunction op e f)) =
        keeps_bind (keeps_written stays (line_of e) (keeps_term e)) (λ a.
        keeps_bind (keeps_written stays (line_of f) (keeps_term f)) (λ b. keeps_disjoined stays line op a b))
    keeps_term (at line (choice op c e f)) =
        keeps_bind (keeps_written stays (line_of c) (keeps_term c)) (λ test. keeps_bind (keeps_written stays (line_of e) (keeps_term e)) (λ a.
        keeps_bind (keeps_written stays (line_of f) (keeps_term f)) (λ b. keeps_chosen stays line op test a b)))
    keeps_term (at line (assignment op e f)) =
        keeps_bind (keeps_term e) (λ left. keeps_bind (keeps_target stays left) (λ target.
        keeps_bind (keeps_written stays (line_of f) (keeps_term f)) (λ a. keeps_assigned stays line op target a)))
    keeps_term (at line (compound o op e f)) =
        keeps_bind (keeps_term e) (λ left. keeps_bind (keeps_target stays left) (λ target.
        keeps_bind (keeps_written stays (line_of f) (keeps_term f)) (λ a. keeps_changed stays line (change_by false (line_of e) o op) target a)))
    keeps_term (at line (comma es e)) = keeps_bind (keeps_all es) (λ dropped. keeps_bind (keeps_written stays (line_of e) (keeps_term e)) (λ last. keeps_is))

    pub keeps_all : (es : Exprs) → Keeps I (AreAll es)
    keeps_all no_exprs = keeps_is
    keeps_all (first_expr e es) = keeps_bind (keeps_written stays (line_of e) (keeps_term e)) (λ a. keeps_bind (keeps_all es) (λ rest. keeps_is))

    pub keeps_type_named : (t : TypeName) → Keeps I (IsTypeNamed t)
    keeps_type_named (type_name s d) =
        keeps_bind (keeps_specified stays false s) (λ base. keeps_bind (keeps_derivations d) (λ ds. keeps_such))

    pub keeps_derivations : (d : Declarator) → Keeps I (AreDerivations d)
    keeps_derivations (declarator line naming parts) = keeps_parts parts

    pub keeps_parts : (ps : Parts) → Keeps I (AreParts ps)
    keeps_parts no_parts = keeps_is
    keeps_parts (pointer_part q ps) = keeps_bind (keeps_parts ps) (λ rest. keeps_is)
    keeps_parts (array_part line e ps) =
        keeps_bind (keeps_written stays (line_of e) (keeps_term e)) (λ a. keeps_bind keeps_such (λ n.
        keeps_bind (keeps_parts ps) (λ rest. keeps_is)))
    keeps_parts (unsized_part line ps) = keeps_bind (keeps_parts ps) (λ rest. keeps_is)
    keeps_parts (function_part line list ps) =
        keeps_bind (keeps_parameter_list stays list (keeps_parameters list)) (λ found. keeps_bind (keeps_parts ps) (λ rest. keeps_is))

    pub keeps_parameters : (ps : Parameters) → Keeps I (AreParameters ps)
    keeps_parameters no_parameters = keeps_is
    keeps_parameters (first_parameter s d rest) =
        keeps_bind (keeps_specified stays false s) (λ base. keeps_bind (keeps_derivations d) (λ ds.
        keeps_bind (keeps_parameter stays s base.type d ds) (λ u. keeps_parameters rest)))
