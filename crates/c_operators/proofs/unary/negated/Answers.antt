use Rattle.std.proofs.Common.{◌≡◌, if◌then◌else◌, true, false, ap, sym, ◌∙◌, subst}
use Rattle.c_types.specs.Types.{is_integer}
use Rattle.typing_rules.specs.Terms as terms
use Rattle.c_values.specs.Stand.{Makes, negation_value}
use Rattle.c_values.proofs.Means.{got-type}
use Rattle.c_operators.proofs.unary.negated.Goals as goal

pub returns-then-is_integer : goal.returns-then-is_integer
returns-then-is_integer c w m =
    let rows = c.args.types.now in
    let is : is_integer (terms.written_type w) ≡ true =
    sym (ap is_integer (got-type rows c.get.result.now c.args.a.typed.value w.value c.get.ensures m.typed.value)) ∙ sym c.is_integer.ensures ∙ c.if-is_integer.true in
    subst (λ b. Makes rows c.negation_of_integer.result (if b then negation_value c.args.line (terms.promoted_value w) else negation_value c.args.line w.value)) (sym is)
    (c.negation_of_integer.ensures w m)

pub returns-else-is_integer : goal.returns-else-is_integer
returns-else-is_integer c w m =
    let rows = c.args.types.now in
    let is : is_integer (terms.written_type w) ≡ false =
    sym (ap is_integer (got-type rows c.get.result.now c.args.a.typed.value w.value c.get.ensures m.typed.value)) ∙ sym c.is_integer.ensures ∙ c.if-is_integer.false in
    subst (λ b. Makes rows c.negation.result (if b then negation_value c.args.line (terms.promoted_value w) else negation_value c.args.line w.value)) (sym is)
    (c.negation.ensures rows w.value m.typed)
