use Rattle.std.proofs.Common.{◌≡◌, true, false, if◌then◌else◌, sym, ap, ◌∙◌, subst}
use Rattle.std.specs.Result.{IfOk}
use Rattle.srmt_base.specs.Arith.{is_comparison}
use Rattle.c_typed.specs.Typed as tree
use Rattle.c_values.specs.Stand.{MeansTyped}
use Rattle.c_values.proofs.binary.pointers.Goals as goal

pub returns-then-is_comparison : goal.returns-then-is_comparison
returns-then-is_comparison c rows t v w stands a b =
    let same : is_comparison c.args.op ≡ true = sym c.is_comparison.ensures ∙ c.if-is_comparison.true in
    subst (λ n. IfOk c.comparison.result (λ r. MeansTyped rows r (tree.value c.args.line t n)))
    (sym (ap (λ x. if x then tree.comparison c.args.op c.args.at v w else tree.difference c.args.at v w) same)) (c.comparison.ensures rows t v w stands a b)

pub returns-else-is_comparison : goal.returns-else-is_comparison
returns-else-is_comparison c rows t v w stands a b =
    let other : is_comparison c.args.op ≡ false = sym c.is_comparison.ensures ∙ c.if-is_comparison.false in
    subst (λ n. IfOk c.difference.result (λ r. MeansTyped rows r (tree.value c.args.line t n)))
    (sym (ap (λ x. if x then tree.comparison c.args.op c.args.at v w else tree.difference c.args.at v w) other)) (c.difference.ensures rows t v w stands a b)
