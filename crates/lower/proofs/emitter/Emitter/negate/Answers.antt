use Rattle.std.proofs.Common.{sym, ap, ◌∙◌}
use Rattle.lower.specs.Expressions.{compared_with_zero}
use Rattle.lower.proofs.Steps.{same-making, first-of, second-of}
use Rattle.lower.proofs.emitter.Emitter.negate.Goals as goal

-- src
pub returns-then-is_address : goal.returns-then-is_address
returns-then-is_address c = same-making (first-of _ _ (sym c.if-is_address.ensures)) (c.compare_with_null.ensures _)

-- src
pub returns-else-is_address : goal.returns-else-is_address
returns-else-is_address c =
    same-making (second-of _ _ (sym c.if-is_address.ensures) ∙ ap (λ y. compared_with_zero y c.args.line c.args.k c.args.operand) (sym
    c.compared_at.ensures)) (c.compare_with_zero.ensures _)
