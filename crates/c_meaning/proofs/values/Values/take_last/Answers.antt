use Rattle.std.proofs.Common.{◌≡◌, ◌-◌, length, drop, reverse, ap, ◌∙◌, arith}
use Rattle.c_meaning.specs.Pending.{last_values}
use Rattle.c_meaning.proofs.Stacks.{taken_in_order, left_in_order}
use Rattle.c_meaning.proofs.values.Values.take_last.Goals as goal

pub returns-clause-values : goal.returns-clause-values
returns-clause-values c =
    let xs = c.self.inside.items.items in
    let at : c.saturating_sub-at.result ≡ length xs - c.args.count = omega (arith, c.saturating_sub-at.ensures, c.len.ensures) in
    c.of.ensures ∙ c.in_ok-taken.ensures.tail ∙ taken_in_order xs c.saturating_sub-at.result c.args.count at ∙ ap (last_values c.args.count) c.self.view_is

pub returns-clause-rest : goal.returns-clause-rest
returns-clause-rest c =
    let xs = c.self.inside.items.items in
    let at : c.saturating_sub-at.result ≡ length xs - c.args.count = omega (arith, c.saturating_sub-at.ensures, c.len.ensures) in
    ap reverse c.in_ok-taken.ensures.items ∙ left_in_order xs c.saturating_sub-at.result c.args.count at ∙ ap (drop c.args.count) c.self.view_is
