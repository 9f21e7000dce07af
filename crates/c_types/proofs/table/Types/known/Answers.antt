use Rattle.std.proofs.Common.{length, ◌≤◌, sym, ap, ◌∙◌}
use Rattle.c_types.specs.Table.{type_at}
use Rattle.c_types.proofs.Grown.{type_at-past}
use Rattle.c_types.proofs.table.Types.known.Goals as goal

pub returns-else-row-len-clause-same : goal.returns-else-row-len-clause-same
returns-else-row-len-clause-same c =
    let n = c.in-Derived.row in
    let past : length c.args.self.now ≤ n = rw (← c.self.view_is) (rw (← c.len.ensures.len) c.if-row-len.false) in
    sym (ap (type_at c.args.self.now) c.in-Derived.is ∙ type_at-past c.args.self.now n past)
