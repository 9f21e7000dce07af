use Rattle.std.proofs.Common.{ap, ◌∙◌}
use Rattle.c_meaning.specs.Pending.{top_of, below}
use Rattle.c_meaning.proofs.TakingTasks.{gave, give_traps}
use Rattle.c_meaning.proofs.run.Run.give.Goals as goal

pub returns-in-Ok : goal.returns-in-Ok
returns-in-Ok c =
    gave c.args.at c.args.self.now c.args.number c.row-row.result c.local-location.result c.take-address.result c.take-value.result c.take-address.new.self
    c.store.new.self c.requires c.row-row.ensures c.local-location.ensures.exact c.take-value.ensures.value
    (c.take-address.ensures.value ∙ ap top_of c.take-value.ensures.rest) (c.take-address.ensures.rest ∙ ap below c.take-value.ensures.rest)
    c.store.ensures.budgets c.in-Ok.event c.told.result c.told.ensures c.in-Ok.ensures.makes

pub returns-in-Err : goal.returns-in-Err
returns-in-Err c =
    give_traps c.args.at c.args.self.now c.args.number c.row-row.result c.local-location.result c.take-address.result c.take-value.result
    c.take-address.new.self c.store.new.self c.requires c.row-row.ensures c.local-location.ensures.exact c.take-value.ensures.value
    (c.take-address.ensures.value ∙ ap top_of c.take-value.ensures.rest) (c.take-address.ensures.rest ∙ ap below c.take-value.ensures.rest)
    c.store.ensures.budgets c.in-Err.end c.in-Err.ensures.makes
