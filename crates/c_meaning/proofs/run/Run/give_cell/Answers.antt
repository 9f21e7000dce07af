use Rattle.std.proofs.Common.{ap, sym, refl, ◌∙◌, ◌+◌}
use Rattle.srmt_base.specs.Memory.{write_of}
use Rattle.c_meaning.specs.Pending.{top_of}
use Rattle.c_meaning.proofs.TakingTasks.{cell_traps}
use Rattle.c_meaning.proofs.run.Run.give_cell.Goals as goal

pub returns-in-Err : goal.returns-in-Err
returns-in-Err c =
    cell_traps c.args.at c.args.self.now c.args.number c.args.index c.row.result c.take.result c.take-value.result c.take.new.self
    (record c.args.self.now.world { memory = c.put.new.self }) c.requires c.row.ensures c.take-value.ensures.value
    (c.take.ensures.value ∙ ap top_of c.take-value.ensures.rest) refl c.in-Err.trap c.trapped.result c.trapped.ensures
    (ap (λ k. write_of c.args.self.now.world.memory (c.take.result + k) c.take-value.result) (sym c.from.ensures) ∙ c.in-Err.ensures.trap)
