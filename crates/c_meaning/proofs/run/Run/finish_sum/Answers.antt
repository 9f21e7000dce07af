use Rattle.std.proofs.Common.{ap, ◌∙◌}
use Rattle.source_meaning.specs.Expressions.{moved}
use Rattle.source_meaning.specs.World.{computed}
use Rattle.c_types.specs.Table.{type_at}
use Rattle.c_meaning.proofs.FinishSteps.{two_done, moved_computed}
use Rattle.c_meaning.proofs.run.Run.finish_sum.Goals as goal

pub returns-clause-steps : goal.returns-clause-steps
returns-clause-steps c =
    let p = c.args.at.program.now in
    let t = type_at p.types c.args.a in
    let u = type_at p.types c.args.b in
    two_done p c.gives_or_traps.result c.args.self.now c.gives_or_traps.new.self _ _ _ _
    (moved c.args.line c.args.is_less c.args.pointer_first t u) _
    c.take-y.ensures.value c.take-y.ensures.rest c.take-x.ensures.value c.take-x.ensures.rest
    (ap (computed c.args.line) c.moved.ensures.exact ∙ moved_computed c.args.line c.args.is_less c.args.pointer_first t u c.take-x.result c.take-y.result)
    (c.gives_or_traps.ensures.steps p)
