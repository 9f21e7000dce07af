use Rattle.std.proofs.Common.{ap, ◌∙◌}
use Rattle.srmt_base.specs.Pointer.{pointer_difference_of}
use Rattle.source_meaning.specs.Expressions.{scale_of}
use Rattle.source_meaning.specs.World.{computed}
use Rattle.c_types.specs.Table.{type_at}
use Rattle.c_meaning.proofs.FinishSteps.{two_done}
use Rattle.c_meaning.proofs.run.Run.finish_difference.Goals as goal

pub returns-clause-steps : goal.returns-clause-steps
returns-clause-steps c =
    let p = c.args.at.program.now in
    two_done p c.gives_or_traps.result c.args.self.now c.gives_or_traps.new.self _ _ _ _
    (λ x y. computed c.args.line (pointer_difference_of x y (scale_of (type_at p.types c.args.of)))) _
    c.take-y.ensures.value c.take-y.ensures.rest c.take-x.ensures.value c.take-x.ensures.rest
    (ap (computed c.args.line) (c.pointer_difference.ensures.exact ∙ ap (pointer_difference_of c.take-x.result c.take-y.result) c.scale.ensures.scale))
    (c.gives_or_traps.ensures.steps p)
