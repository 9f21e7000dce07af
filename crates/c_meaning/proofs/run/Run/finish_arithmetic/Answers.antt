use Rattle.std.proofs.Common.{ap, ◌∙◌}
use Rattle.srmt_base.specs.declared.ty.Ty.{Ty}
use Rattle.srmt_base.specs.Arith.{arith_of}
use Rattle.source_meaning.specs.World.{computed}
use Rattle.c_types.specs.Types.{ty_of}
use Rattle.c_types.specs.Table.{type_at}
use Rattle.c_meaning.proofs.FinishSteps.{two_done}
use Rattle.c_meaning.proofs.run.Run.finish_arithmetic.Goals as goal

pub returns-clause-steps : goal.returns-clause-steps
returns-clause-steps c =
    let p = c.args.at.program.now in
    two_done p c.gives_or_traps.result c.args.self.now c.gives_or_traps.new.self _ _ _ _
    (λ x y. computed c.args.line (arith_of c.args.op (ty_of (type_at p.types c.args.of)) x y)) _
    c.take-y.ensures.value c.take-y.ensures.rest c.take-x.ensures.value c.take-x.ensures.rest
    (ap (computed c.args.line) (c.arith.ensures.exact ∙ ap (λ (ty : Ty). arith_of c.args.op ty c.take-x.result c.take-y.result) c.ty.ensures))
    (c.gives_or_traps.ensures.steps p)
