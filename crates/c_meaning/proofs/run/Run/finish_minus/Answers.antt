use Rattle.std.proofs.Common.{ap, ◌∙◌}
use Rattle.srmt_base.specs.declared.op.Op.TheVariants.{Sub}
use Rattle.srmt_base.specs.declared.ty.Ty.{Ty}
use Rattle.srmt_base.specs.Arith.{arith_of}
use Rattle.source_meaning.specs.World.{computed}
use Rattle.c_types.specs.Types.{ty_of}
use Rattle.c_types.specs.Table.{type_at}
use Rattle.c_meaning.proofs.FinishSteps.{one_done}
use Rattle.c_meaning.proofs.run.Run.finish_minus.Goals as goal

pub returns-clause-steps : goal.returns-clause-steps
returns-clause-steps c =
    let p = c.args.at.program.now in
    one_done p c.gives_or_traps.result c.args.self.now c.gives_or_traps.new.self _ _
    (λ x. computed c.args.line (arith_of Sub (ty_of (type_at p.types c.args.of)) 0 x)) _
    c.take-x.ensures.rest c.take-x.ensures.value
    (ap (computed c.args.line) (c.arith.ensures.exact ∙ ap (λ (ty : Ty). arith_of Sub ty 0 c.take-x.result) c.ty.ensures))
    (c.gives_or_traps.ensures.steps p)
