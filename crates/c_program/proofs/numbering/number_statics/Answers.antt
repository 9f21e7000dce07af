use Rattle.std.proofs.Common.{arith, refl}
use Rattle.c_program.proofs.Tables.{statics-on, statics-end}
use Rattle.c_program.proofs.numbering.number_statics.Goals as goal

pub loop-object-init : goal.loop-object-init
loop-object-init c = record { number = omega arith; filled = λ types. refl }

pub loop-object-preserved : goal.loop-object-preserved
loop-object-preserved c = record {
  number = omega (arith, c.in_ok-number.ensures.next);
  filled = λ types.
      statics-on types c.args.first c.loop-object.number _ c.args.statics.now c.loop-object.object-index c.object-item.result _ c.loop-object.table.items _
      (omega arith) c.object-item.is c.in_ok-number.ensures.next c.fill.ensures (c.loop-object.invariant.filled types);
}

pub returns-clause-filled : goal.returns-clause-filled
returns-clause-filled c types =
    statics-end types c.args.first c.loop-object.number c.args.statics.now c.loop-object.object-index c.args.table.now.items c.loop-object.table.items (omega arith) (c.loop-object.invariant.filled types)
