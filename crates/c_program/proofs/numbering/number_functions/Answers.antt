use Rattle.std.proofs.Common.{arith, refl}
use Rattle.c_program.proofs.Tables.{functions-on, functions-end}
use Rattle.c_program.proofs.numbering.number_functions.Goals as goal

pub loop-function-init : goal.loop-function-init
loop-function-init c = record { number = omega arith; filled = λ types. refl }

pub loop-function-preserved : goal.loop-function-preserved
loop-function-preserved c = record {
  number = omega (arith, c.in_ok-number.ensures.next);
  filled = λ types.
      functions-on types c.args.first c.loop-function.number _ c.args.functions.now c.loop-function.function-index c.function-item.result _ c.loop-function.table.items _
      (omega arith) c.function-item.is c.in_ok-number.ensures.next c.fill.ensures (c.loop-function.invariant.filled types);
}

pub returns-clause-filled : goal.returns-clause-filled
returns-clause-filled c types =
    functions-end types c.args.first c.loop-function.number c.args.functions.now c.loop-function.function-index c.args.table.now.items c.loop-function.table.items (omega arith) (c.loop-function.invariant.filled types)
