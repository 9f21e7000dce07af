use Rattle.std.proofs.Common.{sym, subst, arith}
use Rattle.srmt_base.specs.Args.{args_list}
use Rattle.binary_run.specs.Binary.{Next, Enters}
use Rattle.binary_run.specs.Fits.{FitsNext, FitsBinary}
use Rattle.binary_run.specs.View.{state_of_run}
use Rattle.binary_run.proofs.CodeSteps.{can_enter, few_entered}
use Rattle.binary_run.proofs.binary.BinaryRun.begin.Goals as goal

pub enter-requires-clause-can : goal.enter-requires-clause-can
enter-requires-clause-can c =
    let a = c.args in
    let fits : FitsNext a.program.now a.self.now.machine.top (Enters a.function (args_list a.args.now)) =
    subst (λ (n : Next). FitsNext a.program.now a.self.now.machine.top n) c.requires.next c.requires.fits.next in
    rw c.as_slice.ensures (can_enter a.program.now a.function (args_list a.args.now) c.requires.valid fits.1)

pub overflow_add-self : goal.overflow_add-self
overflow_add-self c =
    let few = few_entered c.args.program.now (state_of_run c.self.inside) (subst (FitsBinary c.args.program.now) (sym c.self.view_is) c.requires.fits) in
    omega (arith, few)
