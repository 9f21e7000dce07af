use Rattle.std.proofs.Common.{ℕ}
use Rattle.c_known.specs.Gives.{IsSame}
use Rattle.c_program.specs.Whole.{main_found}
use Rattle.c_typing.specs.Steps.{resolved_program}
use Rattle.c_typing.specs.Files.{IsProgram}
use Rattle.c_typing.proofs.Spine.{told-on, finished-by}
use Rattle.c_typing.proofs.program.finish.Goals as goal

pub returns-in_err-main : goal.returns-in_err-main
returns-in_err-main c f g first second =
    told-on (IsSame {A = ℕ}) IsProgram c.args.known.now _ _ c.in_err-main.field-0.0 main_found
    (resolved_program f g) c.from_residual.result c.in_err-main.ensures c.from_residual.ensures.1

pub returns : goal.returns
returns c f g first second =
    finished-by c.args.known.now _ c.in_ok-main.main c.resolve_program.result f g c.in_ok-main.ensures (c.resolve_program.ensures f g first second)
