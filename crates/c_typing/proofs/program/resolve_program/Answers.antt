use Rattle.c_known.specs.Gives.{IsDone}
use Rattle.c_known.proofs.Binding.{bind}
use Rattle.c_program.specs.Whole.{all_resolved}
use Rattle.c_typing.specs.Steps.{numbered_program}
use Rattle.c_typing.specs.Files.{IsProgram}
use Rattle.c_typing.proofs.Spine.{told-on}
use Rattle.c_typing.proofs.program.resolve_program.Goals as goal

pub returns : goal.returns
returns c f g first second =
    bind IsDone IsProgram c.args.known.now c.args.known.now _ tt c.number_program.result all_resolved (λ done. numbered_program f g c.args.main) c.in_ok-resolve.ensures
    (λ done grown is. c.number_program.ensures f g first second)
