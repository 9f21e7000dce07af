use Rattle.std.proofs.Common.{List}
use Rattle.c_typed.specs.declared.program.Numbered.{Numbered}
use Rattle.c_known.specs.Gives.{IsSame}
use Rattle.c_typing.specs.Files.{IsProgram}
use Rattle.c_typing.proofs.Spine.{told-on, numbered-by, numbers_of, program_with}
use Rattle.c_typing.proofs.program.number_program.Goals as goal

pub returns-in_err-entities : goal.returns-in_err-entities
returns-in_err-entities c f g first second =
    told-on (IsSame {A = List Numbered}) IsProgram c.args.known.now _ _ c.in_err-entities.field-0.0 (numbers_of f g) (program_with f g c.args.main)
    c.from_residual.result (c.in_err-entities.ensures f g first second) c.from_residual.ensures.1

pub returns : goal.returns
returns c f g first second =
    numbered-by c.args.known.now c.args.main_file c.args.binary_file c.in_ok-entities.entities c.args.main f g first second (c.in_ok-entities.ensures f g first second)
