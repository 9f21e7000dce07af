use Rattle.std.proofs.Common.{option_map}
use Rattle.std.specs.Option.{option_copied}
use Rattle.typing_rules.specs.SourceViews.{unit_view, binary_line}
use Rattle.typing_rules.specs.OrderedUnits.{binary_of}
use Rattle.c_known.proofs.Binding.{bind}
use Rattle.c_typing.specs.Steps.{finished}
use Rattle.c_program.specs.Whole.{IsFile}
use Rattle.c_typing.specs.Files.{IsProgram}
use Rattle.c_typing.proofs.Spine.{told-on, file-later}
use Rattle.c_typing.proofs.program.check_rest.Goals as goal

pub returns-in_err-binary_file : goal.returns-in_err-binary_file
returns-in_err-binary_file c f is =
    told-on IsFile IsProgram c.args.known.now _ _ c.in_err-binary_file.field-0.0 (binary_of (option_map (unit_view binary_line) (option_copied c.args.binary)))
    (finished f) c.from_residual.result c.in_err-binary_file.ensures c.from_residual.ensures.1

pub returns : goal.returns
returns c f is =
    bind IsFile IsProgram c.args.known.now _ _ c.in_ok-binary_file.binary_file c.finish.result (binary_of (option_map (unit_view binary_line) (option_copied c.args.binary)))
    (finished f) c.in_ok-binary_file.ensures (λ g grown second. c.finish.ensures f g (file-later _ _ grown c.args.main_file f is) second)
