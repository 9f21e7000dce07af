use Rattle.std.proofs.Common.{option_map}
use Rattle.std.specs.Option.{option_copied}
use Rattle.typing_rules.specs.SourceViews.{unit_view, main_line, binary_line}
use Rattle.typing_rules.specs.OrderedUnits.{file_of}
use Rattle.c_known.proofs.Binding.{bind}
use Rattle.c_typing.specs.Steps.{main_checked}
use Rattle.c_program.specs.Whole.{IsFile}
use Rattle.c_typing.specs.Files.{IsProgram}
use Rattle.c_typing.proofs.Spine.{told-on}
use Rattle.c_typing.proofs.program.check_program.Goals as goal

pub returns-in_err-main_file : goal.returns-in_err-main_file
returns-in_err-main_file c =
    told-on IsFile IsProgram c.args.known.now _ _ c.in_err-main_file.field-0.0 (file_of (unit_view main_line c.args.main.now))
    (main_checked (option_map (unit_view binary_line) (option_copied c.args.binary))) c.from_residual.result c.in_err-main_file.ensures c.from_residual.ensures.1

pub returns : goal.returns
returns c =
    bind IsFile IsProgram c.args.known.now _ _ c.in_ok-main_file.main_file c.check_rest.result (file_of (unit_view main_line c.args.main.now))
    (main_checked (option_map (unit_view binary_line) (option_copied c.args.binary))) c.in_ok-main_file.ensures (λ f grown is. c.check_rest.ensures f is)
