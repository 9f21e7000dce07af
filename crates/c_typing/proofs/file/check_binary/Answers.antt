use Rattle.std.proofs.Common.{option_map, sym, subst, refl}
use Rattle.std.specs.Option.{option_copied}
use Rattle.typing_rules.specs.SourceViews.{unit_view, binary_line}
use Rattle.typing_rules.specs.UnitRules.{no_file, binary_begun}
use Rattle.typing_rules.specs.OrderedUnits.{binary_of, file_of}
use Rattle.typing_rules.specs.Checking.{makes}
use Rattle.c_known.specs.Gives.{Gives, IsDone}
use Rattle.c_known.proofs.Binding.{bind, pure-gives}
use Rattle.c_program.specs.Whole.{IsFile}
use Rattle.c_typing.proofs.Spine.{told-on, binary-none}
use Rattle.c_typing.proofs.file.check_binary.Goals as goal

pub returns-in_err-begin_binary-in-Some : goal.returns-in_err-begin_binary-in-Some
returns-in_err-begin_binary-in-Some c =
    subst (λ o. Gives IsFile c.args.known.now c.begin_binary.new.self c.from_residual.result (binary_of (option_map (unit_view binary_line) (option_copied o)))) (sym c.in-Some.is)
    (told-on IsDone IsFile c.args.known.now _ _ c.in_err-begin_binary-in-Some.field-0.0 (makes binary_begun) (λ done. file_of (unit_view binary_line c.in-Some.unit.now))
    c.from_residual.result c.in_err-begin_binary-in-Some.ensures c.from_residual.ensures.1)

pub returns-in_ok-begin_binary-in-Some : goal.returns-in_ok-begin_binary-in-Some
returns-in_ok-begin_binary-in-Some c =
    subst (λ o. Gives IsFile c.args.known.now c.check_file.new.known c.check_file.result (binary_of (option_map (unit_view binary_line) (option_copied o)))) (sym c.in-Some.is)
    (bind IsDone IsFile c.args.known.now _ _ tt c.check_file.result (makes binary_begun) (λ done. file_of (unit_view binary_line c.in-Some.unit.now))
    c.in_ok-begin_binary-in-Some.ensures (λ done grown is. c.check_file.ensures))

pub returns-in-None : goal.returns-in-None
returns-in-None c =
    binary-none c.args.known.now c.args.unit c.in-None.is c.new.result c.new-in-None.result c.new-in-None-2.result c.new.ensures c.new-in-None.ensures c.new-in-None-2.ensures
