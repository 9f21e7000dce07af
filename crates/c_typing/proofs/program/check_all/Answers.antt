use Rattle.std.proofs.Common.{Err, sym, subst}
use Rattle.std.proofs.lemmas.Result.{err_from_is_err_and}
use Rattle.typing_rules.specs.UnitRules.{nothing_known}
use Rattle.typing_rules.specs.OrderedUnits.{checked}
use Rattle.c_typing.proofs.Spine.{answered, refused-on}
use Rattle.c_typing.proofs.program.check_all.Goals as goal

pub returns-in_err-program : goal.returns-in_err-program
unfolding checked
returns-in_err-program c knows =
    refused-on c.args.known c.check_program.new.known c.in_err-program.field-0.0 _ c.from_residual.result (c.in_err-program.ensures.at nothing_known knows) c.from_residual.ensures.1

pub returns : goal.returns
unfolding checked
returns c knows = answered c.args.known _ c.in_ok-program.program _ (c.in_ok-program.ensures.at nothing_known knows)
