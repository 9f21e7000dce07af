use Rattle.std.proofs.Common.{option_map}
use Rattle.std.specs.Option.{option_copied}
use Rattle.typing_rules.specs.SourceViews.{unit_view, main_line, binary_line}
use Rattle.c_typing.proofs.Typings.{is-typed, is-found}
use Rattle.c_typing.proofs.program.check.Goals as goal

pub returns-clause-typed : goal.returns-clause-typed
returns-clause-typed c =
    is-typed (unit_view main_line c.args.main.now) (option_map (unit_view binary_line) (option_copied c.args.binary)) c.check_in_order.result c.check_in_order.ensures

pub returns-clause-found : goal.returns-clause-found
returns-clause-found c =
    is-found (unit_view main_line c.args.main.now) (option_map (unit_view binary_line) (option_copied c.args.binary)) c.check_in_order.result c.check_in_order.ensures
