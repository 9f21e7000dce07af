use Rattle.std.proofs.Common.{◌∙◌, subst}
use Rattle.c_types.specs.Table.{StandsFor}
use Rattle.typing_rules.specs.Checking.{from_result}
use Rattle.c_known.specs.Gives.{Gives}
use Rattle.c_declarators.specs.Derivations.{lines_view}
use Rattle.c_declarators.specs.Locals.{type_of}
use Rattle.c_declarators.proofs.Becoming.{derived-gives, lines-are}
use Rattle.c_declarators.proofs.parameters.own_type.Goals as goal

pub returns : goal.returns
returns c t es h means =
    let lines = c.lines_if-at.ensures ∙ lines-are c.args.file c.args.p.now in
    let rows = c.parameter_type.new.types in
    subst (λ at. Gives StandsFor c.args.known.now (record c.args.known.now { types = rows }) c.parameter_type.result (from_result (type_of at t es))) lines
    (derived-gives c.args.known.now rows c.parameter_type.result (type_of (lines_view c.lines_if-at.result) t es) c.parameter_type.ensures.kept (c.parameter_type.ensures.made es means t h))
