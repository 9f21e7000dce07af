use Rattle.std.proofs.Common.{ap, ◌∙◌}
use Rattle.typing_rules.specs.DeclaratorRules.{or_no_name}
use Rattle.c_typing.proofs.function.line_of_name.Goals as goal

pub returns-in-None : goal.returns-in-None
returns-in-None c = ap (λ o. (or_no_name o).line) (c.in-None.ensures c.args.file)

pub returns-in-Some : goal.returns-in-Some
returns-in-Some c = c.line_in.ensures ∙ ap (λ o. (or_no_name o).line) (c.in-Some.ensures c.args.file)
