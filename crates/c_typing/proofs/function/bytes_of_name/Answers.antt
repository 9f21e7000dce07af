use Rattle.std.proofs.Common.{ap, ◌∙◌}
use Rattle.typing_rules.specs.DeclaratorRules.{or_no_name}
use Rattle.c_typing.proofs.function.bytes_of_name.Goals as goal

pub returns-in-None : goal.returns-in-None
returns-in-None c file = c.as_slice.ensures ∙ ap (λ o. (or_no_name o).bytes) (c.in-None.ensures file)

pub returns-in-Some : goal.returns-in-Some
returns-in-Some c file = c.as_slice-in-Some.ensures ∙ ap (λ o. (or_no_name o).bytes) (c.in-Some.ensures file)
