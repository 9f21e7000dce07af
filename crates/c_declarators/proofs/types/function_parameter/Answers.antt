use Rattle.typing_rules.specs.DeclaratorRules as rule
use Rattle.c_declarators.specs.Derivations.{lines_view}
use Rattle.c_declarators.proofs.Outward.{adjusted-step}
use Rattle.c_declarators.proofs.types.function_parameter.Goals as goal

pub returns-in-Ok-clause-made : goal.returns-in-Ok-clause-made
returns-in-Ok-clause-made c ls mean t h =
    adjusted-step c.returned.new.types c.adjusted.new.types c.in-Ok.function (rule.returned (lines_view c.args.at) ls t) (lines_view c.args.at) c.adjusted.result
    (c.in-Ok.ensures.made ls mean t h) c.adjusted.ensures.made
