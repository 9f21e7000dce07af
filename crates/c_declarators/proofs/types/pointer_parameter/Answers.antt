use Rattle.typing_rules.specs.DeclaratorRules as rule
use Rattle.c_declarators.specs.Derivations.{lines_view}
use Rattle.c_declarators.proofs.Outward.{adjusted-step}
use Rattle.c_declarators.proofs.types.pointer_parameter.Goals as goal

pub returns-in-Ok-clause-made : goal.returns-in-Ok-clause-made
returns-in-Ok-clause-made c t h =
    adjusted-step c.pointed_to.new.types c.adjusted.new.types c.in-Ok.pointer (rule.pointed_to (lines_view c.args.at) c.args.qualifiers t) (lines_view c.args.at) c.adjusted.result
    (c.in-Ok.ensures.made t h) c.adjusted.ensures.made
