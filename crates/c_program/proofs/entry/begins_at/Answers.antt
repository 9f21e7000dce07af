use Rattle.std.proofs.Common.{ap, ◌∙◌}
use Rattle.typing_rules.specs.Known.{or_entity}
use Rattle.typing_rules.specs.UnitRules.{begins_program}
use Rattle.c_program.proofs.entry.begins_at.Goals as goal

pub returns-in-None : goal.returns-in-None
returns-in-None c k h = ap (λ o. begins_program (or_entity o)) (c.in-None.ensures c.args.known.now.types k h.entities)

pub returns-in-Some : goal.returns-in-Some
returns-in-Some c k h = c.begins_program.ensures ∙ ap (λ o. begins_program (or_entity o)) (c.in-Some.ensures c.args.known.now.types k h.entities)
