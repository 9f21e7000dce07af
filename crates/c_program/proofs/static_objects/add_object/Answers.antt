use Rattle.std.proofs.Common.{ap, ◌∙◌}
use Rattle.c_types.specs.Table.{type_at}
use Rattle.typing_rules.specs.UnitRules.{static_of}
use Rattle.c_program.proofs.StaticLists.{one-more}
use Rattle.c_program.proofs.static_objects.add_object.Goals as goal

pub returns-in-Ok-push-clause-added : goal.returns-in-Ok-push-clause-added
returns-in-Ok-push-clause-added c rows e is =
    one-more rows c.args.found.now c.push.new.self c.in-Ok.object (static_of (record { entity = c.args.number; line = c.args.line }) e) c.in-Ok-push.ensures.ok
    (λ later more. c.in-Ok.ensures (type_at later) ∙ ap (static_of (record { entity = c.args.number; line = c.args.line })) (is.always later more))
