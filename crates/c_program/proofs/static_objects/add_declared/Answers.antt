use Rattle.std.proofs.Common.{OnOk, subst}
use Rattle.typing_rules.specs.Known.{entity_at, File}
use Rattle.c_entities.proofs.Rows.{are-later}
use Rattle.c_program.specs.Statics.{MoreStatics, static_if}
use Rattle.c_program.proofs.StaticLists.{entity-is, no-static-of}
use Rattle.c_program.proofs.static_objects.add_declared.Goals as goal

pub returns-in-None-clause-added : goal.returns-in-None-clause-added
returns-in-None-clause-added c k h = no-static-of c.args.known.now.types c.args.found.now k.file c.args.number c.args.line k.entities (c.in-None.ensures c.args.known.now.types k h.entities)

pub returns-in-Some-clause-added : goal.returns-in-Some-clause-added
returns-in-Some-clause-added c k h =
    let rows = c.args.known.now.types in
    subst (λ (file : File). OnOk c.add_entity.result (MoreStatics rows c.args.found.now c.add_entity.new.found (static_if file (record { entity = c.args.number; line = c.args.line }) (entity_at k.entities c.args.number))))
    h.file
    (c.add_entity.ensures.added (entity_at k.entities c.args.number) (entity-is rows c.in-Some.entity.now k.entities c.args.number
    (λ later more. c.in-Some.ensures later k (are-later rows c.args.known.now.entities k.entities k.declared h.entities later more))))
