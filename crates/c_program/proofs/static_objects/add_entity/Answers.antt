use Rattle.std.proofs.Common.{sym, ap, ◌∙◌}
use Rattle.c_types.proofs.Grown.{Extends-refl}
use Rattle.c_entities.specs.Views.{file_view}
use Rattle.c_program.specs.Statics.{is_static}
use Rattle.c_program.proofs.StaticLists.{no-static, one-static}
use Rattle.c_program.proofs.static_objects.add_entity.Goals as goal

pub returns-then-is_defined_object-clause-added : goal.returns-then-is_defined_object-clause-added
returns-then-is_defined_object-clause-added c e is =
    let rows = c.args.known.now.types in
    let file = file_view c.args.known.now.file in
    one-static c.add_object.result rows c.args.found.now c.add_object.new.found file (record { entity = c.args.number; line = c.args.line }) e
    (sym (ap (is_static file) (is.always rows (Extends-refl rows))) ∙ sym c.is_defined_object.ensures ∙ c.if-is_defined_object.true) (c.add_object.ensures.added rows e is)

pub returns-else-is_defined_object-clause-added : goal.returns-else-is_defined_object-clause-added
returns-else-is_defined_object-clause-added c e is =
    let rows = c.args.known.now.types in
    let file = file_view c.args.known.now.file in
    no-static rows c.args.found.now file (record { entity = c.args.number; line = c.args.line }) e
    (sym (ap (is_static file) (is.always rows (Extends-refl rows))) ∙ sym c.is_defined_object.ensures ∙ c.if-is_defined_object.false)
