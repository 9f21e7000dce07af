use Rattle.std.proofs.Common.{option_map, sym, ap, ◌∙◌}
use Rattle.c_types.specs.Types.{is_function}
use Rattle.c_types.proofs.Grown.{Extends-refl}
use Rattle.typing_rules.specs.Source.{Named}
use Rattle.typing_rules.specs.SourceViews.{initial_view}
use Rattle.typing_rules.specs.OrderedDeclarations.{no_initial}
use Rattle.typing_rules.specs.OrderedUnits.{object_defined}
use Rattle.c_entities.specs.Views.{storage_view}
use Rattle.c_known.specs.Views.{line_in}
use Rattle.c_known.specs.Gives.{IsDone}
use Rattle.c_known.proofs.Binding.{choose-true, choose-false}
use Rattle.c_typing.proofs.declaration.declare_so.Goals as goal

pub returns-then-is_function : goal.returns-then-is_function
returns-then-is_function c t l stands means =
    let s = c.args.known.now in
    let at = c.args.at in
    let name : Named = record { line = at.line; bytes = c.args.name.now } in
    let x = option_map (initial_view (line_in at.file)) c.args.x.now in
    choose-true IsDone s _ c.no_initial.result (is_function t.type) (no_initial at.line x) (object_defined name (storage_view at.storage) l t x)
    (sym (c.is_function.ensures ∙ ap is_function (stands.type.always s.types (Extends-refl s.types))) ∙ c.if-is_function.true) c.no_initial.ensures

pub returns-else-is_function : goal.returns-else-is_function
returns-else-is_function c t l stands means =
    let s = c.args.known.now in
    let at = c.args.at in
    let name : Named = record { line = at.line; bytes = c.args.name.now } in
    let x = option_map (initial_view (line_in at.file)) c.args.x.now in
    choose-false IsDone s _ c.define_object.result (is_function t.type) (no_initial at.line x) (object_defined name (storage_view at.storage) l t x)
    (sym (c.is_function.ensures ∙ ap is_function (stands.type.always s.types (Extends-refl s.types))) ∙ c.if-is_function.false) (c.define_object.ensures t l stands means)
