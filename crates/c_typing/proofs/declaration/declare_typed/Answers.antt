use Rattle.std.proofs.Common.{◌≡◌, Bool as Test, true, false, not, option_map, refl, sym, ap, ◌∙◌}
use Rattle.c_types.specs.Types.{is_void}
use Rattle.c_types.proofs.Grown.{Extends-refl}
use Rattle.typing_rules.specs.Source.{Named}
use Rattle.typing_rules.specs.SourceViews.{initial_view}
use Rattle.typing_rules.specs.declared.refusal.TypeRefusal.TheVariants.{Mismatch}
use Rattle.c_entities.specs.Views.{storage_view}
use Rattle.c_known.specs.Views.{line_in}
use Rattle.c_known.specs.Gives.{IsDone}
use Rattle.c_linkage.proofs.Steps.{passed, stopped}
use Rattle.c_typing.specs.Steps.{declared_by_name}
use Rattle.c_typing.proofs.declaration.declare_typed.Goals as goal

pub returns-then-is_void : goal.returns-then-is_void
returns-then-is_void c t stands =
    let s = c.args.known.now in
    let at = c.args.at in
    let name : Named = record { line = at.line; bytes = c.args.name.now } in
    stopped IsDone s (λ k. not (is_void t.type)) (Mismatch at.line 14)
    (declared_by_name name (storage_view at.storage) t (option_map (initial_view (line_in at.file)) c.args.x.now))
    (λ k h. ap not (sym (c.is_void.ensures ∙ ap is_void (stands.type.always s.types (Extends-refl s.types))) ∙ c.if-is_void.true))

pub returns-else-is_void : goal.returns-else-is_void
returns-else-is_void c t stands =
    let s = c.args.known.now in
    let at = c.args.at in
    let name : Named = record { line = at.line; bytes = c.args.name.now } in
    passed IsDone s _ c.declare_by_name.result (λ k. not (is_void t.type)) (Mismatch at.line 14)
    (declared_by_name name (storage_view at.storage) t (option_map (initial_view (line_in at.file)) c.args.x.now))
    (λ k h. ap not (sym (c.is_void.ensures ∙ ap is_void (stands.type.always s.types (Extends-refl s.types))) ∙ c.if-is_void.false))
    (c.declare_by_name.ensures t stands)
