use Rattle.std.proofs.Common.{ℕ, length, sym, ap, ◌∙◌, subst}
use Rattle.std.proofs.lemmas.List.{length-map}
use Rattle.c_types.specs.Table.{type_at}
use Rattle.c_types.proofs.Grown.{Extends-refl}
use Rattle.typing_rules.specs.Source.{Named}
use Rattle.typing_rules.specs.SourceViews.{definition_view}
use Rattle.typing_rules.specs.OrderedUnits.{function_begun}
use Rattle.c_entities.specs.Views.{storage_view}
use Rattle.c_known.specs.Views.{line_in, local_view}
use Rattle.c_known.specs.Gives.{Gives, IsSame}
use Rattle.c_known.proofs.Binding.{bind}
use Rattle.c_typing.specs.Files.{IsFunction}
use Rattle.c_typing.specs.Functions.{function_with}
use Rattle.c_typing.proofs.Spine.{told-on}
use Rattle.c_typing.proofs.Bodies.{type-later}
use Rattle.c_typing.proofs.Definitions.{locals-later}
use Rattle.c_typing.proofs.function.define_begun.Goals as goal

pub returns-in_err-entity : goal.returns-in_err-entity
returns-in_err-entity c t ls stands means =
    let at = c.args.at in
    let name : Named = record { line = at.line; bytes = c.args.name.now } in
    told-on (IsSame {A = ℕ}) IsFunction c.args.known.now _ _ c.in_err-entity.field-0.0 (function_begun name (storage_view at.storage) t)
    (function_with ls at.line t.type (definition_view (line_in at.file) c.args.d.now)) c.from_residual.result (c.in_err-entity.ensures t stands) c.from_residual.ensures.1

pub returns : goal.returns
returns c t ls stands means =
    let s = c.args.known.now in
    let at = c.args.at in
    let ps = c.args.ps in
    let d = definition_view (line_in at.file) c.args.d.now in
    let name : Named = record { line = at.line; bytes = c.args.name.now } in
    let long = c.in-Ok.ensures.1 ∙ c.len.ensures ∙ ps.ok.0 ∙ sym (length-map ps.items (local_view (type_at s.types))) ∙ ap length (means.always s.types (Extends-refl s.types)) in
    bind (IsSame {A = ℕ}) IsFunction s c.begin_function.new.known c.open_body.new.known c.in_ok-entity.entity c.open_body.result (function_begun name (storage_view at.storage) t)
    (function_with ls at.line t.type d) (c.in_ok-entity.ensures t stands)
    (λ n grown same. subst (λ m. Gives IsFunction c.begin_function.new.known c.open_body.new.known c.open_body.result (function_with ls at.line t.type d m)) same
    (c.open_body.ensures t.type ls (type-later _ _ grown at.ty.target t.type stands.type) (locals-later _ _ grown ps.items ls means) long))
