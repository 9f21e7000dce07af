use Rattle.std.proofs.Common.{option_map, sym, ap, ◌∙◌}
use Rattle.c_types.specs.Types.{same_type}
use Rattle.c_types.proofs.Grown.{Extends-refl}
use Rattle.typing_rules.specs.SourceViews.{initial_view}
use Rattle.typing_rules.specs.OrderedDeclarations.{no_initial}
use Rattle.typing_rules.specs.declared.refusal.TypeRefusal.TheVariants.{Twice}
use Rattle.c_known.specs.Views.{line_in}
use Rattle.c_known.specs.Gives.{IsDone}
use Rattle.c_linkage.proofs.Steps.{passed, stopped}
use Rattle.c_typing.proofs.declaration.declare_same.Goals as goal

pub returns-then-is_one : goal.returns-then-is_one
returns-then-is_one c t u stands same =
    let s = c.args.known.now in
    let at = c.args.at in
    let x = option_map (initial_view (line_in at.file)) c.args.x.now in
    let is = c.is_one.ensures ∙ (λ i. same_type (stands.type.always s.types (Extends-refl s.types) i) (same.always s.types (Extends-refl s.types) i)) in
    passed IsDone s _ c.no_initial.result (λ k. same_type t.type u) (Twice at.line) (no_initial at.line x) (λ k h. sym is ∙ c.if-is_one.true) c.no_initial.ensures

pub returns-else-is_one : goal.returns-else-is_one
returns-else-is_one c t u stands same =
    let s = c.args.known.now in
    let at = c.args.at in
    let x = option_map (initial_view (line_in at.file)) c.args.x.now in
    let is = c.is_one.ensures ∙ (λ i. same_type (stands.type.always s.types (Extends-refl s.types) i) (same.always s.types (Extends-refl s.types) i)) in
    stopped IsDone s (λ k. same_type t.type u) (Twice at.line) (no_initial at.line x) (λ k h. sym is ∙ c.if-is_one.false)
