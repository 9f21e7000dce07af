use Rattle.std.proofs.Common.{option_map, ap, ◌∙◌}
use Rattle.typing_rules.specs.Source.{Named}
use Rattle.typing_rules.specs.SourceViews.{initial_view}
use Rattle.typing_rules.specs.DeclaratorRules.{or_no_name, name_of}
use Rattle.c_entities.specs.Views.{storage_view}
use Rattle.c_known.specs.Views.{line_in}
use Rattle.c_known.specs.Gives.{IsDone}
use Rattle.c_declarators.specs.Trees.{declarator_in}
use Rattle.c_typing.proofs.Items.{named-by}
use Rattle.c_typing.proofs.item.declare_named.Goals as goal

pub returns-in-None : goal.returns-in-None
returns-in-None c t stands =
    let file = c.args.file in
    let x = c.args.x.now in
    let none : Named = record { line = 0; bytes = c.as_slice.result.now } in
    named-by IsDone c.args.known.now _ c.declare_typed.result (storage_view c.args.storage) t (option_map (initial_view (line_in file)) x.initializer)
    none (or_no_name (name_of (declarator_in file x.declarator)))
    ((λ i. record { line = 0; bytes = c.as_slice.ensures i }) ∙ ap or_no_name (c.in-None.ensures file)) (c.declare_typed.ensures t stands)

pub returns-in-Some : goal.returns-in-Some
returns-in-Some c t stands =
    let file = c.args.file in
    let x = c.args.x.now in
    let found : Named = record { line = c.line_in.result; bytes = c.as_slice-in-Some.result.now } in
    named-by IsDone c.args.known.now _ c.declare_typed-in-Some.result (storage_view c.args.storage) t (option_map (initial_view (line_in file)) x.initializer)
    found (or_no_name (name_of (declarator_in file x.declarator)))
    ((λ i. record { line = c.line_in.ensures i; bytes = c.as_slice-in-Some.ensures i }) ∙ ap or_no_name (c.in-Some.ensures file)) (c.declare_typed-in-Some.ensures t stands)
