use Rattle.std.proofs.Common.{Some, option_map, length, sym, ap, ◌∙◌}
use Rattle.c_types.specs.Table.{type_at}
use Rattle.typing_rules.specs.SourceUnits.{single}
use Rattle.typing_rules.specs.SourceViews.{expr_view, initial_view}
use Rattle.typing_rules.specs.DeclarationRules.{length_given, text_length}
use Rattle.typing_rules.proofs.SourceStatementViewLaws.{view_single, view_braced}
use Rattle.c_declarations.specs.Cells.{counted}
use Rattle.c_declarations.proofs.Shapes.{text-counted, list-counted}
use Rattle.c_declarations.proofs.completed.length_given.Goals as goal

pub returns-in-None : goal.returns-in-None
returns-in-None c shift =
    let same = ap (λ y. single (expr_view shift y)) c.get.ensures ∙ sym (ap (initial_view shift) c.in-Value.is ∙ view_single shift c.in-Value.e) in
    ap (λ o. option_map counted (text_length o)) (c.in-None.ensures shift) ∙ ap (λ y. option_map counted (length_given (type_at c.args.types.now c.args.element) y)) same

pub returns-in-Some : goal.returns-in-Some
returns-in-Some c shift =
    let same = ap (λ y. single (expr_view shift y)) c.get.ensures ∙ sym (ap (initial_view shift) c.in-Value.is ∙ view_single shift c.in-Value.e) in
    ap Some (text-counted c.counted.result (length c.in-Some.bytes.now) c.saturating_add.result c.counted.ensures c.saturating_add.ensures)
    ∙ ap (λ o. option_map counted (text_length o)) (c.in-Some.ensures shift)
    ∙ ap (λ y. option_map counted (length_given (type_at c.args.types.now c.args.element) y)) same

pub returns-in-List : goal.returns-in-List
returns-in-List c shift =
    ap Some (c.counted-in-List.ensures ∙ ap counted (c.len.ensures ∙ list-counted (initial_view shift) c.in-List.items))
    ∙ sym (ap (λ y. option_map counted (length_given (type_at c.args.types.now c.args.element) y)) (ap (initial_view shift) c.in-List.is ∙ view_braced shift c.in-List.field-0 c.in-List.items))
