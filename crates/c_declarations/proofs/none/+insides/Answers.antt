use Rattle.std.proofs.Common.{List, map, Ok, Err, arith, ap, sym, ◌∙◌, subst}
use Rattle.c_tree.specs.declared.declaration.Initializer as tree_initializer
use Rattle.typing_rules.specs.SourceUnits.{single}
use Rattle.typing_rules.specs.SourceViews.{initial_view, initials_from, expr_view}
use Rattle.typing_rules.specs.OrderedDeclarations.{insides, all_insides}
use Rattle.typing_rules.proofs.SourceStatementViewLaws.{view_single, view_braced}
use Rattle.c_known.specs.Views.{line_in}
use Rattle.c_known.specs.Gives.{Gives, IsDone}
use Rattle.c_declarations.proofs.Insides.{braced-gives, first-done, first-refused, none-done}
use Rattle.c_declarations.proofs.none.+insides.Goals as goal

pub insides-returns-in-Value : goal.insides-returns-in-Value
insides-returns-in-Value t c =
    let shift = line_in c.args.file in
    let same = ap (λ y. single (expr_view shift y)) c.get.ensures ∙ sym (ap (initial_view shift) c.in-Value.is ∙ view_single shift c.in-Value.e) in
    subst (λ x. Gives IsDone c.args.known.now c.inside_value.new.known c.inside_value.result (insides x)) same c.inside_value.ensures

pub insides-returns-in-List : goal.insides-returns-in-List
insides-returns-in-List t c =
    let shift = line_in c.args.file in
    let all = subst (λ (xs : List tree_initializer.Initializer). Gives IsDone c.args.known.now c.all_insides.new.known c.all_insides.result (all_insides (initials_from (map (initial_view shift) xs)))) c.as_slice.ensures c.all_insides.ensures in
    subst (λ x. Gives IsDone c.args.known.now c.all_insides.new.known c.all_insides.result (insides x)) (sym (ap (initial_view shift) c.in-List.is ∙ view_braced shift c.in-List.field-0 c.in-List.items))
    (braced-gives c.args.known.now c.all_insides.new.known c.all_insides.result (shift c.in-List.field-0) (initials_from (map (initial_view shift) c.in-List.items)) all)

pub all_insides-returns-in-Err : goal.all_insides-returns-in-Err
all_insides-returns-in-Err t c =
    let shift = line_in c.args.file in
    c.loop-item.invariant c.insides.new.known (Err c.in-Err.refusal)
    (first-refused shift c.args.items.now c.loop-item.item-index c.item-item.result c.loop-item.known c.insides.new.known c.in-Err.refusal (omega arith) c.item-item.is c.in-Err.ensures)

pub all_insides-loop-item-preserved : goal.all_insides-loop-item-preserved
all_insides-loop-item-preserved t c new r h =
    let shift = line_in c.args.file in
    c.loop-item.invariant new r
    (first-done shift c.args.items.now c.loop-item.item-index c.item-item.result c.loop-item.known c.insides.new.known new r (omega arith) c.item-item.is c.in-Ok.ensures h)

pub all_insides-returns : goal.all_insides-returns
all_insides-returns t c = c.loop-item.invariant c.loop-item.known (Ok tt) (none-done (line_in c.args.file) c.args.items.now c.loop-item.item-index c.loop-item.known (omega arith))
