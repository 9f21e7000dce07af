use Rattle.std.proofs.Common.{◌≡◌, ◌+◌, ◌*◌, List, map, Ok, Err, refl, sym, ap, ◌∙◌, subst, arith}
use Rattle.c_tree.specs.declared.declaration.Initializer as tree_initializer
use Rattle.c_types.specs.declared.type_ref.Shape.TheVariants as shape
use Rattle.c_types.specs.Types.{cells_of}
use Rattle.c_types.specs.Table.{type_at, types_of, shape_type}
use Rattle.typing_rules.specs.DeclarationRules as rule
use Rattle.typing_rules.specs.SourceUnits.{single, braced}
use Rattle.typing_rules.specs.SourceViews.{initial_view, initials_from, expr_view}
use Rattle.typing_rules.specs.OrderedDeclarations.{misshapen, cells_given, items_given}
use Rattle.typing_rules.proofs.SourceStatementViewLaws.{view_single, view_braced}
use Rattle.c_types.proofs.Grown.{Extends-refl}
use Rattle.c_known.specs.Views.{line_in}
use Rattle.c_known.proofs.Binding.{choose-true, choose-false}
use Rattle.c_terms.proofs.Paths.{stands-later}
use Rattle.c_declarations.specs.Cells.{counted, Added, Adds, item_given}
use Rattle.c_declarations.proofs.Shapes.{type-shaped, array-shaped}
use Rattle.c_declarations.proofs.Adding.{items_from, single-adds, list-adds, braced-by, none-on, next-at, count-next, item-added, item-refused}
use Rattle.c_declarations.proofs.items.+cells.Goals as goal

pub add_cells-returns-in-Value : goal.add_cells-returns-in-Value
add_cells-returns-in-Value m c t i h e =
    let shift = line_in c.args.object.file in
    let same = ap (λ y. single (expr_view shift y)) c.get.ensures ∙ sym (ap (initial_view shift) c.in-Value.is ∙ view_single shift c.in-Value.e) in
    subst (λ y. Adds c.args.cells.now.items c.add_single.new.cells.items c.args.known.now c.add_single.new.known c.add_single.result (cells_given c.args.object.is_static c.args.object.at t i y)) same
    (single-adds c.args.cells.now.items c.add_single.new.cells.items c.args.known.now c.add_single.new.known c.add_single.result c.args.object.is_static c.args.object.at t i (expr_view shift c.get.result.now)
    (c.add_single.ensures t i h e))

pub add_cells-returns-in-Array : goal.add_cells-returns-in-Array
add_cells-returns-in-Array m c t i h e =
    let shift = line_in c.args.object.file in
    let rows = c.args.known.now.types in
    let before = c.args.cells.now.items in
    let after = c.add_items.new.cells.items in
    let r = c.add_items.result in
    let new = c.add_items.new.known in
    let a = array-shaped rows c.args.ty t c.shape.result c.in-Array.element c.in-Array.length c.in-Array.field-2 h c.shape.ensures.made c.shape.ensures.below c.in-Array.is in
    let u = type_at rows c.in-Array.element.target in
    let all = subst (λ (xs : List tree_initializer.Initializer). Adds before after c.args.known.now new r (items_given c.args.object.is_static c.args.object.at u c.in-Array.length 0 i (initials_from (map (initial_view shift) xs)))) c.as_slice.ensures
    (c.add_items.ensures u i a.stands e) in
    subst (λ y. Adds before after c.args.known.now new r (cells_given c.args.object.is_static c.args.object.at t i y)) (sym (ap (initial_view shift) c.in-List.is ∙ view_braced shift c.in-List.field-0 c.in-List.items))
    (subst (λ y. Adds before after c.args.known.now new r (cells_given c.args.object.is_static c.args.object.at y i (braced (shift c.in-List.field-0) (initials_from (map (initial_view shift) c.in-List.items))))) (sym a.is)
    (list-adds before after c.args.known.now new r c.args.object.is_static c.args.object.at c.in-Array.element.qualifiers u c.in-Array.length i (shift c.in-List.field-0) (initials_from (map (initial_view shift) c.in-List.items)) all))

pub add_cells-returns-in-Void : goal.add_cells-returns-in-Void
add_cells-returns-in-Void m c t i h e =
    let shift = line_in c.args.object.file in
    let rows = c.args.known.now.types in
    braced-by c.args.cells.now.items c.args.cells.now.items c.args.known.now c.misshapen.new.known c.misshapen.result c.args.object.is_static c.args.object.at t (shape_type (types_of rows) shape.Void) i
    (initial_view shift c.args.x.now) (shift c.in-List.field-0) (initials_from (map (initial_view shift) c.in-List.items)) (ap (initial_view shift) c.in-List.is ∙ view_braced shift c.in-List.field-0 c.in-List.items)
    (type-shaped rows c.args.ty t c.shape.result shape.Void h c.shape.ensures.made c.in-Void.is) refl (c.misshapen.ensures c.args.cells.now.items c.args.cells.now.items)

pub add_cells-returns-in-Integer : goal.add_cells-returns-in-Integer
add_cells-returns-in-Integer m c t i h e =
    let shift = line_in c.args.object.file in
    let rows = c.args.known.now.types in
    braced-by c.args.cells.now.items c.args.cells.now.items c.args.known.now c.misshapen-in-Integer.new.known c.misshapen-in-Integer.result c.args.object.is_static c.args.object.at t (shape_type (types_of rows) (shape.Integer c.in-Integer.field-0)) i
    (initial_view shift c.args.x.now) (shift c.in-List.field-0) (initials_from (map (initial_view shift) c.in-List.items)) (ap (initial_view shift) c.in-List.is ∙ view_braced shift c.in-List.field-0 c.in-List.items)
    (type-shaped rows c.args.ty t c.shape.result (shape.Integer c.in-Integer.field-0) h c.shape.ensures.made c.in-Integer.is) refl (c.misshapen-in-Integer.ensures c.args.cells.now.items c.args.cells.now.items)

pub add_cells-returns-in-Pointer : goal.add_cells-returns-in-Pointer
add_cells-returns-in-Pointer m c t i h e =
    let shift = line_in c.args.object.file in
    let rows = c.args.known.now.types in
    braced-by c.args.cells.now.items c.args.cells.now.items c.args.known.now c.misshapen-in-Pointer.new.known c.misshapen-in-Pointer.result c.args.object.is_static c.args.object.at t (shape_type (types_of rows) (shape.Pointer c.in-Pointer.field-0)) i
    (initial_view shift c.args.x.now) (shift c.in-List.field-0) (initials_from (map (initial_view shift) c.in-List.items)) (ap (initial_view shift) c.in-List.is ∙ view_braced shift c.in-List.field-0 c.in-List.items)
    (type-shaped rows c.args.ty t c.shape.result (shape.Pointer c.in-Pointer.field-0) h c.shape.ensures.made c.in-Pointer.is) refl (c.misshapen-in-Pointer.ensures c.args.cells.now.items c.args.cells.now.items)

pub add_cells-returns-in-Returning : goal.add_cells-returns-in-Returning
add_cells-returns-in-Returning m c t i h e =
    let shift = line_in c.args.object.file in
    let rows = c.args.known.now.types in
    braced-by c.args.cells.now.items c.args.cells.now.items c.args.known.now c.misshapen-in-Returning.new.known c.misshapen-in-Returning.result c.args.object.is_static c.args.object.at t (shape_type (types_of rows) (shape.Returning c.in-Returning.field-0)) i
    (initial_view shift c.args.x.now) (shift c.in-List.field-0) (initials_from (map (initial_view shift) c.in-List.items)) (ap (initial_view shift) c.in-List.is ∙ view_braced shift c.in-List.field-0 c.in-List.items)
    (type-shaped rows c.args.ty t c.shape.result (shape.Returning c.in-Returning.field-0) h c.shape.ensures.made c.in-Returning.is) refl (c.misshapen-in-Returning.ensures c.args.cells.now.items c.args.cells.now.items)

pub add_cells-returns-in-Taking : goal.add_cells-returns-in-Taking
add_cells-returns-in-Taking m c t i h e =
    let shift = line_in c.args.object.file in
    let rows = c.args.known.now.types in
    braced-by c.args.cells.now.items c.args.cells.now.items c.args.known.now c.misshapen-in-Taking.new.known c.misshapen-in-Taking.result c.args.object.is_static c.args.object.at t (shape_type (types_of rows) (shape.Taking c.in-Taking.field-0 c.in-Taking.field-1)) i
    (initial_view shift c.args.x.now) (shift c.in-List.field-0) (initials_from (map (initial_view shift) c.in-List.items)) (ap (initial_view shift) c.in-List.is ∙ view_braced shift c.in-List.field-0 c.in-List.items)
    (type-shaped rows c.args.ty t c.shape.result (shape.Taking c.in-Taking.field-0 c.in-Taking.field-1) h c.shape.ensures.made c.in-Taking.is) refl (c.misshapen-in-Taking.ensures c.args.cells.now.items c.args.cells.now.items)

pub add_item-returns-then-is_past : goal.add_item-returns-then-is_past
add_item-returns-then-is_past m c t i h e =
    let x = initial_view (line_in c.args.object.file) c.args.x.now in
    choose-true (Added c.args.cells.now.items c.args.cells.now.items) c.args.known.now c.misshapen.new.known c.misshapen.result (rule.is_past c.args.elements.length c.args.number) (misshapen c.args.object.at x)
    (cells_given c.args.object.is_static c.args.object.at t i x) (sym c.is_past.ensures ∙ c.if-is_past.true) (c.misshapen.ensures c.args.cells.now.items c.args.cells.now.items)

pub add_item-returns-else-is_past : goal.add_item-returns-else-is_past
add_item-returns-else-is_past m c t i h e =
    let x = initial_view (line_in c.args.object.file) c.args.x.now in
    choose-false (Added c.args.cells.now.items c.add_cells.new.cells.items) c.args.known.now c.add_cells.new.known c.add_cells.result (rule.is_past c.args.elements.length c.args.number) (misshapen c.args.object.at x)
    (cells_given c.args.object.is_static c.args.object.at t i x) (sym c.is_past.ensures ∙ c.if-is_past.false) (c.add_cells.ensures t i h e)

pub add_items-loop-item-init : goal.add_items-loop-item-init
add_items-loop-item-init m c = record {
  number = refl;
  counts = λ t i h e. e ∙ ap counted (let z : i ≡ i + 0 * cells_of t = omega arith in z);
  rest = λ t i h e new after r k.
      let z : i + 0 * cells_of t ≡ i = omega arith in
      subst (λ j. Adds c.args.cells.now.items after c.args.known.now new r (items_from (line_in c.args.object.file) c.args.object.is_static c.args.object.at t c.args.elements.length c.args.items.now 0 j)) z (k h);
}

pub add_items-loop-item-preserved : goal.add_items-loop-item-preserved
add_items-loop-item-preserved m c =
    let shift = line_in c.args.object.file in
    let l = c.loop-item in
    let number : l.number ≡ l.item-index = l.invariant.number in
    record {
      number = omega arith;
      counts = λ t i h e.
          let size = ap (λ s. s.cells) c.size-size.ensures ∙ ap cells_of (h.always c.args.known.now.types (Extends-refl c.args.known.now.types)) in
          c.saturating_add-index.ensures ∙ count-next l.index i l.item-index (cells_of t) c.size-size.result.cells (l.invariant.counts t i h e) size;
      rest = λ t i h e new after r k.
          let here = i + l.item-index * cells_of t in
          l.invariant.rest t i h e new after r
          (λ stands. item-added shift c.args.object.is_static c.args.object.at t c.args.elements.length c.args.items.now l.item-index here c.item-item.result l.known c.add_item.new.known new
          l.cells.items c.add_item.new.cells.items after c.in-Ok.field-0 r (omega arith) c.item-item.is
          (subst (λ j. Adds l.cells.items c.add_item.new.cells.items l.known c.add_item.new.known (Ok c.in-Ok.field-0) (item_given c.args.object.is_static c.args.object.at t c.args.elements.length j here (initial_view shift c.item-item.result)))
          number (c.in-Ok.ensures t here stands (l.invariant.counts t i h e)))
          (λ more. subst (λ j. Adds c.add_item.new.cells.items after c.add_item.new.known new r (items_from shift c.args.object.is_static c.args.object.at t c.args.elements.length c.args.items.now (l.item-index + 1) j))
          (next-at i l.item-index (cells_of t)) (k (stands-later more stands))));
    }

pub add_items-returns-in-Err : goal.add_items-returns-in-Err
add_items-returns-in-Err m c t i h e =
    let shift = line_in c.args.object.file in
    let l = c.loop-item in
    let number : l.number ≡ l.item-index = l.invariant.number in
    let here = i + l.item-index * cells_of t in
    l.invariant.rest t i h e c.add_item.new.known c.add_item.new.cells.items (Err c.in-Err.refusal)
    (λ stands. item-refused shift c.args.object.is_static c.args.object.at t c.args.elements.length c.args.items.now l.item-index here c.item-item.result l.known c.add_item.new.known
    l.cells.items c.add_item.new.cells.items c.add_item.new.cells.items c.in-Err.refusal (omega arith) c.item-item.is
    (subst (λ j. Adds l.cells.items c.add_item.new.cells.items l.known c.add_item.new.known (Err c.in-Err.refusal) (item_given c.args.object.is_static c.args.object.at t c.args.elements.length j here (initial_view shift c.item-item.result)))
    number (c.in-Err.ensures t here stands (l.invariant.counts t i h e))))

pub add_items-returns : goal.add_items-returns
add_items-returns m c t i h e =
    let l = c.loop-item in
    l.invariant.rest t i h e l.known l.cells.items (Ok tt)
    (λ stands. none-on (line_in c.args.object.file) c.args.object.is_static c.args.object.at t c.args.elements.length c.args.items.now l.item-index (i + l.item-index * cells_of t) l.cells.items l.known (omega arith))
