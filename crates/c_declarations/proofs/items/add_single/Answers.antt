use Rattle.std.proofs.Common.{refl, sym, subst}
use Rattle.c_types.specs.declared.type_ref.Shape.TheVariants as shape
use Rattle.c_types.specs.Table.{type_at, types_of, shape_type}
use Rattle.typing_rules.specs.SourceUnits.{single}
use Rattle.typing_rules.specs.SourceViews.{expr_view}
use Rattle.typing_rules.specs.OrderedDeclarations.{misshapen, scalar_cells, single_cells}
use Rattle.c_known.specs.Views.{line_in}
use Rattle.c_declarations.specs.Cells.{Adds}
use Rattle.c_declarations.proofs.Shapes.{type-shaped, array-shaped}
use Rattle.c_declarations.proofs.Adding.{single-by}
use Rattle.c_declarations.proofs.items.add_single.Goals as goal

pub returns-in-Array : goal.returns-in-Array
returns-in-Array c t i h e =
    let rows = c.args.known.now.types in
    let x = expr_view (line_in c.args.object.file) c.args.e.now in
    let a = array-shaped rows c.args.ty t c.shape.result c.in-Array.element c.in-Array.length c.in-Array.field-2 h c.shape.ensures.made c.shape.ensures.below c.in-Array.is in
    subst (λ y. Adds c.args.cells.now.items c.add_text_given.new.cells.items c.args.known.now c.add_text_given.new.known c.add_text_given.result (single_cells c.args.object.is_static c.args.object.at y i x)) (sym a.is)
    (c.add_text_given.ensures (type_at rows c.in-Array.element.target) i a.stands e)

pub returns-in-Returning : goal.returns-in-Returning
returns-in-Returning c t i h e =
    let rows = c.args.known.now.types in
    let x = expr_view (line_in c.args.object.file) c.args.e.now in
    single-by c.args.cells.now.items c.args.cells.now.items c.args.known.now c.misshapen_value.new.known c.misshapen_value.result c.args.object.is_static c.args.object.at t (shape_type (types_of rows) (shape.Returning c.in-Returning.field-0)) i x (λ y. misshapen c.args.object.at (single x))
    (type-shaped rows c.args.ty t c.shape.result (shape.Returning c.in-Returning.field-0) h c.shape.ensures.made c.in-Returning.is) refl (c.misshapen_value.ensures c.args.cells.now.items c.args.cells.now.items)

pub returns-in-Taking : goal.returns-in-Taking
returns-in-Taking c t i h e =
    let rows = c.args.known.now.types in
    let x = expr_view (line_in c.args.object.file) c.args.e.now in
    single-by c.args.cells.now.items c.args.cells.now.items c.args.known.now c.misshapen_value-in-Taking.new.known c.misshapen_value-in-Taking.result c.args.object.is_static c.args.object.at t (shape_type (types_of rows) (shape.Taking c.in-Taking.field-0 c.in-Taking.field-1)) i x (λ y. misshapen c.args.object.at (single x))
    (type-shaped rows c.args.ty t c.shape.result (shape.Taking c.in-Taking.field-0 c.in-Taking.field-1) h c.shape.ensures.made c.in-Taking.is) refl (c.misshapen_value-in-Taking.ensures c.args.cells.now.items c.args.cells.now.items)

pub returns-in-Void : goal.returns-in-Void
returns-in-Void c t i h e =
    let rows = c.args.known.now.types in
    let x = expr_view (line_in c.args.object.file) c.args.e.now in
    single-by c.args.cells.now.items c.add_value.new.cells.items c.args.known.now c.add_value.new.known c.add_value.result c.args.object.is_static c.args.object.at t (shape_type (types_of rows) shape.Void) i x (λ y. scalar_cells c.args.object.is_static c.args.object.at y i x)
    (type-shaped rows c.args.ty t c.shape.result shape.Void h c.shape.ensures.made c.in-Void.is) refl (c.add_value.ensures t i h e)

pub returns-in-Integer : goal.returns-in-Integer
returns-in-Integer c t i h e =
    let rows = c.args.known.now.types in
    let x = expr_view (line_in c.args.object.file) c.args.e.now in
    single-by c.args.cells.now.items c.add_value-in-Integer.new.cells.items c.args.known.now c.add_value-in-Integer.new.known c.add_value-in-Integer.result c.args.object.is_static c.args.object.at t (shape_type (types_of rows) (shape.Integer c.in-Integer.field-0)) i x (λ y. scalar_cells c.args.object.is_static c.args.object.at y i x)
    (type-shaped rows c.args.ty t c.shape.result (shape.Integer c.in-Integer.field-0) h c.shape.ensures.made c.in-Integer.is) refl (c.add_value-in-Integer.ensures t i h e)

pub returns-in-Pointer : goal.returns-in-Pointer
returns-in-Pointer c t i h e =
    let rows = c.args.known.now.types in
    let x = expr_view (line_in c.args.object.file) c.args.e.now in
    single-by c.args.cells.now.items c.add_value-in-Pointer.new.cells.items c.args.known.now c.add_value-in-Pointer.new.known c.add_value-in-Pointer.result c.args.object.is_static c.args.object.at t (shape_type (types_of rows) (shape.Pointer c.in-Pointer.field-0)) i x (λ y. scalar_cells c.args.object.is_static c.args.object.at y i x)
    (type-shaped rows c.args.ty t c.shape.result (shape.Pointer c.in-Pointer.field-0) h c.shape.ensures.made c.in-Pointer.is) refl (c.add_value-in-Pointer.ensures t i h e)
