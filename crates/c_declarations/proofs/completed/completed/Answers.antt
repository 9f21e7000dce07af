use Rattle.std.proofs.Common.{Some, refl, ap, ◌∙◌}
use Rattle.c_types.specs.declared.type_ref.Shape.TheVariants as shape
use Rattle.c_types.specs.Types.{array}
use Rattle.c_types.specs.Table.{type_at, types_of, shape_type}
use Rattle.typing_rules.specs.SourceViews.{initial_view}
use Rattle.c_known.specs.Views.{line_in}
use Rattle.c_declarations.proofs.Shapes.{type-shaped, array-shaped, kept-type}
use Rattle.c_declarations.proofs.completed.completed.Goals as goal

pub returns-in-None : goal.returns-in-None
returns-in-None c t h =
    let rows = c.args.known.now.types in
    let a = array-shaped rows c.args.ty t c.shape.result c.in-Array.element c.in-Array.length c.in-Array.field-2 h c.shape.ensures.made c.shape.ensures.below c.in-Array.is in
    c.with_length.ensures t h (a.is ∙ ap (array c.in-Array.element.qualifiers (type_at rows c.in-Array.element.target)) c.in-None.is)

pub returns-in-Some : goal.returns-in-Some
returns-in-Some c t h =
    let rows = c.args.known.now.types in
    let a = array-shaped rows c.args.ty t c.shape.result c.in-Array.element c.in-Array.length c.in-Array.field-2 h c.shape.ensures.made c.shape.ensures.below c.in-Array.is in
    kept-type c.args.known.now c.sized.result c.args.object.at t (array c.in-Array.element.qualifiers (type_at rows c.in-Array.element.target) (Some c.in-Some.field-0)) (initial_view (line_in c.args.object.file) c.args.x.now)
    (a.is ∙ ap (array c.in-Array.element.qualifiers (type_at rows c.in-Array.element.target)) c.in-Some.is) refl (c.sized.ensures t h)

pub returns-in-Void : goal.returns-in-Void
returns-in-Void c t h =
    let rows = c.args.known.now.types in
    kept-type c.args.known.now c.sized-in-Void.result c.args.object.at t (shape_type (types_of rows) shape.Void) (initial_view (line_in c.args.object.file) c.args.x.now)
    (type-shaped rows c.args.ty t c.shape.result shape.Void h c.shape.ensures.made c.in-Void.is) refl (c.sized-in-Void.ensures t h)

pub returns-in-Integer : goal.returns-in-Integer
returns-in-Integer c t h =
    let rows = c.args.known.now.types in
    kept-type c.args.known.now c.sized-in-Integer.result c.args.object.at t (shape_type (types_of rows) (shape.Integer c.in-Integer.field-0)) (initial_view (line_in c.args.object.file) c.args.x.now)
    (type-shaped rows c.args.ty t c.shape.result (shape.Integer c.in-Integer.field-0) h c.shape.ensures.made c.in-Integer.is) refl (c.sized-in-Integer.ensures t h)

pub returns-in-Pointer : goal.returns-in-Pointer
returns-in-Pointer c t h =
    let rows = c.args.known.now.types in
    kept-type c.args.known.now c.sized-in-Pointer.result c.args.object.at t (shape_type (types_of rows) (shape.Pointer c.in-Pointer.field-0)) (initial_view (line_in c.args.object.file) c.args.x.now)
    (type-shaped rows c.args.ty t c.shape.result (shape.Pointer c.in-Pointer.field-0) h c.shape.ensures.made c.in-Pointer.is) refl (c.sized-in-Pointer.ensures t h)

pub returns-in-Returning : goal.returns-in-Returning
returns-in-Returning c t h =
    let rows = c.args.known.now.types in
    kept-type c.args.known.now c.sized-in-Returning.result c.args.object.at t (shape_type (types_of rows) (shape.Returning c.in-Returning.field-0)) (initial_view (line_in c.args.object.file) c.args.x.now)
    (type-shaped rows c.args.ty t c.shape.result (shape.Returning c.in-Returning.field-0) h c.shape.ensures.made c.in-Returning.is) refl (c.sized-in-Returning.ensures t h)

pub returns-in-Taking : goal.returns-in-Taking
returns-in-Taking c t h =
    let rows = c.args.known.now.types in
    kept-type c.args.known.now c.sized-in-Taking.result c.args.object.at t (shape_type (types_of rows) (shape.Taking c.in-Taking.field-0 c.in-Taking.field-1)) (initial_view (line_in c.args.object.file) c.args.x.now)
    (type-shaped rows c.args.ty t c.shape.result (shape.Taking c.in-Taking.field-0 c.in-Taking.field-1) h c.shape.ensures.made c.in-Taking.is) refl (c.sized-in-Taking.ensures t h)
