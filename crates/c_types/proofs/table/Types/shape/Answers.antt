use Rattle.std.proofs.Common.{◌≡◌, length, ap, sym, subst, ◌∙◌, slice_get}
use Rattle.c_types.specs.Table.{type_at, types_of, shape_type, shape_of, IsShapedBelow, WellMade}
use Rattle.c_types.proofs.Grown.{shape-made, shape-below}
use Rattle.c_types.proofs.table.Types.shape.Goals as goal

pub returns-in-Derived-clause-made : goal.returns-in-Derived-clause-made
returns-in-Derived-clause-made c =
    let rows = c.args.self.now in
    let n = c.in-Derived.row in
    let found : c.shape_of.result ≡ shape_of (slice_get rows n) =
    c.shape_of.ensures ∙ ap shape_of (c.copied.ensures ∙ c.get_index.ensures.key ∙ ap (λ xs. slice_get xs n) c.self.view_is) in
    let well = subst WellMade c.self.view_is c.self.invariant in
    ap (type_at rows) c.in-Derived.is ∙ shape-made rows well n ∙ ap (shape_type (types_of rows)) (sym found)

pub returns-in-Derived-clause-below : goal.returns-in-Derived-clause-below
returns-in-Derived-clause-below c =
    let rows = c.args.self.now in
    let n = c.in-Derived.row in
    let found : c.shape_of.result ≡ shape_of (slice_get rows n) =
    c.shape_of.ensures ∙ ap shape_of (c.copied.ensures ∙ c.get_index.ensures.key ∙ ap (λ xs. slice_get xs n) c.self.view_is) in
    let well = subst WellMade c.self.view_is c.self.invariant in
    subst (IsShapedBelow (types_of rows) (length rows)) (sym found) (shape-below rows well n)
