-- What a scalar is initialized with: its first cell.
use Rattle.std.proofs.Common.{◌≡◌, false, if◌then◌else◌, List, [], ◌∷◌, map, Some, sym, ap, ◌∙◌}
use Rattle.c_types.specs.declared.type_ref.Row.{Row}
use Rattle.c_types.specs.Types.{CType, is_array}
use Rattle.c_types.specs.Table.{type_at}
use Rattle.c_types.proofs.Grown.{Extends-refl}
use Rattle.c_typed.specs.declared.statement.Cell as code_cell
use Rattle.c_typed.specs.declared.statement.Initializer.TheVariants.{Scalar}
use Rattle.c_typed.specs.Statements.{Cell, scalar, cells}
use Rattle.c_typed.specs.StatementViews.{cell_view}
use Rattle.typing_rules.specs.DeclarationRules.{initializer_of, scalar_of}
use Rattle.c_declarations.specs.Parts.{AreCells, MeansInitializerIf}

head-is : {A : Type 0} (x y : A) (xs ys : List A) → x ∷ xs ≡ y ∷ ys → x ≡ y
head-is x y xs ys e = cc

pub first-scalar : (rows : List Row) (xs rest : List code_cell.Cell) (x : code_cell.Cell) (cs : List Cell) (t : CType) → xs ≡ x ∷ rest → AreCells rows xs cs → is_array t ≡ false
    → MeansInitializerIf rows (Some (Scalar x.value)) (initializer_of t cs)
first-scalar rows xs rest x [] t is h other =
    let e = ap (λ (ys : List code_cell.Cell). map (cell_view (type_at rows)) ys) (sym is) ∙ h.always rows (Extends-refl rows) in cc
first-scalar rows xs rest x (c ∷ cs) t is h other = record {
  always = λ later more.
      let e = ap (λ (ys : List code_cell.Cell). map (cell_view (type_at later)) ys) (sym is) ∙ h.always later more in
      let same = ap (λ y. y.value) (head-is (cell_view (type_at later) x) c (map (cell_view (type_at later)) rest) cs e) in
      (λ j. Some (scalar (same j))) ∙ sym (ap (λ b. if b then Some (cells (c ∷ cs)) else scalar_of (c ∷ cs)) other);
}
