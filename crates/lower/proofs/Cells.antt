-- What gives locals their values, in the words of the code.
use Rattle.std.proofs.Common.{◌≡◌, ℕ, zero, suc, ◌+◌, ◌<◌, ◌≤◌, true, false, Bool, List, ◌∷◌, map, drop, length, refl, sym, ◌∙◌, ap}
use Rattle.std.specs.Prelude.{if◌then◌else◌}
use Rattle.std.proofs.Math.ListN.{get_or}
use Rattle.std.proofs.lemmas.List.{drop_more, drop_all}
use Rattle.srmt_base.specs.declared.ty.Ty.TheVariants.{UInt}
use Rattle.mid_code.specs.declared.mid.Mid.{Mid}
use Rattle.mid_code.specs.declared.mid.Mid.TheVariants as mid
use Rattle.c_types.specs.declared.type_ref.TypeRef.{TypeRef}
use Rattle.c_types.specs.Types.{CType}
use Rattle.c_typed.specs.declared.statement.Cell.{Cell as CodeCell}
use Rattle.c_typed.specs.declared.statement.LocalItem.{LocalItem as CodeLocalItem}
use Rattle.c_typed.specs.Statements.{LocalRow}
use Rattle.c_typed.specs.StatementViews.{cell_view, local_item_view}
use Rattle.lower.specs.Emitting.{Making, ◌>>=◌, pure, emits, temporary}
use Rattle.lower.specs.Expressions.{Inside}
use Rattle.lower.specs.Statements.{to_cell, storing, cell_given, cells_given, initializes, all_initialize}
use Rattle.lower.specs.Emits.{emits_mid}

-- to another cell than the first
pub moved-far : (row : LocalRow) (at cell v : ℕ) → (cell ≡ 0 → ⊥) → v ≡ cell
    → to_cell row at cell ≡ (temporary 0 row.line >>= (λ index. emits row.first (mid.Const index v) >>=
    (λ _. emits row.line (mid.PtrAdd at at index UInt false 1))))
moved-far row at zero v far is = absurd (far refl)
moved-far row at (suc before) v far is =
    ap (λ n. temporary 0 row.line >>= (λ index. emits row.first (mid.Const index n) >>= (λ _. emits row.line (mid.PtrAdd at at index UInt false 1)))) (sym is)

-- the instruction that gives a local in memory its value
told-by : (b : Bool) (at x line : ℕ) (m : Mid) → m ≡ (if b then mid.VStore at x else mid.Store at x)
    → emits line (if b then mid.VStore at x else mid.Store at x) ≡ emits_mid line m
told-by true at x line m is = ap (emits_mid line) (sym is)
told-by false at x line m is = ap (emits_mid line) (sym is)

pub stored-told : (row : LocalRow) (at x line : ℕ) (m : Mid) → m ≡ storing row at x → emits line (storing row at x) ≡ emits_mid line m
stored-told row at x line m is = told-by row.type.qualifiers.is_volatile at x line m is

-- ---- lists

rest-from : {A : Type 0} (xs : List A) (k : ℕ) (x : A) → k < length xs → x ≡ get_or xs k x → drop k xs ≡ x ∷ drop (k + 1) xs
rest-from xs k x below at = drop_more xs k x below ∙ ap (λ w. w ∷ drop (k + 1) xs) (sym at)

module _ (i : Inside) (types : TypeRef → CType) where
  abbrev pub Cells : LocalRow → ℕ → ℕ → List CodeCell → Making (Unit {0})
  Cells row home at xs = cells_given i row home at (map (cell_view types) xs)

  pub cells-next : (row : LocalRow) (home at : ℕ) (xs : List CodeCell) (k : ℕ) (x : CodeCell) → k < length xs → x ≡ get_or xs k x
      → Cells row home at (drop k xs) ≡ (cell_given i row home at (cell_view types x) >>= (λ _. Cells row home at (drop (k + 1) xs)))
  cells-next row home at xs k x below is = ap (Cells row home at) (rest-from xs k x below is)

  pub cells-done : (row : LocalRow) (home at : ℕ) (xs : List CodeCell) (k : ℕ) → length xs ≤ k → Cells row home at (drop k xs) ≡ pure tt
  cells-done row home at xs k past = ap (Cells row home at) (drop_all k xs past)

  abbrev pub Locals : List CodeLocalItem → Making (Unit {0})
  Locals xs = all_initialize i (map (local_item_view types) xs)

  pub locals-next : (xs : List CodeLocalItem) (k : ℕ) (x : CodeLocalItem) → k < length xs → x ≡ get_or xs k x
      → Locals (drop k xs) ≡ (initializes i (local_item_view types x).number (local_item_view types x).initializer >>= (λ _. Locals (drop (k + 1) xs)))
  locals-next xs k x below is = ap Locals (rest-from xs k x below is)

  pub locals-done : (xs : List CodeLocalItem) (k : ℕ) → length xs ≤ k → Locals (drop k xs) ≡ pure tt
  locals-done xs k past = ap Locals (drop_all k xs past)
