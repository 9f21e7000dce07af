-- Cells whose numbers are counted, one behind the other.
use Rattle.std.proofs.Common.{◌≡◌, ℕ, suc, ◌+◌, ◌-◌, ◌^◌, ◌<◌, min, List, [], ◌∷◌, ◌++◌, map, refl, sym, ap, subst, ◌∙◌, append_assoc, append-nil, arith}
use Rattle.std.specs.Bool.{⊤}
use Rattle.std.proofs.lemmas.List.{map-append}
use Rattle.c_types.specs.declared.type_ref.Row.{Row}
use Rattle.c_types.specs.Table.{type_at, Extends}
use Rattle.c_types.proofs.Grown.{Extends-trans}
use Rattle.c_typed.specs.declared.statement.Cell as code_cell
use Rattle.c_typed.specs.declared.value.Value as v
use Rattle.c_typed.specs.Typed.{Value}
use Rattle.c_typed.specs.Statements.{Cell}
use Rattle.c_typed.specs.StatementViews.{cell_view}
use Rattle.c_values.specs.Stand.{MeansValue}
use Rattle.c_declarations.specs.Parts.{AreCells}
use Rattle.c_declarations.specs.Cells.{counted, counted_cell, AreCounted, Added, AreExact}

-- a count goes on from where it is
pub counted-on : (n m k : ℕ) → n ≡ counted m → min (n + k) (2 ^ 32 - 1) ≡ counted (m + k)
counted-on n m k e = omega arith

pub counted-none : (rows : List Row) → AreCounted rows [] []
counted-none rows = record { always = λ later more. refl }

pub counted-one : (rows : List Row) (n i : ℕ) (x : v.Value) (a : Value) → n ≡ counted i → MeansValue rows x a
    → AreCounted rows (record { index = n; value = x } ∷ []) (record { index = i; value = a } ∷ [])
counted-one rows n i x a e means = record { always = λ later more j. record { index = e j; value = means.always later more j } ∷ [] }

pub counted-both : (mid new : List Row) (xs ys : List code_cell.Cell) (cs ds : List Cell) → Extends mid new → AreCounted mid xs cs → AreCounted new ys ds
    → AreCounted new (xs ++ ys) (cs ++ ds)
counted-both mid new xs ys cs ds more a b = record {
  always = λ later e.
      map-append (cell_view (type_at later)) xs ys ∙ (λ i. a.always later (Extends-trans more e) i ++ b.always later e i) ∙ sym (map-append counted_cell cs ds);
}

-- ---- behind others

pub added-none : (before : List code_cell.Cell) (rows : List Row) (x : ⊤) → Added before before rows x []
added-none before rows x = record { more = []; is = sym (append-nil before); are = counted-none rows }

pub added-one : (before after : List code_cell.Cell) (rows : List Row) (u : ⊤) (n i : ℕ) (x : v.Value) (a : Value)
    → after ≡ before ++ record { index = n; value = x } ∷ [] → n ≡ counted i → MeansValue rows x a
    → Added before after rows u (record { index = i; value = a } ∷ [])
added-one before after rows u n i x a is e means = record { more = record { index = n; value = x } ∷ []; is = is; are = counted-one rows n i x a e means }

pub added-both : (before middle after : List code_cell.Cell) (mid new : List Row) (u w : ⊤) (cs ds : List Cell) → Extends mid new
    → Added before middle mid u cs → Added middle after new w ds → Added before after new w (cs ++ ds)
added-both before middle after mid new u w cs ds more a b = record {
  more = a.more ++ b.more;
  is = b.is ∙ ap (λ z. z ++ b.more) a.is ∙ append_assoc before a.more b.more;
  are = counted-both mid new a.more b.more cs ds more a.are b.are;
}

-- those that were added to none
pub added-alone : (before after : List code_cell.Cell) (rows : List Row) (u : ⊤) (cs : List Cell) → before ≡ [] → Added before after rows u cs → AreCounted rows after cs
added-alone before after rows u cs none a =
    record { always = λ later more. ap (λ xs. map (cell_view (type_at later)) xs) (a.is ∙ ap (λ xs. xs ++ a.more) none) ∙ a.are.always later more }

-- ---- where no count stands still

index-is : (n i : ℕ) → n ≡ counted i → n < 2 ^ 32 - 1 → n ≡ i
index-is n i e below = omega arith

head-is : {A : Type 0} (x y : A) (xs ys : List A) → x ∷ xs ≡ y ∷ ys → x ≡ y
head-is x y xs ys e = cc

tail-is : {A : Type 0} (x y : A) (xs ys : List A) → x ∷ xs ≡ y ∷ ys → xs ≡ ys
tail-is x y xs ys e = cc

exact-at : (rows : List Row) (xs : List code_cell.Cell) (cs : List Cell) → AreExact xs → map (cell_view (type_at rows)) xs ≡ map counted_cell cs
    → map (cell_view (type_at rows)) xs ≡ cs
exact-at rows [] [] exact e = refl
exact-at rows [] (c ∷ cs) exact e = cc
exact-at rows (x ∷ xs) [] exact e = cc
exact-at rows (x ∷ xs) (c ∷ cs) exact e =
    let first = head-is (cell_view (type_at rows) x) (counted_cell c) (map (cell_view (type_at rows)) xs) (map counted_cell cs) e in
    let rest = exact-at rows xs cs (λ k d h. exact (suc k) d (omega arith)) (tail-is (cell_view (type_at rows) x) (counted_cell c) (map (cell_view (type_at rows)) xs) (map counted_cell cs) e) in
    let at = index-is x.index c.index (ap (λ y. y.index) first) (exact 0 x (omega arith)) in
    λ i. record { index = at i; value = (ap (λ y. y.value) first) i } ∷ rest i

pub exact-cells : (rows : List Row) (xs : List code_cell.Cell) (cs : List Cell) → AreExact xs → AreCounted rows xs cs → AreCells rows xs cs
exact-cells rows xs cs exact a = record { always = λ later more. exact-at later xs cs exact (a.always later more) }

-- a value that was taken out
pub boxed-means : (rows : List Row) (x y : v.Value) (a : Value) → y ≡ x → MeansValue rows x a → MeansValue rows y a
boxed-means rows x y a e means = subst (λ z. MeansValue rows z a) (sym e) means
