-- What stands in a table after a row was added.
use Rattle.std.proofs.Common.{arith, ◌≡◌, ℕ, zero, suc, Bool, true, false, List, [], ◌∷◌, ◌++◌, length, Some, slice_get, ◌⊎◌, if◌then◌else◌, inl, inr, refl, sym, ◌∙◌, ap, subst}
use Rattle.std.specs.List.{IsDistinct, list_any}
use Rattle.std.proofs.lemmas.Option.{slice_get_within}
use Rattle.indexmap.specs.IndexSet.{insert_key}
use Rattle.c_types.specs.declared.type_ref.TypeRef.TheVariants as ref
use Rattle.c_types.specs.declared.type_ref.Row.{Row}
use Rattle.c_types.specs.contracts.type_ref.RowPartialEq.TheImpl as equal
use Rattle.c_types.specs.Table.{row_type, types_of, Extends, Stands, IsMadeBelow, WellMade}
use Rattle.c_types.proofs.Rows.{some_is, none_is_not, distinct-once, row_same}
use Rattle.c_types.proofs.Grown.{Extends-refl, made-later, type_at-row, type_at-later, row_type-later}

-- a place in a list with one more is a place in the list, or the last
place-in-push : {A : Type 0} (xs : List A) (x : A) (n : ℕ) (z : A) → slice_get (xs ++ x ∷ []) n ≡ Some z → (slice_get xs n ≡ Some z) ⊎ ((n ≡ length xs) × (z ≡ x))
place-in-push [] x zero z e = inr (refl, sym (some_is e))
place-in-push [] x (suc n) z e = none_is_not e
place-in-push (y ∷ xs) x zero z e = inl e
place-in-push (y ∷ xs) x (suc n) z e = elim (place-in-push xs x n z e) [ inl h ↦ inl h | inr h ↦ inr (ap suc h.0, h.1) ]

pub extends-insert : (rows : List Row) (x : Row) → Extends rows (insert_key (equal.eq-value).it rows x)
extends-insert rows x = by (list_any ((equal.eq-value).it x) rows) refl
  where
    by : (b : Bool) → list_any ((equal.eq-value).it x) rows ≡ b → Extends rows (insert_key (equal.eq-value).it rows x)
    by true e = subst (Extends rows) (sym (ap (λ c. if c then rows else rows ++ x ∷ []) e)) (Extends-refl rows)
    by false e = record { more = x ∷ []; is = ap (λ c. if c then rows else rows ++ x ∷ []) e }

earlier-push : (rows : List Row) → WellMade rows → (x : Row) → IsMadeBelow (types_of rows) (length rows) x
    → (n : ℕ) (z : Row) → slice_get (rows ++ x ∷ []) n ≡ Some z → IsMadeBelow (types_of (rows ++ x ∷ [])) n z
earlier-push rows well x fits n z e =
    let later : Extends rows (rows ++ x ∷ []) = record { more = x ∷ []; is = refl } in
    elim (place-in-push rows x n z e) [
      | inl h ↦ let within = slice_get_within rows n z h in made-later rows _ later n (omega arith) z (well.earlier n z h)
      | inr h ↦ subst (λ k. IsMadeBelow (types_of (rows ++ x ∷ [])) k z) (sym h.0)
          (subst (IsMadeBelow (types_of (rows ++ x ∷ [])) (length rows)) (sym h.1) (made-later rows _ later (length rows) (omega arith) x fits))
    ]

pub well-insert : (rows : List Row) → WellMade rows → (x : Row) → IsMadeBelow (types_of rows) (length rows) x
    → IsDistinct (equal.eq-value).it (insert_key (equal.eq-value).it rows x) → WellMade (insert_key (equal.eq-value).it rows x)
well-insert rows well x fits distinct = by (list_any ((equal.eq-value).it x) rows) refl
  where
    by : (b : Bool) → list_any ((equal.eq-value).it x) rows ≡ b → WellMade (insert_key (equal.eq-value).it rows x)
    by true e = subst WellMade (sym (ap (λ c. if c then rows else rows ++ x ∷ []) e)) well
    by false e = record {
      earlier = subst (λ new. (n : ℕ) (z : Row) → slice_get new n ≡ Some z → IsMadeBelow (types_of new) n z)
          (sym (ap (λ c. if c then rows else rows ++ x ∷ []) e)) (earlier-push rows well x fits);
      once = distinct-once (equal.eq-value).it row_same (insert_key (equal.eq-value).it rows x) distinct;
    }

-- the reference of a row that was added stands for what the row makes
pub stands-added : (old new : List Row) → Extends old new → WellMade new → (x : Row) → IsMadeBelow (types_of old) (length old) x
    → (n : ℕ) → slice_get new n ≡ Some x → Stands new (ref.Derived n) (row_type (types_of old) x)
stands-added old new grown well x fits n e = record {
  always = λ later more.
      type_at-later new later more (ref.Derived n) (slice_get_within new n x e)
      ∙ type_at-row new well (ref.Derived n) x e
      ∙ row_type-later old new grown x fits;
}
