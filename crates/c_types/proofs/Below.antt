-- A reference that stands for a type in all later rows is to a row that is there.
use Rattle.std.proofs.Common.{arith, ◌≡◌, ℕ, ◌+◌, ◌-◌, ◌<◌, ◌≤◌, List, [], ◌∷◌, ◌++◌, length, length-append, append_assoc, Option, Some, None, slice_get, refl, sym, ◌∙◌, ap, subst, inl, inr, ◌⊎◌, replicate, Bool as Test, true, false, true≢false}
use Rattle.std.proofs.lemmas.List.{length-replicate}
use Rattle.std.proofs.lemmas.Option.{get_or_from_slice_get}
use Rattle.c_types.specs.declared.type_ref.TypeRef.{TypeRef}
use Rattle.c_types.specs.declared.type_ref.TypeRef.TheVariants as ref
use Rattle.c_types.specs.declared.type_ref.Row.{Row}
use Rattle.c_types.specs.declared.type_ref.Row.TheVariants as row
use Rattle.c_types.specs.declared.qualifiers.Qualifiers.{Qualifiers}
use Rattle.c_types.specs.Types.{CType, void, integer, pointer, array, returning, taking, is_void}
use Rattle.c_types.specs.Table.{Stands, type_at, types_from, types_of, row_type, Extends, IsBelow, WellMade}
use Rattle.c_types.proofs.Grown.{types_from-append, length-types_of, slice_get-last, type_at-past, Extends-refl}
use Rattle.c_types.proofs.Denotes.{one-reference}

no_qualifiers : Qualifiers
no_qualifiers = record { is_const = false; is_volatile = false }

-- a row of a type that is not void
other_row : Row
other_row = row.Returning (record { qualifiers = no_qualifiers; target = ref.Void })

last-type : (rows : List Row) → slice_get (types_of (rows ++ other_row ∷ [])) (length rows) ≡ Some (returning no_qualifiers void)
unfolding types_from other_row
last-type rows =
    ap (λ ts. slice_get ts (length rows)) (types_from-append [] rows (other_row ∷ []))
    ∙ ap (slice_get (types_of rows ++ returning no_qualifiers void ∷ [])) (sym (length-types_of rows))
    ∙ slice_get-last (types_of rows) (returning no_qualifiers void)

-- rows up to a number
filled : List Row → ℕ → List Row
filled rows n = rows ++ replicate (n - length rows) other_row

length-filled : (rows : List Row) (n : ℕ) → length rows ≤ n → length (filled rows n) ≡ n
unfolding filled
length-filled rows n h =
    let a = length-append rows (replicate (n - length rows) other_row) in
    let b = length-replicate (n - length rows) other_row in
    omega arith

no-type : (rows : List Row) (n : ℕ) (t : CType) → length rows ≤ n → Stands rows (ref.Derived n) t → ⊥
unfolding filled
no-type rows n t h stands =
    let more : Extends rows (filled rows n ++ other_row ∷ []) = record { more = replicate (n - length rows) other_row ++ other_row ∷ []; is = append_assoc rows (replicate (n - length rows) other_row) (other_row ∷ []) } in
    let there = get_or_from_slice_get (types_of (filled rows n ++ other_row ∷ [])) n _ void
    (ap (slice_get (types_of (filled rows n ++ other_row ∷ []))) (sym (length-filled rows n h)) ∙ last-type (filled rows n)) in
    let one : returning no_qualifiers void ≡ void = sym there ∙ stands.always _ more ∙ sym (stands.always rows (Extends-refl rows)) ∙ type_at-past rows n h in
    true≢false (sym (ap is_void one))

split : (m n : ℕ) → (m < n) ⊎ (n ≤ m)
split m n = search (arith)

pub stands-below : (rows : List Row) (r : TypeRef) (t : CType) → Stands rows r t → IsBelow (length rows) r
stands-below rows ref.Void t stands = tt
stands-below rows (ref.Integer ty) t stands = tt
stands-below rows (ref.Derived n) t stands = by (split n (length rows))
  where
    by : (n < length rows) ⊎ (length rows ≤ n) → n < length rows
    by (inl h) = h
    by (inr h) = absurd (no-type rows n t h stands)

-- what stands for one type is one
pub one-standing : (rows : List Row) → WellMade rows → (r s : TypeRef) (t : CType) → IsBelow (length rows) r → type_at rows r ≡ t → Stands rows s t → s ≡ r
one-standing rows well r s t below at stands =
    one-reference rows well s r (stands-below rows s t stands) below (stands.always rows (Extends-refl rows) ∙ sym at)
