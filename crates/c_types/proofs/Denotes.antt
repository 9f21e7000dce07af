-- One type has one reference.
use Rattle.std.proofs.Common.{arith, ◌≡◌, ℕ, zero, suc, ◌<◌, List, length, Bool, true, false, Option, Some, None, slice_get, refl, sym, ◌∙◌, ap, subst}
use Rattle.c_types.specs.declared.type_ref.TypeRef.{TypeRef}
use Rattle.c_types.specs.declared.type_ref.TypeRef.TheVariants as ref
use Rattle.c_types.specs.declared.type_ref.Row.{Row}
use Rattle.c_types.specs.declared.type_ref.Row.TheVariants as row
use Rattle.c_types.specs.Types.{CType, void, integer, pointer, array, returning, taking, same_type}
use Rattle.c_types.specs.Table.{row_at, row_type, type_at, types_of, size_of, IsBelow, WellMade}
use Rattle.c_types.specs.contracts.type_ref.TypeRefPartialEq.TheImpl as reference
use Rattle.c_types.specs.contracts.type_ref.TypeRefEq.TheImpl.Laws.{laws-law}
use Rattle.c_types.proofs.Rows.{none_is_not, same_ref}
use Rattle.c_types.proofs.Same.{one-type, type-itself}
use Rattle.c_types.proofs.Grown.{type_at-row, below-more, past}

-- in these rows a reference denotes a type
unfoldable pub Denotes : List Row → TypeRef → CType → Type 0
Denotes rows r void = r ≡ ref.Void
Denotes rows r (integer ty) = r ≡ ref.Integer ty
Denotes rows r (pointer q t) = (s : TypeRef) × (row_at rows r ≡ Some (row.Pointer (record { qualifiers = q; target = s }))) × Denotes rows s t
Denotes rows r (array q t n) =
    (s : TypeRef) × (row_at rows r ≡ Some (row.Array (record { qualifiers = q; target = s }) n (size_of (array q t n)))) × Denotes rows s t
Denotes rows r (returning q t) = (s : TypeRef) × (row_at rows r ≡ Some (row.Returning (record { qualifiers = q; target = s }))) × Denotes rows s t
Denotes rows r (taking p t) = (s u : TypeRef) × (row_at rows r ≡ Some (row.Taking s u)) × Denotes rows s p × Denotes rows u t

-- two references with one row are one
row-once : {rows : List Row} → WellMade rows → (r s : TypeRef) (x : Row) → row_at rows r ≡ Some x → row_at rows s ≡ Some x → r ≡ s
row-once once ref.Void s x e f = none_is_not e
row-once once (ref.Integer ty) s x e f = none_is_not e
row-once once (ref.Derived n) ref.Void x e f = none_is_not f
row-once once (ref.Derived n) (ref.Integer ty) x e f = none_is_not f
row-once once (ref.Derived n) (ref.Derived m) x e f = ap ref.Derived (once.once n m x e f)

-- one type has one reference
pub Denotes-once : {rows : List Row} → WellMade rows → (t : CType) (r s : TypeRef) → Denotes rows r t → Denotes rows s t → r ≡ s
unfolding Denotes
Denotes-once once void r s a b = a ∙ sym b
Denotes-once once (integer ty) r s a b = a ∙ sym b
Denotes-once {rows = rows} once (pointer q t) r s a b =
    let same = Denotes-once once t a.0 b.0 a.2 b.2 in
    row-once once r s _ a.1 (b.1 ∙ ap (λ u. Some (row.Pointer (record { qualifiers = q; target = u }))) (sym same))
Denotes-once {rows = rows} once (array q t n) r s a b =
    let same = Denotes-once once t a.0 b.0 a.2 b.2 in
    row-once once r s _ a.1 (b.1 ∙ ap (λ u. Some (row.Array (record { qualifiers = q; target = u }) n (size_of (array q t n)))) (sym same))
Denotes-once {rows = rows} once (returning q t) r s a b =
    let same = Denotes-once once t a.0 b.0 a.2 b.2 in
    row-once once r s _ a.1 (b.1 ∙ ap (λ u. Some (row.Returning (record { qualifiers = q; target = u }))) (sym same))
Denotes-once {rows = rows} once (taking p t) r s a b =
    let first = Denotes-once once p a.0 b.0 a.3 b.3 in
    let rest = Denotes-once once t a.1 b.1 a.4 b.4 in
    row-once once r s _ a.2 (b.2 ∙ (λ i. Some (row.Taking (sym first i) (sym rest i))))

-- a reference to a row denotes its type, where those do of which the row is made
row-denoted : (rows : List Row) → WellMade rows → (n : ℕ) → n < length rows → ((r : TypeRef) → IsBelow n r → Denotes rows r (type_at rows r))
    → Denotes rows (ref.Derived n) (type_at rows (ref.Derived n))
unfolding Denotes
row-denoted rows well n within down = by (slice_get rows n) refl
  where
    at : (x : Row) → slice_get rows n ≡ Some x → type_at rows (ref.Derived n) ≡ row_type (types_of rows) x
    at x e = type_at-row rows well (ref.Derived n) x e

    by : (o : Option Row) → slice_get rows n ≡ o → Denotes rows (ref.Derived n) (type_at rows (ref.Derived n))
    by None e = let beyond = past rows n e in absurd (omega arith)
    by (Some (row.Pointer q)) e = subst (Denotes rows (ref.Derived n)) (sym (at _ e)) (q.target, e, down q.target (well.earlier n _ e))
    by (Some (row.Array q l x)) e =
        let made = well.earlier n _ e in
        subst (Denotes rows (ref.Derived n)) (sym (at _ e)) (q.target, e ∙ ap (λ z. Some (row.Array q l z)) made.1, down q.target made.0)
    by (Some (row.Returning q)) e = subst (Denotes rows (ref.Derived n)) (sym (at _ e)) (q.target, e, down q.target (well.earlier n _ e))
    by (Some (row.Taking p t)) e =
        let made = well.earlier n _ e in
        subst (Denotes rows (ref.Derived n)) (sym (at _ e)) (p, t, e, down p made.0, down t made.1)

denoted : (rows : List Row) → WellMade rows → (bound : ℕ) (r : TypeRef) → IsBelow bound r → IsBelow (length rows) r → Denotes rows r (type_at rows r)
unfolding Denotes
denoted rows well bound ref.Void b w = refl
denoted rows well bound (ref.Integer ty) b w = refl
denoted rows well zero (ref.Derived n) b w = absurd (omega arith)
denoted rows well (suc bound) (ref.Derived n) b w =
    row-denoted rows well n w (λ r h. denoted rows well bound r (below-more n bound (omega arith) r h) (below-more n (length rows) (omega arith) r h))

-- references to one type are one
pub one-reference : (rows : List Row) → WellMade rows → (r s : TypeRef) → IsBelow (length rows) r → IsBelow (length rows) s → type_at rows r ≡ type_at rows s → r ≡ s
one-reference rows well r s b d e =
    Denotes-once well (type_at rows r) r s (denoted rows well (length rows) r b b)
    (subst (Denotes rows s) (sym e) (denoted rows well (length rows) s d d))

-- equal references and one type are the same
pub equal-references : (rows : List Row) → WellMade rows → (r s : TypeRef) → IsBelow (length rows) r → IsBelow (length rows) s
    → (reference.eq-value).it r s ≡ same_type (type_at rows r) (type_at rows s)
equal-references rows well r s b d = as_one _ _
    (λ e. subst (λ x. same_type (type_at rows r) (type_at rows x) ≡ true) (same_ref r s e) (type-itself (type_at rows r)))
    (λ e. subst (λ x. (reference.eq-value).it r x ≡ true) (one-reference rows well r s b d (one-type _ _ e)) (laws-law.refl r))
  where
    as_one : (x y : Bool) → (x ≡ true → y ≡ true) → (y ≡ true → x ≡ true) → x ≡ y
    as_one true y f g = sym (f refl)
    as_one false true f g = g refl
    as_one false false f g = refl
