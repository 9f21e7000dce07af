-- Rows of a table that are added, each once.
use Rattle.std.proofs.Common.{rules, ◌≡◌, ℕ, zero, suc, Bool, true, false, List, [], ◌∷◌, ◌++◌, ◌&&◌, Some, None, slice_get, nat_eq, refl, sym, ◌∙◌, ap, subst, true≢false}
use Rattle.std.proofs.lemmas.Bool.{eqb-true}
use Rattle.std.specs.List.{IsDistinct, AllByRecursion}
use Rattle.c_types.specs.declared.type_ref.TypeRef.{TypeRef}
use Rattle.c_types.specs.declared.type_ref.Row.{Row}
use Rattle.c_types.specs.declared.type_ref.Row.TheVariants.{Pointer, Array, Returning, Taking}
use Rattle.c_types.specs.declared.type_ref.QualifiedRef.{QualifiedRef}
use Rattle.c_types.specs.declared.size.Size.{Size}
use Rattle.c_types.specs.declared.qualifiers.Qualifiers.{Qualifiers}
use Rattle.c_types.specs.contracts.type_ref.RowPartialEq.TheImpl as row
use Rattle.c_types.specs.contracts.type_ref.QualifiedRefPartialEq.TheImpl as qualified
use Rattle.c_types.specs.contracts.size.SizePartialEq.TheImpl as size
use Rattle.c_types.specs.contracts.qualifiers.QualifiersPartialEq.TheImpl as qualifiers
use Rattle.c_types.specs.contracts.type_ref.TypeRefPartialEq.TheImpl as reference
use Rattle.c_types.specs.contracts.type_ref.RowEq.TheImpl.Laws.{laws-law}

-- equal by `==` is one and the same
pub same_ref : (r s : TypeRef) → (reference.eq-value).it r s ≡ true → r ≡ s
same_ref r s e = search rules

same_plain : (q r : Qualifiers) → (qualifiers.eq-value).it q r ≡ true → q ≡ r
same_plain q r e = search rules

pub both : (a b : Bool) → (a && b) ≡ true → (a ≡ true) × (b ≡ true)
both true b e = (refl, e)
both false b e = absurd (true≢false (sym e))

pub both_hold : {a b : Bool} → a ≡ true → b ≡ true → (a && b) ≡ true
both_hold {a = a} {b = b} e f = ap (λ c. c && b) e ∙ f

with_fields : (q r : QualifiedRef) → q.qualifiers ≡ r.qualifiers → q.target ≡ r.target → q ≡ r
with_fields q r e f = λ i. record { qualifiers = e i; target = f i }

same_qualified : (q r : QualifiedRef) → (qualified.eq-value).it q r ≡ true → q ≡ r
same_qualified q r e =
    let h = both ((qualifiers.eq-value).it q.qualifiers r.qualifiers) ((reference.eq-value).it q.target r.target) e in
    with_fields q r (same_plain _ _ h.0) (same_ref _ _ h.1)

same_size : (x y : Size) → (size.eq-value).it x y ≡ true → x ≡ y
same_size x y e =
    let h = both (nat_eq x.cells y.cells) (nat_eq x.bytes y.bytes) e in
    let cells = eqb-true _ _ h.0 in
    let bytes = eqb-true _ _ h.1 in
    λ i. record { cells = cells i; bytes = bytes i }

false_both : {A : Type 0} (a : Bool) → (a && false) ≡ true → A
false_both true e = absurd (true≢false (sym e))
false_both false e = absurd (true≢false (sym e))

pub same_row : (r s : Row) → (row.eq-value).it r s ≡ true → r ≡ s
same_row (Pointer q) (Pointer r) e = ap Pointer (same_qualified q r (search rules))
same_row (Array q None x) (Array r None y) e =
    let h = both ((qualified.eq-value).it q r) ((size.eq-value).it x y) e in
    let first = same_qualified q r h.0 in
    let large = same_size x y h.1 in
    λ i. Array (first i) None (large i)
same_row (Array q None x) (Array r (Some m) y) e = false_both ((qualified.eq-value).it q r) e
same_row (Array q (Some n) x) (Array r None y) e = false_both ((qualified.eq-value).it q r) e
same_row (Array q (Some n) x) (Array r (Some m) y) e =
    let h = both ((qualified.eq-value).it q r) (nat_eq n m && (size.eq-value).it x y) e in
    let k = both (nat_eq n m) ((size.eq-value).it x y) h.1 in
    let first = same_qualified q r h.0 in
    let long = eqb-true n m k.0 in
    let large = same_size x y k.1 in
    λ i. Array (first i) (Some (long i)) (large i)
same_row (Returning q) (Returning r) e = ap Returning (same_qualified q r (search rules))
same_row (Taking p t) (Taking r s) e =
    let h = both ((reference.eq-value).it p r) ((reference.eq-value).it t s) e in
    let first = same_ref p r h.0 in
    let rest = same_ref t s h.1 in
    λ i. Taking (first i) (rest i)
same_row r s e = search rules

pub row_same : (r : Row) → (row.eq-value).it r r ≡ true
row_same r = laws-law.refl r

pub some_is : {A : Type 0} {x y : A} → Some x ≡ Some y → x ≡ y
some_is {x = x} e = ap (λ o. elim o [ Some z ↦ z | None ↦ x ]) e

pub none_is_not : {A B : Type 0} {x : A} → None ≡ Some x → B
none_is_not e = absurd (true≢false (ap (λ o. elim o [ Some z ↦ false | None ↦ true ]) e))

-- a place of a list stays when more stands behind it
pub slice_get-front : {A : Type 0} (xs ys : List A) (n : ℕ) (x : A) → slice_get xs n ≡ Some x → slice_get (xs ++ ys) n ≡ Some x
slice_get-front [] ys n x e = none_is_not e
slice_get-front (x' ∷ xs) ys zero x e = e
slice_get-front (x' ∷ xs) ys (suc n) x e = slice_get-front xs ys n x e

all-at : {A : Type 0} (P : A → Type 0) (xs : List A) → AllByRecursion P xs → (n : ℕ) (x : A) → slice_get xs n ≡ Some x → P x
all-at P [] all n x e = none_is_not e
all-at P (y ∷ xs) all zero x e = subst P (some_is e) all.0
all-at P (y ∷ xs) all (suc n) x e = all-at P xs all.1 n x e

module _ {A : Type 0} (eq : A → A → Bool) (same : (x : A) → eq x x ≡ true) where
  apart : (x : A) {B : Type 0} → eq x x ≡ false → B
  apart x e = absurd (true≢false (sym (same x) ∙ e))

  -- of keys that are distinct no two places have the same
  pub distinct-once : (xs : List A) → IsDistinct eq xs → (m n : ℕ) (x : A) → slice_get xs m ≡ Some x → slice_get xs n ≡ Some x → m ≡ n
  unfolding IsDistinct
  distinct-once [] d m n x e f = none_is_not e
  distinct-once (y ∷ xs) d zero zero x e f = refl
  distinct-once (y ∷ xs) d zero (suc n) x e f = apart x (subst (λ z. eq z x ≡ false) (some_is e) (all-at _ xs d.0 n x f))
  distinct-once (y ∷ xs) d (suc m) zero x e f = apart x (subst (λ z. eq z x ≡ false) (some_is f) (all-at _ xs d.0 m x e))
  distinct-once (y ∷ xs) d (suc m) (suc n) x e f = ap suc (distinct-once xs d.1 m n x e f)
