-- The types of rows: those of earlier rows stay as more rows come.
use Rattle.std.proofs.Common.{rules, arith, ◌≡◌, ℕ, zero, suc, ◌+◌, ◌≤◌, List, [], ◌∷◌, ◌++◌, length, length-append, append_assoc, Option, Some, None, slice_get, refl, sym, ◌∙◌, ap, subst}
use Rattle.std.proofs.lemmas.List.{get_or_past}
use Rattle.std.proofs.lemmas.Option.{slice_get_within, slice_get-get_or, get_or_from_slice_get}
use Rattle.c_types.specs.declared.type_ref.TypeRef.{TypeRef}
use Rattle.c_types.specs.declared.type_ref.TypeRef.TheVariants as ref
use Rattle.c_types.specs.declared.type_ref.Row.{Row}
use Rattle.c_types.specs.declared.type_ref.Row.TheVariants as row
use Rattle.c_types.specs.Types.{CType, void, pointer, array, returning, taking}
use Rattle.c_types.specs.Table.{Stands, size_of, type_in, row_type, shape_type, shape_of, IsShapedBelow, types_from, types_of, type_at, row_at, Extends, IsBelow, IsMadeBelow, WellMade}
use Rattle.c_types.proofs.Rows.{some_is, none_is_not, slice_get-front}

pub types_from-append : (ts : List CType) (xs ys : List Row) → types_from ts (xs ++ ys) ≡ types_from (types_from ts xs) ys
unfolding types_from
types_from-append ts [] ys = refl
types_from-append ts (x ∷ xs) ys = types_from-append (ts ++ row_type ts x ∷ []) xs ys

pub length-types_from : (ts : List CType) (rows : List Row) → length (types_from ts rows) ≡ length ts + length rows
unfolding types_from
length-types_from ts [] = omega arith
length-types_from ts (x ∷ rows) =
    let h = length-types_from (ts ++ row_type ts x ∷ []) rows in
    let k = length-append ts (row_type ts x ∷ []) in
    omega arith

-- a type that stands at a place stays there
kept : (ts : List CType) (rows : List Row) (n : ℕ) (t : CType) → slice_get ts n ≡ Some t → slice_get (types_from ts rows) n ≡ Some t
unfolding types_from
kept ts [] n t e = e
kept ts (x ∷ rows) n t e = kept (ts ++ row_type ts x ∷ []) rows n t (slice_get-front ts _ n t e)

pub type_in-kept : (ts : List CType) (rows : List Row) (r : TypeRef) → IsBelow (length ts) r → type_in (types_from ts rows) r ≡ type_in ts r
type_in-kept ts rows ref.Void b = refl
type_in-kept ts rows (ref.Integer ty) b = refl
type_in-kept ts rows (ref.Derived n) b =
    get_or_from_slice_get (types_from ts rows) n _ void (kept ts rows n _ (slice_get-get_or ts n void b))

-- a row is made of the first n
PartsBelow : ℕ → Row → Type 0
PartsBelow n (row.Pointer q) = IsBelow n q.target
PartsBelow n (row.Array q l x) = IsBelow n q.target
PartsBelow n (row.Returning q) = IsBelow n q.target
PartsBelow n (row.Taking p t) = IsBelow n p × IsBelow n t

parts_of : (ts : List CType) (n : ℕ) (x : Row) → IsMadeBelow ts n x → PartsBelow n x
unfolding PartsBelow
parts_of ts n (row.Pointer q) b = b
parts_of ts n (row.Array q l x) b = b.0
parts_of ts n (row.Returning q) b = b
parts_of ts n (row.Taking p t) b = b

row_type-kept : (ts : List CType) (rows : List Row) (x : Row) → PartsBelow (length ts) x → row_type (types_from ts rows) x ≡ row_type ts x
unfolding PartsBelow
row_type-kept ts rows (row.Pointer q) b = ap (pointer q.qualifiers) (type_in-kept ts rows q.target b)
row_type-kept ts rows (row.Array q l x) b = ap (λ t. array q.qualifiers t l) (type_in-kept ts rows q.target b)
row_type-kept ts rows (row.Returning q) b = ap (returning q.qualifiers) (type_in-kept ts rows q.target b)
row_type-kept ts rows (row.Taking p t) b =
    let first = type_in-kept ts rows p b.0 in
    let rest = type_in-kept ts rows t b.1 in
    λ i. taking (first i) (rest i)

pub slice_get-last : {A : Type 0} (xs : List A) (x : A) → slice_get (xs ++ x ∷ []) (length xs) ≡ Some x
slice_get-last [] x = refl
slice_get-last (y ∷ xs) x = slice_get-last xs x

-- the type at a row's place is what the row makes
made-at : (rows : List Row) (ts : List CType) (n : ℕ) (x : Row) → slice_get rows n ≡ Some x → PartsBelow (length ts + n) x
    → slice_get (types_from ts rows) (length ts + n) ≡ Some (row_type (types_from ts rows) x)
unfolding types_from
made-at [] ts n x e b = none_is_not e
made-at (y ∷ rows) ts zero x e b =
    let same : y ≡ x = some_is e in
    let at : length ts + 0 ≡ length ts = omega arith in
    let there = kept (ts ++ row_type ts y ∷ []) rows (length ts) _ (slice_get-last ts (row_type ts y)) in
    let stays = row_type-kept ts (y ∷ rows) x (subst (λ k. PartsBelow k x) at b) in
    subst (λ k. slice_get (types_from (ts ++ row_type ts y ∷ []) rows) k ≡ Some (row_type (types_from (ts ++ row_type ts y ∷ []) rows) x)) (sym at)
    (there ∙ ap Some (ap (row_type ts) same ∙ sym stays))
made-at (y ∷ rows) ts (suc n) x e b =
    let longer = ts ++ row_type ts y ∷ [] in
    let l = length-append ts (row_type ts y ∷ []) in
    let at : length longer + n ≡ length ts + suc n = omega arith in
    subst (λ k. slice_get (types_from longer rows) k ≡ Some (row_type (types_from longer rows) x)) at
    (made-at rows longer n x e (subst (λ k. PartsBelow k x) (sym at) b))

pub type_at-row : (rows : List Row) → WellMade rows → (r : TypeRef) (x : Row) → row_at rows r ≡ Some x → type_at rows r ≡ row_type (types_of rows) x
type_at-row rows well ref.Void x e = none_is_not e
type_at-row rows well (ref.Integer ty) x e = none_is_not e
type_at-row rows well (ref.Derived n) x e =
    let at : n ≡ 0 + n = omega arith in
    let there = made-at rows [] n x e (subst (λ k. PartsBelow k x) at (parts_of _ n x (well.earlier n x e))) in
    get_or_from_slice_get (types_of rows) n _ void (subst (λ k. slice_get (types_of rows) k ≡ Some (row_type (types_of rows) x)) (sym at) there)

pub length-types_of : (rows : List Row) → length (types_of rows) ≡ length rows
length-types_of rows = let h = length-types_from [] rows in omega arith

pub type_at-later : (old new : List Row) → Extends old new → (r : TypeRef) → IsBelow (length old) r → type_at new r ≡ type_at old r
type_at-later old new later r b =
    ap (λ rows. type_at rows r) later.is ∙ ap (λ ts. type_in ts r) (types_from-append [] old later.more)
    ∙ type_in-kept (types_of old) later.more r (subst (λ k. IsBelow k r) (sym (length-types_of old)) b)

pub below-more : (m n : ℕ) → m ≤ n → (r : TypeRef) → IsBelow m r → IsBelow n r
below-more m n h ref.Void b = b
below-more m n h (ref.Integer ty) b = b
below-more m n h (ref.Derived k) b = omega arith

pub Extends-refl : (rows : List Row) → Extends rows rows
Extends-refl rows = record { more = []; is = search rules }

pub Extends-trans : {a b c : List Row} → Extends a b → Extends b c → Extends a c
Extends-trans {a = a} f g = record { more = f.more ++ g.more; is = g.is ∙ ap (λ xs. xs ++ g.more) f.is ∙ append_assoc a f.more g.more }

-- a row stays as it is made where more rows come
pub made-later : (old new : List Row) → Extends old new → (n : ℕ) → n ≤ length old → (x : Row) → IsMadeBelow (types_of old) n x → IsMadeBelow (types_of new) n x
made-later old new later n within (row.Pointer q) b = b
made-later old new later n within (row.Array q l x) b =
    let same = type_at-later old new later q.target (below-more n (length old) within q.target b.0) in
    (b.0, b.1 ∙ ap (λ t. size_of (array q.qualifiers t l)) (sym same))
made-later old new later n within (row.Returning q) b = b
made-later old new later n within (row.Taking p t) b = b

pub row_type-later : (old new : List Row) → Extends old new → (x : Row) → IsMadeBelow (types_of old) (length old) x → row_type (types_of new) x ≡ row_type (types_of old) x
row_type-later old new later x fits =
    ap (λ rows. row_type (types_of rows) x) later.is ∙ ap (λ ts. row_type ts x) (types_from-append [] old later.more)
    ∙ row_type-kept (types_of old) later.more x (subst (λ k. PartsBelow k x) (sym (length-types_of old)) (parts_of _ _ x fits))

pub past : (rows : List Row) (n : ℕ) → slice_get rows n ≡ None → length rows ≤ n
past [] n e = omega arith
past (x ∷ rows) zero e = none_is_not (sym e)
past (x ∷ rows) (suc n) e = let h = past rows n e in omega arith

-- a reference to no row is void
pub type_at-past : (rows : List Row) (n : ℕ) → length rows ≤ n → type_at rows (ref.Derived n) ≡ void
type_at-past rows n past =
    let l = length-types_of rows in
    let at : length (types_of rows) ≤ n = omega arith in
    get_or_past (types_of rows) n void at

-- what the row of a reference says of its type
pub shape-made : (rows : List Row) → WellMade rows → (n : ℕ) → type_at rows (ref.Derived n) ≡ shape_type (types_of rows) (shape_of (slice_get rows n))
shape-made rows well n = by (slice_get rows n) refl
  where
    by : (o : Option Row) → slice_get rows n ≡ o → type_at rows (ref.Derived n) ≡ shape_type (types_of rows) (shape_of o)
    by None e = type_at-past rows n (past rows n e)
    by (Some (row.Pointer q)) e = type_at-row rows well (ref.Derived n) _ e
    by (Some (row.Array q l x)) e = type_at-row rows well (ref.Derived n) _ e
    by (Some (row.Returning q)) e = type_at-row rows well (ref.Derived n) _ e
    by (Some (row.Taking p t)) e = type_at-row rows well (ref.Derived n) _ e

pub shape-below : (rows : List Row) → WellMade rows → (n : ℕ) → IsShapedBelow (types_of rows) (length rows) (shape_of (slice_get rows n))
shape-below rows well n = by (slice_get rows n) refl
  where
    up : (x : Row) → slice_get rows n ≡ Some x → n ≤ length rows
    up x e = let h = slice_get_within rows n x e in omega arith

    by : (o : Option Row) → slice_get rows n ≡ o → IsShapedBelow (types_of rows) (length rows) (shape_of o)
    by None e = tt
    by (Some (row.Pointer q)) e = below-more n _ (up _ e) q.target (well.earlier n _ e)
    by (Some (row.Array q l x)) e = (below-more n _ (up _ e) q.target (well.earlier n _ e).0, (well.earlier n _ e).1)
    by (Some (row.Returning q)) e = below-more n _ (up _ e) q.target (well.earlier n _ e)
    by (Some (row.Taking p t)) e =
        (below-more n _ (up _ e) p (well.earlier n _ e).0, below-more n _ (up _ e) t (well.earlier n _ e).1)

-- a reference to a row that stands stands for its type in all later rows
pub Stands-below : (rows : List Row) (r : TypeRef) → IsBelow (length rows) r → Stands rows r (type_at rows r)
Stands-below rows r below = record { always = λ later more. type_at-later rows later more r below }
