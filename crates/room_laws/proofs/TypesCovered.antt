-- Types of declarations of one object have as many cells, once they are complete.
use Rattle.std.proofs.Common.{◌≡◌, ℕ, ◌*◌, ◌==◌, Bool as Test, true, false, refl, ap₂, sym, subst, ◌∙◌, Some, None, arith}
use Rattle.std.specs.Prelude.{◌&&◌, IsTrue}
use Rattle.std.proofs.lemmas.Bool.Decides.{nat_tests}
use Rattle.srmt_base.specs.declared.ty.Ty.{Ty}
use Rattle.srmt_base.specs.declared.ty.Ty.TheVariants.{Bool, Char, SChar, UChar, Short, UShort, Int, UInt}
use Rattle.c_types.specs.Types.{CType, void, integer, pointer, array, returning, taking, Qualified, is_function, is_complete, same_type, same_qualifiers, are_for_one, may_be_one, composite, cells_of, cells_of_integer}

-- a type of an object covers another where it is complete and has as many cells
pub record Covers (t e : CType) : Type 0 where
  pub complete : IsTrue (is_complete e)
  pub cells : cells_of e ≡ cells_of t

and_first : (a b : Test) → IsTrue (a && b) → IsTrue a
and_first true b h = refl
and_first false b h = absurd cc

pub and_second : (a b : Test) → IsTrue (a && b) → IsTrue b
and_second true b h = h
and_second false b h = absurd cc

-- ---- one type

integer_has_one : (ty : Ty) → cells_of_integer ty ≡ 1
integer_has_one Bool = refl
integer_has_one Char = refl
integer_has_one SChar = refl
integer_has_one UChar = refl
integer_has_one Short = refl
integer_has_one UShort = refl
integer_has_one Int = refl
integer_has_one UInt = refl

integers_same : (a b : Ty) → cells_of_integer a ≡ cells_of_integer b
integers_same a b = integer_has_one a ∙ sym (integer_has_one b)

one_number : (m n : ℕ) → (m == n) ≡ true → m ≡ n
one_number m n e = grind (arith, nat_tests)

same_cells : (a b : CType) → IsTrue (same_type a b) → cells_of a ≡ cells_of b
unfolding same_type
same_cells void void h = refl
same_cells void (integer b) h = absurd cc
same_cells void (pointer r b) h = absurd cc
same_cells void (array r b m) h = absurd cc
same_cells void (returning r b) h = absurd cc
same_cells void (taking p b) h = absurd cc
same_cells (integer a) void h = absurd cc
same_cells (integer a) (integer b) h = integers_same a b
same_cells (integer a) (pointer r b) h = absurd cc
same_cells (integer a) (array r b m) h = absurd cc
same_cells (integer a) (returning r b) h = absurd cc
same_cells (integer a) (taking p b) h = absurd cc
same_cells (pointer q a) void h = absurd cc
same_cells (pointer q a) (integer b) h = absurd cc
same_cells (pointer q a) (pointer r b) h = refl
same_cells (pointer q a) (array r b m) h = absurd cc
same_cells (pointer q a) (returning r b) h = absurd cc
same_cells (pointer q a) (taking p b) h = absurd cc
same_cells (array q a n) void h = absurd cc
same_cells (array q a n) (integer b) h = absurd cc
same_cells (array q a n) (pointer r b) h = absurd cc
same_cells (array q a None) (array r b None) h = refl
same_cells (array q a None) (array r b (Some m)) h = absurd (let e = and_second (same_qualifiers q r && same_type a b) false h in cc)
same_cells (array q a (Some n)) (array r b None) h = absurd (let e = and_second (same_qualifiers q r && same_type a b) false h in cc)
same_cells (array q a (Some n)) (array r b (Some m)) h =
    let types = and_first (same_qualifiers q r && same_type a b) (n == m) h in
    ap₂ (λ i j. i * j) (one_number n m (and_second (same_qualifiers q r && same_type a b) (n == m) h))
    (same_cells a b (and_second (same_qualifiers q r) (same_type a b) types))
same_cells (array q a n) (returning r b) h = absurd cc
same_cells (array q a n) (taking p b) h = absurd cc
same_cells (returning q a) void h = absurd cc
same_cells (returning q a) (integer b) h = absurd cc
same_cells (returning q a) (pointer r b) h = absurd cc
same_cells (returning q a) (array r b m) h = absurd cc
same_cells (returning q a) (returning r b) h = refl
same_cells (returning q a) (taking p b) h = absurd cc
same_cells (taking o a) void h = absurd cc
same_cells (taking o a) (integer b) h = absurd cc
same_cells (taking o a) (pointer r b) h = absurd cc
same_cells (taking o a) (array r b m) h = absurd cc
same_cells (taking o a) (returning r b) h = absurd cc
same_cells (taking o a) (taking p b) h = refl

-- ---- types of more than one declaration

-- a type that is complete stays as it is
pub composite_complete : (a b : CType) → IsTrue (is_complete a) → composite a b ≡ a
composite_complete void b h = absurd cc
composite_complete (integer ty) b h = refl
composite_complete (pointer q t) b h = refl
composite_complete (array q t None) b h = absurd cc
composite_complete (array q t (Some n)) b h = refl
composite_complete (returning q t) b h = absurd cc
composite_complete (taking p t) b h = absurd cc

pub composite_function : (a b : CType) → IsTrue (is_function a) → IsTrue (is_function (composite a b))
composite_function void b h = h
composite_function (integer ty) b h = h
composite_function (pointer q t) b h = h
composite_function (array q t None) b h = absurd cc
composite_function (array q t (Some n)) b h = h
composite_function (returning q t) b h = h
composite_function (taking p t) b h = h

same_complete : (a b : CType) → IsTrue (same_type a b) → IsTrue (is_complete b) → IsTrue (is_complete a)
unfolding same_type
same_complete void void h c = absurd cc
same_complete void (integer b) h c = absurd cc
same_complete void (pointer r b) h c = absurd cc
same_complete void (array r b m) h c = absurd cc
same_complete void (returning r b) h c = absurd cc
same_complete void (taking p b) h c = absurd cc
same_complete (integer a) b h c = refl
same_complete (pointer q a) b h c = refl
same_complete (array q a None) void h c = absurd cc
same_complete (array q a None) (integer b) h c = absurd cc
same_complete (array q a None) (pointer r b) h c = absurd cc
same_complete (array q a None) (array r b None) h c = absurd cc
same_complete (array q a None) (array r b (Some m)) h c = absurd (let e = and_second (same_qualifiers q r && same_type a b) false h in cc)
same_complete (array q a None) (returning r b) h c = absurd cc
same_complete (array q a None) (taking p b) h c = absurd cc
same_complete (array q a (Some n)) b h c = refl
same_complete (returning q a) void h c = absurd cc
same_complete (returning q a) (integer b) h c = absurd cc
same_complete (returning q a) (pointer r b) h c = absurd cc
same_complete (returning q a) (array r b m) h c = absurd cc
same_complete (returning q a) (returning r b) h c = absurd cc
same_complete (returning q a) (taking p b) h c = absurd cc
same_complete (taking o a) void h c = absurd cc
same_complete (taking o a) (integer b) h c = absurd cc
same_complete (taking o a) (pointer r b) h c = absurd cc
same_complete (taking o a) (array r b m) h c = absurd cc
same_complete (taking o a) (returning r b) h c = absurd cc
same_complete (taking o a) (taking p b) h c = absurd cc

covered_by : (a b : CType) → IsTrue (same_type a b) → IsTrue (is_complete b) → Covers b a
covered_by a b h c = record { complete = same_complete a b h c; cells = same_cells a b h }

-- declarations of one object, of which the second has a complete type
one_covers : (a b : CType) → IsTrue (are_for_one a b) → IsTrue (is_complete b) → Covers b (composite a b)
one_covers void b h c = covered_by void b h c
one_covers (integer ty) b h c = covered_by (integer ty) b h c
one_covers (pointer q t) b h c = covered_by (pointer q t) b h c
one_covers (array q t None) b h c = record { complete = c; cells = refl }
one_covers (array q t (Some n)) void h c = covered_by (array q t (Some n)) void h c
one_covers (array q t (Some n)) (integer ty) h c = covered_by (array q t (Some n)) (integer ty) h c
one_covers (array q t (Some n)) (pointer r u) h c = covered_by (array q t (Some n)) (pointer r u) h c
one_covers (array q t (Some n)) (array r u None) h c = absurd cc
one_covers (array q t (Some n)) (array r u (Some m)) h c = covered_by (array q t (Some n)) (array r u (Some m)) h c
one_covers (array q t (Some n)) (returning r u) h c = covered_by (array q t (Some n)) (returning r u) h c
one_covers (array q t (Some n)) (taking p u) h c = covered_by (array q t (Some n)) (taking p u) h c
one_covers (returning q t) b h c = covered_by (returning q t) b h c
one_covers (taking p t) b h c = covered_by (taking p t) b h c

pub may_be_covers : (a b : Qualified) → IsTrue (may_be_one a b) → IsTrue (is_complete b.type) → Covers b.type (composite a.type b.type)
may_be_covers a b h c =
    one_covers a.type b.type (and_second (same_qualifiers a.qualifiers b.qualifiers) (are_for_one a.type b.type) h) c

-- of which the first has one
other_covers : (a b : CType) → IsTrue (are_for_one a b) → IsTrue (is_complete a) → Covers a (composite b a)
unfolding same_type
other_covers void b h c = absurd cc
other_covers (integer ty) void h c = absurd cc
other_covers (integer ty) (integer tz) h c = record { complete = refl; cells = integers_same tz ty }
other_covers (integer ty) (pointer q t) h c = absurd cc
other_covers (integer ty) (array q t n) h c = absurd cc
other_covers (integer ty) (returning q t) h c = absurd cc
other_covers (integer ty) (taking p t) h c = absurd cc
other_covers (pointer r u) void h c = absurd cc
other_covers (pointer r u) (integer ty) h c = absurd cc
other_covers (pointer r u) (pointer q t) h c = record { complete = refl; cells = refl }
other_covers (pointer r u) (array q t n) h c = absurd cc
other_covers (pointer r u) (returning q t) h c = absurd cc
other_covers (pointer r u) (taking p t) h c = absurd cc
other_covers (array r u None) b h c = absurd cc
other_covers (array r u (Some m)) void h c = absurd cc
other_covers (array r u (Some m)) (integer ty) h c = absurd cc
other_covers (array r u (Some m)) (pointer q t) h c = absurd cc
other_covers (array r u (Some m)) (array q t None) h c = record { complete = refl; cells = refl }
other_covers (array r u (Some m)) (array q t (Some n)) h c =
    record { complete = refl; cells = sym (same_cells (array r u (Some m)) (array q t (Some n)) h) }
other_covers (array r u (Some m)) (returning q t) h c = absurd cc
other_covers (array r u (Some m)) (taking p t) h c = absurd cc
other_covers (returning r u) b h c = absurd cc
other_covers (taking r u) b h c = absurd cc

pub may_be_other_covers : (a b : Qualified) → IsTrue (may_be_one a b) → IsTrue (is_complete a.type) → Covers a.type (composite b.type a.type)
may_be_other_covers a b h c =
    other_covers a.type b.type (and_second (same_qualifiers a.qualifiers b.qualifiers) (are_for_one a.type b.type) h) c

-- of which the second is a function
one_function : (a b : CType) → IsTrue (are_for_one a b) → IsTrue (is_function b) → IsTrue (is_function (composite a b))
unfolding same_type
one_function void void h f = absurd cc
one_function void (integer ty) h f = absurd cc
one_function void (pointer q t) h f = absurd cc
one_function void (array q t n) h f = absurd cc
one_function void (returning q t) h f = absurd cc
one_function void (taking p t) h f = absurd cc
one_function (integer ty) void h f = absurd cc
one_function (integer ty) (integer r) h f = absurd cc
one_function (integer ty) (pointer q t) h f = absurd cc
one_function (integer ty) (array q t n) h f = absurd cc
one_function (integer ty) (returning q t) h f = absurd cc
one_function (integer ty) (taking p t) h f = absurd cc
one_function (pointer r u) void h f = absurd cc
one_function (pointer r u) (integer ty) h f = absurd cc
one_function (pointer r u) (pointer q t) h f = absurd cc
one_function (pointer r u) (array q t n) h f = absurd cc
one_function (pointer r u) (returning q t) h f = absurd cc
one_function (pointer r u) (taking p t) h f = absurd cc
one_function (array r u None) b h f = f
one_function (array r u (Some m)) void h f = absurd cc
one_function (array r u (Some m)) (integer ty) h f = absurd cc
one_function (array r u (Some m)) (pointer q t) h f = absurd cc
one_function (array r u (Some m)) (array q t n) h f = absurd cc
one_function (array r u (Some m)) (returning q t) h f = absurd cc
one_function (array r u (Some m)) (taking p t) h f = absurd cc
one_function (returning q t) b h f = refl
one_function (taking p t) b h f = refl

pub may_be_function : (a b : Qualified) → IsTrue (may_be_one a b) → IsTrue (is_function b.type) → IsTrue (is_function (composite a.type b.type))
may_be_function a b h f =
    one_function a.type b.type (and_second (same_qualifiers a.qualifiers b.qualifiers) (are_for_one a.type b.type) h) f

-- ---- what stays covered

pub covers_itself : (t : CType) → IsTrue (is_complete t) → Covers t t
covers_itself t c = record { complete = c; cells = refl }

pub covers_through : (t e u : CType) → Covers t e → Covers e u → Covers t u
covers_through t e u h k = record { complete = k.complete; cells = k.cells ∙ h.cells }

pub covers_more : (e u : CType) → IsTrue (is_complete e) → Covers e (composite e u)
covers_more e u c = subst (Covers e) (sym (composite_complete e u c)) (covers_itself e c)

-- the type of a name, of its entity, and of one more declaration of both
pub composite_covers : (l e t : CType) → (IsTrue (is_complete l) → Covers l e) → (IsTrue (is_complete t) → Covers t (composite e t))
    → IsTrue (is_complete (composite l t)) → Covers (composite l t) (composite e t)
composite_covers void e t f g h = absurd cc
composite_covers (integer ty) e t f g h = let k = f h in covers_through (integer ty) e (composite e t) k (covers_more e t k.complete)
composite_covers (pointer q u) e t f g h = let k = f h in covers_through (pointer q u) e (composite e t) k (covers_more e t k.complete)
composite_covers (array q u None) e t f g h = g h
composite_covers (array q u (Some n)) e t f g h = let k = f h in covers_through (array q u (Some n)) e (composite e t) k (covers_more e t k.complete)
composite_covers (returning q u) e t f g h = absurd cc
composite_covers (taking p u) e t f g h = absurd cc
