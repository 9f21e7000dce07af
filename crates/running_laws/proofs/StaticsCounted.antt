-- How the static objects of a file become more as entities are declared and defined.
use Rattle.std.proofs.Common.{◌≡◌, ℕ, zero, suc, ◌==◌, ◌≤◌, Bool as Test, true, false, List, [], ◌∷◌, ◌++◌, length, refl, ap, sym, subst, arith}
use Rattle.std.specs.Prelude.{◌&&◌, ◌||◌, if◌then◌else◌, IsTrue, IsFalse, slice_set}
use Rattle.std.proofs.lemmas.Bool.Decides.{nat_tests}
use Rattle.typing_rules.specs.Known.{File, Entity, First, entity_at, is_declared_among}
use Rattle.typing_rules.specs.UnitRules.{is_defined_in, is_object, static_of, statics_of}
use Rattle.typing_rules.specs.Laws.{Each}
use Rattle.running_laws.proofs.Tests.{not_both}

-- ---- entities

-- an entity is another from now on: each is it, or as it was
pub at_set : (P : Entity → Type 0) (es : List Entity) (n : ℕ) (e : Entity) (m : ℕ) → (m ≡ n → P e) → P (entity_at es m) → P (entity_at (slice_set es n e) m)
at_set P [] n e m f p = p
at_set P (x ∷ es) zero e zero f p = f refl
at_set P (x ∷ es) zero e (suc m) f p = p
at_set P (x ∷ es) (suc n) e zero f p = p
at_set P (x ∷ es) (suc n) e (suc m) f p = at_set P es n e m (λ q. f (ap suc q)) p

pub set_twice : (es : List Entity) (n : ℕ) (f g : Entity → Entity)
    → slice_set (slice_set es n (f (entity_at es n))) n (g (entity_at (slice_set es n (f (entity_at es n))) n)) ≡ slice_set es n (g (f (entity_at es n)))
set_twice [] n f g = refl
set_twice (x ∷ es) zero f g = refl
set_twice (x ∷ es) (suc n) f g = ap (λ rest. x ∷ rest) (set_twice es n f g)

-- ---- static objects

abbrev pub is_static : File → Entity → Test
is_static file e = is_object e && is_defined_in file e.definition

abbrev pub many : File → List Entity → List First → ℕ
many file es ds = length (statics_of file es ds)

-- each of these is a static object only where it was one
abbrev pub AreNoMore : File → List Entity → List Entity → List First → Type 0
AreNoMore file es new ds = Each (λ d. IsTrue (is_static file (entity_at new d.entity)) → IsTrue (is_static file (entity_at es d.entity))) ds

no_more_by : {A : Type 0} (t u : Test) (x y : A) (xs ys : List A) → (IsTrue u → IsTrue t) → length ys ≤ length xs
    → length (if u then y ∷ ys else ys) ≤ length (if t then x ∷ xs else xs)
no_more_by true true x y xs ys f h = omega (arith, h)
no_more_by true false x y xs ys f h = omega (arith, h)
no_more_by false true x y xs ys f h = absurd (false_is_true (f refl))
  where
    false_is_true : IsTrue false → ⊥
    false_is_true e = cc
no_more_by false false x y xs ys f h = h

pub no_more : (file : File) (es new : List Entity) (ds : List First) → AreNoMore file es new ds → many file new ds ≤ many file es ds
no_more file es new [] h = omega arith
no_more file es new (d ∷ rest) h =
    no_more_by (is_static file (entity_at es d.entity)) (is_static file (entity_at new d.entity))
    (static_of d (entity_at es d.entity)) (static_of d (entity_at new d.entity)) (statics_of file es rest) (statics_of file new rest)
    h.0 (no_more file es new rest h.1)

pub each_no_more : (file : File) (es new : List Entity) (ds : List First)
    → ((m : ℕ) → IsTrue (is_static file (entity_at new m)) → IsTrue (is_static file (entity_at es m))) → AreNoMore file es new ds
each_no_more file es new [] f = tt
each_no_more file es new (d ∷ rest) f = (f d.entity, each_no_more file es new rest f)

-- ---- one more

-- no entity is declared twice
abbrev pub AreOnce : List First → Type 0
AreOnce [] = Unit {0}
AreOnce (d ∷ rest) = IsFalse (is_declared_among d.entity rest) × AreOnce rest

same_number : (m n : ℕ) → m ≡ n → (m == n) ≡ true
same_number m n e = grind (arith, nat_tests)

one_number : (m n : ℕ) → (m == n) ≡ true → m ≡ n
one_number m n e = grind (arith, nat_tests)

or_first : (a b : Test) → IsFalse (a || b) → IsFalse a
or_first true b h = absurd cc
or_first false b h = refl

or_second : (a b : Test) → IsFalse (a || b) → IsFalse b
or_second true b h = absurd cc
or_second false b h = h

others_no_more : (file : File) (es : List Entity) (n : ℕ) (e : Entity) (ds : List First) → IsFalse (is_declared_among n ds)
    → AreNoMore file es (slice_set es n e) ds
others_no_more file es n e [] h = tt
others_no_more file es n e (d ∷ rest) h = (
  at_set (λ x. IsTrue (is_static file x) → IsTrue (is_static file (entity_at es d.entity))) es n e d.entity
      (λ q. absurd (not_both (n == d.entity) (same_number n d.entity (sym q)) (or_first (n == d.entity) (is_declared_among n rest) h))) (λ s. s),
  others_no_more file es n e rest (or_second (n == d.entity) (is_declared_among n rest) h),
)

one_more_by : {A : Type 0} (t u : Test) (x y : A) (xs ys : List A) → length ys ≤ length xs
    → length (if u then y ∷ ys else ys) ≤ suc (length (if t then x ∷ xs else xs))
one_more_by true true x y xs ys h = omega (arith, h)
one_more_by true false x y xs ys h = omega (arith, h)
one_more_by false true x y xs ys h = omega (arith, h)
one_more_by false false x y xs ys h = omega (arith, h)

same_by : {A : Type 0} (t u : Test) (x y : A) (xs ys : List A) → (IsTrue u → IsTrue t) → length ys ≤ suc (length xs)
    → length (if u then y ∷ ys else ys) ≤ suc (length (if t then x ∷ xs else xs))
same_by true true x y xs ys f h = omega (arith, h)
same_by true false x y xs ys f h = omega (arith, h)
same_by false true x y xs ys f h = absurd (not_both false (f refl) refl)
same_by false false x y xs ys f h = h

-- where one entity becomes another, there is at most one static object more
pub one_more : (file : File) (es : List Entity) (n : ℕ) (e : Entity) (ds : List First) → AreOnce ds
    → many file (slice_set es n e) ds ≤ suc (many file es ds)
one_more file es n e [] h = omega arith
one_more file es n e (d ∷ rest) h = by (n == d.entity) refl (one_more file es n e rest h.1)
  where
    by : (test : Test) → (n == d.entity) ≡ test → many file (slice_set es n e) rest ≤ suc (many file es rest)
        → many file (slice_set es n e) (d ∷ rest) ≤ suc (many file es (d ∷ rest))
    by true same others =
        one_more_by (is_static file (entity_at es d.entity)) (is_static file (entity_at (slice_set es n e) d.entity))
        (static_of d (entity_at es d.entity)) (static_of d (entity_at (slice_set es n e) d.entity)) (statics_of file es rest)
        (statics_of file (slice_set es n e) rest)
        (no_more file es (slice_set es n e) rest
        (others_no_more file es n e rest (subst (λ m. IsFalse (is_declared_among m rest)) (sym (one_number n d.entity same)) h.0)))
    by false other others =
        same_by (is_static file (entity_at es d.entity)) (is_static file (entity_at (slice_set es n e) d.entity))
        (static_of d (entity_at es d.entity)) (static_of d (entity_at (slice_set es n e) d.entity)) (statics_of file es rest)
        (statics_of file (slice_set es n e) rest)
        (at_set (λ x. IsTrue (is_static file x) → IsTrue (is_static file (entity_at es d.entity))) es n e d.entity
        (λ q. absurd (not_both (n == d.entity) (same_number n d.entity (sym q)) other)) (λ s. s))
        others

-- ---- declarations

-- one that is declared and is no static object adds none
pub declared_adds_none : (file : File) (es : List Entity) (ds : List First) (d : First) → IsFalse (is_static file (entity_at es d.entity))
    → many file es (ds ++ d ∷ []) ≤ many file es ds
declared_adds_none file es [] d h = none (is_static file (entity_at es d.entity)) h
  where
    none : (test : Test) → IsFalse test → length (if test then static_of d (entity_at es d.entity) ∷ [] else []) ≤ 0
    none true e = absurd cc
    none false e = omega arith
declared_adds_none file es (x ∷ rest) d h =
    no_more_by (is_static file (entity_at es x.entity)) (is_static file (entity_at es x.entity))
    (static_of x (entity_at es x.entity)) (static_of x (entity_at es x.entity)) (statics_of file es rest) (statics_of file es (rest ++ d ∷ []))
    (λ s. s) (declared_adds_none file es rest d h)

or_true : (a : Test) → IsTrue (a || true)
or_true true = refl
or_true false = refl

or_left : (a b : Test) → IsTrue a → IsTrue (a || b)
or_left true b h = refl
or_left false b h = absurd cc

or_either : (a b c : Test) → (IsTrue b → IsTrue c) → IsTrue (a || b) → IsTrue (a || c)
or_either true b c f h = refl
or_either false b c f h = f h

pub among_more : (n : ℕ) (ds : List First) (d : First) → IsTrue (is_declared_among n ds) → IsTrue (is_declared_among n (ds ++ d ∷ []))
among_more n [] d h = absurd cc
among_more n (x ∷ rest) d h =
    or_either (n == x.entity) (is_declared_among n rest) (is_declared_among n (rest ++ d ∷ [])) (among_more n rest d) h

pub among_last : (ds : List First) (d : First) → IsTrue (is_declared_among d.entity (ds ++ d ∷ []))
among_last [] d = or_left (d.entity == d.entity) false (same_number d.entity d.entity refl)
among_last (x ∷ rest) d =
    or_either (d.entity == x.entity) true (is_declared_among d.entity (rest ++ d ∷ [])) (λ e. among_last rest d) (or_true (d.entity == x.entity))

not_among : (m : ℕ) (ds : List First) (d : First) → IsFalse (m == d.entity) → IsFalse (is_declared_among m ds)
    → IsFalse (is_declared_among m (ds ++ d ∷ []))
not_among m [] d e h = by (m == d.entity) e
  where
    by : (a : Test) → IsFalse a → IsFalse (a || false)
    by true f = absurd cc
    by false f = refl
not_among m (x ∷ rest) d e h =
    by (m == x.entity) (is_declared_among m (rest ++ d ∷ [])) (or_first (m == x.entity) (is_declared_among m rest) h)
    (not_among m rest d e (or_second (m == x.entity) (is_declared_among m rest) h))
  where
    by : (a b : Test) → IsFalse a → IsFalse b → IsFalse (a || b)
    by true b f g = absurd cc
    by false b f g = g

other_number : (m n : ℕ) → IsFalse (m == n) → IsFalse (n == m)
other_number m n h = grind (arith, nat_tests)

pub once_more : (ds : List First) (d : First) → AreOnce ds → IsFalse (is_declared_among d.entity ds) → AreOnce (ds ++ d ∷ [])
once_more [] d h f = (refl, tt)
once_more (x ∷ rest) d h f = (
  not_among x.entity rest d (other_number d.entity x.entity (or_first (d.entity == x.entity) (is_declared_among d.entity rest) f)) h.0,
  once_more rest d h.1 (or_second (d.entity == x.entity) (is_declared_among d.entity rest) f),
)
