-- How many cells the static objects of a file have in all, as entities are declared and defined.
use Rattle.std.proofs.Common.{◌≡◌, ℕ, zero, suc, ◌+◌, ◌==◌, ◌≤◌, Bool as Test, true, false, List, [], ◌∷◌, ◌++◌, length, refl, ap, sym, subst, sum_by, arith}
use Rattle.std.specs.Prelude.{◌&&◌, ◌||◌, if◌then◌else◌, IsTrue, IsFalse, slice_set}
use Rattle.std.proofs.lemmas.Bool.Decides.{nat_tests}
use Rattle.std.proofs.lemmas.List.Sums.{sum_by-append}
use Rattle.c_types.specs.Types.{cells_of}
use Rattle.c_typed.specs.declared.program.TextObject.{TextObject}
use Rattle.typing_rules.specs.Known.{File, Entity, First, no_entity, entity_at, is_declared_among}
use Rattle.typing_rules.specs.UnitRules.{is_defined_in, is_object}

-- ---- entities

-- an entity is another from now on: each is it, or as it was
pub at_set : (P : Entity → Type 0) (es : List Entity) (n : ℕ) (e : Entity) (m : ℕ) → (m ≡ n → P e) → P (entity_at es m) → P (entity_at (slice_set es n e) m)
at_set P [] n e m f p = p
at_set P (x ∷ es) zero e zero f p = f refl
at_set P (x ∷ es) zero e (suc m) f p = p
at_set P (x ∷ es) (suc n) e zero f p = p
at_set P (x ∷ es) (suc n) e (suc m) f p = at_set P es n e m (λ q. f (ap suc q)) p

pub set_twice : (es : List Entity) (n : ℕ) (f g : Entity → Entity)
    → slice_set (slice_set es n (f (entity_at es n))) n (g (entity_at (slice_set es n (f (entity_at es n))) n)) ≡ slice_set es n (g (f (entity_at es n)))
set_twice [] n f g = refl
set_twice (x ∷ es) zero f g = refl
set_twice (x ∷ es) (suc n) f g = ap (λ rest. x ∷ rest) (set_twice es n f g)

-- the entity itself, where there is one of that number
pub at_own : (P : Entity → Type 0) (es : List Entity) (n : ℕ) (h : Entity → Entity) → (P (h no_entity) → P no_entity) → P (h (entity_at es n))
    → P (entity_at (slice_set es n (h (entity_at es n))) n)
at_own P [] n h q p = q p
at_own P (x ∷ es) zero h q p = p
at_own P (x ∷ es) (suc n) h q p = at_own P es n h q p

-- a new entity behind the others
pub at_new : (P : Entity → Entity → Type 0) (es : List Entity) (e : Entity) (m : ℕ) → P no_entity e → ((x : Entity) → P x x)
    → P (entity_at es m) (entity_at (es ++ e ∷ []) m)
at_new P [] e zero n s = n
at_new P [] e (suc m) n s = s no_entity
at_new P (x ∷ es) e zero n s = s x
at_new P (x ∷ es) e (suc m) n s = at_new P es e m n s

pub at_last : (es : List Entity) (e : Entity) → entity_at (es ++ e ∷ []) (length es) ≡ e
at_last [] e = refl
at_last (x ∷ es) e = at_last es e

-- ---- their cells

abbrev pub is_static : File → Entity → Test
is_static file e = is_object e && is_defined_in file e.definition

-- the cells of an entity among the static objects of a file
abbrev pub own_cells : File → Entity → ℕ
own_cells file e = if is_static file e then cells_of e.type.type else 0

-- those of all that a file declares
abbrev pub all_cells : File → List Entity → List First → ℕ
all_cells file es [] = 0
all_cells file es (d ∷ rest) = own_cells file (entity_at es d.entity) + all_cells file es rest

pub own_no_more : (a b : Test) (m n : ℕ) → (IsTrue b → IsTrue a × (n ≤ m)) → (if b then n else 0) ≤ (if a then m else 0)
own_no_more true true m n f = (f refl).1
own_no_more true false m n f = omega arith
own_no_more false true m n f = absurd (let e = (f refl).0 in cc)
own_no_more false false m n f = omega arith

pub own_at_most : (a : Test) (m : ℕ) → (if a then m else 0) ≤ m
own_at_most true m = omega arith
own_at_most false m = omega arith

pub own_none : (a : Test) (m : ℕ) → IsFalse a → (if a then m else 0) ≡ 0
own_none true m h = absurd cc
own_none false m h = refl

pub no_more : (file : File) (es new : List Entity) (ds : List First)
    → ((m : ℕ) → own_cells file (entity_at new m) ≤ own_cells file (entity_at es m)) → all_cells file new ds ≤ all_cells file es ds
no_more file es new [] f = omega arith
no_more file es new (d ∷ rest) f =
    let one = f d.entity in
    let others = no_more file es new rest f in
    omega (arith, one, others)

-- ---- what a file declares

-- no entity is declared twice
abbrev pub AreOnce : List First → Type 0
AreOnce [] = Unit {0}
AreOnce (d ∷ rest) = IsFalse (is_declared_among d.entity rest) × AreOnce rest

same_number : (m n : ℕ) → m ≡ n → (m == n) ≡ true
same_number m n e = grind (arith, nat_tests)

one_number : (m n : ℕ) → (m == n) ≡ true → m ≡ n
one_number m n e = grind (arith, nat_tests)

other_number : (m n : ℕ) → IsFalse (m == n) → IsFalse (n == m)
other_number m n h = grind (arith, nat_tests)

or_first : (a b : Test) → IsFalse (a || b) → IsFalse a
or_first true b h = absurd cc
or_first false b h = refl

or_second : (a b : Test) → IsFalse (a || b) → IsFalse b
or_second true b h = absurd cc
or_second false b h = h

or_either : (a b c : Test) → (IsTrue b → IsTrue c) → IsTrue (a || b) → IsTrue (a || c)
or_either true b c f h = refl
or_either false b c f h = f h

or_none : (a b : Test) → IsFalse a → IsFalse b → IsFalse (a || b)
or_none true b f g = absurd cc
or_none false b f g = g

pub not_both : (a : Test) → IsTrue a → IsFalse a → ⊥
not_both a t f = absurd cc

-- an entity that is set has its own cells, and the others have theirs
set_other : (file : File) (es : List Entity) (n : ℕ) (e : Entity) (m : ℕ) → IsFalse (n == m)
    → own_cells file (entity_at (slice_set es n e) m) ≤ own_cells file (entity_at es m)
set_other file es n e m h =
    at_set (λ x. own_cells file x ≤ own_cells file (entity_at es m)) es n e m (λ q. absurd (not_both (n == m) (same_number n m (sym q)) h)) (omega arith)

others_no_more : (file : File) (es : List Entity) (n : ℕ) (e : Entity) (ds : List First) → IsFalse (is_declared_among n ds)
    → all_cells file (slice_set es n e) ds ≤ all_cells file es ds
others_no_more file es n e [] h = omega arith
others_no_more file es n e (d ∷ rest) h =
    let one = set_other file es n e d.entity (or_first (n == d.entity) (is_declared_among n rest) h) in
    let others = others_no_more file es n e rest (or_second (n == d.entity) (is_declared_among n rest) h) in
    omega (arith, one, others)

pub one_more : (file : File) (es : List Entity) (n : ℕ) (e : Entity) (ds : List First) → AreOnce ds
    → all_cells file (slice_set es n e) ds ≤ own_cells file e + all_cells file es ds
one_more file es n e [] h = omega arith
one_more file es n e (d ∷ rest) h = by (n == d.entity) refl (one_more file es n e rest h.1)
  where
    by : (test : Test) → (n == d.entity) ≡ test → all_cells file (slice_set es n e) rest ≤ own_cells file e + all_cells file es rest
        → all_cells file (slice_set es n e) (d ∷ rest) ≤ own_cells file e + all_cells file es (d ∷ rest)
    by true same others =
        let own : own_cells file (entity_at (slice_set es n e) d.entity) ≤ own_cells file e + own_cells file (entity_at es d.entity) =
        at_set (λ x. own_cells file x ≤ own_cells file e + own_cells file (entity_at es d.entity)) es n e d.entity (λ q. omega arith) (omega arith) in
        let rest_same = others_no_more file es n e rest (subst (λ m. IsFalse (is_declared_among m rest)) (sym (one_number n d.entity same)) h.0) in
        omega (arith, own, rest_same)
    by false other others =
        let own = set_other file es n e d.entity other in
        omega (arith, own, others)

-- one that is declared and is no static object adds none
pub declared_adds_none : (file : File) (es : List Entity) (ds : List First) (d : First) → IsFalse (is_static file (entity_at es d.entity))
    → all_cells file es (ds ++ d ∷ []) ≡ all_cells file es ds
declared_adds_none file es [] d h =
    let none = own_none (is_static file (entity_at es d.entity)) (cells_of (entity_at es d.entity).type.type) h in
    omega (arith, none)
declared_adds_none file es (x ∷ rest) d h = ap (λ n. own_cells file (entity_at es x.entity) + n) (declared_adds_none file es rest d h)

pub among_more : (n : ℕ) (ds : List First) (d : First) → IsTrue (is_declared_among n ds) → IsTrue (is_declared_among n (ds ++ d ∷ []))
among_more n [] d h = absurd cc
among_more n (x ∷ rest) d h =
    or_either (n == x.entity) (is_declared_among n rest) (is_declared_among n (rest ++ d ∷ [])) (among_more n rest d) h

pub among_last : (ds : List First) (d : First) → IsTrue (is_declared_among d.entity (ds ++ d ∷ []))
among_last [] d = first (d.entity == d.entity) (same_number d.entity d.entity refl)
  where
    first : (a : Test) → IsTrue a → IsTrue (a || false)
    first true h = refl
    first false h = absurd cc
among_last (x ∷ rest) d = or_else (d.entity == x.entity) (is_declared_among d.entity (rest ++ d ∷ [])) (among_last rest d)
  where
    or_else : (a b : Test) → IsTrue b → IsTrue (a || b)
    or_else true b h = refl
    or_else false b h = h

not_among : (m : ℕ) (ds : List First) (d : First) → IsFalse (m == d.entity) → IsFalse (is_declared_among m ds)
    → IsFalse (is_declared_among m (ds ++ d ∷ []))
not_among m [] d e h = or_none (m == d.entity) false e refl
not_among m (x ∷ rest) d e h =
    or_none (m == x.entity) (is_declared_among m (rest ++ d ∷ [])) (or_first (m == x.entity) (is_declared_among m rest) h)
    (not_among m rest d e (or_second (m == x.entity) (is_declared_among m rest) h))

pub once_more : (ds : List First) (d : First) → AreOnce ds → IsFalse (is_declared_among d.entity ds) → AreOnce (ds ++ d ∷ [])
once_more [] d h f = (refl, tt)
once_more (x ∷ rest) d h f = (
  not_among x.entity rest d (other_number d.entity x.entity (or_first (d.entity == x.entity) (is_declared_among d.entity rest) f)) h.0,
  once_more rest d h.1 (or_second (d.entity == x.entity) (is_declared_among d.entity rest) f),
)

-- ---- texts

-- a text has its bytes and a final 0 (C11 6.4.5p6)
abbrev pub text_cells : List TextObject → ℕ
text_cells ts = sum_by (λ t. length t.bytes + 1) ts

pub text_more : (ts : List TextObject) (t : TextObject) → text_cells (ts ++ t ∷ []) ≡ text_cells ts + suc (length t.bytes)
text_more ts t = let e = sum_by-append (λ x. length x.bytes + 1) ts (t ∷ []) in omega (arith, e)
