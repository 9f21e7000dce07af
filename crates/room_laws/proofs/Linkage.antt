-- What is kept of objects and functions with linkage: each static object is complete, its file declares it once, and it has
-- as many cells as its names say.
use Rattle.std.proofs.Common.{◌≡◌, ℕ, ◌≤◌, Bool as Test, true, false, List, [], ◌∷◌, ◌++◌, refl, sym, subst, arith}
use Rattle.std.specs.Prelude.{◌&&◌, not, IsTrue, IsFalse, slice_set}
use Rattle.c_types.specs.Types.{is_function, is_complete, cells_of}
use Rattle.typing_rules.specs.Known as known
use Rattle.typing_rules.specs.Known.{File, main_file, binary_file, Entity, First, Meaning, Scope, no_entity, entity_at, is_declared_among}
use Rattle.typing_rules.specs.UnitRules.{is_defined_in, is_object}
use Rattle.typing_rules.specs.Laws.{Each}
use Rattle.room_laws.proofs.TypesCovered.{Covers, and_second, covers_itself, covers_through}
use Rattle.room_laws.proofs.StaticsTotal.{at_set, at_new, is_static, own_cells, all_cells, own_no_more, no_more, AreOnce, not_both, among_more, once_more}

-- ---- what is kept

-- where a name has a complete type, its entity has as many cells
abbrev pub IsCovered : List Entity → Meaning → Type 0
IsCovered es (known.local n) = Unit {0}
IsCovered es (known.linked n type) = IsTrue (is_complete type.type) → Covers type.type (entity_at es n).type.type
IsCovered es (known.predeclared p) = Unit {0}
IsCovered es (known.constant n) = Unit {0}

abbrev pub AreCovered : List Entity → Scope → Type 0
AreCovered es scope = Each (λ d. IsCovered es d.1) scope

pub record Linkage (which : File) (es : List Entity) (ds : List First) (scope : Scope) : Type 0 where
  pub once : AreOnce ds
  -- the file declares what it defines
  pub among : (n : ℕ) → IsTrue (is_defined_in which (entity_at es n).definition) → IsTrue (is_declared_among n ds)
  pub whole : (n : ℕ) → IsTrue (is_static which (entity_at es n)) → IsTrue (is_complete (entity_at es n).type.type)
  pub named : AreCovered es scope
  -- nothing is defined in the binary file before that begins
  pub here : which ≡ main_file → (n : ℕ) → IsFalse (is_defined_in binary_file (entity_at es n).definition)

-- ---- changes of entities

-- an entity after more declarations: it stays a function, and has as many cells
pub record Grows (e after : Entity) : Type 0 where
  pub function : IsTrue (is_function e.type.type) → IsTrue (is_function after.type.type)
  pub covers : IsTrue (is_complete e.type.type) → Covers e.type.type after.type.type

pub grows_itself : (e : Entity) → Grows e e
grows_itself e = record { function = λ h. h; covers = λ h. covers_itself e.type.type h }

object_before : (before after is_defined was_defined : Test) → (IsTrue before → IsTrue after) → (IsTrue is_defined → IsTrue was_defined)
    → IsTrue (not after && is_defined) → IsTrue (not before && was_defined)
object_before true true d e f g h = absurd cc
object_before true false d e f g h = absurd (not_both false (f refl) refl)
object_before false true d e f g h = absurd cc
object_before false false d e f g h = g h

-- a static object that grows has no more cells
pub grown_no_more : (file : File) (e after : Entity) → Grows e after
    → (IsTrue (is_defined_in file after.definition) → IsTrue (is_defined_in file e.definition))
    → (IsTrue (is_static file e) → IsTrue (is_complete e.type.type)) → own_cells file after ≤ own_cells file e
grown_no_more file e after g still whole =
    own_no_more (is_static file e) (is_static file after) (cells_of e.type.type) (cells_of after.type.type) (λ s.
    let before = object_before (is_function e.type.type) (is_function after.type.type) (is_defined_in file after.definition)
    (is_defined_in file e.definition) g.function still s in
    let same = (g.covers (whole before)).cells in
    (before, omega (arith, same)))

pub grown_whole : (file : File) (e after : Entity) → Grows e after
    → (IsTrue (is_defined_in file after.definition) → IsTrue (is_defined_in file e.definition))
    → (IsTrue (is_static file e) → IsTrue (is_complete e.type.type)) → IsTrue (is_static file after) → IsTrue (is_complete after.type.type)
grown_whole file e after g still whole s =
    (g.covers (whole (object_before (is_function e.type.type) (is_function after.type.type) (is_defined_in file after.definition)
    (is_defined_in file e.definition) g.function still s))).complete

pub set_no_more : (file : File) (es : List Entity) (n : ℕ) (e : Entity) (ds : List First) → own_cells file e ≤ own_cells file (entity_at es n)
    → all_cells file (slice_set es n e) ds ≤ all_cells file es ds
set_no_more file es n e ds h =
    no_more file es (slice_set es n e) ds (λ m. at_set (λ x. own_cells file x ≤ own_cells file (entity_at es m)) es n e m
    (λ q. subst (λ i. own_cells file e ≤ own_cells file (entity_at es i)) (sym q) h) (omega arith))

covered_grows : (es new : List Entity) (scope : Scope) → ((m : ℕ) → Grows (entity_at es m) (entity_at new m)) → AreCovered es scope
    → AreCovered new scope
covered_grows es new [] g h = tt
covered_grows es new (d ∷ rest) g h = (one d.1 h.0, covered_grows es new rest g h.1)
  where
    one : (m : Meaning) → IsCovered es m → IsCovered new m
    one (known.local n) k = tt
    one (known.linked n type) k = λ c.
        let before = k c in
        covers_through type.type (entity_at es n).type.type (entity_at new n).type.type before ((g n).covers before.complete)
    one (known.predeclared p) k = tt
    one (known.constant n) k = tt

-- an entity that the file declares where it defines it
pub linkage_set : (which : File) (es : List Entity) (ds : List First) (scope : Scope) (n : ℕ) (e : Entity) → Linkage which es ds scope
    → (IsTrue (is_defined_in which e.definition) → IsTrue (is_declared_among n ds)) → Grows (entity_at es n) e
    → (IsTrue (is_static which e) → IsTrue (is_complete e.type.type)) → (which ≡ main_file → IsFalse (is_defined_in binary_file e.definition))
    → Linkage which (slice_set es n e) ds scope
linkage_set which es ds scope n e l among grows whole main = record {
  once = l.once;
  among = λ m. at_set (λ x. IsTrue (is_defined_in which x.definition) → IsTrue (is_declared_among m ds)) es n e m
      (λ q s. subst (λ i. IsTrue (is_declared_among i ds)) (sym q) (among s)) (l.among m);
  whole = λ m. at_set (λ x. IsTrue (is_static which x) → IsTrue (is_complete x.type.type)) es n e m (λ q. whole) (l.whole m);
  named = covered_grows es (slice_set es n e) scope (λ m. at_set (Grows (entity_at es m)) es n e m
      (λ q. subst (λ i. Grows (entity_at es i) e) (sym q) grows) (grows_itself (entity_at es m))) l.named;
  here = λ i m. at_set (λ x. IsFalse (is_defined_in binary_file x.definition)) es n e m (λ q. main i) (l.here i m);
}

false_is_true : IsTrue false → ⊥
false_is_true e = cc

nowhere : (file : File) (e : Entity) → e.definition ≡ known.undefined → IsTrue (is_defined_in file e.definition) → ⊥
nowhere file e undefined s = false_is_true (subst (λ d. IsTrue (is_defined_in file d)) undefined s)

pub new_no_more : (file : File) (es : List Entity) (e : Entity) (ds : List First) → e.definition ≡ known.undefined
    → all_cells file (es ++ e ∷ []) ds ≤ all_cells file es ds
new_no_more file es e ds undefined =
    no_more file es (es ++ e ∷ []) ds (λ m. at_new (λ x y. own_cells file y ≤ own_cells file x) es e m
    (own_no_more false (is_static file e) 0 (cells_of e.type.type)
    (λ s. absurd (nowhere file e undefined (and_second (is_object e) (is_defined_in file e.definition) s)))) (λ x. omega arith))

-- a new entity that is not defined
pub linkage_new : (which : File) (es : List Entity) (ds : List First) (scope : Scope) (e : Entity) → Linkage which es ds scope
    → e.definition ≡ known.undefined → Linkage which (es ++ e ∷ []) ds scope
linkage_new which es ds scope e l undefined = record {
  once = l.once;
  among = λ m s. l.among m (at_new (λ x y. IsTrue (is_defined_in which y.definition) → IsTrue (is_defined_in which x.definition)) es e m
      (λ s'. absurd (nowhere which e undefined s')) (λ x s'. s') s);
  whole = λ m. at_new (λ x y. (IsTrue (is_static which x) → IsTrue (is_complete x.type.type)) → IsTrue (is_static which y)
      → IsTrue (is_complete y.type.type)) es e m
      (λ f s. absurd (nowhere which e undefined (and_second (is_object e) (is_defined_in which e.definition) s))) (λ x f. f) (l.whole m);
  named = covered_grows es (es ++ e ∷ []) scope (λ m. at_new Grows es e m
      (record { function = λ h. absurd (false_is_true h); covers = λ h. absurd (false_is_true h) }) grows_itself) l.named;
  here = λ i m. at_new (λ x y. IsFalse (is_defined_in binary_file x.definition) → IsFalse (is_defined_in binary_file y.definition)) es e m
      (λ f. subst (λ d. IsFalse (is_defined_in binary_file d)) (sym undefined) refl) (λ x f. f) (l.here i m);
}

-- ---- declarations

pub not_static : (a b : Test) → (IsTrue b → ⊥) → IsFalse (a && b)
not_static true true f = absurd (f refl)
not_static true false f = refl
not_static false b f = refl

-- the file declares an entity that it did not declare before
pub linkage_declared : (which : File) (es : List Entity) (ds : List First) (scope : Scope) (d : First) → Linkage which es ds scope
    → IsFalse (is_declared_among d.entity ds) → Linkage which es (ds ++ d ∷ []) scope
linkage_declared which es ds scope d l new = record {
  once = once_more ds d l.once new;
  among = λ n s. among_more n ds d (l.among n s);
  whole = l.whole;
  named = l.named;
  here = l.here;
}

-- a name of the file's scope
pub linkage_named : (which : File) (es : List Entity) (ds : List First) (scope : Scope) (name : List ℕ) (m : Meaning) → Linkage which es ds scope
    → IsCovered es m → Linkage which es ds ((name, m) ∷ scope)
linkage_named which es ds scope name m l h =
    record { once = l.once; among = l.among; whole = l.whole; named = (h, l.named); here = l.here }
