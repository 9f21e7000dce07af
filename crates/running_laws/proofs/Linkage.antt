-- What is kept of objects and functions with linkage: each object that is defined is complete, and its file declares it once.
use Rattle.std.proofs.Common.{◌≡◌, ℕ, zero, suc, ◌≤◌, Bool as Test, true, false, List, [], ◌∷◌, ◌++◌, length, refl, sym, subst, Some, None, arith}
use Rattle.std.specs.Prelude.{◌&&◌, IsTrue, IsFalse, slice_set}
use Rattle.c_typed.specs.declared.program.StartCell.{StartCell}
use Rattle.c_types.specs.Types.{CType, void, integer, pointer, array, returning, taking, Qualified, is_function, is_complete, same_type, same_qualifiers, are_for_one, may_be_one, composite}
use Rattle.typing_rules.specs.Known as known
use Rattle.typing_rules.specs.Known.{File, main_file, binary_file, Entity, First, Meaning, Scope, Linked, no_entity, entity_at, is_declared_among}
use Rattle.typing_rules.specs.DeclarationRules.{is_undefined}
use Rattle.typing_rules.specs.UnitRules.{is_defined_in}
use Rattle.typing_rules.specs.Laws.{Each}
use Rattle.typing_rules.proofs.Keeping.{each_append, each_set}
use Rattle.running_laws.proofs.Tests.{not_both, and_second}
use Rattle.running_laws.proofs.Ready.{Frame}
use Rattle.running_laws.proofs.StartsRun.{StartFits}
use Rattle.running_laws.proofs.StaticsCounted.{is_static, many, AreOnce, at_set, no_more, each_no_more, one_more, declared_adds_none, among_more, once_more}

-- ---- what is kept

-- an object that is defined somewhere has a complete type
abbrev pub IsWhole : Entity → Type 0
IsWhole e = IsFalse (is_undefined e.definition) → IsFalse (is_function e.type.type) → IsTrue (is_complete e.type.type)

abbrev pub Fit : List StartCell → Type 0
Fit cells = Each (λ c. StartFits c.start) cells

abbrev pub StartsFit : Entity → Type 0
StartsFit e = Fit e.contents

-- where a name has a complete type, so has its entity
abbrev pub IsKnownWhole : List Entity → Meaning → Type 0
IsKnownWhole es (known.local n) = Unit {0}
IsKnownWhole es (known.linked n type) = IsTrue (is_complete type.type) → IsTrue (is_complete (entity_at es n).type.type)
IsKnownWhole es (known.predeclared p) = Unit {0}
IsKnownWhole es (known.constant n) = Unit {0}

abbrev pub AreKnownWhole : List Entity → Scope → Type 0
AreKnownWhole es scope = Each (λ d. IsKnownWhole es d.1) scope

-- an entity that is not defined in the binary file
abbrev pub IsInMain : Entity → Type 0
IsInMain e = IsFalse (is_defined_in binary_file e.definition)

pub record Linkage (which : File) (counted : ℕ) (file : File) (es : List Entity) (ds : List First) (scope : Scope) : Type 0 where
  pub statics : many file es ds ≤ counted
  pub once : AreOnce ds
  -- the file declares what it defines
  pub among : (n : ℕ) → IsTrue (is_defined_in file (entity_at es n).definition) → IsTrue (is_declared_among n ds)
  pub whole : Each IsWhole es
  pub named : AreKnownWhole es scope
  pub starts : Each StartsFit es
  -- it is the main file or the binary file, and nothing is defined in the binary file before that begins
  pub file_is : file ≡ which
  pub here : which ≡ main_file → Each IsInMain es

-- while a function or an object is typed: how many functions and static objects the file has
abbrev pub frame : File → ℕ → ℕ → Frame
frame which functions counted = record { functions = functions; statics = counted; linkage = Linkage which counted }

-- ---- types of more than one declaration

pub composite_function : (a b : CType) → IsTrue (is_function a) → IsTrue (is_function (composite a b))
composite_function void b h = h
composite_function (integer ty) b h = h
composite_function (pointer q t) b h = h
composite_function (array q t None) b h = absurd cc
composite_function (array q t (Some n)) b h = h
composite_function (returning q t) b h = h
composite_function (taking p t) b h = h

pub composite_complete : (a b : CType) → IsTrue (is_complete a) → IsTrue (is_complete (composite a b))
composite_complete void b h = h
composite_complete (integer ty) b h = h
composite_complete (pointer q t) b h = h
composite_complete (array q t None) b h = absurd cc
composite_complete (array q t (Some n)) b h = h
composite_complete (returning q t) b h = h
composite_complete (taking p t) b h = h

-- declarations of one object, of which the second has a complete type
pub one_complete : (a b : CType) → IsTrue (are_for_one a b) → IsTrue (is_complete b) → IsTrue (is_complete (composite a b))
unfolding same_type
one_complete void void h c = absurd cc
one_complete void (integer ty) h c = absurd cc
one_complete void (pointer q t) h c = absurd cc
one_complete void (array q t n) h c = absurd cc
one_complete void (returning q t) h c = absurd cc
one_complete void (taking p t) h c = absurd cc
one_complete (integer ty) b h c = refl
one_complete (pointer q t) b h c = refl
one_complete (array q t None) b h c = c
one_complete (array q t (Some n)) b h c = refl
one_complete (returning q t) void h c = absurd cc
one_complete (returning q t) (integer ty) h c = absurd cc
one_complete (returning q t) (pointer r u) h c = absurd cc
one_complete (returning q t) (array r u n) h c = absurd cc
one_complete (returning q t) (returning r u) h c = absurd cc
one_complete (returning q t) (taking r u) h c = absurd cc
one_complete (taking p t) void h c = absurd cc
one_complete (taking p t) (integer ty) h c = absurd cc
one_complete (taking p t) (pointer r u) h c = absurd cc
one_complete (taking p t) (array r u n) h c = absurd cc
one_complete (taking p t) (returning r u) h c = absurd cc
one_complete (taking p t) (taking r u) h c = absurd cc

-- of which the second is a function
pub one_function : (a b : CType) → IsTrue (are_for_one a b) → IsTrue (is_function b) → IsTrue (is_function (composite a b))
unfolding same_type
one_function void void h f = absurd cc
one_function void (integer ty) h f = absurd cc
one_function void (pointer q t) h f = absurd cc
one_function void (array q t n) h f = absurd cc
one_function void (returning q t) h f = absurd cc
one_function void (taking p t) h f = absurd cc
one_function (integer ty) void h f = absurd cc
one_function (integer ty) (integer r) h f = absurd cc
one_function (integer ty) (pointer q t) h f = absurd cc
one_function (integer ty) (array q t n) h f = absurd cc
one_function (integer ty) (returning q t) h f = absurd cc
one_function (integer ty) (taking p t) h f = absurd cc
one_function (pointer r u) void h f = absurd cc
one_function (pointer r u) (integer ty) h f = absurd cc
one_function (pointer r u) (pointer q t) h f = absurd cc
one_function (pointer r u) (array q t n) h f = absurd cc
one_function (pointer r u) (returning q t) h f = absurd cc
one_function (pointer r u) (taking p t) h f = absurd cc
one_function (array r u None) b h f = f
one_function (array r u (Some m)) void h f = absurd cc
one_function (array r u (Some m)) (integer ty) h f = absurd cc
one_function (array r u (Some m)) (pointer q t) h f = absurd cc
one_function (array r u (Some m)) (array q t n) h f = absurd cc
one_function (array r u (Some m)) (returning q t) h f = absurd cc
one_function (array r u (Some m)) (taking p t) h f = absurd cc
one_function (returning q t) b h f = refl
one_function (taking p t) b h f = refl

pub may_be_complete : (a b : Qualified) → IsTrue (may_be_one a b) → IsTrue (is_complete b.type) → IsTrue (is_complete (composite a.type b.type))
may_be_complete a b h c =
    one_complete a.type b.type (and_second (same_qualifiers a.qualifiers b.qualifiers) (are_for_one a.type b.type) h) c

pub may_be_function : (a b : Qualified) → IsTrue (may_be_one a b) → IsTrue (is_function b.type) → IsTrue (is_function (composite a.type b.type))
may_be_function a b h f =
    one_function a.type b.type (and_second (same_qualifiers a.qualifiers b.qualifiers) (are_for_one a.type b.type) h) f

-- where the type of a name may be completed, so is that of its entity
pub composite_both : (l e t : CType) → (IsTrue (is_complete l) → IsTrue (is_complete e)) → (IsTrue (is_complete t) → IsTrue (is_complete (composite e t)))
    → IsTrue (is_complete (composite l t)) → IsTrue (is_complete (composite e t))
composite_both void e t f g h = composite_complete e t (f h)
composite_both (integer ty) e t f g h = composite_complete e t (f h)
composite_both (pointer q u) e t f g h = composite_complete e t (f h)
composite_both (array q u None) e t f g h = g h
composite_both (array q u (Some n)) e t f g h = composite_complete e t (f h)
composite_both (returning q u) e t f g h = composite_complete e t (f h)
composite_both (taking p u) e t f g h = composite_complete e t (f h)

-- ---- changes of entities

-- an entity after more declarations: it stays a function, and complete
pub record Grows (e after : Entity) : Type 0 where
  pub function : IsTrue (is_function e.type.type) → IsTrue (is_function after.type.type)
  pub complete : IsTrue (is_complete e.type.type) → IsTrue (is_complete after.type.type)

pub grows_itself : (e : Entity) → Grows e e
grows_itself e = record { function = λ h. h; complete = λ h. h }

pub known_grows : (es new : List Entity) (scope : Scope) → ((m : ℕ) → Grows (entity_at es m) (entity_at new m)) → AreKnownWhole es scope
    → AreKnownWhole new scope
known_grows es new [] g h = tt
known_grows es new (d ∷ rest) g h = (one d.1 h.0, known_grows es new rest g h.1)
  where
    one : (m : Meaning) → IsKnownWhole es m → IsKnownWhole new m
    one (known.local n) k = tt
    one (known.linked n type) k = λ c. (g n).complete (k c)
    one (known.predeclared p) k = tt
    one (known.constant n) k = tt

-- a new entity behind the others
pub at_new : (P : Entity → Entity → Type 0) (es : List Entity) (e : Entity) (m : ℕ) → P no_entity e → ((x : Entity) → P x x)
    → P (entity_at es m) (entity_at (es ++ e ∷ []) m)
at_new P [] e zero n s = n
at_new P [] e (suc m) n s = s no_entity
at_new P (x ∷ es) e zero n s = s x
at_new P (x ∷ es) e (suc m) n s = at_new P es e m n s

pub at_last : (es : List Entity) (e : Entity) → entity_at (es ++ e ∷ []) (length es) ≡ e
at_last [] e = refl
at_last (x ∷ es) e = at_last es e

-- an entity that is declared, with a definition and contents as it had
pub linkage_set : (which : File) (counted : ℕ) (file : File) (es : List Entity) (ds : List First) (scope : Scope) (n : ℕ) (e : Entity)
    → Linkage which counted file es ds scope
    → (IsTrue (is_static file e) → IsTrue (is_static file (entity_at es n))) → (IsTrue (is_defined_in file e.definition) → IsTrue (is_declared_among n ds))
    → Grows (entity_at es n) e → IsWhole e → StartsFit e → (which ≡ main_file → IsInMain e) → Linkage which counted file (slice_set es n e) ds scope
linkage_set which counted file es ds scope n e l still among grows whole starts main = record {
  statics =
      let few = no_more file es (slice_set es n e) ds (each_no_more file es (slice_set es n e) ds (λ m.
      at_set (λ x. IsTrue (is_static file x) → IsTrue (is_static file (entity_at es m))) es n e m
      (λ q s. subst (λ i. IsTrue (is_static file (entity_at es i))) (sym q) (still s)) (λ s. s))) in
      let before = l.statics in
      omega (arith, few, before);
  once = l.once;
  among = λ m. at_set (λ x. IsTrue (is_defined_in file x.definition) → IsTrue (is_declared_among m ds)) es n e m
      (λ q s. subst (λ i. IsTrue (is_declared_among i ds)) (sym q) (among s)) (l.among m);
  whole = each_set IsWhole es n e whole l.whole;
  named = known_grows es (slice_set es n e) scope (λ m. at_set (Grows (entity_at es m)) es n e m
      (λ q. subst (λ i. Grows (entity_at es i) e) (sym q) grows) (grows_itself (entity_at es m))) l.named;
  starts = each_set StartsFit es n e starts l.starts;
  file_is = l.file_is;
  here = λ m. each_set IsInMain es n e (main m) (l.here m);
}

-- the same where it may become a static object
pub linkage_more : (which : File) (counted : ℕ) (file : File) (es : List Entity) (ds : List First) (scope : Scope) (n : ℕ) (e : Entity)
    → Linkage which counted file es ds scope
    → IsTrue (is_declared_among n ds) → Grows (entity_at es n) e → IsWhole e → StartsFit e → (which ≡ main_file → IsInMain e)
    → Linkage which (suc counted) file (slice_set es n e) ds scope
linkage_more which counted file es ds scope n e l among grows whole starts main = record {
  statics =
      let few = one_more file es n e ds l.once in
      let before = l.statics in
      omega (arith, few, before);
  once = l.once;
  among = λ m. at_set (λ x. IsTrue (is_defined_in file x.definition) → IsTrue (is_declared_among m ds)) es n e m
      (λ q s. subst (λ i. IsTrue (is_declared_among i ds)) (sym q) among) (l.among m);
  whole = each_set IsWhole es n e whole l.whole;
  named = known_grows es (slice_set es n e) scope (λ m. at_set (Grows (entity_at es m)) es n e m
      (λ q. subst (λ i. Grows (entity_at es i) e) (sym q) grows) (grows_itself (entity_at es m))) l.named;
  starts = each_set StartsFit es n e starts l.starts;
  file_is = l.file_is;
  here = λ m. each_set IsInMain es n e (main m) (l.here m);
}

-- a new entity that is not defined
pub linkage_new : (which : File) (counted : ℕ) (file : File) (es : List Entity) (ds : List First) (scope : Scope) (e : Entity)
    → Linkage which counted file es ds scope
    → e.definition ≡ known.undefined → e.contents ≡ [] → Linkage which counted file (es ++ e ∷ []) ds scope
linkage_new which counted file es ds scope e l undefined empty =
    let nowhere : IsTrue (is_defined_in file e.definition) → ⊥ =
    λ s. absurd (false_is_true (subst (λ d. IsTrue (is_defined_in file d)) undefined s)) in
    let unchanged : (x : Entity) → IsTrue (is_defined_in file x.definition) → IsTrue (is_defined_in file x.definition) = λ x s. s in
    record {
      statics =
          let few = no_more file es (es ++ e ∷ []) ds (each_no_more file es (es ++ e ∷ []) ds (λ m.
          at_new (λ x y. IsTrue (is_static file y) → IsTrue (is_static file x)) es e m
          (λ s. absurd (nowhere (and_second (_) (is_defined_in file e.definition) s))) (λ x s. s))) in
          let before = l.statics in
          omega (arith, few, before);
      once = l.once;
      among = λ m s. l.among m (at_new (λ x y. IsTrue (is_defined_in file y.definition) → IsTrue (is_defined_in file x.definition)) es e m
          (λ s'. absurd (nowhere s')) unchanged s);
      whole = each_append IsWhole es (e ∷ []) l.whole
          ((λ u f. absurd (false_is_true (sym (subst (λ d. IsFalse (is_undefined d)) undefined u)))), tt);
      named = known_grows es (es ++ e ∷ []) scope (λ m. at_new Grows es e m
          (record { function = λ h. absurd (false_is_true h); complete = λ h. absurd (false_is_true h) }) grows_itself) l.named;
      starts = each_append StartsFit es (e ∷ []) l.starts (subst Fit (sym empty) tt, tt);
      file_is = l.file_is;
      here = λ m. each_append IsInMain es (e ∷ []) (l.here m) (subst (λ d. IsFalse (is_defined_in binary_file d)) (sym undefined) refl, tt);
    }
  where
    false_is_true : IsTrue false → ⊥
    false_is_true e = cc

-- ---- declarations

static_is_defined : (a b : Test) → (IsTrue b → ⊥) → IsFalse (a && b)
static_is_defined true true f = absurd (f refl)
static_is_defined true false f = refl
static_is_defined false b f = refl

-- the file declares an entity that it did not declare before
pub linkage_declared : (which : File) (counted : ℕ) (file : File) (es : List Entity) (ds : List First) (scope : Scope) (d : First)
    → Linkage which counted file es ds scope
    → IsFalse (is_declared_among d.entity ds) → Linkage which counted file es (ds ++ d ∷ []) scope
linkage_declared which counted file es ds scope d l new = record {
  statics =
      let few = declared_adds_none file es ds d (static_is_defined _ (is_defined_in file (entity_at es d.entity).definition)
      (λ s. not_both (is_declared_among d.entity ds) (l.among d.entity s) new)) in
      let before = l.statics in
      omega (arith, few, before);
  once = once_more ds d l.once new;
  among = λ n s. among_more n ds d (l.among n s);
  whole = l.whole;
  named = l.named;
  starts = l.starts;
  file_is = l.file_is;
  here = l.here;
}

-- a name of the file's scope
pub linkage_named : (which : File) (counted : ℕ) (file : File) (es : List Entity) (ds : List First) (scope : Scope) (name : List ℕ) (m : Meaning)
    → Linkage which counted file es ds scope → IsKnownWhole es m → Linkage which counted file es ds ((name, m) ∷ scope)
linkage_named which counted file es ds scope name m l h =
    record {
      statics = l.statics;
      once = l.once;
      among = l.among;
      whole = l.whole;
      named = (h, l.named);
      starts = l.starts;
      file_is = l.file_is;
      here = l.here;
    }
