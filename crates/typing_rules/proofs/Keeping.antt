-- What keeps that the contents of each object fit its cells.
use Rattle.std.proofs.Common.{◌≡◌, ℕ, zero, suc, ◌≤◌, Bool as Test, true, false, List, [], ◌∷◌, ◌++◌, refl, sym, subst, Option, Some, None, inl, inr, arith}
use Rattle.std.specs.Prelude.{slice_set, if◌then◌else◌}
use Rattle.c_typed.specs.declared.program.StartCell.{StartCell}
use Rattle.c_types.specs.Types.{CType, void, integer, pointer, array, returning, taking, Qualified, composite, cells_of}
use Rattle.typing_rules.specs.Source.{Bytes}
use Rattle.typing_rules.specs.Known as known
use Rattle.typing_rules.specs.Known.{Known, Entity, no_entity, or_entity, entity_at, is_among, is_declared_among, File, undefined}
use Rattle.typing_rules.specs.DeclarationRules.{Defining, composed, declared_entity, with_definition}
use Rattle.typing_rules.specs.Holding.{Typing, Sequence, Is, Such, Given, Holds, Asks, Makes, Either, Never}
use Rattle.typing_rules.specs.Laws.{Each, AreWithin}

abbrev pub IsFit : Entity → Type 0
IsFit e = AreWithin (cells_of e.type.type) e.contents

abbrev pub AreFit : List Entity → Type 0
AreFit entities = Each IsFit entities

pub record Keeps {A : Type 0} (R : Typing A) : Type 0 where
  pub kept : (x : A) (k l : Known) → R x k l → AreFit k.entities → AreFit l.entities

-- ---- parts

pub keeps_is : {A : Type 0} {a : A} → Keeps (Is a)
keeps_is = record { kept = λ x k l h fit. subst (λ m. AreFit m.entities) (sym h.1) fit }

pub keeps_such : {A : Type 0} {P : A → Type 0} → Keeps (Such P)
keeps_such = record { kept = λ x k l h fit. subst (λ m. AreFit m.entities) (sym h.1) fit }

pub keeps_given : {P : Type 0} → Keeps (Given P)
keeps_given = record { kept = λ x k l h fit. subst (λ m. AreFit m.entities) (sym h.1) fit }

pub keeps_holds : {P : Known → Type 0} → Keeps (Holds P)
keeps_holds = record { kept = λ x k l h fit. subst (λ m. AreFit m.entities) (sym h.1) fit }

pub keeps_asks : {A : Type 0} {f : Known → A} → Keeps (Asks f)
keeps_asks = record { kept = λ x k l h fit. subst (λ m. AreFit m.entities) (sym h.1) fit }

pub keeps_never : {A : Type 0} → Keeps (Never {A = A})
keeps_never = record { kept = λ x k l h fit. absurd h }

pub keeps_changed : {f : Known → Known} → ((k : Known) → AreFit k.entities → AreFit (f k).entities) → Keeps (Makes f)
keeps_changed g = record { kept = λ x k l h fit. subst (λ m. AreFit m.entities) (sym h) (g k fit) }

pub keeps_makes : {f : Known → Known} → ((k : Known) → (f k).entities ≡ k.entities) → Keeps (Makes f)
keeps_makes g = keeps_changed (λ k fit. subst AreFit (sym (g k)) fit)

pub keeps_bind : {A B : Type 0} {S : Typing A} {T : A → Typing B} → Keeps S → ((a : A) → Keeps (T a)) → Keeps (Sequence S T)
keeps_bind s t = record { kept = λ x k l h fit. (t h.of).kept x h.between l h.second (s.kept h.of k h.between h.first fit) }

pub keeps_such_then : {A B : Type 0} {P : A → Type 0} {T : A → Typing B} → ((a : A) → P a → Keeps (T a)) → Keeps (Sequence (Such P) T)
keeps_such_then t = record { kept = λ x k l h fit. (t h.of h.first.0).kept x h.between l h.second (subst (λ m. AreFit m.entities) (sym h.first.1) fit) }

pub keeps_either : {A : Type 0} {test : Test} {S T : Typing A} → Keeps S → Keeps T → Keeps (Either test S T)
keeps_either s t = record { kept = λ x k l h fit. elim h [ inl p ↦ s.kept x k l p.1 fit | inr p ↦ t.kept x k l p.1 fit ] }

-- ---- what becomes known

type_kept : (test : Test) (k m : Known) → m.entities ≡ k.entities → (if test then k else m).entities ≡ k.entities
type_kept true k m e = refl
type_kept false k m e = e

pub keeps_type : (t : CType) → Keeps (Makes (known.with_type t))
keeps_type t = keeps_makes (λ k. type_kept (is_among t k.types) k _ refl)

pub keeps_first : (n line : ℕ) → Keeps (Makes (known.declared_first n line))
keeps_first n line = keeps_makes (λ k. type_kept (is_declared_among n k.declared) k _ refl)

-- ---- entities

pub each_append : {A : Type 0} (P : A → Type 0) (xs ys : List A) → Each P xs → Each P ys → Each P (xs ++ ys)
each_append P [] ys h k = k
each_append P (x ∷ xs) ys h k = (h.0, each_append P xs ys h.1 k)

pub each_set : {A : Type 0} (P : A → Type 0) (xs : List A) (n : ℕ) (y : A) → P y → Each P xs → Each P (slice_set xs n y)
each_set P [] n y p h = h
each_set P (x ∷ xs) zero y p h = (p, h.1)
each_set P (x ∷ xs) (suc n) y p h = (h.0, each_set P xs n y p h.1)

pub entity_fits : (entities : List Entity) (n : ℕ) → AreFit entities → IsFit (entity_at entities n)
entity_fits [] n fit = tt
entity_fits (e ∷ rest) zero fit = fit.0
entity_fits (e ∷ rest) (suc n) fit = entity_fits rest n fit.1

pub within_more : (m n : ℕ) (cells : List StartCell) → m ≤ n → AreWithin m cells → AreWithin n cells
within_more m n [] h fit = tt
within_more m n (c ∷ rest) h fit = (omega (arith, fit.0), within_more m n rest h fit.1)

-- a type that is completed has no fewer cells
pub composite_more : (a b : CType) → cells_of a ≤ cells_of (composite a b)
composite_more void b = omega arith
composite_more (integer ty) b = omega arith
composite_more (pointer q t) b = omega arith
composite_more (array q t None) b = omega arith
composite_more (array q t (Some n)) b = omega arith
composite_more (returning q t) b = omega arith
composite_more (taking p t) b = omega arith

again_fits : (e : Entity) (type : Qualified) → IsFit e → IsFit (record e { type = composed e.type type })
again_fits e type fit = within_more _ _ e.contents (composite_more e.type.type type.type) fit

pub keeps_entity : (old : Option ℕ) (bytes : Bytes) (type : Qualified) (external : Test) → Keeps (Makes (declared_entity old bytes type external))
keeps_entity None bytes type external = keeps_changed (λ k fit. each_append IsFit k.entities _ fit (tt, tt))
keeps_entity (Some n) bytes type external =
    keeps_changed (λ k fit. each_set IsFit k.entities n _ (again_fits (entity_at k.entities n) type (entity_fits k.entities n fit)) fit)

pub keeps_definition : (how : Defining) (n : ℕ) → Keeps (Makes (with_definition how n))
keeps_definition how n = keeps_changed (λ k fit. each_set IsFit k.entities n _ (entity_fits k.entities n fit) fit)
