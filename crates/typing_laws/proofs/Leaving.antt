-- What leaves as it is what is known of objects and functions with linkage.
use Rattle.std.proofs.Common.{◌≡◌, Bool as Test, true, false, refl, ap, ◌∙◌, inl, inr}
use Rattle.std.specs.Prelude.{if◌then◌else◌}
use Rattle.c_types.specs.Types.{CType}
use Rattle.typing_rules.specs.Known as known
use Rattle.typing_rules.specs.Known.{Known, Entity, is_among}
use Rattle.typing_rules.specs.Holding.{Typing, Sequence, Is, Such, Given, Holds, Asks, Makes, Either, Never}

pub record Leaves {A : Type 0} (R : Typing A) : Type 0 where
  pub left : (x : A) (k l : Known) → R x k l → l.entities ≡ k.entities

pub leaves_is : {A : Type 0} {a : A} → Leaves (Is a)
leaves_is = record { left = λ x k l h. ap (λ m. m.entities) h.1 }

pub leaves_such : {A : Type 0} {P : A → Type 0} → Leaves (Such P)
leaves_such = record { left = λ x k l h. ap (λ m. m.entities) h.1 }

pub leaves_given : {P : Type 0} → Leaves (Given P)
leaves_given = record { left = λ x k l h. ap (λ m. m.entities) h.1 }

pub leaves_holds : {P : Known → Type 0} → Leaves (Holds P)
leaves_holds = record { left = λ x k l h. ap (λ m. m.entities) h.1 }

pub leaves_asks : {A : Type 0} {f : Known → A} → Leaves (Asks f)
leaves_asks = record { left = λ x k l h. ap (λ m. m.entities) h.1 }

pub leaves_never : {A : Type 0} → Leaves (Never {A = A})
leaves_never = record { left = λ x k l h. absurd h }

pub leaves_makes : {f : Known → Known} → ((k : Known) → (f k).entities ≡ k.entities) → Leaves (Makes f)
leaves_makes g = record { left = λ x k l h. ap (λ m. m.entities) h ∙ g k }

pub leaves_bind : {A B : Type 0} {S : Typing A} {T : A → Typing B} → Leaves S → ((a : A) → Leaves (T a)) → Leaves (Sequence S T)
leaves_bind s t = record { left = λ x k l h. (t h.of).left x h.between l h.second ∙ s.left h.of k h.between h.first }

pub leaves_either : {A : Type 0} {test : Test} {S T : Typing A} → Leaves S → Leaves T → Leaves (Either test S T)
leaves_either s t = record { left = λ x k l h. elim h [ inl p ↦ s.left x k l p.1 | inr p ↦ t.left x k l p.1 ] }

type_left : (test : Test) (k m : Known) → m.entities ≡ k.entities → (if test then k else m).entities ≡ k.entities
type_left true k m e = refl
type_left false k m e = e

pub leaves_type : (t : CType) → Leaves (Makes (known.with_type t))
leaves_type t = leaves_makes (λ k. type_left (is_among t k.types) k _ refl)
