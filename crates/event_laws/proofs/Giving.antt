-- What a relation of typing gives is such, whatever is known before it.
use Rattle.std.proofs.Common.{Bool as Test, sym, subst, inl, inr}
use Rattle.typing_rules.specs.Known.{Known}
use Rattle.typing_rules.specs.Holding.{Typing, Sequence, Is, Such, Asks, Either, Never}

pub record Gives {A : Type 0} (P : A → Type 0) (R : Typing A) : Type 0 where
  pub given : (x : A) (k l : Known) → R x k l → P x

pub gives_is : {A : Type 0} {P : A → Type 0} {a : A} → P a → Gives P (Is a)
gives_is {P = P} p = record { given = λ x k l h. subst P (sym h.0) p }

pub gives_such : {A : Type 0} {P : A → Type 0} → Gives P (Such P)
gives_such = record { given = λ x k l h. h.0 }

pub gives_asks : {A : Type 0} {P : A → Type 0} {f : Known → A} → ((k : Known) → P (f k)) → Gives P (Asks f)
gives_asks {P = P} g = record { given = λ x k l h. subst P (sym h.0) (g k) }

pub gives_never : {A : Type 0} {P : A → Type 0} → Gives P Never
gives_never = record { given = λ x k l h. absurd h }

pub gives_bind : {A B : Type 0} {P : A → Type 0} {Q : B → Type 0} {S : Typing A} {T : A → Typing B}
    → Gives P S → ((a : A) → P a → Gives Q (T a)) → Gives Q (Sequence S T)
gives_bind s t = record { given = λ x k l h. (t h.of (s.given h.of k h.between h.first)).given x h.between l h.second }

-- behind anything
pub gives_after : {A B : Type 0} {Q : B → Type 0} {S : Typing A} {T : A → Typing B} → ((a : A) → Gives Q (T a)) → Gives Q (Sequence S T)
gives_after t = record { given = λ x k l h. (t h.of).given x h.between l h.second }

pub gives_either : {A : Type 0} {P : A → Type 0} {test : Test} {S T : Typing A} → Gives P S → Gives P T → Gives P (Either test S T)
gives_either s t = record { given = λ x k l h. elim h [ inl p ↦ s.given x k l p.1 | inr p ↦ t.given x k l p.1 ] }
