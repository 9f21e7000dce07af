-- What a relation of typing gives is such, where what is known is such before, and what is known stays such.
use Rattle.std.proofs.Common.{Bool as Test, sym, subst, inl, inr}
use Rattle.typing_rules.specs.Known.{Known}
use Rattle.typing_rules.specs.Holding.{Typing, Sequence, Is, Such, Given, Holds, Asks, Makes, Either, Never}

pub record Sound {A : Type 0} (I : Known → Type 0) (Q : A → Type 0) (R : Typing A) : Type 0 where
  pub sound : (x : A) (k l : Known) → R x k l → I k → Q x × I l

-- nothing is asked of a result
abbrev pub Any : {A : Type 0} → A → Type 0
Any x = Unit {0}

pub sound_is : {A : Type 0} {I : Known → Type 0} {Q : A → Type 0} {a : A} → Q a → Sound I Q (Is a)
sound_is {I = I} {Q = Q} q = record { sound = λ x k l h i. (subst Q (sym h.0) q, subst I (sym h.1) i) }

pub sound_such : {A : Type 0} {I : Known → Type 0} {P Q : A → Type 0} → ((a : A) → P a → Q a) → Sound I Q (Such P)
sound_such {I = I} f = record { sound = λ x k l h i. (f x h.0, subst I (sym h.1) i) }

pub sound_such_as : {A : Type 0} {I : Known → Type 0} {P : A → Type 0} → Sound I P (Such P)
sound_such_as = sound_such (λ a p. p)

pub sound_given : {I : Known → Type 0} {P : Type 0} → Sound I (λ u. P) (Given P)
sound_given {I = I} = record { sound = λ x k l h i. (h.0, subst I (sym h.1) i) }

pub sound_holds : {I P : Known → Type 0} → Sound I Any (Holds P)
sound_holds {I = I} = record { sound = λ x k l h i. (tt, subst I (sym h.1) i) }

pub sound_asks : {A : Type 0} {I : Known → Type 0} {Q : A → Type 0} {f : Known → A} → ((k : Known) → I k → Q (f k)) → Sound I Q (Asks f)
sound_asks {I = I} {Q = Q} g = record { sound = λ x k l h i. (subst Q (sym h.0) (g k i), subst I (sym h.1) i) }

pub sound_makes : {I : Known → Type 0} {f : Known → Known} → ((k : Known) → I k → I (f k)) → Sound I Any (Makes f)
sound_makes {I = I} g = record { sound = λ x k l h i. (tt, subst I (sym h) (g k i)) }

pub sound_never : {A : Type 0} {I : Known → Type 0} {Q : A → Type 0} → Sound I Q Never
sound_never = record { sound = λ x k l h i. absurd h }

pub sound_bind : {A B : Type 0} {I : Known → Type 0} {P : A → Type 0} {Q : B → Type 0} {S : Typing A} {T : A → Typing B}
    → Sound I P S → ((a : A) → P a → Sound I Q (T a)) → Sound I Q (Sequence S T)
sound_bind s t = record {
  sound = λ x k l h i. let p = s.sound h.of k h.between h.first i in (t h.of p.0).sound x h.between l h.second p.1;
}

pub sound_either : {A : Type 0} {I : Known → Type 0} {Q : A → Type 0} {test : Test} {S T : Typing A}
    → Sound I Q S → Sound I Q T → Sound I Q (Either test S T)
sound_either s t = record { sound = λ x k l h i. elim h [ inl p ↦ s.sound x k l p.1 i | inr p ↦ t.sound x k l p.1 i ] }
