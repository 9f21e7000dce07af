-- What keeps an invariant of what is known, whichever it is.
use Rattle.std.proofs.Common.{ℕ, suc, ◌+◌, ◌≤◌, Bool as Test, List, length, sym, subst, inl, inr}
use Rattle.c_types.specs.Types.{CType}
use Rattle.typing_rules.specs.Source.{Bytes}
use Rattle.typing_rules.specs.Known.{Known, Scope, Local, Use, with_scopes, with_locals, with_cells, with_text}
use Rattle.typing_rules.specs.Limits.{most_static_cells}
use Rattle.typing_rules.specs.Holding.{Typing, Sequence, Is, Such, Given, Holds, Asks, Makes, Either, Never}

pub record Keeps {A : Type 0} (I : Known → Type 0) (R : Typing A) : Type 0 where
  pub kept : (x : A) (k l : Known) → R x k l → I k → I l

-- what expressions and declarators make known: it stays so behind scopes, locals, uses of names, types of functions and
-- texts that are counted
pub record Stays (I : Known → Type 0) : Type 0 where
  pub scopes : (k : Known) (scopes : List Scope) → I k → I (with_scopes scopes k)
  pub locals : (k : Known) (locals : List Local) → I k → I (with_locals locals k)
  pub uses : (k : Known) (uses : List Use) → I k → I (record k { uses = uses })
  pub types : (k : Known) (types : List CType) → I k → I (record k { types = types })
  pub text : (k : Known) (line : ℕ) (bytes : Bytes) → k.static_cells + suc (length bytes) ≤ most_static_cells → I k
      → I (with_text line bytes (with_cells (suc (length bytes)) k))

-- ---- parts

pub keeps_is : {I : Known → Type 0} {A : Type 0} {a : A} → Keeps I (Is a)
keeps_is {I = I} = record { kept = λ x k l h i. subst I (sym h.1) i }

pub keeps_such : {I : Known → Type 0} {A : Type 0} {P : A → Type 0} → Keeps I (Such P)
keeps_such {I = I} = record { kept = λ x k l h i. subst I (sym h.1) i }

pub keeps_given : {I : Known → Type 0} {P : Type 0} → Keeps I (Given P)
keeps_given {I = I} = record { kept = λ x k l h i. subst I (sym h.1) i }

pub keeps_holds : {I P : Known → Type 0} → Keeps I (Holds P)
keeps_holds {I = I} = record { kept = λ x k l h i. subst I (sym h.1) i }

pub keeps_asks : {I : Known → Type 0} {A : Type 0} {f : Known → A} → Keeps I (Asks f)
keeps_asks {I = I} = record { kept = λ x k l h i. subst I (sym h.1) i }

pub keeps_never : {I : Known → Type 0} {A : Type 0} → Keeps I (Never {A = A})
keeps_never = record { kept = λ x k l h i. absurd h }

pub keeps_makes : {I : Known → Type 0} {f : Known → Known} → ((k : Known) → I k → I (f k)) → Keeps I (Makes f)
keeps_makes {I = I} g = record { kept = λ x k l h i. subst I (sym h) (g k i) }

pub keeps_bind : {I : Known → Type 0} {A B : Type 0} {S : Typing A} {T : A → Typing B} → Keeps I S → ((a : A) → Keeps I (T a))
    → Keeps I (Sequence S T)
keeps_bind s t = record { kept = λ x k l h i. (t h.of).kept x h.between l h.second (s.kept h.of k h.between h.first i) }

pub keeps_such_then : {I : Known → Type 0} {A B : Type 0} {P : A → Type 0} {T : A → Typing B} → ((a : A) → P a → Keeps I (T a))
    → Keeps I (Sequence (Such P) T)
keeps_such_then {I = I} t = record {
  kept = λ x k l h i. (t h.of h.first.0).kept x h.between l h.second (subst I (sym h.first.1) i);
}

pub keeps_given_then : {I : Known → Type 0} {B : Type 0} {P : Type 0} {T : Unit {0} → Typing B} → ((u : Unit {0}) → P → Keeps I (T u))
    → Keeps I (Sequence (Given P) T)
keeps_given_then {I = I} t = record {
  kept = λ x k l h i. (t h.of h.first.0).kept x h.between l h.second (subst I (sym h.first.1) i);
}

pub keeps_either : {I : Known → Type 0} {A : Type 0} {test : Test} {S T : Typing A} → Keeps I S → Keeps I T → Keeps I (Either test S T)
keeps_either s t = record { kept = λ x k l h i. elim h [ inl p ↦ s.kept x k l p.1 i | inr p ↦ t.kept x k l p.1 i ] }
