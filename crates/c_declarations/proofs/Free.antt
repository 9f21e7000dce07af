-- Whether a name is free, by what it means in the innermost scope.
use Rattle.std.proofs.Common.{Option, Some, None, Ok, Err, refl, inl, is_none}
use Rattle.std.specs.Bool.{⊤}
use Rattle.typing_rules.specs.declared.refusal.TypeRefusal.{TypeRefusal}
use Rattle.typing_rules.specs.Known as known
use Rattle.typing_rules.specs.Checking.{asks, tests, needs}
use Rattle.c_types.proofs.Grown.{Extends-refl}
use Rattle.c_known.specs.declared.local.Meaning.{Meaning}
use Rattle.c_known.specs.declared.known.Known.{Known}
use Rattle.c_known.specs.Views.{Knows}
use Rattle.c_known.specs.Gives.{GivesAt, Gives, IsDone}
use Rattle.c_known.specs.Standing.{MeansMeaningIf}

pub free-name : (s : Known) (f : known.Known → Option known.Meaning) (e : TypeRefusal) → Gives {X = Option Meaning} MeansMeaningIf s s (Ok None) (asks f)
    → Gives IsDone s s (Ok tt) (tests (λ k. is_none (f k)) e)
free-name s f e g = record { at = λ k knows. by k knows (f k) (g.at k knows).means }
  where
    by : (k : known.Known) → Knows s k → (o : Option known.Meaning) → MeansMeaningIf s.types None o → GivesAt IsDone s s (Ok tt) (needs (is_none o) e k)
    by k knows None h = record { grown = Extends-refl s.types; means = tt; knows = knows }
    by k knows (Some m) h = absurd h

pub taken-name : (s : Known) (x : Meaning) (f : known.Known → Option known.Meaning) (e : TypeRefusal) → Gives MeansMeaningIf s s (Ok (Some x)) (asks f)
    → Gives {X = ⊤} IsDone s s (Err e) (tests (λ k. is_none (f k)) e)
taken-name s x f e g = record { at = λ k knows. by k (f k) (g.at k knows).means }
  where
    by : (k : known.Known) → (o : Option known.Meaning) → MeansMeaningIf s.types (Some x) o → GivesAt {X = ⊤} IsDone s s (Err e) (needs (is_none o) e k)
    by k None h = absurd h
    by k (Some m) h = inl refl
