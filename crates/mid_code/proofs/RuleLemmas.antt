-- The least rule of several.
use Rattle.std.proofs.Common.{◌≡◌, ℕ, List, ◌∷◌, Option, Some, None, refl, arith}
use Rattle.std.specs.Prelude.{nat_lt, if◌then◌else◌, option_and_then}
use Rattle.std.proofs.lemmas.Bool.Decides.{nat_tests}
use Rattle.mid_code.specs.declared.program.MidProgram.{MidProgram}
use Rattle.mid_code.specs.declared.program.MidFunction.{MidFunction}
use Rattle.mid_code.specs.Fields.{Field, present}
use Rattle.mid_code.specs.Rules.{lesser, field_rule, fields_rule}

pub lesser-none : (first : Option ℕ) → lesser first None ≡ first
lesser-none None = refl
lesser-none (Some a) = refl

of_three : (a b c : ℕ) → lesser (if nat_lt b a then Some b else Some a) (Some c) ≡ lesser (Some a) (if nat_lt c b then Some c else Some b)
of_three a b c = grind (arith, nat_tests)

pub lesser-assoc : (first second third : Option ℕ) → lesser (lesser first second) third ≡ lesser first (lesser second third)
lesser-assoc None second third = refl
lesser-assoc (Some a) None third = refl
lesser-assoc (Some a) (Some b) None = lesser-none (lesser (Some a) (Some b))
lesser-assoc (Some a) (Some b) (Some c) = of_three a b c

-- a field that may be there, before others
pub rule_before : (program : MidProgram) (f : MidFunction) (place : ℕ) (item : Option Field) (rest : List (Option Field)) →
    fields_rule program f place (present (item ∷ rest)) ≡ lesser (option_and_then (field_rule program f place) item) (fields_rule program f place (present rest))
rule_before program f place None rest = refl
rule_before program f place (Some field) rest = refl
