-- Which programs of middle code are valid.
use Rattle.std.specs.Prelude.{◌≡◌, ℕ, ◌<◌, Some, None}
use Rattle.mid_code.specs.declared.program.MidProgram.{MidProgram}
use Rattle.mid_code.specs.declared.refusal.MidRefusal.{MidRefusal}
use Rattle.mid_code.specs.declared.program.MidFunction.{MidFunction}
use Rattle.mid_code.specs.Rules.{function_rule, rule_broken}

-- no rule is broken at any place of any function
pub record IsValid (program : MidProgram) : Type 0 where
  pub unbroken : (number place : ℕ) → rule_broken program number place ≡ None

-- the first place, by function and then by place, that breaks a rule, and the least rule that is broken there
pub record IsFirstBroken (program : MidProgram) (refusal : MidRefusal) : Type 0 where
  pub broken : rule_broken program refusal.function refusal.place ≡ Some refusal.rule
  pub earlier_functions : (number place : ℕ) → number < refusal.function → rule_broken program number place ≡ None
  pub earlier_places : (place : ℕ) → place < refusal.place → rule_broken program refusal.function place ≡ None

-- the same in one function: it breaks no rule, or this is the first place of it that does
abbrev pub IsSoundFunction : MidProgram → ℕ → MidFunction → Type 0
IsSoundFunction program number function = (place : ℕ) → function_rule program number place (Some function) ≡ None

pub record IsFirstIn (program : MidProgram) (number : ℕ) (function : MidFunction) (refusal : MidRefusal) : Type 0 where
  pub here : refusal.function ≡ number
  pub broken : function_rule program number refusal.place (Some function) ≡ Some refusal.rule
  pub earlier : (place : ℕ) → place < refusal.place → function_rule program number place (Some function) ≡ None
