use Rattle.std.proofs.Common.{◌≡◌, ℕ, ◌<◌, Some, None}
use Rattle.mid_code.specs.Row.{Holds}
use Rattle.mid_code.specs.Rules.{function_rule}
use Rattle.mid_code.proofs.validity.first_instruction.Given as goal

-- the row has come so far, and the places behind break no rule
abbrev pub invariant-loop-place : goal.invariant-loop-place
invariant-loop-place l = record {
  holds : Holds l.row l.function.code l.place;
  sound : (p : ℕ) → p < l.place → function_rule l.program l.number p (Some l.function) ≡ None;
}
