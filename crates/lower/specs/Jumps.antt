-- Jumps that wait: the place to which they lead becomes known when that place is reached.
use Rattle.std.specs.Prelude.{◌≡◌, ℕ, List, option_map, Result, Ok, Err}
use Rattle.mid_code.specs.declared.mid.Mid.{Mid}
use Rattle.mid_code.specs.declared.mid.Mid.TheVariants as mid
use Rattle.lower.specs.Drafts.{code_of}
use Rattle.lower.specs.declared.emitter.Emitter.{Emitter}
use Rattle.lower.specs.declared.refusal.LowerRefusal.{LowerRefusal}
use Rattle.lower.specs.declared.refusal.LowerRefusal.TheVariants.{Memory}
use Rattle.lower.specs.Emitting.{at_line}
use Rattle.lower.specs.SoFar.{Leads, Lines, SoFar, with_line, landed, IsHere}

-- the jump at a place leads to the place behind the code so far
pub record LandsIn (at : ℕ) (before after : Lines) : Type 0 where
  pub place : ℕ
  pub here : IsHere place before
  pub landed : after ≡ option_map (landed at place) before

abbrev pub LandsHere : ℕ → SoFar → SoFar → Type 0
LandsHere at before after = (leads : List Leads) → LandsIn at (before leads) (after leads)

-- one instruction more
abbrev pub with_jump : ℕ → Mid → SoFar → SoFar
with_jump line m code leads = with_line (at_line line m) (code leads)

-- a jump waits at this place
pub record Waiting (line : ℕ) (jump : ℕ → Mid) (old new : Emitter) (at : ℕ) : Type 0 where
  pub allotted : new.allotted ≡ old.allotted
  pub here : (leads : List Leads) → IsHere at (code_of old.code leads)
  pub grown : (leads : List Leads) → code_of new.code leads ≡ with_jump line (jump 0) (code_of old.code) leads

abbrev pub Waits : ℕ → (ℕ → Mid) → Emitter → Emitter → Result ℕ LowerRefusal → Type 0
Waits line jump old new (Ok at) = Waiting line jump old new at
Waits line jump old new (Err e) = e ≡ Memory

-- a jump waits at this place, and another one leads behind it
pub record Turning (line : ℕ) (at : ℕ) (old new : Emitter) (over : ℕ) : Type 0 where
  pub allotted : new.allotted ≡ old.allotted
  pub here : (leads : List Leads) → IsHere over (code_of old.code leads)
  pub lands : LandsHere at (with_jump line (mid.Jump 0) (code_of old.code)) (code_of new.code)

abbrev pub Turns : ℕ → ℕ → Emitter → Emitter → Result ℕ LowerRefusal → Type 0
Turns line at old new (Ok over) = Turning line at old new over
Turns line at old new (Err e) = e ≡ Memory
