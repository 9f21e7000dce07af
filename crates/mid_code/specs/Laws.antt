-- Laws by which a reader can trust the meaning of middle code.
use Rattle.std.specs.Prelude.{◌≡◌, ◌≢◌, ℕ, ◌^◌, ◌<◌, ◌≤◌, ◌↔◌, true, List, [], length, All}
use Rattle.srmt_base.specs.declared.event.Event.{Event}
use Rattle.srmt_base.specs.declared.limits.Limits.{Limits}
use Rattle.srmt_base.specs.declared.trap.SourceEnd.{SourceEnd}
use Rattle.srmt_base.specs.Budgets.{full_budgets}
use Rattle.mid_code.specs.declared.program.MidProgram.{MidProgram}
use Rattle.mid_code.specs.Valid.{IsValid}
use Rattle.mid_code.specs.Machine.{Activation, Local, Entered, activations, does, enter}
use Rattle.mid_code.specs.Start.{FitLimits, started_machine}
use Rattle.mid_code.specs.Meaning.{State, On, Running, Ended, NoWay, Middle, step, exec, started}
use Rattle.mid_code.specs.Fits.{IsValue, HoldsValues, IsWithin, Fits}
use Rattle.mid_code.specs.Bounds.{Nears, to_turn, left_to_go}
use Rattle.mid_code.specs.Counting.{CountsExactly, turns_so_far}
use Rattle.mid_code.specs.Keeps.{KeepsAddresses, keeps_addresses}

-- what a run starts from: a valid program, bytes as its input, and limits that it can have
pub record CanRun (program : MidProgram) (input : List ℕ) (limits : Limits) : Type 0 where
  pub valid : IsValid program
  pub bytes : All (λ byte. byte < 256) input
  pub fit : FitLimits program limits

-- the start is the entry of `main`, with all that the limits allow
abbrev pub EntersMain : MidProgram → Limits → Type 0
EntersMain program limits = enter program program.main [] 0 [] (full_budgets limits) ≡ Entered (started_machine program limits)

-- a program has at most one meaning
abbrev pub HasOneMeaning : MidProgram → List ℕ → Limits → Type 0
HasOneMeaning program input limits =
    (es fs : List Event) (e f : SourceEnd) → Middle program input limits es e → Middle program input limits fs f → (es ≡ fs) × (e ≡ f)

-- the run always has a next step, until it ends
abbrev pub IsNeverStuck : MidProgram → List ℕ → Limits → Type 0
IsNeverStuck program input limits = (steps : ℕ) → exec program steps (started program input limits) ≢ NoWay

-- every register and every cell holds a number of 44 bits
pub record HoldsSmall (s : State) : Type 0 where
  pub registers : All (λ a. All IsValue a.registers) (activations s.machine)
  pub protected : All HoldsValues s.memory.protected.live
  pub binary : All HoldsValues s.memory.binary.live

-- at each moment of the run
abbrev pub StaysSmall : MidProgram → List ℕ → Limits → Type 0
StaysSmall program input limits =
    (steps : ℕ) (s : State) (events : List Event) → exec program steps (started program input limits) ≡ Running s events → HoldsSmall s

-- each step makes what is left to go less
pub record StepsNear (program : MidProgram) : Type 0 where
  -- of an activation that runs alone
  pub alone : (l : Local) → IsWithin program l.at → Nears program l (does program l)
  -- of a run
  pub whole : (s next : State) (events : List Event) → Fits program s → step program s ≡ On next events →
      left_to_go program next.machine < left_to_go program s.machine
  -- what a turn gives back is less than it takes
  pub few : (a : Activation) → IsWithin program a → to_turn program a ≤ 65535

-- the run ends, and it has fewer than 2^62 steps and events
pub record IsShort (program : MidProgram) (input : List ℕ) (limits : Limits) : Type 0 where
  pub steps : ℕ
  pub few_steps : steps < 2 ^ 62
  pub end : SourceEnd
  pub events : List Event
  pub ended : exec program steps (started program input limits) ≡ Ended end events
  pub few_events : length events < 2 ^ 62
  -- as long as it goes on, it has made fewer steps, and fewer than 2^62 events
  pub going : (before : ℕ) (s : State) (so_far : List Event) → exec program before (started program input limits) ≡ Running s so_far →
      (before < steps) × (length so_far < 2 ^ 62)

-- a budget trap comes exactly where one more unit would pass the limit, at each moment of the run
abbrev pub HasExactBudgets : MidProgram → List ℕ → Limits → Type 0
HasExactBudgets program input limits =
    (steps : ℕ) (s : State) (events : List Event) → exec program steps (started program input limits) ≡ Running s events →
    CountsExactly program limits (λ part. turns_so_far program part steps (started program input limits)) s

-- whether a run keeps addresses is decided
abbrev pub DecidesKeeping : MidProgram → List ℕ → Limits → Type 0
DecidesKeeping program input limits = (keeps_addresses program input limits ≡ true) ↔ KeepsAddresses program input limits
