-- The state of a run of a source, and how the parts of a construct follow one another.
--
-- Memory, budgets and the input are those of the machine, with the same functions on them.
use Rattle.std.specs.Prelude.{ℕ, ◌%◌, Bool, true, false, List, [], ◌∷◌, ◌++◌, Result, Ok, Err, slice_index, slice_set}
use Rattle.srmt_base.specs.declared.budgets.Budgets.{Budgets}
use Rattle.srmt_base.specs.declared.event.Event.{Event}
use Rattle.srmt_base.specs.declared.event.Event.TheVariants.{Exit as ExitEvent}
use Rattle.srmt_base.specs.declared.trap.Trap.{Trap}
use Rattle.srmt_base.specs.declared.trap.SourceEnd.{SourceEnd}
use Rattle.srmt_base.specs.declared.trap.SourceEnd.TheVariants.{Exit as ExitEnd, Trap as TrapEnd}
use Rattle.srmt_base.specs.Input.{next_byte}
use Rattle.srmt_base.specs.Memory.{Memory}

-- a run at some moment
pub record World : Type 0 where
  -- the objects of both parts that live
  pub memory : Memory
  -- what is left of the turns and the live activations of both parts
  pub budgets : Budgets
  -- the bytes that are still to be read
  pub input : List ℕ
  -- all events so far
  pub events : List Event
  -- the locals of the function that runs, by number: the value of one in a register, the address of one in memory
  pub locals : List ℕ

-- what a part of a program comes to: a result, and the world after it, or the end of the run, with all its events
pub data Outcome (A : Type 0) : Type 0 where
  Gives : (result : A) (world : World) → Outcome A
  Ends : (end : SourceEnd) (events : List Event) → Outcome A

abbrev pub Doing : Type 0 → Type 0
Doing A = World → Outcome A

abbrev pub and_then : {A B : Type 0} → Outcome A → (A → Doing B) → Outcome B
and_then (Gives a w) f = f a w
and_then (Ends end events) f = Ends end events

infixl 10 ◌>>=◌ ◌>>◌
abbrev pub ◌>>=◌ : {A B : Type 0} → Doing A → (A → Doing B) → Doing B
m >>= f = λ w. and_then (m w) f

abbrev pub ◌>>◌ : {A B : Type 0} → Doing A → Doing B → Doing B
m >> n = m >>= (λ _. n)

abbrev pub pure : {A : Type 0} → A → Doing A
pure a = λ w. Gives a w

-- the first where a test holds, else the second
abbrev pub either : {A : Type 0} → Bool → Doing A → Doing A → Doing A
either true m n = m
either false m n = n

-- something of the world as it is
abbrev pub asks : {A : Type 0} → (World → A) → Doing A
asks f = λ w. Gives (f w) w

-- a change of the world
abbrev pub becomes : (World → World) → Doing (Unit {0})
becomes f = λ w. Gives tt (f w)

-- undefined behaviour, or a budget that is used up, at a line
abbrev pub traps : {A : Type 0} → Trap → ℕ → Doing A
traps trap line = λ w. Ends (TrapEnd trap line) w.events

-- a result, or a trap at a line
abbrev pub computed : {A : Type 0} → ℕ → Result A Trap → Doing A
computed line (Ok a) = pure a
computed line (Err trap) = traps trap line

-- `exit`, and the end of `main` (C11 5.1.2.2.3, 7.22.4.4)
abbrev pub exits : {A : Type 0} → ℕ → Doing A
exits v = λ w. Ends (ExitEnd (v % 256)) (w.events ++ ExitEvent (v % 256) ∷ [])

abbrev pub happens : Event → Doing (Unit {0})
happens event = becomes (λ w. record w { events = w.events ++ event ∷ [] })

-- the next byte of the input, or EOF at its end (C11 7.21.7.6)
abbrev pub reads_byte : Doing ℕ
reads_byte = λ w. let next = next_byte w.input in Gives next.value (record w { input = next.rest })

abbrev pub local_at : ℕ → Doing ℕ
local_at n = asks (λ w. slice_index w.locals n)

abbrev pub set_local : ℕ → ℕ → Doing (Unit {0})
set_local n v = becomes (λ w. record w { locals = slice_set w.locals n v })

abbrev pub remembers : ℕ → (Memory → Result Memory Trap) → Doing (Unit {0})
remembers line change = do
  memory ← computed line (change (← asks (λ w. w.memory)))
  becomes (λ w. record w { memory = memory })

abbrev pub spends : ℕ → (Budgets → Result Budgets Trap) → Doing (Unit {0})
spends line change = do
  budgets ← computed line (change (← asks (λ w. w.budgets)))
  becomes (λ w. record w { budgets = budgets })
