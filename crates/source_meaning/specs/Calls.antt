-- Calls of functions (C11 6.5.2.2).
use Rattle.std.specs.Prelude.{ℕ, zero, suc, List, [], ◌∷◌, ◌++◌, length, replicate, Option, Some, None}
use Rattle.srmt_base.specs.declared.part.Part.{Part}
use Rattle.srmt_base.specs.declared.trap.Trap.TheVariants.{NotAFunction, Turns}
use Rattle.srmt_base.specs.Budgets.{enter_of, leave_of}
use Rattle.srmt_base.specs.Memory.{write_of}
use Rattle.c_typed.specs.Statements.{Function, Program}
use Rattle.source_meaning.specs.World.{Doing, ◌>>=◌, ◌>>◌, pure, asks, becomes, either, traps, remembers, spends, local_at, set_local}
use Rattle.source_meaning.specs.Places.{Setting, row_of, function_at, part_of_function, object_begins, all_end}
use Rattle.source_meaning.specs.Statements.{Completion, returns, in_block, locals_of, executes_items}

-- a parameter in memory begins as an object, which takes the argument without an event
abbrev pub object_takes : Setting → ℕ → ℕ → Doing (Unit {0})
object_takes s n v = do
  object_begins s n
  pointer ← local_at n
  remembers (row_of s n).line (λ memory. write_of memory pointer v)

-- parameters have the values of the arguments, in order, from a number on (C11 6.5.2.2p4)
abbrev pub parameters_begin : Setting → ℕ → List ℕ → Doing (Unit {0})
parameters_begin s n [] = pure tt
parameters_begin s n (v ∷ rest) = either (row_of s n).is_placed (object_takes s n v) (set_local n v) >> parameters_begin s (suc n) rest

abbrev pub numbers_below : ℕ → List ℕ
numbers_below zero = []
numbers_below (suc n) = numbers_below n ++ n ∷ []

-- what a function returns: 0 where it does not say (C11 6.9.1p12, 5.1.2.2.3)
abbrev pub value_returned : Completion → ℕ
value_returned (returns v) = v
value_returned other = 0

-- the body of a function, whose loops make at most so many rounds. It has locals of its own (C11 6.2.4p6)
abbrev pub body_of : Setting → ℕ → Function → List ℕ → Doing ℕ
body_of s most f arguments = do
  caller ← asks (λ w. w.locals)
  becomes (λ w. record w { locals = replicate (length f.locals) 0 })
  parameters_begin s 0 arguments
  c ← in_block s (locals_of f.body) (executes_items s most f.body)
  all_end s (numbers_below f.parameters)
  becomes (λ w. record w { locals = caller })
  pure (value_returned c)

-- a function of a part is entered, and left after its body
abbrev pub entered : ℕ → Part → Option Function → (Function → Doing ℕ) → Doing ℕ
entered line part None body = traps NotAFunction line
entered line part (Some f) body = do
  spends f.line (enter_of part)
  v ← body f
  becomes (λ w. record w { budgets = leave_of part w.budgets })
  pure v

-- what is fixed in a function of a number, which calls others so
abbrev pub setting_of : Program → ℕ → Function → ((line number : ℕ) (arguments : List ℕ) → Doing ℕ) → Setting
setting_of program number f call = record { program = program; part = part_of_function program number; rows = f.locals; call = call }

-- a call, where at most so many turns are left to both parts together: each call and each round of a loop takes one
unfoldable pub calls : Program → ℕ → (line number : ℕ) (arguments : List ℕ) → Doing ℕ
calls program zero line number arguments =
    entered line (part_of_function program number) (function_at program number) (λ f. traps Turns f.line)
calls program (suc most) line number arguments =
    entered line (part_of_function program number) (function_at program number)
    (λ f. body_of (setting_of program number f (calls program most)) most f arguments)
