-- Statements, blocks and declarations (C11 6.8, 6.7.9): a case for each construct.
use Rattle.std.specs.Prelude.{ℕ, zero, suc, ◌+◌, ◌==◌, List, [], ◌∷◌, ◌++◌, map, Option, Some, None}
use Rattle.srmt_base.specs.declared.part.Part.{Part}
use Rattle.srmt_base.specs.declared.trap.Trap.TheVariants.{Turns}
use Rattle.srmt_base.specs.Budgets.{turn_of}
use Rattle.srmt_base.specs.Memory.{write_of}
use Rattle.c_typed.specs.Typed.{Value}
use Rattle.c_typed.specs.Statements.{Cell, Initializer, scalar, cells, LocalItem, ForStart, starts, declares, Stmt, block, empty, expression, if_only, if_else, while, do_while, for, continue, break, return, Items, no_items, declaration, statement}
use Rattle.source_meaning.specs.World.{Doing, ◌>>=◌, ◌>>◌, pure, either, traps, remembers, spends, local_at}
use Rattle.source_meaning.specs.Places.{Setting, row_of, location_of_local, store, all_begin, all_end}
use Rattle.source_meaning.specs.Expressions.{value_of}

-- how a statement is left: at its end, or by a jump (C11 6.8.6)
pub data Completion : Type 0 where
  normal : Completion
  continues : Completion
  breaks : Completion
  returns : (value : ℕ) → Completion

-- what follows a statement in a block
abbrev pub if_normal : Completion → Doing Completion → Doing Completion
if_normal normal rest = rest
if_normal jump rest = pure jump

-- what follows the body in a round: `continue` ends the body alone (C11 6.8.6.2p2)
abbrev pub if_continued : Completion → Doing Completion → Doing Completion
if_continued normal rest = rest
if_continued continues rest = rest
if_continued jump rest = pure jump

-- what follows a round: `break` ends the loop (C11 6.8.6.3p2), and so does a condition that is 0
abbrev pub if_again : Completion → Doing Completion → Doing Completion
if_again normal rest = rest
if_again continues rest = rest
if_again breaks rest = pure normal
if_again (returns v) rest = pure (returns v)

-- rounds until the loop is over, each after a turn at the line of its word. They are at most as many as turns are left
abbrev pub rounds : ℕ → Part → ℕ → Doing Completion → Doing Completion
rounds zero part line round = spends line (turn_of part) >> traps Turns line
rounds (suc n) part line round = do
  spends line (turn_of part)
  c ← round
  if_again c (rounds n part line round)

-- the condition before the body, and after it (C11 6.8.5.1, 6.8.5.3; 6.8.5.2)
abbrev pub round_of_for : Doing ℕ → Doing Completion → Doing ℕ → Doing Completion
round_of_for test body step = test >>= (λ x. either (x == 0) (pure breaks) (body >>= (λ c. if_continued c (step >> pure normal))))

abbrev pub round_of_do : Doing Completion → Doing ℕ → Doing Completion
round_of_do body test = body >>= (λ c. if_continued c (test >>= (λ x. either (x == 0) (pure breaks) (pure normal))))

-- a block's locals begin at its entry and end at its exit, the last first (C11 6.2.4p6)
abbrev pub in_block : Setting → List ℕ → Doing Completion → Doing Completion
in_block s locals body = do
  all_begin s locals
  c ← body
  all_end s locals
  pure c

abbrev pub numbers_of : List LocalItem → List ℕ
numbers_of locals = map (λ local. local.number) locals

-- the locals that a block declares itself
abbrev pub locals_of : Items → List ℕ
locals_of no_items = []
locals_of (declaration locals rest) = numbers_of locals ++ locals_of rest
locals_of (statement first rest) = locals_of rest

-- the given cells of an array, in order, without events (C11 6.7.9p19)
abbrev pub cells_given : Setting → ℕ → List Cell → Doing (Unit {0})
cells_given s n [] = pure tt
cells_given s n (c ∷ rest) = do
  pointer ← local_at n
  x ← value_of s c.value
  remembers (row_of s n).line (λ memory. write_of memory (pointer + c.index) x)
  cells_given s n rest

-- a scalar as by an assignment (C11 6.7.9p11)
abbrev pub initializes : Setting → ℕ → Option Initializer → Doing (Unit {0})
initializes s n None = pure tt
initializes s n (Some (scalar e)) = do
  l ← location_of_local s n (row_of s n).type (row_of s n).line
  store l (← value_of s e)
initializes s n (Some (cells given)) = cells_given s n given

abbrev pub all_initialize : Setting → List LocalItem → Doing (Unit {0})
all_initialize s [] = pure tt
all_initialize s (local ∷ rest) = initializes s local.number local.initializer >> all_initialize s rest

-- the value of an expression, or what stands for it where it is left out
abbrev pub value_or : ℕ → Setting → Option Value → Doing ℕ
value_or n s None = pure n
value_or n s (Some e) = value_of s e

-- what a `for` does first; its declaration is a block around the loop (C11 6.8.5p5)
abbrev pub in_for : Setting → ForStart → Doing Completion → Doing Completion
in_for s (starts first) loop = value_or 0 s first >> loop
in_for s (declares locals) loop = in_block s (numbers_of locals) (all_initialize s locals >> loop)

-- the statements of a function, where each loop makes at most so many rounds
module _ (s : Setting) (most : ℕ) where
  unfoldable mutual
    pub executes : Stmt → Doing Completion
    executes (block line items end) = in_block s (locals_of items) (executes_items items)  -- C11 6.8.2
    executes (empty line) = pure normal  -- C11 6.8.3p3
    executes (expression line e) = value_of s e >> pure normal  -- C11 6.8.3p2
    executes (if_only line e a) = value_of s e >>= (λ x. either (x == 0) (pure normal) (executes a))  -- C11 6.8.4.1p2
    executes (if_else line e a b) = value_of s e >>= (λ x. either (x == 0) (executes b) (executes a))  -- C11 6.8.4.1p2
    executes (while line e a) = rounds most s.part line (round_of_for (value_of s e) (executes a) (pure 0))  -- C11 6.8.5.1
    executes (do_while line a e) = rounds most s.part line (round_of_do (executes a) (value_of s e))  -- C11 6.8.5.2
    executes (for line first e step a) =  -- C11 6.8.5.3
        in_for s first (rounds most s.part line (round_of_for (value_or 1 s e) (executes a) (value_or 0 s step)))
    executes (continue line) = pure continues  -- C11 6.8.6.2
    executes (break line) = pure breaks  -- C11 6.8.6.3
    executes (return line e) = do pure (returns (← value_or 0 s e))  -- C11 6.8.6.4

    pub executes_items : Items → Doing Completion
    executes_items no_items = pure normal
    executes_items (declaration locals rest) = all_initialize s locals >> executes_items rest
    executes_items (statement first rest) = executes first >>= (λ c. if_normal c (executes_items rest))
