-- The bound of calls and rounds can be kept while one of them is opened.
use Rattle.std.proofs.Common.{◌≡◌, ℕ, zero, suc, ◌≤◌, List, refl, Option, arith}
use Rattle.srmt_base.specs.declared.part.Part.{Part}
use Rattle.srmt_base.specs.declared.trap.Trap.TheVariants.{Turns}
use Rattle.srmt_base.specs.Budgets.{turn_of}
use Rattle.c_typed.specs.Typed.{Value}
use Rattle.c_typed.specs.Statements.{Function, Stmt, LocalRow, Program}
use Rattle.source_meaning.specs.World.{World, Doing, ◌>>=◌, ◌>>◌, pure, traps, spends}
use Rattle.source_meaning.specs.Places.{Setting, function_at, part_of_function}
use Rattle.source_meaning.specs.Expressions.{value_of}
use Rattle.source_meaning.specs.Statements.{Completion, if_again, rounds, round_of_for, round_of_do, value_or, executes}
use Rattle.source_meaning.specs.Calls.{body_of, entered, setting_of, calls}
use Rattle.source_meaning.specs.BudgetLaws.{turns_left}
use Rattle.source_meaning.proofs.Agreeing.{Agree, then_agree, wider, no_turn, turn_agrees}
use Rattle.source_meaning.proofs.BoundStatements.{again_agrees, rounds_agree, agrees, value_or_agrees, round_of_for_agrees, round_of_do_agrees, statement_agrees}
use Rattle.source_meaning.proofs.BoundCalls.{none_entered, one_entered, body_agrees, calls_agree}

-- one that keeps the turns left within each bound up to one
abbrev pub KeepsBelow : {A : Type 0} → ℕ → Doing A → Type 0
KeepsBelow bound m = (b : ℕ) → b ≤ bound → Agree b b m m

rounds_opened : (bound : ℕ) (part : Part) (line : ℕ) (round : Doing Completion) → KeepsBelow bound round
    → Agree bound bound (rounds bound part line round) (spends line (turn_of part) >> (round >>= (λ c. if_again c (rounds bound part line round))))
rounds_opened zero part line round each = no_turn line 0 part _ _
rounds_opened (suc n) part line round each =
    then_agree (suc n) n (suc n) _ _ _ _ (turn_agrees line n part) λ done.
    wider n (suc n) _ _ (omega arith)
    (then_agree n n n _ _ _ _ (each n (omega arith)) λ c.
    again_agrees n c _ _ (rounds_agree part line round round n (suc n) n (omega arith) (omega arith) (λ d low. each d (omega (arith, low)))))

pub rounds_open : (bound : ℕ) (part : Part) (line : ℕ) (round : Doing Completion) → KeepsBelow bound round
    → (w : World) → turns_left w ≤ bound
    → rounds bound part line round w ≡ (spends line (turn_of part) >> (round >>= (λ c. if_again c (rounds bound part line round)))) w
rounds_open bound part line round each w low = (rounds_opened bound part line round each w low).0

-- the body of a function of a number, with a bound
abbrev bodies : Program → ℕ → ℕ → List ℕ → Function → Doing ℕ
bodies program bound number arguments f = body_of (setting_of program number f (calls program bound)) bound f arguments

calls_opened : (program : Program) (bound line number : ℕ) (arguments : List ℕ) → Agree bound bound (calls program bound line number arguments)
    (entered line (part_of_function program number) (function_at program number) (bodies program bound number arguments))
unfolding calls
calls_opened program zero line number arguments =
    none_entered line 0 (part_of_function program number) (function_at program number) (λ f. traps Turns f.line) (bodies program zero number arguments)
calls_opened program (suc n) line number arguments =
    one_entered line n (part_of_function program number) (function_at program number) (bodies program n number arguments)
    (bodies program (suc n) number arguments) λ f.
    body_agrees (setting_of program number f (calls program n)) (calls program (suc n)) n n (suc n) (omega arith) (omega arith)
    (λ d low. calls_agree program n (suc n) d low (omega (arith, low))) f arguments

pub calls_open : (program : Program) (bound line number : ℕ) (arguments : List ℕ) (w : World) → turns_left w ≤ bound
    → calls program bound line number arguments w
    ≡ entered line (part_of_function program number) (function_at program number)
    (λ f. body_of (setting_of program number f (calls program bound)) bound f arguments) w
calls_open program bound line number arguments w low = (calls_opened program bound line number arguments w low).0

-- the three loops of a function whose calls have the same bound
module _ (program : Program) (part : Part) (rows : List LocalRow) (bound : ℕ) where
  abbrev pub setting_within : Setting
  setting_within = record { program = program; part = part; rows = rows; call = calls program bound }

  same_calls : (b : ℕ) → b ≤ bound → (line number : ℕ) (arguments : List ℕ)
      → Agree b b (calls program bound line number arguments) (calls program bound line number arguments)
  same_calls b low line number arguments = calls_agree program bound bound b low low line number arguments

  pub executes_keeps : (u : Stmt) → KeepsBelow bound (executes setting_within bound u)
  executes_keeps u b low = statement_agrees setting_within (calls program bound) bound same_calls bound bound (omega arith) (omega arith) u b low

  pub value_keeps : (e : Value) → KeepsBelow bound (value_of setting_within e)
  value_keeps e b low = agrees setting_within (calls program bound) bound same_calls b low e

  pub value_or_keeps : (n : ℕ) (e : Option Value) → KeepsBelow bound (value_or n setting_within e)
  value_or_keeps n e b low = value_or_agrees setting_within (calls program bound) bound same_calls b low n e

  pub while_keeps : (e : Value) (a : Stmt) → KeepsBelow bound (round_of_for (value_of setting_within e) (executes setting_within bound a) (pure 0))
  while_keeps e a b low =
      round_of_for_agrees b _ _ (pure 0) (pure 0) _ _ (value_keeps e b low) (λ w k. (refl, k)) (executes_keeps a b low)

  pub do_keeps : (a : Stmt) (e : Value) → KeepsBelow bound (round_of_do (executes setting_within bound a) (value_of setting_within e))
  do_keeps a e b low = round_of_do_agrees b _ _ _ _ (value_keeps e b low) (executes_keeps a b low)

  pub for_keeps : (e step : Option Value) (a : Stmt)
      → KeepsBelow bound (round_of_for (value_or 1 setting_within e) (executes setting_within bound a) (value_or 0 setting_within step))
  for_keeps e step a b low =
      round_of_for_agrees b _ _ _ _ _ _ (value_or_keeps 1 e b low) (value_or_keeps 0 step b low) (executes_keeps a b low)

  -- a loop is a turn, a round, and the rest of it with the same bound
  abbrev pub Opens : ℕ → Doing Completion → Type 0
  Opens line round = (w : World) → turns_left w ≤ bound
      → rounds bound part line round w ≡ (spends line (turn_of part) >> (round >>= (λ c. if_again c (rounds bound part line round)))) w

  pub while_open : (line : ℕ) (e : Value) (a : Stmt) → Opens line (round_of_for (value_of setting_within e) (executes setting_within bound a) (pure 0))
  while_open line e a = rounds_open bound part line _ (while_keeps e a)

  pub do_open : (line : ℕ) (a : Stmt) (e : Value) → Opens line (round_of_do (executes setting_within bound a) (value_of setting_within e))
  do_open line a e = rounds_open bound part line _ (do_keeps a e)

  pub for_open : (line : ℕ) (e step : Option Value) (a : Stmt)
      → Opens line (round_of_for (value_or 1 setting_within e) (executes setting_within bound a) (value_or 0 setting_within step))
  for_open line e step a = rounds_open bound part line _ (for_keeps e step a)
