-- What a call comes to does not depend on a bound that is at least the turns left.
use Rattle.std.proofs.Common.{ℕ, zero, suc, ◌≤◌, List, [], ◌∷◌, length, refl, Option, Some, None, arith}
use Rattle.std.specs.Prelude.{slice_index, replicate}
use Rattle.srmt_base.specs.declared.part.Part.{Part}
use Rattle.srmt_base.specs.declared.trap.Trap.TheVariants.{Turns}
use Rattle.srmt_base.specs.Memory.{write_of}
use Rattle.c_typed.specs.Statements.{Function, Program}
use Rattle.source_meaning.specs.World.{Doing, pure, traps}
use Rattle.source_meaning.specs.Places.{Setting, row_of, function_at, part_of_function}
use Rattle.source_meaning.specs.Statements.{locals_of}
use Rattle.source_meaning.specs.Calls.{object_takes, parameters_begin, numbers_below, body_of, entered, setting_of, calls}
use Rattle.source_meaning.specs.BudgetLaws.{turns_left, BoundIsNoLimit}
use Rattle.source_meaning.proofs.Agreeing.{Agree, Keeps, then_agree, either_agree, wider, pure_keeps, remembers_keeps, no_entry, entry_agrees, leave_keeps}
use Rattle.source_meaning.proofs.BoundStatements.{object_begins_keeps, all_end_agree, block_agrees, items_agree}

object_takes_keeps : (s : Setting) (n v : ℕ) → Keeps (object_takes s n v)
object_takes_keeps s n v b =
    then_agree b b b _ _ _ _ (object_begins_keeps s n b) λ begun w low.
    remembers_keeps (row_of s n).line (λ memory. write_of memory (slice_index w.locals n) v) b w low

module _ (s : Setting) (other : (line number : ℕ) (arguments : List ℕ) → Doing ℕ) where
  abbrev after : Setting
  after = record s { call = other }

  parameters_agree : (b n : ℕ) (arguments : List ℕ) → Agree b b (parameters_begin s n arguments) (parameters_begin after n arguments)
  parameters_agree b n [] = λ w low. (refl, low)
  parameters_agree b n (v ∷ rest) =
      then_agree b b b _ _ _ _ (either_agree b b (row_of s n).is_placed _ _ _ _ (object_takes_keeps s n v b) (λ w low. (refl, low)))
      (λ done. parameters_agree b (suc n) rest)

  pub body_agrees : (b i j : ℕ) → b ≤ i → b ≤ j →
      ((d : ℕ) → d ≤ b → (line number : ℕ) (arguments : List ℕ) → Agree d d (s.call line number arguments) (other line number arguments)) →
      (f : Function) (arguments : List ℕ) → Agree b b (body_of s i f arguments) (body_of after j f arguments)
  body_agrees b i j h k calls f arguments w low =
      then_agree b b b _ _ _ _ (parameters_agree b 0 arguments)
      (λ begun. then_agree b b b _ _ _ _
      (block_agrees s other b (locals_of f.body) _ _ (items_agree s other b calls i j h k f.body b (omega arith)))
      (λ c. then_agree b b b _ _ _ _ (all_end_agree s other b (numbers_below f.parameters)) (λ ended u z. (refl, z))))
      (record w { locals = replicate (length f.locals) 0 }) low

pub none_entered : (line c : ℕ) (part : Part) (function : Option Function) (m n : Function → Doing ℕ)
    → Agree 0 c (entered line part function m) (entered line part function n)
none_entered line c part None m n = λ w low. (refl, tt)
none_entered line c part (Some f) m n = no_entry f.line c part _ _

pub one_entered : (line b : ℕ) (part : Part) (function : Option Function) (m n : Function → Doing ℕ) → ((f : Function) → Agree b b (m f) (n f))
    → Agree (suc b) (suc b) (entered line part function m) (entered line part function n)
one_entered line b part None m n h = λ w low. (refl, tt)
one_entered line b part (Some f) m n h =
    then_agree (suc b) b (suc b) _ _ _ _ (entry_agrees f.line b part) λ done.
    wider b (suc b) _ _ (omega arith)
    (then_agree b b b _ _ _ _ (h f) λ v. then_agree b b b _ _ (λ left. pure v) (λ left. pure v) (leave_keeps part b) (λ left. pure_keeps v b))

none : Function → Doing ℕ
unfolding calls
none f = traps Turns f.line

bodies : Program → ℕ → ℕ → List ℕ → Function → Doing ℕ
unfolding calls
bodies program most number arguments f = body_of (setting_of program number f (calls program most)) most f arguments

module _ (program : Program) where
  pub calls_agree : (n m b : ℕ) → b ≤ n → b ≤ m → (line number : ℕ) (arguments : List ℕ)
      → Agree b b (calls program n line number arguments) (calls program m line number arguments)
  unfolding calls none bodies
  calls_agree zero zero zero h k line number arguments = none_entered line 0 (part_of_function program number) (function_at program number) none none
  calls_agree zero (suc m) zero h k line number arguments =
      none_entered line 0 (part_of_function program number) (function_at program number) none (bodies program m number arguments)
  calls_agree (suc n) zero zero h k line number arguments =
      none_entered line 0 (part_of_function program number) (function_at program number) (bodies program n number arguments) none
  calls_agree (suc n) (suc m) zero h k line number arguments =
      none_entered line 0 (part_of_function program number) (function_at program number) (bodies program n number arguments) (bodies program m number arguments)
  calls_agree zero m (suc b) h k line number arguments = absurd (omega (arith, h))
  calls_agree (suc n) zero (suc b) h k line number arguments = absurd (omega (arith, k))
  calls_agree (suc n) (suc m) (suc b) h k line number arguments =
      one_entered line b (part_of_function program number) (function_at program number) (bodies program n number arguments) (bodies program m number arguments) λ f.
      body_agrees (setting_of program number f (calls program n)) (calls program m) b n m (omega (arith, h)) (omega (arith, k))
      (λ d low. calls_agree n m d (omega (arith, h, low)) (omega (arith, k, low))) f arguments

pub bound_is_no_limit_of : (program : Program) → BoundIsNoLimit program
bound_is_no_limit_of program n m line number arguments w h k =
    (calls_agree program n m (turns_left w) h k line number arguments w (omega arith)).0
