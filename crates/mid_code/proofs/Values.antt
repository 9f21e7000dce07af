-- Registers and cells hold numbers of 44 bits.
use Rattle.std.proofs.Common.{◌≡◌, ℕ, ◌-◌, ◌<◌, ◌≤◌, ◌^◌, List, length, Some, Result, Ok, Err, inl, inr, subst, arith}
use Rattle.std.specs.Prelude.{All, IfOk, map, replicate, ◌++◌, slice_index, slice_get}
use Rattle.std.proofs.lemmas.Bool.{cases_lt}
use Rattle.std.proofs.lemmas.List.{length-append, length-replicate}
use Rattle.std.proofs.lemmas.List.Elements.{All-append, All-replicate, All-map}
use Rattle.std.proofs.lemmas.Option.{slice_get_cases, slice_get_within, get_or_from_slice_get}
use Rattle.std.proofs.Math.ListN.{get_or-eq_default}
use Rattle.srmt_base.specs.declared.trap.Trap.{Trap}
use Rattle.mid_code.specs.Fits.{IsValue}

-- an element found satisfies what all do
pub found_one : {X : Type 0} (P : X → Type 0) (xs : List X) (k : ℕ) (x : X) → All P xs → slice_get xs k ≡ Some x → P x
found_one P xs k x all at = subst P (get_or_from_slice_get xs k x x at) (all k x (slice_get_within xs k x at))

-- there is an element at each place within
pub one_within : {X : Type 0} (xs : List X) (k : ℕ) → k < length xs → (x : X) × (slice_get xs k ≡ Some x)
one_within xs k within =
    elim (slice_get_cases xs k).1 as (λ _. (x : _) × (slice_get xs k ≡ Some x)) [
      | inl found ↦ (found.0, found.2)
      | inr past ↦ absurd (omega (arith, past.0))
    ]

-- what a register holds, and 0 where there is none
pub read_small : (xs : List ℕ) (r : ℕ) → All IsValue xs → IsValue (slice_index xs r)
read_small xs r all =
    elim (cases_lt r (length xs)) as (λ _. IsValue (slice_index xs r)) [
      | inl within ↦ all r 0 within
      | inr past ↦ rw (get_or-eq_default xs 0 past) (omega arith)
    ]

-- what several registers hold
pub reads_small : (xs rs : List ℕ) → All IsValue xs → All IsValue (map (slice_index xs) rs)
reads_small xs rs all = All-map IsValue (slice_index xs) rs (λ k d within. read_small xs _ all)

-- a result that fits fewer bits
pub wider : (bound : ℕ) (r : Result ℕ Trap) → bound ≤ 2 ^ 44 → IfOk r (λ v. v < bound) → IfOk r IsValue
wider bound (Ok v) small h = omega arith
wider bound (Err trap) small h = tt

-- the first registers of a function hold its arguments, and the others 0
pub first_registers : (values : List ℕ) (count : ℕ) → length values ≤ count → All IsValue values → (length (values ++ replicate (count - length values) 0) ≡ count) × All IsValue (values ++ replicate (count - length values) 0)
first_registers values count room all = (
  omega (arith, length-append values (replicate (count - length values) 0), length-replicate {A = ℕ} (count - length values) 0),
  All-append IsValue values (replicate (count - length values) 0) all (All-replicate IsValue (count - length values) 0 (omega arith)),
)
