-- Parameters take the values of the arguments one after another, and end the last first.
use Rattle.std.proofs.Common.{◌≡◌, ℕ, suc, ◌+◌, ◌<◌, ◌≤◌, true, false, List, [], ◌∷◌, ◌++◌, length, drop, Result, Ok, Err, refl, sym, ap, ◌∙◌, arith}
use Rattle.std.proofs.lemmas.List.{drop_more, drop_all}
use Rattle.std.specs.Prelude.{slice_index, slice_set}
use Rattle.srmt_base.specs.declared.event.Event.{Event}
use Rattle.srmt_base.specs.declared.trap.Trap.{Trap}
use Rattle.srmt_base.specs.declared.trap.SourceEnd.{SourceEnd}
use Rattle.srmt_base.specs.declared.trap.SourceEnd.TheVariants.{Trap as TrapEnd}
use Rattle.srmt_base.specs.Memory.{Memory, write_of}
use Rattle.source_meaning.specs.World.{World, Outcome, Gives, Ends, Doing, and_then, ◌>>=◌, ◌>>◌, pure, becomes, either, computed}
use Rattle.source_meaning.specs.World.{remembers, local_at, set_local}
use Rattle.source_meaning.specs.Places.{Setting, row_of, object_begins, all_end}
use Rattle.source_meaning.specs.Calls.{object_takes, parameters_begin, numbers_below}
use Rattle.source_meaning.proofs.Associates.{then_then}
use Rattle.c_meaning.specs.Entering.{takes}
use Rattle.c_meaning.specs.Lifetimes.{ends}

module _ (s : Setting) where
  -- the object of a parameter takes the argument
  abbrev fills : ℕ → ℕ → Doing (Unit {0})
  fills n v = local_at n >>= (λ pointer. remembers (row_of s n).line (λ memory. write_of memory pointer v))

  abbrev written : ℕ → Result Memory Trap → Doing (Unit {0})
  written line r = computed line r >>= (λ memory. becomes (λ x. record x { memory = memory }))

  module _ (n v : ℕ) (w : World) where
    pub takes_register : (row_of s n).is_placed ≡ false → takes s n v w ≡ Gives tt (record w { locals = slice_set w.locals n v })
    takes_register register = ap (λ b. either b (object_takes s n v) (set_local n v) w) register

    takes_begun : (o : Outcome (Unit {0})) → (row_of s n).is_placed ≡ true → object_begins s n w ≡ o
        → takes s n v w ≡ and_then o (λ _. fills n v)
    takes_begun o placed begun = ap (λ b. either b (object_takes s n v) (set_local n v) w) placed ∙ ap (λ p. and_then p (λ _. fills n v)) begun

    pub takes_ends : (e : SourceEnd) (es : List Event) → (row_of s n).is_placed ≡ true → object_begins s n w ≡ Ends e es → takes s n v w ≡ Ends e es
    takes_ends e es placed begun = takes_begun (Ends e es) placed begun

    module _ (u : World) (placed : (row_of s n).is_placed ≡ true) (begun : object_begins s n w ≡ Gives tt u) where
      pub takes_object : (m : Memory) → write_of u.memory (slice_index u.locals n) v ≡ Ok m → takes s n v w ≡ Gives tt (record u { memory = m })
      takes_object m is = takes_begun (Gives tt u) placed begun ∙ ap (λ (r : Result Memory Trap). written (row_of s n).line r u) is

      pub takes_fails : (line : ℕ) (trap : Trap) → line ≡ (row_of s n).line → write_of u.memory (slice_index u.locals n) v ≡ Err trap
          → takes s n v w ≡ Ends (TrapEnd trap line) u.events
      takes_fails line trap line-is is =
          takes_begun (Gives tt u) placed begun ∙ ap (λ (r : Result Memory Trap). written (row_of s n).line r u) is
          ∙ ap (λ (l : ℕ). Ends (TrapEnd trap l) u.events) (sym line-is)

  -- ---- all parameters

  module _ (n : ℕ) (vs : List ℕ) (w : World) where
    parameters_next : (o : Outcome (Unit {0})) → n < length vs → takes s n (slice_index vs n) w ≡ o
        → parameters_begin s n (drop n vs) w ≡ and_then o (λ _. parameters_begin s (suc n) (drop (n + 1) vs))
    parameters_next o low taken =
        ap (λ us. parameters_begin s n us w) (drop_more vs n 0 low) ∙ ap (λ p. and_then p (λ _. parameters_begin s (suc n) (drop (n + 1) vs))) taken

    pub parameters_more : (u : World) → n < length vs → takes s n (slice_index vs n) w ≡ Gives tt u
        → parameters_begin s n (drop n vs) w ≡ parameters_begin s (n + 1) (drop (n + 1) vs) u
    parameters_more u low taken =
        let next : suc n ≡ n + 1 = omega arith in
        parameters_next (Gives tt u) low taken ∙ ap (λ k. parameters_begin s k (drop (n + 1) vs) u) next

    pub parameters_stop : (e : SourceEnd) (es : List Event) → n < length vs → takes s n (slice_index vs n) w ≡ Ends e es
        → parameters_begin s n (drop n vs) w ≡ Ends e es
    parameters_stop e es low taken = parameters_next (Ends e es) low taken

    pub parameters_done : length vs ≤ n → parameters_begin s n (drop n vs) w ≡ Gives tt w
    parameters_done all = ap (λ us. parameters_begin s n us w) (drop_all n vs all)

  then_done : (o : Outcome (Unit {0})) → o ≡ and_then o (λ _. pure tt)
  then_done (Gives tt w) = refl
  then_done (Ends e es) = refl

  -- the last ends first
  last_ends : (xs : List ℕ) (n : ℕ) (w : World) → all_end s (xs ++ n ∷ []) w ≡ (ends s n >> all_end s xs) w
  last_ends [] n w = then_done (ends s n w)
  last_ends (x ∷ xs) n w =
      ap (λ o. and_then o (λ _. ends s x)) (last_ends xs n w) ∙ then_then (ends s n) (λ _. all_end s xs) (λ _. ends s x) w

  pub parameter_ends : (k n : ℕ) (w u : World) → k ≡ suc n → ends s n w ≡ Gives tt u
      → all_end s (numbers_below k) w ≡ all_end s (numbers_below n) u
  parameter_ends k n w u is ended =
      ap (λ i. all_end s (numbers_below i) w) is ∙ last_ends (numbers_below n) n w ∙ ap (λ o. and_then o (λ _. all_end s (numbers_below n))) ended
