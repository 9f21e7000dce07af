-- The stack of the binary functions stands within its program, as its newest activation goes on, calls, returns, or takes a value.
use Rattle.std.proofs.Common.{◌≡◌, ℕ, ◌+◌, ◌*◌, ◌<◌, ◌≤◌, List, [], ◌∷◌, length, refl, sym, ap, ◌∙◌, subst, arith}
use Rattle.std.proofs.lemmas.List.{length-set}
use Rattle.srmt_base.specs.declared.budgets.Budgets.{Budgets}
use Rattle.srmt_base.specs.declared.part.Part.{Part}
use Rattle.srmt_base.specs.declared.part.Part.TheVariants.{Protected, Binary}
use Rattle.srmt_base.specs.Budgets.{budget_of, with_budget, leave_of}
use Rattle.mid_code.specs.declared.program.MidProgram.{MidProgram}
use Rattle.mid_code.specs.Valid.{IsValid}
use Rattle.mid_code.specs.Machine.{Activation, Local, Machine, activations, live_of, one_if, part_of_function, local_of, with_local, with_top, passed, waiting, resumed}
use Rattle.mid_code.specs.Bounds.{to_turn}
use Rattle.mid_code.specs.Fits.{IsValue, IsWithin, IsLeft}
use Rattle.mid_code.proofs.Naming.{whole}
use Rattle.mid_code.proofs.StartFits.{main_part}
use Rattle.mid_code.proofs.MachineFits.{GoesOn, Spends, live_same, live_more, resumed_within}
use Rattle.frames.specs.Kept.{TakesResult}
use Rattle.binary_run.specs.Binary.{stub_of}
use Rattle.binary_run.specs.Fits.{IsStub, IsPlaced, MayStand, AreBelow, IsBinaryMachine}
use Rattle.binary_run.specs.Bounds.{own_to_turn}

-- the part of an activation's function
abbrev pub part_of : MidProgram → Activation → Part
part_of program a = part_of_function program a.function

pub same_part : (program : MidProgram) (a b : Activation) (part : Part) → a.function ≡ b.function → part_of program a ≡ part → part_of program b ≡ part
same_part program a b part same own = ap (part_of_function program) (sym same) ∙ own

-- what stands below an activation, where it changes neither its function nor the register for its result
pub below_same : (program : MidProgram) (a b : Activation) (rest : List Activation) → a.function ≡ b.function → a.into ≡ b.into →
    AreBelow program a rest → AreBelow program b rest
below_same program a b [] function into h = sym function ∙ h
below_same program a b (caller ∷ rest) function into h = (
  subst (λ r. r < length caller.registers) into h.0,
  subst (λ f. MayStand (part_of_function program f) (part_of program caller)) function h.1,
  h.2,
  h.3,
)

-- a binary function stands within the program, and upon whatever there is
pub within : (program : MidProgram) (a : Activation) → part_of program a ≡ Binary → IsPlaced (part_of program a) program a → IsWithin program a
within program a own placed = subst (λ p. IsPlaced p program a) own placed

pub placed : (program : MidProgram) (a : Activation) → part_of program a ≡ Binary → IsWithin program a → IsPlaced (part_of program a) program a
placed program a own w = subst (λ p. IsPlaced p program a) (sym own) w

may_stand : (own other : Part) → own ≡ Binary → MayStand own other
may_stand Binary Protected is = tt
may_stand Binary Binary is = tt
may_stand Protected other is = absurd (cc)

stub_may_stand : (own other : Part) → own ≡ Protected → other ≡ Binary → MayStand own other
stub_may_stand Protected Binary is binary = tt
stub_may_stand Protected Protected is binary = absurd (cc)
stub_may_stand Binary other is binary = absurd (cc)

-- a binary function has a caller below it, since the last is `main`
pub has_caller : (program : MidProgram) (a : Activation) (below : List Activation) → IsValid program → part_of program a ≡ Binary → AreBelow program a below →
    TakesResult a.into below
has_caller program a [] valid own main =
    let protected : part_of program a ≡ Protected = ap (part_of_function program) main ∙ main_part program (whole program valid) in
    absurd (cc)
has_caller program a (caller ∷ rest) valid own h = h.0

-- the newest activation goes on
module _ (program : MidProgram) (m : Machine) (own : part_of program m.top ≡ Binary) (h : IsBinaryMachine program m) where
  pub top_within : IsWithin program m.top
  top_within = within program m.top own h.top

  left_same : (a : Activation) → m.top.function ≡ a.function → IsLeft program Binary (a ∷ m.below) m.budgets
  left_same a function = record { turns = h.left.turns; depth = omega (arith, h.left.depth, live_same program Binary m.top a m.below function) }

  pub top_kept : (a : Activation) → m.top.function ≡ a.function → m.top.into ≡ a.into → IsWithin program a → IsBinaryMachine program (with_top a m)
  top_kept a function into w = record {
    top = placed program a (same_part program m.top a Binary function own) w;
    below = below_same program m.top a m.below function into h.below;
    left = left_same a function;
    uncounted = h.uncounted;
  }

  pub with_own : (next : Local) → with_local program next m ≡ record m { top = next.at; budgets = with_budget Binary next.budget m.budgets }
  with_own next = ap (λ p. record m { top = next.at; budgets = with_budget p next.budget m.budgets }) own

  pub local_kept : (next : Local) → GoesOn program (local_of program m) next → IsBinaryMachine program (with_local program next m)
  local_kept next on =
      let turns : next.budget.turns ≤ m.budgets.binary.turns = subst (λ p. next.budget.turns ≤ (budget_of p m.budgets).turns) own on.turns in
      let depth : next.budget.depth ≡ m.budgets.binary.depth = subst (λ p. next.budget.depth ≡ (budget_of p m.budgets).depth) own on.depth in
      let left = left_same next.at on.function in
      subst (IsBinaryMachine program) (sym (with_own next)) (record {
        top = placed program next.at (same_part program m.top next.at Binary on.function own) on.within;
        below = below_same program m.top next.at m.below on.function on.into h.below;
        left = record { turns = omega (arith, turns, left.turns); depth = omega (arith, depth, left.depth) };
        uncounted = h.uncounted;
      })

  -- it calls a binary function
  pub called_kept : (caller callee : Activation) (left : Budgets) → m.top.function ≡ caller.function → m.top.into ≡ caller.into → IsWithin program caller →
      callee.into < length caller.registers → part_of program callee ≡ Binary → IsWithin program callee → Spends Binary m.budgets left →
      IsBinaryMachine program (record { top = callee; below = caller ∷ m.below; budgets = left })
  called_kept caller callee left function into passed there binary w spends =
      let own_caller = same_part program m.top caller Binary function own in
      record {
        top = placed program callee binary w;
        below = (
          there,
          may_stand (part_of program callee) (part_of program caller) binary,
          placed program caller own_caller passed,
          below_same program m.top caller m.below function into h.below,
        );
        left = subst (IsLeft program Binary (callee ∷ caller ∷ m.below)) spends.left_is (record {
          turns = omega (arith, h.left.turns);
          depth = omega (
            arith,
            h.left.depth,
            spends.some_depth,
            live_same program Binary m.top caller m.below function,
            live_more program Binary Binary callee (caller ∷ m.below) binary,
          );
        });
        uncounted = ap (λ (b : Budgets). b.protected) (sym spends.left_is) ∙ h.uncounted;
      }

  -- it calls a function of the main file
  pub stub_kept : (function target : ℕ) → part_of_function program function ≡ Protected → IsWithin program (passed m.top) → target < length m.top.registers →
      IsBinaryMachine program (record m { top = stub_of function target; below = waiting m })
  stub_kept function target protected w there = record {
    top = subst (λ p. IsPlaced p program (stub_of function target)) (sym protected) (record { register = refl; opened = refl });
    below = (
      there,
      stub_may_stand (part_of_function program function) (part_of program m.top) protected own,
      placed program (passed m.top) own w,
      below_same program m.top (passed m.top) m.below refl refl h.below,
    );
    left = record {
      turns = h.left.turns;
      depth = omega (arith, h.left.depth, live_more program Binary Protected (stub_of function target) (waiting m) protected);
    };
    uncounted = h.uncounted;
  }

-- a function is entered upon the stub that rests
pub entered_kept : (program : MidProgram) (m : Machine) (callee : Activation) (left : Budgets) → part_of program m.top ≡ Protected → IsBinaryMachine program m →
    callee.into ≡ 0 → part_of program callee ≡ Binary → IsWithin program callee → Spends Binary m.budgets left →
    IsBinaryMachine program (record { top = callee; below = activations m; budgets = left })
entered_kept program m callee left rests h none binary w spends =
    let stub : IsStub m.top = subst (λ p. IsPlaced p program m.top) rests h.top in
    record {
      top = placed program callee binary w;
      below = (omega (arith, none, stub.register), may_stand (part_of program callee) (part_of program m.top) binary, h.top, h.below);
      left = subst (IsLeft program Binary (callee ∷ activations m)) spends.left_is (record {
        turns = omega (arith, h.left.turns);
        depth = omega (arith, h.left.depth, spends.some_depth, live_more program Binary Binary callee (activations m) binary);
      });
      uncounted = ap (λ (b : Budgets). b.protected) (sym spends.left_is) ∙ h.uncounted;
    }

-- a caller with a result
resumed_placed : (program : MidProgram) (part : Part) (a : Activation) (target value : ℕ) → IsPlaced part program a → IsValue value →
    IsPlaced part program (resumed target value a)
resumed_placed program Protected a target value stub small = record { register = length-set a.registers target value ∙ stub.register; opened = stub.opened }
resumed_placed program Binary a target value w small = resumed_within program a target value w small

module _ (program : MidProgram) (m : Machine) (caller : Activation) (rest : List Activation) (value : ℕ) (h : IsBinaryMachine program m) (is : m.below ≡ caller ∷ rest)
    (small : IsValue value) where
  abbrev after : Activation
  after = resumed m.top.into value caller

  -- the binary function on top is left
  pub returned_kept : part_of program m.top ≡ Binary → IsBinaryMachine program (record { top = after; below = rest; budgets = leave_of Binary m.budgets })
  returned_kept own =
      let under : AreBelow program m.top (caller ∷ rest) = subst (AreBelow program m.top) is h.below in
      let live : live_of program Binary m.below ≡ live_of program Binary (after ∷ rest) = ap (live_of program Binary) is in
      record {
        top = resumed_placed program (part_of program caller) caller m.top.into value under.2 small;
        below = below_same program caller after rest refl refl under.3;
        left = record {
          turns = h.left.turns;
          depth = omega (arith, h.left.depth, live_more program Binary Binary m.top m.below own, live);
        };
        uncounted = h.uncounted;
      }

  -- the stub on top gives its value back
  pub given_kept : part_of program m.top ≡ Protected → IsBinaryMachine program (record m { top = after; below = rest })
  given_kept rests =
      let under : AreBelow program m.top (caller ∷ rest) = subst (AreBelow program m.top) is h.below in
      let live : live_of program Binary m.below ≡ live_of program Binary (after ∷ rest) = ap (live_of program Binary) is in
      record {
        top = resumed_placed program (part_of program caller) caller m.top.into value under.2 small;
        below = below_same program caller after rest refl refl under.3;
        left = record {
          turns = h.left.turns;
          depth = omega (arith, h.left.depth, live_more program Binary Protected m.top m.below rests, live);
        };
        uncounted = h.uncounted;
      }

-- upon the stub that gives its value back stands a binary function
pub caller_binary : (program : MidProgram) (a caller : Activation) (rest : List Activation) → part_of program a ≡ Protected → AreBelow program a (caller ∷ rest) →
    part_of program caller ≡ Binary
caller_binary program a caller rest rests h = by (part_of program a) (part_of program caller) rests h.1
  where
    by : (own other : Part) → own ≡ Protected → MayStand own other → other ≡ Binary
    by Protected Protected is may = absurd may
    by Protected Binary is may = refl
    by Binary other is may = absurd (cc)

-- how far a binary function is from its next turn
pub own_turn : (program : MidProgram) (a : Activation) → part_of program a ≡ Binary → own_to_turn (part_of program a) program a ≡ to_turn program a
own_turn program a own = ap (λ p. own_to_turn p program a) own

pub stub_turn : (program : MidProgram) (a : Activation) → part_of program a ≡ Protected → own_to_turn (part_of program a) program a ≡ 0
stub_turn program a rests = ap (λ p. own_to_turn p program a) rests

-- no more stubs live than binary functions, and one
pub few_live : (program : MidProgram) (a : Activation) (below : List Activation) → AreBelow program a below →
    length (a ∷ below) ≤ 2 * live_of program Binary (a ∷ below) + one_if Protected (part_of program a)
few_live program a [] main = by (part_of program a)
  where
    by : (own : Part) → 1 ≤ 2 * (one_if Binary own + 0) + one_if Protected own
    by Protected = omega arith
    by Binary = omega arith
few_live program a (caller ∷ rest) h = by (part_of program a) (part_of program caller) h.1 (few_live program caller rest h.3)
  where
    by : (own other : Part) → MayStand own other → length (caller ∷ rest) ≤ 2 * live_of program Binary (caller ∷ rest) + one_if Protected other →
        length (a ∷ caller ∷ rest) ≤ 2 * (one_if Binary own + live_of program Binary (caller ∷ rest)) + one_if Protected own
    by Protected Protected may few = absurd may
    by Protected Binary may few = omega (arith, few)
    by Binary Protected may few = omega (arith, few)
    by Binary Binary may few = omega (arith, few)
