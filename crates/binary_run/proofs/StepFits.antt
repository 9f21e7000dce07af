-- What a step of the binary functions comes to stands within the program, and is nearer to the end. There is a step where one is due.
use Rattle.std.proofs.Common.{◌≡◌, ℕ, ◌+◌, ◌*◌, ◌<◌, ◌≤◌, List, [], ◌∷◌, length, Option, Some, None, refl, sym, ap, ◌∙◌, subst, arith}
use Rattle.std.specs.Prelude.{All, slice_get}
use Rattle.srmt_base.specs.declared.part.Part.{Part}
use Rattle.srmt_base.specs.declared.part.Part.TheVariants.{Protected, Binary}
use Rattle.srmt_base.specs.Budgets.{budget_of, leave_of}
use Rattle.srmt_base.specs.Objects.{Objects}
use Rattle.mid_code.specs.declared.program.FunType.{FunType}
use Rattle.mid_code.specs.declared.program.MidFunction.{MidFunction}
use Rattle.mid_code.specs.declared.program.MidProgram.{MidProgram}
use Rattle.mid_code.specs.Program.{function_at}
use Rattle.mid_code.specs.Valid.{IsValid}
use Rattle.mid_code.specs.Machine.{Activation, Local, Machine, Does, Goes, Calls as CallsOne, Leaves, Traps, Reaches, Lost, activations, activation_of, passed, resumed, waiting, live_of, local_of, part_of_function, enter, returned_to, does}
use Rattle.mid_code.specs.Meaning.{State, Step, On, Ends, Stuck, after_call, reach}
use Rattle.mid_code.specs.Bounds.{to_turn, alone_to_go, Nears}
use Rattle.mid_code.specs.Fits.{IsValue, open_count}
use Rattle.mid_code.proofs.Naming.{function_kept}
use Rattle.mid_code.proofs.MachineFits.{GoesOn, Spends, enter_spends, entry_cases, begins, live_more}
use Rattle.mid_code.proofs.InstructionsFit.{DoesFit, Waits, few_to_turn, does_fits}
use Rattle.binary_run.specs.Binary.{Next, Rests, Enters, Runs, Stopped, BinaryState, Answer, Went, Returned, Calls, Ended, After, stub_of, state_with, after_step, enters, calls, returns, leaves, runs, step_next, binary_step}
use Rattle.binary_run.specs.Fits.{MayEnter, AreBelow, IsBinaryMachine, FitsNext, FitsBinary, IsDue}
use Rattle.binary_run.specs.Bounds.{own_to_turn, all_to_turn, left_to_run}
use Rattle.binary_run.proofs.StackFits.{part_of, same_part, has_caller, top_within, with_own, local_kept, called_kept, stub_kept, entered_kept, returned_kept, own_turn, stub_turn}
use Rattle.binary_run.proofs.ReachFits.{IsSmall, IsFollowed, reach_followed}

-- the numbers of an answer have 44 bits
abbrev pub HoldsSmall : Answer → Type 0
HoldsSmall Went = Unit {0}
HoldsSmall (Returned value) = IsValue value
HoldsSmall (Calls function args) = All IsValue args
HoldsSmall (Ended end) = Unit {0}

-- fewer steps are left, unless the run has ended
abbrev pub HasNeared : Answer → ℕ → ℕ → Type 0
HasNeared Went before after = after < before
HasNeared (Returned value) before after = after < before
HasNeared (Calls function args) before after = after < before
HasNeared (Ended end) before after = Unit {0}

pub record IsAfter (program : MidProgram) (b : BinaryState) (after : After) : Type 0 where
  pub fits : FitsBinary program after.state
  pub small : HoldsSmall after.answer
  pub nearer : HasNeared after.answer (left_to_run program b.machine) (left_to_run program after.state.machine)

-- there is a step, and what it comes to is so where the outside is small
abbrev pub IsStep : MidProgram → BinaryState → Objects → List ℕ → Option After → Type 0
IsStep program b shared input None = ⊥
IsStep program b shared input (Some after) = IsSmall shared input → IsAfter program b after

-- a function that may be entered has a register for each argument
pub args_room : (program : MidProgram) (function : ℕ) (args : List ℕ) (f : MidFunction) → IsValid program → MayEnter program function args →
    function_at program function ≡ Some f → length args ≤ length f.kinds
args_room program function args f valid may found =
    let kept = function_kept program function f valid found in
    let same : may.function ≡ f = let h = may.found in cc in
    let typed : slice_get program.types f.ty ≡ Some may.type =
    subst (λ (g : MidFunction). slice_get program.types g.ty ≡ Some may.type) same may.typed in
    let one : may.type ≡ kept.type = let k = kept.typed in cc in
    omega (arith, kept.params, may.count, ap (λ (t : FunType). length t.params) one)

-- a caller is as far from its next turn with a result as without
same_turn : (program : MidProgram) (part : Part) (a : Activation) (target value : ℕ) →
    own_to_turn part program (resumed target value a) ≡ own_to_turn part program a
same_turn program Protected a target value = refl
same_turn program Binary a target value = refl

module _ (program : MidProgram) (b : BinaryState) (shared : Objects) (input : List ℕ) (valid : IsValid program) (h : FitsBinary program b) where
  abbrev IsNext : Option After → Type 0
  IsNext = IsStep program b shared input

  abbrev m : Machine
  m = b.machine

  abbrev here : State
  here = state_with b shared input

  -- the run ends
  stopped : FitsBinary program (record b { next = Stopped })
  stopped = record { machine = h.machine; objects = h.objects; opened = h.opened; entered = h.entered; next = tt }

  -- a function is entered from outside
  entered_next : (function : ℕ) (args : List ℕ) → part_of program m.top ≡ Protected → MayEnter program function args → IsNext (enters program function args b shared input)
  entered_next function args rests may =
      let room = args_room program function args may.function valid may may.found in
      let callee = activation_of function may.function args 0 in
      let w = begins program function may.function args 0 valid may.found room may.each in
      entry_cases program function may.function args 0 (activations m) m.budgets may.found
      (λ entry. IsNext (after_step (b.entered + 1) (after_call here entry) b shared input))
      (λ left e. λ outside.
      let spends : Spends Binary m.budgets left = subst (λ p. Spends p m.budgets left) may.binary (enter_spends (part_of_function program function) m.budgets left e) in
      record {
        fits = record {
          machine = entered_kept program m callee left rests h.machine refl may.binary w spends;
          objects = h.objects;
          opened = omega (arith, h.opened);
          entered = omega (arith, h.entered, live_more program Protected Protected m.top m.below rests);
          next = may.binary;
        };
        small = tt;
        nearer = omega (
          arith,
          spends.some_turns,
          ap (λ b. b.binary.turns) spends.left_is,
          own_turn program callee may.binary,
          few_to_turn program callee valid w,
        );
      })
      (λ trap e. λ outside. record { fits = stopped; small = tt; nearer = tt })

  module _ (own : part_of program m.top ≡ Binary) where
    abbrev own_top : own_to_turn (part_of program m.top) program m.top ≡ to_turn program m.top
    own_top = own_turn program m.top own

    -- the newest activation goes on by itself
    abbrev gone : Machine → After
    gone n = record { state = record { machine = n; objects = b.objects; entered = b.entered; next = Runs }; shared = shared; input = input; events = []; answer = Went }

    goes_next : (next : Local) → GoesOn program (local_of program m) next → alone_to_go program next < alone_to_go program (local_of program m) →
        IsNext (runs program (Goes next) b shared input)
    goes_next next on near = λ outside.
        let same = same_part program m.top next.at Binary on.function own in
        let nearer : 65536 * next.budget.turns + to_turn program next.at < 65536 * m.budgets.binary.turns + to_turn program m.top =
        subst (λ p. alone_to_go program next < 65536 * (budget_of p m.budgets).turns + to_turn program m.top) own near in
        let kept = subst (IsBinaryMachine program) (with_own program m own h.machine next) (local_kept program m own h.machine next on) in
        subst (λ n. IsAfter program b (gone n)) (sym (with_own program m own h.machine next)) (record {
          fits = record {
            machine = kept;
            objects = h.objects;
            opened = omega (arith, h.opened, ap length on.opened);
            entered = h.entered;
            next = same;
          };
          small = tt;
          nearer = omega (arith, nearer, own_top, own_turn program next.at same);
        })

    -- a function is called
    called_next : (function : ℕ) (args : List ℕ) (target : ℕ) → Waits program m.top function args target →
        to_turn program (passed m.top) < to_turn program m.top → part_of_function program function ≡ Binary →
        IsNext (after_step b.entered (after_call here (enter program function args target (waiting m) m.budgets)) b shared input)
    called_next function args target waits near binary =
        let call = waits.call in
        let callee = activation_of function call.code args target in
        let w = begins program function call.code args target valid call.found call.room call.values in
        entry_cases program function call.code args target (waiting m) m.budgets call.found
        (λ entry. IsNext (after_step b.entered (after_call here entry) b shared input))
        (λ left e. λ outside.
        let spends : Spends Binary m.budgets left = subst (λ p. Spends p m.budgets left) binary (enter_spends (part_of_function program function) m.budgets left e) in
        record {
          fits = record {
            machine = called_kept program m own h.machine (passed m.top) callee left refl refl waits.behind waits.takes binary w spends;
            objects = h.objects;
            opened = omega (arith, h.opened);
            entered = omega (arith, h.entered, live_more program Protected Binary (passed m.top) m.below own);
            next = binary;
          };
          small = tt;
          nearer = omega (
            arith,
            near,
            own_top,
            own_turn program (passed m.top) own,
            own_turn program callee binary,
            few_to_turn program callee valid w,
            spends.some_turns,
            ap (λ b. b.binary.turns) spends.left_is,
          );
        })
        (λ trap e. λ outside. record { fits = stopped; small = tt; nearer = tt })

    calls_next : (function : ℕ) (args : List ℕ) (target : ℕ) (part : Part) → part_of_function program function ≡ part → Waits program m.top function args target →
        to_turn program (passed m.top) < to_turn program m.top → IsNext (calls program part function args target b shared input)
    calls_next function args target Protected is waits near = λ outside. record {
      fits = record {
        machine = stub_kept program m own h.machine function target is waits.behind waits.takes;
        objects = h.objects;
        opened = omega (arith, h.opened);
        entered = omega (arith, h.entered, live_more program Protected Binary (passed m.top) m.below own);
        next = is;
      };
      small = waits.call.values;
      nearer = omega (arith, near, own_top, own_turn program (passed m.top) own, stub_turn program (stub_of function target) is);
    }
    calls_next function args target Binary is waits near = called_next function args target waits near is

    -- the function is left
    module _ (value : ℕ) (small : IsValue value) (some : 1 ≤ to_turn program m.top) (caller : Activation) (rest : List Activation) (below : m.below ≡ caller ∷ rest) where
      abbrev left : Machine
      left = record { top = resumed m.top.into value caller; below = rest; budgets = leave_of Binary m.budgets }

      left_kept : IsBinaryMachine program left
      left_kept = returned_kept program m caller rest value h.machine below small own

      left_opened : open_count (activations left) ≤ length b.objects.live
      left_opened = omega (arith, h.opened, ap open_count below)

      left_nearer : left_to_run program left < left_to_run program m
      left_nearer = omega (arith, some, own_top, ap (all_to_turn program) below, same_turn program (part_of program caller) caller m.top.into value)

      returns_next : (part : Part) → part_of program caller ≡ part → IsNext (returns part value left b shared input)
      returns_next Protected is = λ outside. record {
        fits = record {
          machine = left_kept;
          objects = h.objects;
          opened = left_opened;
          entered = omega (arith, h.entered, ap (live_of program Protected) below, live_more program Protected Protected caller rest is);
          next = is;
        };
        small = small;
        nearer = left_nearer;
      }
      returns_next Binary is = λ outside. record {
        fits = record {
          machine = left_kept;
          objects = h.objects;
          opened = left_opened;
          entered = omega (arith, h.entered, ap (live_of program Protected) below, live_more program Protected Binary caller rest is);
          next = is;
        };
        small = tt;
        nearer = left_nearer;
      }

    leaves_next : (value : ℕ) (below : List Activation) → IsValue value → 1 ≤ to_turn program m.top → m.below ≡ below → AreBelow program m.top below →
        IsNext (leaves program value (returned_to below (part_of program m.top) value m) b shared input)
    leaves_next value [] small some is under = absurd (has_caller program m.top [] valid own under)
    leaves_next value (caller ∷ rest) small some is under =
        let after = resumed m.top.into value caller in
        subst (λ p. IsNext (returns (part_of program caller) value (record { top = after; below = rest; budgets = leave_of p m.budgets }) b shared input))
        (sym own) (returns_next value small some caller rest is (part_of program caller) refl)

    -- memory and the outside
    followed_next : (s : Step) → IsFollowed program m shared input s → IsNext (after_step b.entered s b shared input)
    followed_next (On s events) follows = λ outside.
        let f = follows outside in
        record {
          fits = record {
            machine = f.machine;
            objects = f.objects;
            opened = f.opened;
            entered = h.entered ∙ ap (live_of program Protected) f.below;
            next = same_part program m.top s.machine.top Binary f.function own;
          };
          small = tt;
          nearer = f.nearer;
        }
    followed_next (Ends end events) follows = λ outside. record { fits = stopped; small = tt; nearer = tt }
    followed_next Stuck follows = follows

    runs_next : (d : Does) → DoesFit program (local_of program m) d → Nears program (local_of program m) d → IsNext (runs program d b shared input)
    runs_next (Goes next) fits near = goes_next next fits near
    runs_next (CallsOne function args target) fits near = calls_next function args target (part_of_function program function) refl fits near
    runs_next (Leaves value) fits some = leaves_next value m.below fits.1 some refl h.machine.below
    runs_next (Traps trap line) fits near = λ outside. record { fits = stopped; small = tt; nearer = tt }
    runs_next (Reaches access line) fits near = followed_next (reach program access line here) (reach_followed program b shared input h own near access line fits)
    runs_next Lost fits near = absurd fits

  -- a step that is due
  due_next : (next : Next) → b.next ≡ next → IsDue next → IsNext (step_next next program b shared input)
  due_next Rests is due = absurd due
  due_next (Enters function args) is due =
      let fits : FitsNext program m.top (Enters function args) = subst (FitsNext program m.top) is h.next in
      entered_next function args fits.0 fits.1
  due_next Runs is due =
      let own : part_of program m.top ≡ Binary = subst (FitsNext program m.top) is h.next in
      let l = local_of program m in
      let sound = does_fits program l valid (top_within program m own h.machine) in
      runs_next own (does program l) sound.0 sound.1
  due_next Stopped is due = absurd due

  pub step_sound : IsDue b.next → IsNext (binary_step program b shared input)
  step_sound due = due_next b.next refl due

-- what a step comes to
is_due : (next : Next) (program : MidProgram) (b : BinaryState) (shared : Objects) (input : List ℕ) (after : After) →
    step_next next program b shared input ≡ Some after → IsDue next
is_due Rests program b shared input after is = absurd (cc)
is_due (Enters function args) program b shared input after is = tt
is_due Runs program b shared input after is = tt
is_due Stopped program b shared input after is = absurd (cc)

pub after_is : (program : MidProgram) (b : BinaryState) (shared : Objects) (input : List ℕ) (after : After) → IsValid program → FitsBinary program b →
    IsSmall shared input → binary_step program b shared input ≡ Some after → IsAfter program b after
after_is program b shared input after valid h small is =
    subst (IsStep program b shared input) is (step_sound program b shared input valid h (is_due b.next program b shared input after is)) small
