-- The state of the binary functions stands within the program at the start, and after what is done from outside.
use Rattle.std.proofs.Common.{◌≡◌, ℕ, ◌+◌, ◌<◌, ◌≤◌, ◌^◌, List, [], ◌∷◌, length, Result, Ok, Err, true, refl, sym, ap, subst, arith}
use Rattle.std.specs.Prelude.{OnOk, OnErr}
use Rattle.std.proofs.lemmas.List.{length-map}
use Rattle.std.proofs.lemmas.List.Elements.{All-nil}
use Rattle.srmt_base.specs.declared.limits.Limits.{Limits}
use Rattle.srmt_base.specs.declared.part.Part.TheVariants.{Protected, Binary}
use Rattle.srmt_base.specs.declared.trap.Trap.{Trap}
use Rattle.srmt_base.specs.Objects.{Object, Objects, access_of, if_passed, written_in, written, put_of}
use Rattle.mid_code.specs.declared.program.MidProgram.{MidProgram}
use Rattle.mid_code.specs.Valid.{IsValid}
use Rattle.mid_code.specs.Start.{FitLimits}
use Rattle.mid_code.specs.Machine.{Activation, activations, live_of, one_if}
use Rattle.mid_code.specs.Fits.{IsValue, IsPart, open_count}
use Rattle.mid_code.proofs.Naming.{whole}
use Rattle.mid_code.proofs.PartsKept.{written_part}
use Rattle.mid_code.proofs.MachineFits.{live_more}
use Rattle.mid_code.proofs.StartFits.{main_part, fits_started as run_started}
use Rattle.frames.specs.Kept.{TakesResult}
use Rattle.binary_run.specs.Binary.{Rests, Enters, BinaryState, stub_of, started_binary, gives_back}
use Rattle.binary_run.specs.Fits.{IsPlaced, AreBelow, MayEnter, FitsNext, FitsBinary}
use Rattle.binary_run.proofs.StackFits.{part_of, given_kept, caller_binary, few_live}

pub fits_started : (program : MidProgram) (limits : Limits) → IsValid program → FitLimits program limits → FitsBinary program (started_binary program limits)
fits_started program limits valid fit =
    let main = main_part program (whole program valid) in
    record {
      machine = record {
        top = subst (λ p. IsPlaced p program (stub_of program.main 0)) (sym main) (record { register = refl; opened = refl });
        below = refl;
        left = record {
          turns = fit.turns;
          depth = omega (arith, fit.depth, live_more program Binary Protected (stub_of program.main 0) [] main);
        };
        uncounted = refl;
      };
      objects = (run_started program [] limits valid fit (All-nil _)).memory.binary;
      opened = omega arith;
      entered = refl;
      next = main;
    }

-- a function is to be entered
pub fits_entered : (program : MidProgram) (b : BinaryState) (function : ℕ) (args : List ℕ) → FitsBinary program b → b.next ≡ Rests →
    MayEnter program function args → FitsBinary program (record b { next = Enters function args })
fits_entered program b function args h rests may = record {
  machine = h.machine;
  objects = h.objects;
  opened = h.opened;
  entered = h.entered;
  next = (subst (FitsNext program b.machine.top) rests h.next, may);
}

-- a value is given back
given_by : (program : MidProgram) (b : BinaryState) (value : ℕ) (below : List Activation) → FitsBinary program b → b.next ≡ Rests → b.machine.below ≡ below →
    TakesResult b.machine.top.into below → IsValue value → FitsBinary program (gives_back below value b)
given_by program b value [] h rests is takes small = absurd takes
given_by program b value (caller ∷ rest) h rests is takes small =
    let stub : part_of program b.machine.top ≡ Protected = subst (FitsNext program b.machine.top) rests h.next in
    let under : AreBelow program b.machine.top (caller ∷ rest) = subst (AreBelow program b.machine.top) is h.machine.below in
    let binary = caller_binary program b.machine.top caller rest stub under in
    record {
      machine = given_kept program b.machine caller rest value h.machine is small stub;
      objects = h.objects;
      opened = omega (arith, h.opened, ap open_count is);
      entered = omega (arith, h.entered, ap (live_of program Protected) is, live_more program Protected Binary caller rest binary);
      next = binary;
    }

pub fits_given : (program : MidProgram) (b : BinaryState) (value : ℕ) → FitsBinary program b → b.next ≡ Rests → TakesResult b.machine.top.into b.machine.below →
    IsValue value → FitsBinary program (gives_back b.machine.below value b)
fits_given program b value h rests takes small = given_by program b value b.machine.below h rests refl takes small

-- a cell is written from outside
objects_put : (s next : Objects) (pointer value : ℕ) (r : Result Object Trap) → if_passed (λ _. written s pointer value) r ≡ Ok next →
    next ≡ written s pointer value
objects_put s next pointer value (Ok object) h = cc
objects_put s next pointer value (Err trap) h = absurd (cc)

pub fits_put : (program : MidProgram) (b : BinaryState) (objects : Objects) (pointer value : ℕ) → FitsBinary program b → put_of b.objects pointer value ≡ Ok objects →
    value < 2 ^ 44 → FitsBinary program (record b { objects = objects })
fits_put program b objects pointer value h put small =
    let is = objects_put b.objects objects pointer value (access_of true b.objects pointer) put in
    let count = length-map b.objects.live (written_in pointer value) in
    record {
      machine = h.machine;
      objects = subst (IsPart Binary) (sym is) (written_part Binary b.objects pointer value small h.objects);
      opened = omega (arith, h.opened, count, ap (λ (s : Objects). length s.live) is);
      entered = h.entered;
      next = h.next;
    }

pub fits_tried : (program : MidProgram) (b : BinaryState) (objects : Objects) (pointer value : ℕ) (result : Result (Unit {0}) Trap) → FitsBinary program b →
    value < 2 ^ 44 → OnOk result (put_of b.objects pointer value ≡ Ok objects) → OnErr result (objects ≡ b.objects) →
    FitsBinary program (record b { objects = objects })
fits_tried program b objects pointer value (Ok done) fits small ok err = fits_put program b objects pointer value fits ok small
fits_tried program b objects pointer value (Err trap) fits small ok err =
    subst (λ (o : Objects). FitsBinary program (record b { objects = o })) (sym err) fits

-- there is room for all activations: each part of the stack has a stub at most for each binary function, and one more
pub few_activations : (program : MidProgram) (b : BinaryState) → FitsBinary program b →
    length (activations b.machine) + b.machine.budgets.binary.depth ≤ 2000 + one_if Protected (part_of program b.machine.top)
few_activations program b h =
    omega (arith, few_live program b.machine.top b.machine.below h.machine.below, h.machine.left.depth)
