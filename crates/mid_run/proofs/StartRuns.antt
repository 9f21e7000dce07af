-- What the start of a run needs of a valid program.
use Rattle.std.proofs.Common.{◌≡◌, ℕ, ◌<◌, ◌≤◌, List, [], length, Option, Some, None, refl, sym, subst}
use Rattle.std.specs.Prelude.{All}
use Rattle.srmt_base.specs.declared.limits.Limits.{Limits}
use Rattle.srmt_base.specs.declared.part.Part.TheVariants.{Protected, Binary}
use Rattle.srmt_base.specs.Budgets.{full_budget, spent}
use Rattle.srmt_base.specs.Objects.{Objects}
use Rattle.srmt_base.specs.Statics.{started_objects}
use Rattle.mid_code.specs.declared.program.MidFunction.{MidFunction}
use Rattle.mid_code.specs.declared.program.MidProgram.{MidProgram}
use Rattle.mid_code.specs.Program.{function_at}
use Rattle.mid_code.specs.Valid.{IsValid}
use Rattle.mid_code.specs.Start.{FitLimits}
use Rattle.mid_code.specs.Machine.{Machine}
use Rattle.mid_code.specs.Meaning.{State, started}
use Rattle.mid_code.specs.Fits.{Fits}
use Rattle.mid_code.proofs.Naming.{whole, main_found, function_kept}
use Rattle.mid_code.proofs.StartFits.{fits_started}
use Rattle.frames.specs.Kept.{fresh}

-- `main` is there, and has few registers
pub few_registers : (program : MidProgram) (f : MidFunction) → IsValid program → function_at program program.main ≡ Some f → length f.kinds ≤ 1024
few_registers program f valid found = (function_kept program program.main f valid found).registers

pub main_not_none : (program : MidProgram) → IsValid program → function_at program program.main ≡ None → ⊥
main_not_none program valid none = let main = main_found program (whole program valid) in absurd (apart (function_at program program.main) main.0 main.1 none) where
  apart : (o : Option MidFunction) (f : MidFunction) → o ≡ Some f → o ≡ None → ⊥
  apart (Some g) f some none = cc
  apart None f some none = cc

-- the state at the start
pub started_is : (program : MidProgram) (limits : Limits) (machine : Machine) (protected binary : Objects) (input : List ℕ) (f : MidFunction) (count : ℕ) →
    function_at program program.main ≡ Some f → count ≡ length f.kinds →
    machine ≡ record { top = fresh program.main count [] 0; below = []; budgets = record { protected = spent (full_budget limits); binary = full_budget limits } } →
    protected ≡ started_objects Protected program.main_statics limits.cells → binary ≡ started_objects Binary program.binary_statics limits.cells →
    record { machine = machine; memory = record { protected = protected; binary = binary }; input = input } ≡ started program input limits
started_is program limits machine protected binary input f count found many is is_protected is_binary = rw (is, is_protected, is_binary, found, many) refl

pub fits_at_start : (program : MidProgram) (limits : Limits) (s : State) (input : List ℕ) → IsValid program → FitLimits program limits →
    All (λ byte. byte < 256) input → s ≡ started program input limits → Fits program s
fits_at_start program limits s input valid fit bytes is = subst (Fits program) (sym is) (fits_started program input limits valid fit bytes)
