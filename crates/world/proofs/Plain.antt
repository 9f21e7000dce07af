-- Programs of the first form, of which pairs are made: what their instructions can be, and where the
-- run begins.
use Rattle.std.proofs.Common.{◌≡◌, ℕ, zero, suc, ◌-◌, ◌<◌, ◌≤◌, Option, Some, None, refl, sym, ap, ◌∙◌, arith, slice_get, All}
use Rattle.std.specs.Prelude.{option_and_then}
use Rattle.std.proofs.lemmas.List.{length-take}
use Rattle.std.proofs.lemmas.Option.{slice_get_within}
use Rattle.mid_code.specs.declared.class.Shared.{Shared}
use Rattle.mid_code.specs.declared.program.MidProgram.{MidProgram}
use Rattle.mid_code.specs.declared.program.MidFunction.{MidFunction}
use Rattle.mid_code.specs.declared.program.MidLine.{MidLine}
use Rattle.mid_code.specs.Program.{function_at, line_at}
use Rattle.mid_code.specs.Classes.{SharedProgram, protected_functions, all_sharings, classes_of}
use Rattle.mid_code.specs.Valid.{IsValid}
use Rattle.mid_code.specs.Pairs.{IsOfFirstForm, HasSites}
use Rattle.mid_code.proofs.VersionGroups.{get_taken, IsProtected, sharings_in, classes_in, class_at, class_at-found, sharings_at, classes_found}
use Rattle.mid_code.proofs.Naming.{main_found, whole}
use Rattle.mid_code.proofs.Values.{found_one, one_within}
use Rattle.world.specs.Requests.{class_in}

-- a protected function is one of the program's, and its number is none above theirs
pub protected_found : (program : MidProgram) (before : ℕ) (f : MidFunction) → slice_get (protected_functions program) before ≡ Some f → (function_at program (suc before) ≡ Some f) × (suc before ≤ program.main_functions)
protected_found program before f here =
    let within = slice_get_within (protected_functions program) before f here in
    let below : before < program.main_functions = omega (arith, within, length-take program.main_functions program.functions) in
    (sym (get_taken program.functions before program.main_functions below) ∙ here, omega (arith, below))

-- an instruction of a protected function is of the first form
pub plain_line : (program : SharedProgram) → HasSites program → (function : ℕ) (f : MidFunction) (place : ℕ) (l : MidLine) →
    function_at program.program function ≡ Some f → function ≤ program.program.main_functions → slice_get f.code place ≡ Some l → IsOfFirstForm l.mid
plain_line program sites zero f place l found within at = absurd (cc)
plain_line program sites (suc before) f place l found within at =
    let here : slice_get (protected_functions program.program) before ≡ Some f = get_taken program.program.functions before program.program.main_functions (omega (arith, within)) ∙ found in
    found_one (λ l. IsOfFirstForm l.mid) f.code place l (found_one (λ f. All (λ l. IsOfFirstForm l.mid) f.code) (protected_functions program.program) before f sites.first_form here) at

-- what is shared of a protected function
pub is_protected : (program : SharedProgram) → HasSites program → (function : ℕ) (f : MidFunction) → function_at program.program function ≡ Some f → function ≤ program.program.main_functions → (s : Shared) × IsProtected program function f s
is_protected program sites zero f found within = absurd (cc)
is_protected program sites (suc before) f found within =
    let here : slice_get (protected_functions program.program) before ≡ Some f = get_taken program.program.functions before program.program.main_functions (omega (arith, within)) ∙ found in
    let one = one_within program.shared before (omega (arith, sites.closed.count, slice_get_within (protected_functions program.program) before f here)) in
    let less : before ≡ suc before - 1 = omega arith in
    (one.0, record { some = omega arith; protected = within; found = found; shared = ap (slice_get program.shared) (sym less) ∙ one.1 })

-- an instruction at a place of a protected function, with its class
pub record ProtectedLine (program : SharedProgram) (function place : ℕ) (l : MidLine) : Type 0 where
  pub code : MidFunction
  pub shared : Shared
  pub is : IsProtected program function code shared
  pub here : slice_get code.code place ≡ Some l
  pub plain : IsOfFirstForm l.mid

pub protected_line : (program : SharedProgram) → HasSites program → (function place : ℕ) (l : MidLine) → function ≤ program.program.main_functions → line_at program.program function place ≡ Some l → ProtectedLine program function place l
protected_line program sites function place l within at = by_code (function_at program.program function) refl
  where
    by_code : (o : Option MidFunction) → function_at program.program function ≡ o → ProtectedLine program function place l
    by_code None found = let clash : None ≡ Some l = ap (option_and_then (λ f. slice_get f.code place)) (sym found) ∙ at in absurd (cc)
    by_code (Some f) found =
        let here : slice_get f.code place ≡ Some l = ap (option_and_then (λ f. slice_get f.code place)) (sym found) ∙ at in
        let kept = is_protected program sites function f found within in
        record { code = f; shared = kept.0; is = kept.1; here = here; plain = plain_line program sites function f place l found within here }

-- its class, as the run finds it
pub class_of_line : (program : SharedProgram) (function : ℕ) (f : MidFunction) (s : Shared) (place : ℕ) (l : MidLine) → IsProtected program function f s → slice_get f.code place ≡ Some l →
    class_in program function place ≡ Some (class_at program function f s place l.mid)
class_of_line program zero f s place l is at = absurd (omega (arith, is.some))
class_of_line program (suc before) f s place l is at =
    let less : suc before - 1 ≡ before = omega arith in
    let rows : slice_get (classes_of program) before ≡ Some (classes_in program (suc before) f s) =
    classes_found 1 (all_sharings program) before (sharings_in program f s) (sym (ap (slice_get (all_sharings program)) less) ∙ sharings_at program (suc before) f s is) in
    ap (option_and_then (λ cs. slice_get cs place)) rows ∙ class_at-found program (suc before) f s place l at

-- `main` is there, and is a function of the main file
pub record IsMain (program : MidProgram) : Type 0 where
  pub function : MidFunction
  pub found : function_at program program.main ≡ Some function
  pub of_main_file : program.main ≤ program.main_functions

pub is_main : (program : MidProgram) → IsValid program → IsMain program
is_main program valid =
    let k = whole program valid in
    let f = main_found program k in
    record { function = f.0; found = f.1; of_main_file = k.main }
