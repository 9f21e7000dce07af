-- A valid program has a class for each instruction of its main file.
use Rattle.std.proofs.Common.{◌≡◌, ℕ, zero, suc, ◌+◌, ◌≤◌, List, [], ◌∷◌, length, Some, refl, sym, ap, ◌∙◌, arith}
use Rattle.std.specs.Prelude.{slice_get}
use Rattle.mid_code.proofs.AllShared.{taken_get}
use Rattle.mid_code.specs.declared.class.Class.{Class}
use Rattle.mid_code.specs.declared.class.Shared.{Shared}
use Rattle.mid_code.specs.declared.program.MidLine.{MidLine}
use Rattle.mid_code.specs.declared.program.MidFunction.{MidFunction}
use Rattle.mid_code.specs.Classes.{Sharing, sharings, sharings_of, all_sharings, sites_of, site_count, classes_from, all_classes_from, classes_of, SharedProgram, protected_functions}
use Rattle.mid_code.specs.Pairs.{HasSites}
use Rattle.mid_code.proofs.ValidInWords.{well_formed}
use Rattle.version_code.specs.Rows.{HaveClasses}

length-sharings : (mains : ℕ) (s : Shared) (from : ℕ) (code : List MidLine) → length (sharings mains s from code) ≡ length code
length-sharings mains s from [] = refl
length-sharings mains s from (l ∷ ls) = ap suc (length-sharings mains s (from + 1) ls)

length-classes_from : (site : ℕ) (ss : List Sharing) → length (classes_from site ss) ≡ length ss
length-classes_from site [] = refl
length-classes_from site (s ∷ ss) = ap suc (length-classes_from (site + sites_of s) ss)

length-all_classes_from : (site : ℕ) (rows : List (List Sharing)) → length (all_classes_from site rows) ≡ length rows
length-all_classes_from site [] = refl
length-all_classes_from site (row ∷ rows) = ap suc (length-all_classes_from (site + site_count row) rows)

length-sharings_of : (mains : ℕ) (shared : List Shared) (fs : List MidFunction) → length shared ≡ length fs → length (sharings_of mains shared fs) ≡ length fs
length-sharings_of mains [] [] same = refl
length-sharings_of mains [] (f ∷ fs) same = absurd (omega (arith, same))
length-sharings_of mains (s ∷ ss) [] same = absurd (omega (arith, same))
length-sharings_of mains (s ∷ ss) (f ∷ fs) same = ap suc (length-sharings_of mains ss fs (omega (arith, same)))

rows_fit : (mains site : ℕ) (shared : List Shared) (fs : List MidFunction) (index : ℕ) (cs : List Class) (f : MidFunction) →
    slice_get (all_classes_from site (sharings_of mains shared fs)) index ≡ Some cs → slice_get fs index ≡ Some f → length cs ≡ length f.code
rows_fit mains site [] fs index cs f at_class at = absurd (cc)
rows_fit mains site (s ∷ ss) [] index cs f at_class at = absurd (cc)
rows_fit mains site (s ∷ ss) (g ∷ gs) zero cs f at_class at =
    let row : classes_from site (sharings mains s 0 g.code) ≡ cs = cc in
    let same : g ≡ f = cc in
    sym (ap length row) ∙ length-classes_from site (sharings mains s 0 g.code) ∙ length-sharings mains s 0 g.code ∙ ap (λ (h : MidFunction). length h.code) same
rows_fit mains site (s ∷ ss) (g ∷ gs) (suc index) cs f at_class at = rows_fit mains (site + site_count (sharings mains s 0 g.code)) ss gs index cs f at_class at

pub classes_there : (p : SharedProgram) → HasSites p → HaveClasses (classes_of p) (protected_functions p.program)
classes_there p sites =
    let fs = protected_functions p.program in
    record {
      count = length-all_classes_from 1 (all_sharings p) ∙ length-sharings_of p.program.main_functions p.shared fs sites.closed.count;
      each = λ index cs f at_class at. record {
        each = rows_fit p.program.main_functions 1 p.shared fs index cs f at_class at;
        few = ((well_formed p.program sites.valid).functions (suc index) f (taken_get p.program.main_functions p.program.functions index f at)).code.1;
      };
    }

-- the functions of the main file are among all
pub functions_there : (p : SharedProgram) → HasSites p → p.program.main_functions ≤ length p.program.functions
functions_there p sites = (well_formed p.program sites.valid).main_functions.0
