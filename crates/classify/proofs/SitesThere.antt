-- A valid program of which everything is shared can be classed where its sites are not too many.
use Rattle.std.proofs.Common.{◌≡◌, ◌≤◌, List, map, length, sym, ap, ◌∙◌, subst, arith}
use Rattle.std.specs.Prelude.{All}
use Rattle.std.proofs.lemmas.List.{length-take-le, length-map}
use Rattle.mid_code.specs.declared.class.Shared.{Shared}
use Rattle.mid_code.specs.declared.program.MidProgram.{MidProgram}
use Rattle.mid_code.specs.Valid.{IsValid}
use Rattle.mid_code.specs.Classes.{shared_program, protected_functions, all_sites}
use Rattle.mid_code.specs.Closed.{AreClosed, all_of}
use Rattle.mid_code.specs.Pairs.{IsOfFirstForm, HasSites}
use Rattle.mid_code.proofs.AllShared.{everything_closed}
use Rattle.mid_code.proofs.ValidInWords.{well_formed}
use Rattle.classify.specs.Sites.{HasRows}

pub functions_there : (program : MidProgram) → IsValid program → program.main_functions ≤ length program.functions
functions_there program valid = (well_formed program valid).main_functions.0

pub has_rows : (program : MidProgram) (shared : List Shared) → IsValid program → shared ≡ map all_of (protected_functions program) → HasRows (shared_program program shared)
has_rows program shared valid all =
    let formed = well_formed program valid in
    record {
      some = omega (arith, formed.main.0, formed.main.1);
      functions = formed.main_functions.0;
      rows = ap length all ∙ length-map (protected_functions program) all_of ∙ length-take-le program.main_functions program.functions formed.main_functions.0;
    }

pub has_sites : (program : MidProgram) (shared : List Shared) → IsValid program → shared ≡ map all_of (protected_functions program) →
    all_sites (shared_program program shared) ≤ 65535 → All (λ f. All (λ l. IsOfFirstForm l.mid) f.code) (protected_functions program) → HasSites (shared_program program shared)
has_sites program shared valid all limit form = record {
  valid = valid;
  closed = subst (λ s. AreClosed (shared_program program s)) (sym all) (everything_closed program valid);
  limit = limit;
  first_form = form;
}
