-- No more objects live in a part than its cells, since each has one.
use Rattle.std.proofs.Common.{suc, ◌≤◌, List, [], ◌∷◌, length, arith}
use Rattle.std.specs.Prelude.{All, sum_by}
use Rattle.std.proofs.lemmas.List.Sums.{sum_by-cons}
use Rattle.srmt_base.specs.declared.part.Part.{Part}
use Rattle.srmt_base.specs.Objects.{Object, Objects}
use Rattle.mid_code.specs.Fits.{IsPart}

few_objects : (objects : List Object) → All (λ object. 1 ≤ length object.cells) objects → length objects ≤ sum_by (λ object. length object.cells) objects
few_objects [] each = omega arith
few_objects (object ∷ objects) each =
    let rest = few_objects objects (λ k d h. each (suc k) d (omega arith)) in
    let first = each 0 object (omega arith) in
    rw sum_by-cons (omega (arith, rest, first))

pub few_in : (part : Part) (s : Objects) → IsPart part s → length s.live ≤ 1048576
few_in part s h = omega (arith, few_objects s.live h.cells, h.within, h.budget)
