-- The limits of a run fit every valid program.
use Rattle.std.proofs.Common.{◌≡◌, ◌≤◌, List, false, arith}
use Rattle.std.specs.Prelude.{nat_lt, sum_by}
use Rattle.std.specs.List.{list_any}
use Rattle.std.proofs.lemmas.Bool.{ltb-false}
use Rattle.srmt_base.specs.declared.statics.Static.{Static}
use Rattle.srmt_base.specs.Statics.{static_cells}
use Rattle.mid_code.specs.declared.program.MidProgram.{MidProgram}
use Rattle.mid_code.specs.Rules.{is_bad_static, has_bad_statics}
use Rattle.mid_code.specs.Start.{FitLimits}
use Rattle.mid_code.specs.Valid.{IsValid}
use Rattle.mid_code.proofs.Keeping.{neither}
use Rattle.mid_code.proofs.Naming.{whole}
use Rattle.srmtrun.specs.declared.still.TheConstants.{LIMITS}

few_cells : (objects : List Static) → has_bad_statics objects ≡ false → static_cells objects ≤ 1048576
few_cells objects h = ltb-false 1048576 (sum_by (λ object. object.cells) objects) (neither (list_any is_bad_static objects) (nat_lt 1048576 (sum_by (λ object. object.cells) objects)) h).1

pub limits_fit : (program : MidProgram) → IsValid program → FitLimits program LIMITS
limits_fit program valid =
    let k = whole program valid in
    record {
      some_turns = omega arith;
      turns = omega arith;
      some_depth = omega arith;
      depth = omega arith;
      cells = omega arith;
      main_cells = few_cells program.main_statics k.main_statics;
      binary_cells = few_cells program.binary_statics k.binary_statics;
    }
