use Rattle.std.proofs.Common.{◌≡◌, drop}
use Rattle.mid_code.specs.Row.{row_after}
use Rattle.mid_code.proofs.flow.enter_all.Given as goal

-- what is left to enter leads from this row to the last
abbrev pub invariant-loop-target : goal.invariant-loop-target
invariant-loop-target l = row_after l.limit l.place l.left (drop l.target-index l.targets) l.row ≡ row_after l.limit l.place l.left l.targets l.fn.row
