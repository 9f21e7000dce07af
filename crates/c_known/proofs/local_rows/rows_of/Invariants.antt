use Rattle.std.proofs.Common.{◌≡◌, map, take}
use Rattle.c_known.specs.Locals.{row_in}
use Rattle.c_known.proofs.local_rows.rows_of.Given as goal

abbrev pub invariant-loop-local : goal.invariant-loop-local
invariant-loop-local l = l.found ≡ map (row_in l.types) (take l.local-index l.locals)
