use Rattle.std.proofs.Common.{◌≡◌, ◌≤◌, ◌+◌, drop, sum_by}
use Rattle.mid_code.proofs.limits.has_many_cells.Given as goal

-- the cells so far, and those of the objects that are left, are all; and so far they are not too many
abbrev pub invariant-loop-object : goal.invariant-loop-object
invariant-loop-object l = record {
  all : l.total + sum_by (λ object. object.cells) (drop l.object-index l.objects) ≡ sum_by (λ object. object.cells) l.objects;
  few : l.total ≤ 1048576;
}
