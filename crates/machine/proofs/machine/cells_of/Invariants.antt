use Rattle.std.proofs.Common.{◌≡◌, ◌+◌, drop, sum_by}
use Rattle.machine.proofs.machine.cells_of.Given as goal

-- the cells so far, and those of the objects that are left, are all
abbrev pub invariant-loop-object : goal.invariant-loop-object
invariant-loop-object l = l.cells + sum_by (λ object. object.cells) (drop l.object-index l.objects) ≡ sum_by (λ object. object.cells) l.objects
