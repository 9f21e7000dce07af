use Rattle.c_types.specs.Table.{type_at}
use Rattle.lower.proofs.StartingObjects.{depth}
use Rattle.lower.proofs.statics.+has_const_elements.Given as goal

abbrev pub decreases-has_const_elements : goal.decreases-has_const_elements
decreases-has_const_elements l = depth (type_at l.types.now l.of)
