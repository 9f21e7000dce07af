use Rattle.c_types.proofs.table.Types.+has_parameters.Given as goal

abbrev pub decreases-has_parameters : goal.decreases-has_parameters
decreases-has_parameters l = l.count
