use Rattle.std.proofs.Common.{sym, subst}
use Rattle.mid_code.specs.Classes.{SharedProgram}
use Rattle.mid_code.specs.Start.{FitLimits}
use Rattle.srmtrun.specs.declared.still.TheConstants.{LIMITS}
use Rattle.srmtrun.proofs.Limiting.{limits_fit}
use Rattle.srmtrun.proofs.Serving.{ran_by_sides, rose_by}
use Rattle.srmtrun.proofs.still.run_sides.Goals as goal

pub start-requires : goal.start-requires
start-requires g c = subst (λ (p : SharedProgram). FitLimits p.program LIMITS) (sym c.in_ok-pair.ensures) (limits_fit c.args.program c.requires.valid)

pub returns-clause-ok : goal.returns-clause-ok
returns-clause-ok g c =
    ran_by_sides _ _ _ _ _ _ _ _ c.in_ok-pair.ensures c.new.ensures.items c.in_ok-duo.ensures.opening c.alternate.ensures.answer (rose_by _ _ _ c.alternate.ensures.faults)

pub alternate-requires : goal.alternate-requires
alternate-requires g c = (c.new.result.items, LIMITS, c.in_ok-duo.ensures.opening)
