use Rattle.std.proofs.Common.{sym, ap, ◌∙◌, subst, arith}
use Rattle.mid_code.specs.declared.program.MidProgram.{MidProgram}
use Rattle.mid_code.specs.Classes.{SharedProgram}
use Rattle.mid_code.specs.Closed.{everything_shared}
use Rattle.mid_code.specs.Start.{FitLimits}
use Rattle.first_form.specs.declared.source.FirstForm.{FirstForm}
use Rattle.first_form.specs.Lowered.{program_of}
use Rattle.srmtrun.specs.declared.tests.schedules.TheConstants.{LIMITS}
use Rattle.srmtrun.proofs.tests.schedules.pair_from.Goals as goal

pub pair_of-requires : goal.pair_of-requires
pair_of-requires c = c.in-Ok.ensures.ok.2.sites

-- a program of the first form has no objects
small_fits : (form : FirstForm) → FitLimits (program_of form) LIMITS
small_fits form = record {
  some_turns = omega arith;
  turns = omega arith;
  some_depth = omega arith;
  depth = omega arith;
  cells = omega arith;
  main_cells = omega arith;
  binary_cells = omega arith;
}

pub returns : goal.returns
returns c =
    let is = c.in_ok-pair_of.ensures ∙ ap everything_shared c.in-Ok.ensures.ok.2.same in
    subst (λ (p : SharedProgram). FitLimits p.program LIMITS) (sym is) (small_fits c.in-Ok.ensures.ok.0)
