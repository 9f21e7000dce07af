use Rattle.std.proofs.Common.{subst}
use Rattle.lower.specs.Jumps.{LandsIn}
use Rattle.lower.specs.Drafts.{code_of}
use Rattle.lower.proofs.Steps.{exits}
use Rattle.lower.proofs.Jumping.{no-turn}
use Rattle.lower.proofs.emitter.Emitter.turn.Goals as goal

pub returns-in_err-emit : goal.returns-in_err-emit
returns-in_err-emit c = no-turn _ _ _ _ (exits c.from_residual.result _ c.from_residual.ensures.1)

pub returns : goal.returns
returns c = record {
  allotted = c.lead_here.ensures.allotted;
  here = c.here-over.ensures;
  lands = λ leads. subst
      (λ s. LandsIn c.args.at s (code_of c.lead_here.new.self.code leads)) (c.in_ok-emit.ensures leads) (c.lead_here.ensures.led leads);
}
