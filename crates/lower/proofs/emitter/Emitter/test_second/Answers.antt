use Rattle.lower.proofs.Steps.{exits, same-answer}
use Rattle.lower.proofs.Jumping.{jumped-refused, jumped-over, leads-deciding}
use Rattle.lower.proofs.emitter.Emitter.test_second.Goals as goal

pub returns-in_err-target : goal.returns-in_err-target
returns-in_err-target c = λ rows.
    same-answer (exits c.from_residual-in_err-target.result _ c.from_residual-in_err-target.ensures.1)
    (jumped-refused c.in_ok-at.ensures (c.in_err-target.ensures rows))

pub returns : goal.returns
returns c = λ rows.
    jumped-over (leads-deciding c.args.line c.args.is_or c.args.source) c.in_ok-at.ensures
    (c.in_ok-target.ensures rows) c.lead_here.ensures.allotted c.lead_here.ensures.led
