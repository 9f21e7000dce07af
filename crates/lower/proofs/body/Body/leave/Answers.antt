use Rattle.std.proofs.Common.{refl, ◌∙◌, ap, Err, reverse, subst, List}
use Rattle.std.specs.Prelude.{ℕ}
use Rattle.mid_code.specs.declared.mid.Mid.TheVariants as mid
use Rattle.lower.specs.Emitting.{at_line}
use Rattle.lower.specs.Statements.{breaks}
use Rattle.lower.specs.Bodies.{Closing}
use Rattle.lower.specs.declared.refusal.LowerRefusal.TheVariants.{Memory}
use Rattle.lower.proofs.Steps.{exits}
use Rattle.lower.proofs.RunSteps.{run-memory}
use Rattle.lower.proofs.Closing.{left}
use Rattle.lower.proofs.body.Body.leave.Goals as goal

pub returns-in_err-close : goal.returns-in_err-close
returns-in_err-close c = λ rows. run-memory (exits c.from_residual.result _ c.from_residual.ensures.1 ∙ ap Err c.in_err-close.ensures)

pub returns-in_err-emit_break : goal.returns-in_err-emit_break
returns-in_err-emit_break c = λ rows. run-memory (exits c.from_residual-in_err-emit_break.result Memory c.from_residual-in_err-emit_break.ensures.1)

pub returns : goal.returns
returns c = λ rows.
    left rows c.args.line c.args.self.now (record c.args.self.now { out = record { allotted = c.close.new.out.allotted; code = c.emit_break.new.self } })
    c.close.new.out (breaks c.args.line)
    (λ l. at_line c.args.line (mid.Jump l.break_at)) tt
    (subst (λ (objects : List ℕ). Closing c.args.line (reverse objects) c.args.self.now.out c.close.new.out) c.deref.ensures.value c.in_ok-close.ensures)
    refl (record { objects = refl; outside = refl }) c.in_ok-emit_break.ensures (λ leads start. refl)
