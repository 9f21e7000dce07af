use Rattle.std.proofs.Common.{refl, ◌∙◌, ap, Err, reverse, subst, List}
use Rattle.std.specs.Prelude.{ℕ}
use Rattle.lower.specs.Bodies.{Closing}
use Rattle.lower.proofs.Steps.{exits}
use Rattle.lower.proofs.RunSteps.{run-memory}
use Rattle.lower.proofs.Closing.{all-closed}
use Rattle.lower.proofs.body.Body.close_all.Goals as goal

pub returns-in_err-close : goal.returns-in_err-close
returns-in_err-close c = λ rows. run-memory (exits c.from_residual.result _ c.from_residual.ensures.1 ∙ ap Err c.in_err-close.ensures)

pub returns-in_err-close-2 : goal.returns-in_err-close-2
returns-in_err-close-2 c = λ rows.
    run-memory (exits c.from_residual-in_err-close-2.result _ c.from_residual-in_err-close-2.ensures.1 ∙ ap Err c.in_err-close-2.ensures)

pub returns : goal.returns
returns c = λ rows.
    all-closed rows c.args.line c.args.self.now (record c.args.self.now { out = c.close-2.new.out }) c.close.new.out tt
    (subst (λ (objects : List ℕ). Closing c.args.line (reverse objects) c.args.self.now.out c.close.new.out) c.deref.ensures.value c.in_ok-close.ensures)
    (subst (λ (objects : List ℕ). Closing c.args.line (reverse objects) c.close.new.out c.close-2.new.out) c.deref-2.ensures.value c.in_ok-close-2.ensures)
    (record { objects = refl; outside = refl })
