use Rattle.std.proofs.Common.{refl, ◌∙◌, ap}
use Rattle.lower.specs.SoFar.{with_line}
use Rattle.lower.specs.Drafts.{code_of}
use Rattle.lower.specs.Instructions.{told}
use Rattle.lower.proofs.Steps.{exits}
use Rattle.lower.proofs.Jumping.{told-deciding, no-wait}
use Rattle.lower.proofs.emitter.Emitter.jump_from.Goals as goal

pub returns-in_err-emit : goal.returns-in_err-emit
returns-in_err-emit c = no-wait _ _ _ _ (exits c.from_residual.result _ c.from_residual.ensures.1)

pub returns : goal.returns
returns c = record {
  allotted = refl;
  here = c.here-at.ensures;
  grown = λ leads.
      c.in_ok-emit.ensures leads
      ∙ ap (λ l. with_line l (code_of c.args.self.now.code leads))
      (ap (told c.args.line) c.deciding.ensures ∙ told-deciding c.args.line c.args.is_or c.args.source 0);
}
