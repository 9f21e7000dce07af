use Rattle.std.proofs.Common.{refl}
use Rattle.typing_rules.specs.Terms as terms
use Rattle.typing_rules.specs.OrderedParts as ordered
use Rattle.c_values.specs.Answers.{change_view}
use Rattle.c_terms.proofs.Paths.{exits, step, stop}
use Rattle.c_terms.proofs.steps.stepped.Goals as goal

pub returns-in_err-target : goal.returns-in_err-target
returns-in_err-target c t mt =
    stop (λ target. ordered.changed c.args.line (change_view c.args.change) target (terms.one_value c.args.line)) refl (exits c.from_residual.result _ c.from_residual.ensures.1) (c.in_err-target.ensures t mt)

pub returns : goal.returns
returns c t mt = step refl (c.in_ok-target.ensures t mt) (λ target more mg. c.changed_by_one.ensures target mg)
