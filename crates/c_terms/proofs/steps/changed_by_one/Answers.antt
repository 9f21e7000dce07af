use Rattle.std.proofs.Common.{refl}
use Rattle.typing_rules.specs.Terms as terms
use Rattle.typing_rules.specs.Checking.{pure}
use Rattle.typing_rules.specs.OrderedParts as ordered
use Rattle.c_values.specs.Stand.{MeansWritten}
use Rattle.c_values.specs.Answers.{MeansTerm, change_view}
use Rattle.c_known.proofs.Binding.{answers-give}
use Rattle.c_terms.proofs.Paths.{exits, step, stop}
use Rattle.c_terms.proofs.steps.changed_by_one.Goals as goal

pub returns-in_err-one : goal.returns-in_err-one
returns-in_err-one c t mt =
    stop {m = pure (terms.one_value c.args.line)} (λ w. ordered.changed c.args.line (change_view c.args.change) t w) refl (exits c.from_residual.result _ c.from_residual.ensures.1)
    (answers-give MeansWritten c.args.known.now _ (pure (terms.one_value c.args.line)) (c.in_err-one.ensures c.args.known.now.types))

pub returns : goal.returns
returns c t mt =
    step {m = pure (terms.one_value c.args.line)} {f = λ w. ordered.changed c.args.line (change_view c.args.change) t w} refl
    (answers-give MeansWritten c.args.known.now _ (pure (terms.one_value c.args.line)) (c.in_ok-one.ensures c.args.known.now.types))
    (λ w more mw. answers-give MeansTerm c.args.known.now c.changed.result (ordered.changed c.args.line (change_view c.args.change) t w) (c.changed.ensures t w mt mw))
