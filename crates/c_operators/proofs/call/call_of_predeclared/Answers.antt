use Rattle.c_types.specs.Types.{result_of}
use Rattle.c_typed.specs.Typed as tree
use Rattle.typing_rules.specs.Terms as terms
use Rattle.typing_rules.specs.Checking.{pure}
use Rattle.typing_rules.specs.OrderedParts as ordered
use Rattle.c_values.specs.Answers.{MeansTerm, MeanValues, predeclared_view}
use Rattle.c_values.proofs.Answering.{bind-answers}
use Rattle.c_operators.proofs.call.call_of_predeclared.Goals as goal

pub returns : goal.returns
returns c first t ws stands m =
    let rows = c.args.types.now in
    bind-answers (MeanValues rows) (MeansTerm rows) c.in_ok-arguments.arguments c.result_of.result (ordered.arguments_for c.args.at t ws)
    (λ vs. pure (terms.result (tree.value c.args.line (result_of t) (terms.predeclared_node (predeclared_view c.args.function) c.args.at vs))))
    (c.in_ok-arguments.ensures t ws stands m)
    (λ vs n. c.result_of.ensures rows _ (c.predeclared_call.ensures t vs stands n))
