use Rattle.std.proofs.Common.{ap, subst}
use Rattle.typing_rules.specs.OrderedParts as ordered
use Rattle.c_values.specs.Answers.{Answers, MeansTerm}
use Rattle.c_values.proofs.TermParts.{term-object}
use Rattle.c_values.proofs.term.called.Goals as goal

pub returns-in-Object-clause-value : goal.returns-in-Object-clause-value
returns-in-Object-clause-value c t m =
    let new = c.value_at.new.types in
    let found = term-object c.args.types.now c.args.term c.in-Object.place t c.in-Object.is m in
    subst (λ u. Answers (MeansTerm new) c.result_of.result (ordered.called u)) found.is
    (c.result_of.ensures new _ (c.value_at.ensures.value found.place found.means))
