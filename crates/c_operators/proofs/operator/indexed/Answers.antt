use Rattle.std.proofs.Common.{◌≡◌, Ok, Err, ap, sym, ◌∙◌}
use Rattle.c_types.specs.Rules.{index_form}
use Rattle.typing_rules.specs.Terms as terms
use Rattle.typing_rules.specs.Checking.{pure}
use Rattle.c_values.specs.Answers.{MeansTerm}
use Rattle.c_values.proofs.Means.{got-type}
use Rattle.c_values.proofs.Answering.{allowed-answers, broken-answers}
use Rattle.c_operators.proofs.operator.indexed.Goals as goal

pub returns-in-Err : goal.returns-in-Err
returns-in-Err c v w m n =
    let rows = c.args.types.now in
    let first = got-type rows c.get.result.now c.args.a.typed.value v.value c.get.ensures m.typed.value in
    let second = got-type rows c.get-2.result.now c.args.b.typed.value w.value c.get-2.ensures n.typed.value in
    broken-answers (MeansTerm rows) c.args.at (index_form (terms.written_type v) (terms.written_type w)) c.in-Err.rule (λ f. pure (terms.object (terms.element_place c.args.line c.args.at f v w)))
    (sym c.in-Err.is ∙ c.index_form.ensures ∙ (λ i. index_form (first i) (second i)))

pub returns-in-Ok : goal.returns-in-Ok
returns-in-Ok c v w m n =
    let rows = c.args.types.now in
    let first = got-type rows c.get.result.now c.args.a.typed.value v.value c.get.ensures m.typed.value in
    let second = got-type rows c.get-2.result.now c.args.b.typed.value w.value c.get-2.ensures n.typed.value in
    allowed-answers (MeansTerm rows) c.args.at (index_form (terms.written_type v) (terms.written_type w)) c.in-Ok.form (λ f. pure (terms.object (terms.element_place c.args.line c.args.at f v w))) c.element.result
    (sym c.in-Ok.is ∙ c.index_form.ensures ∙ (λ i. index_form (first i) (second i)))
    (c.element.ensures v w m n)
