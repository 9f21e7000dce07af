use Rattle.std.proofs.Common.{sym, ◌∙◌, subst}
use Rattle.c_types.specs.Rules.{element_of}
use Rattle.c_types.specs.Table.{StandsFor}
use Rattle.typing_rules.specs.Terms as terms
use Rattle.typing_rules.specs.Checking.{pure}
use Rattle.c_values.specs.Answers.{Answers, MeansTerm}
use Rattle.c_values.proofs.Means.{got-type}
use Rattle.c_operators.proofs.Indexing.{pointer-is-first, integer-is-first}
use Rattle.c_operators.proofs.element.element.Goals as goal

pub returns-then-is_pointer_first : goal.returns-then-is_pointer_first
returns-then-is_pointer_first c v w m n =
    let rows = c.args.types.now in
    let first = got-type rows c.get.result.now c.args.a.typed.value v.value c.get.ensures m.typed.value in
    let second = got-type rows c.get-2.result.now c.args.b.typed.value w.value c.get-2.ensures n.typed.value in
    let to = subst (StandsFor rows c.element_type-ty.result) (λ i. element_of (first i) (second i)) c.element_type-ty.ensures in
    subst (λ q. Answers (MeansTerm rows) c.pointer_first.result (pure (terms.object q)))
    (pointer-is-first c.args.line c.args.at c.args.form v w (sym c.is_pointer_first.ensures ∙ c.if-is_pointer_first.true))
    (c.pointer_first.ensures (element_of (terms.written_type v) (terms.written_type w)) v.value w to m.typed n)

pub returns-else-is_pointer_first : goal.returns-else-is_pointer_first
returns-else-is_pointer_first c v w m n =
    let rows = c.args.types.now in
    let first = got-type rows c.get.result.now c.args.a.typed.value v.value c.get.ensures m.typed.value in
    let second = got-type rows c.get-2.result.now c.args.b.typed.value w.value c.get-2.ensures n.typed.value in
    let to = subst (StandsFor rows c.element_type-ty.result) (λ i. element_of (first i) (second i)) c.element_type-ty.ensures in
    subst (λ q. Answers (MeansTerm rows) c.integer_first.result (pure (terms.object q)))
    (integer-is-first c.args.line c.args.at c.args.form v w (sym c.is_pointer_first.ensures ∙ c.if-is_pointer_first.false))
    (c.integer_first.ensures (element_of (terms.written_type v) (terms.written_type w)) v w.value to m n.typed)
