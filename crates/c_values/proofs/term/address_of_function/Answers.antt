use Rattle.std.proofs.Common.{refl, ap, ◌∙◌}
use Rattle.c_types.specs.Table.{type_at}
use Rattle.c_typed.specs.Typed as tree
use Rattle.c_typed.specs.declared.constant.Constant.TheVariants.{NoForm}
use Rattle.c_typed.specs.declared.value.ValueNode.TheVariants as vn
use Rattle.c_typed.proofs.ViewLaws.{view_requalified}
use Rattle.typing_rules.specs.Terms as terms
use Rattle.typing_rules.specs.Checking.{pure}
use Rattle.typing_rules.specs.OrderedParts as ordered
use Rattle.c_values.specs.Stand.{MeansTyped}
use Rattle.c_values.specs.Answers.{MeansTerm}
use Rattle.c_values.proofs.Means.{makes, got-stands, no-constant-requalified}
use Rattle.c_values.proofs.Answering.{bind-answers}
use Rattle.c_values.proofs.term.address_of_function.Goals as goal

pub returns-clause-value : goal.returns-clause-value
returns-clause-value c d t of stands =
    let new = c.designated.new.types in
    let x = c.in_ok-pointer.pointer in
    bind-answers (MeansTyped new) (MeansTerm new) x c.result_of.result (ordered.designated c.args.first d t)
    (λ v. pure (terms.result (tree.value c.args.line (tree.type_of v) (tree.requalified v)))) (c.in_ok-pointer.ensures.value d t of stands)
    (λ v m. c.result_of.ensures new (tree.value c.args.line (tree.type_of v) (tree.requalified v))
    (makes new c.make.result c.args.line c.get.result.now.ty (vn.Requalified x.value) NoForm c.make.ensures (tree.type_of v)
    (got-stands new c.get.result.now x.value v c.get.ensures m.value) c.args.line refl (tree.requalified v)
    (λ later more. view_requalified (type_at later) x.value ∙ ap tree.requalified (m.value.always later more)) (no-constant-requalified c.args.line (tree.type_of v) v)))
