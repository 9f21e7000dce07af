use Rattle.std.proofs.lemmas.Result.{err_from_is_err_and}
use Rattle.srmt_base.specs.declared.ty.Ty.TheVariants.{Int}
use Rattle.c_types.specs.Types.{integer}
use Rattle.c_typed.specs.Typed as tree
use Rattle.typing_rules.specs.Terms as terms
use Rattle.typing_rules.specs.Checking.{pure}
use Rattle.c_values.specs.Answers.{MeansTerm, IsAllowed, both_tested}
use Rattle.c_values.proofs.Answering.{bind-answers, told-answers}
use Rattle.c_operators.proofs.logic.disjoined.Goals as goal

pub returns-in_err-tested_both : goal.returns-in_err-tested_both
returns-in_err-tested_both c v w m n =
    let p = err_from_is_err_and c.from_residual.result c.from_residual.ensures.1 in
    rw (p.1, p.2)
    (told-answers IsAllowed (MeansTerm c.args.types.now) c.in_err-tested_both.field-0.0 (both_tested c.args.at v.value w.value)
    (λ u. pure (terms.result (tree.value c.args.line (integer Int) (tree.disjunction v.value w.value)))) (c.in_err-tested_both.ensures v.value w.value m.typed n.typed))

pub returns : goal.returns
returns c v w m n =
    let rows = c.args.types.now in
    bind-answers IsAllowed (MeansTerm rows) tt c.result_of.result (both_tested c.args.at v.value w.value)
    (λ u. pure (terms.result (tree.value c.args.line (integer Int) (tree.disjunction v.value w.value)))) (c.in_ok-tested_both.ensures v.value w.value m.typed n.typed)
    (λ u allowed. c.result_of.ensures rows _ (c.disjunction.ensures rows v.value w.value m.typed n.typed))
