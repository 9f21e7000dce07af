use Rattle.std.proofs.Common.{suc, ◌+◌, Some, IfSome, add-one, subst}
use Rattle.std.proofs.lemmas.Result.{IfOk-at_ok}
use Rattle.srmt_base.specs.declared.ty.Ty.TheVariants.{Char}
use Rattle.c_types.specs.Types.{integer, array_of, unqualified}
use Rattle.c_types.specs.Table.{Stands}
use Rattle.c_typed.specs.Typed as tree
use Rattle.typing_rules.specs.Terms as terms
use Rattle.typing_rules.specs.Checking.{pure}
use Rattle.c_values.specs.Answers.{Answers, MeansTerm}
use Rattle.c_values.proofs.objects.text_object.Goals as goal

pub returns-clause-term : goal.returns-clause-term
returns-clause-term c =
    let new = c.array_of.new.self in
    subst (λ n. Answers (MeansTerm new) c.text_of.result (pure (terms.object (tree.place c.args.line (unqualified (array_of (unqualified (integer Char)) (Some n))) (tree.text c.args.number)))))
    (add-one c.args.length)
    (c.text_of.ensures new (array_of (unqualified (integer Char)) (Some (c.args.length + 1)))
    (IfOk-at_ok (λ r. IfSome r (λ array. Stands new array (array_of (unqualified (integer Char)) (Some (c.args.length + 1))))) c.in_ok-array.ensures c.array_of.ensures.made))
