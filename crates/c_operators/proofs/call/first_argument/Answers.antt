use Rattle.std.proofs.Common.{sym, ◌∙◌, subst}
use Rattle.srmt_base.specs.declared.ty.Ty.TheVariants.{Int}
use Rattle.typing_rules.specs.Terms as terms
use Rattle.c_values.specs.Stand.{MeansValue}
use Rattle.c_operators.proofs.FirstArgument.{first-means, no-argument}
use Rattle.c_operators.proofs.call.first_argument.Goals as goal

pub returns-then-is_empty : goal.returns-then-is_empty
returns-then-is_empty c rows vs m =
    subst (MeansValue rows c.value_of.result) (no-argument rows c.args.at c.args.arguments vs (c.is_empty.ensures.0 c.if-is_empty.true) m)
    (subst (λ x. MeansValue rows x (terms.number_value c.args.at Int 0)) (sym c.value_of.ensures) (c.in_ok-zero.ensures rows).value)

pub returns : goal.returns
returns c rows vs m = first-means rows c.args.at c.args.arguments c.remove.result vs c.remove.ensures.item m
