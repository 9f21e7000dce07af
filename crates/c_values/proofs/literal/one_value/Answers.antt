use Rattle.std.proofs.Common.{refl}
use Rattle.std.proofs.lemmas.Result.{IfOk-at_ok}
use Rattle.srmt_base.specs.declared.ty.Ty.TheVariants.{Int}
use Rattle.typing_rules.specs.Terms as terms
use Rattle.c_values.specs.Stand.{MeansTyped}
use Rattle.c_values.proofs.literal.one_value.Goals as goal

pub returns : goal.returns
returns c rows = λ k.
    (record { first = refl; typed = IfOk-at_ok (λ x. MeansTyped rows x (terms.number_value c.args.line Int 1)) c.in_ok-typed.ensures (c.number_value.ensures rows) }, refl)
