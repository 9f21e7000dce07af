use Rattle.std.proofs.Common.{ap, ◌∙◌, subst}
use Rattle.std.specs.Result.{IfOk}
use Rattle.c_types.specs.Types.{ty_of}
use Rattle.c_types.specs.Conversions.{promoted}
use Rattle.c_types.specs.Table.{type_at}
use Rattle.typing_rules.specs.Terms as terms
use Rattle.c_values.specs.Stand.{MeansTyped}
use Rattle.c_values.proofs.Means.{type-of-means}
use Rattle.c_values.proofs.assign.promoted_value.Goals as goal

pub returns : goal.returns
returns c t m =
    let rows = c.args.types.now in
    let from = c.ty.ensures ∙ ap (λ x. ty_of (type_at rows x.ty)) c.get.ensures ∙ ap ty_of (type-of-means rows c.args.operand.typed.value t.value m.typed.value) in
    let to = c.promoted-to.ensures.exact ∙ ap promoted from in
    subst (λ ty. IfOk c.converted.result (λ r. MeansTyped rows r (terms.converted ty t))) to (c.converted.ensures t m)
