use Rattle.std.proofs.Common.{sym, subst}
use Rattle.c_types.specs.Table.{Stands}
use Rattle.c_typed.specs.Typed as tree
use Rattle.typing_rules.specs.Terms as terms
use Rattle.c_values.proofs.Means.{stands-of-means}
use Rattle.c_values.proofs.binary.pointer_and_null.Goals as goal

pub returns : goal.returns
returns c t v w stands a b =
    let to = subst (λ x. Stands c.args.types.now x.ty (tree.type_of v)) (sym c.get.ensures) (stands-of-means c.args.types.now c.args.a.value v a.value) in
    c.pointers.ensures c.args.types.now t v (terms.null_of (tree.type_of v) w) stands a (c.in_ok-b.ensures (tree.type_of v) w to b)
