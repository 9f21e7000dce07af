use Rattle.std.proofs.Common.{sym, subst}
use Rattle.c_types.specs.Table.{Stands}
use Rattle.c_typed.specs.Typed as tree
use Rattle.typing_rules.specs.Terms as terms
use Rattle.c_values.proofs.Means.{stands-of-means}
use Rattle.c_values.proofs.binary.null_and_pointer.Goals as goal

pub returns : goal.returns
returns c t v w stands a b =
    let to = subst (λ x. Stands c.args.types.now x.ty (tree.type_of w)) (sym c.get.ensures) (stands-of-means c.args.types.now c.args.b.value w b.value) in
    c.pointers.ensures c.args.types.now t (terms.null_of (tree.type_of w) v) w stands (c.in_ok-a.ensures (tree.type_of w) v to a) b
