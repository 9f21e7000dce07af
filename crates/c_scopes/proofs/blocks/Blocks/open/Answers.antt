use Rattle.std.proofs.Common.{arith, ◌+◌, length, ap, sym, subst}
use Rattle.c_scopes.specs.Depths.{AreLocated}
use Rattle.c_scopes.proofs.Depths.{located-length}
use Rattle.c_scopes.proofs.blocks.Blocks.open.Goals as goal

pub overflow_add-self : goal.overflow_add-self
overflow_add-self g c =
    let long = located-length c.self.inside.depth c.self.inside.scopes c.self.invariant in
    let few = c.in_ok-open.ensures.few in
    let opened = ap length c.in_ok-open.ensures.opened in
    omega arith

pub invariant_of-self-2 : goal.invariant_of-self-2
invariant_of-self-2 g c =
    let long = located-length c.self.inside.depth c.self.inside.scopes c.self.invariant in
    subst (AreLocated (c.self.inside.depth + 1)) (sym c.in_ok-open.ensures.opened)
    (omega arith, tt, subst (λ d. AreLocated d c.self.inside.scopes) long c.self.invariant)
