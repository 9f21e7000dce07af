use Rattle.std.proofs.Common.{false, refl}
use Rattle.cell_store.specs.Plain.{IsReached}
use Rattle.cell_store.proofs.Listed.{plain_written, put_listed}
use Rattle.cell_store.proofs.plain.PlainStore.set_up.Goals as goal

pub invariant_of-self : goal.invariant_of-self
invariant_of-self c =
    let s = c.self.inside in
    let reached : IsReached false s.objects.items c.args.pointer c.in_ok-at.at = rw c.deref.ensures.value at c.in_ok-at.ensures.reached in
    plain_written s.budget s.fresh c.in_ok-at.at c.offset.result c.args.value s.objects.items c.index_mut-object.result.now _ c.self.invariant reached.within c.index_mut-object.ensures.value refl

pub returns-clause-ok : goal.returns-clause-ok
returns-clause-ok c =
    let s = c.self.inside in
    let reached : IsReached false s.objects.items c.args.pointer c.in_ok-at.at = rw c.deref.ensures.value at c.in_ok-at.ensures.reached in
    rw (← c.self.view_is)
    (put_listed false s.budget s.fresh c.in_ok-at.at c.offset.result c.args.pointer c.args.value s.objects.items c.index_mut-object.result.now _ c.self.invariant reached c.index_mut-object.ensures.value c.offset.ensures refl)
