use Rattle.std.proofs.Common.{◌≡◌, None, sym}
use Rattle.cell_store.specs.Plain.{found_in, IsFoundAt}
use Rattle.cell_store.proofs.Listed.{plain_ended, end_listed, end_unlisted}
use Rattle.cell_store.proofs.plain.PlainStore.end.Goals as goal

pub returns-in_default-clause-ended : goal.returns-in_default-clause-ended
returns-in_default-clause-ended c =
    let s = c.self.inside in
    let none : found_in s.objects.items c.args.number ≡ None = rw (c.deref.ensures.value, c.from.ensures) at c.in_default.ensures in
    rw (← c.self.view_is) (sym (end_unlisted s.budget s.fresh c.args.number s.objects.items none))

pub invariant_of-self : goal.invariant_of-self
invariant_of-self c =
    let s = c.self.inside in
    let found : IsFoundAt s.objects.items c.args.number c.in-Some.at = rw (c.deref.ensures.value, c.from.ensures) at c.in-Some.ensures in
    plain_ended s.budget s.fresh c.in-Some.at s.objects.items c.remove.new.self.items c.remove.result c.self.invariant found.within c.remove.ensures.items

pub returns-clause-ended : goal.returns-clause-ended
returns-clause-ended c =
    let s = c.self.inside in
    let found : IsFoundAt s.objects.items c.args.number c.in-Some.at = rw (c.deref.ensures.value, c.from.ensures) at c.in-Some.ensures in
    rw (← c.self.view_is) (sym (end_listed s.budget s.fresh c.in-Some.at c.args.number s.objects.items c.remove.new.self.items c.remove.result c.self.invariant found c.remove.ensures.items))
