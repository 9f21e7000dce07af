use Rattle.std.proofs.Common.{◌<◌, length, refl, ap, arith}
use Rattle.mid_code.specs.Machine.{Machine}
use Rattle.frames.proofs.Rows.{begun-rows, target_within, kept_begun, open_count-rows}
use Rattle.frames.proofs.frames.Frames.begin.Goals as goal

pub unreachable-requires : goal.unreachable-requires
unreachable-requires c =
    let s = c.self.inside in
    let count = open_count-rows s.registers.items s.objects.items s.top s.below.items s.budgets c.self.invariant.laid in
    let less : length s.objects.items < s.room.objects = rw (← c.self.view_is, count) at c.requires.room in
    omega (arith, c.in_default.ensures.full, s.objects.ok.0, less, c.self.invariant.objects_fit)

pub invariant_of-self : goal.invariant_of-self
invariant_of-self c =
    let s = c.self.inside in
    let count = open_count-rows s.registers.items s.objects.items s.top s.below.items s.budgets c.self.invariant.laid in
    let less : length s.objects.items < s.room.objects = rw (← c.self.view_is, count) at c.requires.room in
    rw c.in-Ok.ensures.items
    (kept_begun _ s.registers.items s.objects.items s.top s.below.items s.budgets _ _ _ _ _ _ _ _ c.self.invariant (omega (arith, c.from-2.ensures, c.requires.number)) less c.in-Ok.ensures.capacity)

pub returns : goal.returns
returns c =
    let s = c.self.inside in
    let within = target_within s.registers.items s.objects.items s.top s.below.items c.args.target c.self.invariant.laid (rw (← c.self.view_is) at c.requires.target) in
    rw (← c.self.view_is, c.from.ensures, c.from-2.ensures, c.in-Ok.ensures.items)
    (ap (λ (m : Machine). record { machine = m; room = s.room })
    (begun-rows s.registers.items s.objects.items s.top s.below.items s.budgets (record { place = s.top.place; number = c.args.number }) c.args.target c.args.number c.self.invariant.laid within refl refl))
