use Rattle.std.proofs.Common.{◌≡◌, ◌+◌, ◌-◌, ◌<◌, ◌++◌, length, replicate, refl, ap, ◌∙◌, arith, vec_len, vec_capacity}
use Rattle.frames.specs.declared.frames.Line.{Line}
use Rattle.mid_code.specs.Machine.{Machine}
use Rattle.frames.specs.Kept.{depths}
use Rattle.frames.proofs.Rows.{registers_fit, kept_pushed, resized, pushed-rows, pushed-length, small_pushed, activations-length}
use Rattle.frames.proofs.frames.Frames.push.Goals as goal

pub unreachable-requires : goal.unreachable-requires
unreachable-requires c =
    let s = c.self.inside in
    let k = c.self.invariant in
    let count = activations-length s.registers.items s.objects.items s.top s.below.items s.budgets in
    let room : length s.below.items + 1 + depths s.budgets < s.room.activations = rw (← c.self.view_is, count) at c.requires.room in
    omega (arith, room, k.lines_fit, c.in_default.ensures.full, s.below.ok.0)

pub unreachable-requires-in_default-extend_from_slice : goal.unreachable-requires-in_default-extend_from_slice
unreachable-requires-in_default-extend_from_slice c =
    let s = c.self.inside in
    let k = c.self.invariant in
    let fit = registers_fit s.registers.items s.objects.items s.top s.below.items k.laid in
    let count = activations-length s.registers.items s.objects.items s.top s.below.items s.budgets in
    let room : length s.below.items + 1 + depths s.budgets < s.room.activations = rw (← c.self.view_is, count) at c.requires.room in
    omega (arith, fit, room, k.registers_fit, c.requires.count, c.requires.few, s.registers.ok.0, c.in_default-extend_from_slice.ensures.full)

pub unreachable-requires-in_default-resize : goal.unreachable-requires-in_default-resize
unreachable-requires-in_default-resize c =
    let s = c.self.inside in
    let k = c.self.invariant in
    let fit = registers_fit s.registers.items s.objects.items s.top s.below.items k.laid in
    let count = activations-length s.registers.items s.objects.items s.top s.below.items s.budgets in
    let room : length s.below.items + 1 + depths s.budgets < s.room.activations = rw (← c.self.view_is, count) at c.requires.room in
    omega (arith, fit, room, k.registers_fit, c.requires.count, c.from.ensures, c.len-base.ensures, s.registers.ok.0, c.in-Ok-extend_from_slice.ensures.capacity, c.in_default-resize.ensures.full)

pub overflow_cast-self : goal.overflow_cast-self
overflow_cast-self c =
    let s = c.self.inside in
    let k = c.self.invariant in
    let fit = registers_fit s.registers.items s.objects.items s.top s.below.items k.laid in
    omega (arith, fit, k.few, k.bounded, c.len-base.ensures, s.registers.ok.0)

pub invariant_of-self : goal.invariant_of-self
invariant_of-self c =
    let s = c.self.inside in
    let k = c.self.invariant in
    let values = c.args.values.now in
    let count = activations-length s.registers.items s.objects.items s.top s.below.items s.budgets in
    let room : length s.below.items + 1 + depths s.budgets < s.room.activations = rw (← c.self.view_is, count) at c.requires.room in
    let base : c.len-base.result ≡ length s.registers.items = c.len-base.ensures ∙ s.registers.ok.0 in
    let rows = c.in-Ok-resize.ensures.items ∙ resized s.registers.items values c.extend_from_slice.new.self.items c.len-base.result c.args.count c.from.result (vec_len c.extend_from_slice.new.self) (length values) c.in-Ok-extend_from_slice.ensures.items c.extend_from_slice.new.self.ok.0 base c.from.ensures refl c.requires.few in
    let floor : c.len.result ≡ length s.objects.items = c.len.ensures ∙ s.objects.ok.0 in
    let len = pushed-length s.registers.items values c.args.count (length values) refl c.requires.few in
    let small = small_pushed s.registers.items values (c.args.count - length values) k.small c.requires.small in
    let callee : Line = record { function = c.args.function; into = c.args.into; count = c.args.count; place = 0; base = c.len-base.result; floor = c.len.result; held = 0 } in
    let h = kept_pushed s.room s.registers.items (s.registers.items ++ values ++ replicate (c.args.count - length values) 0) s.objects.items s.top callee s.below.items s.budgets (vec_capacity s.registers) (vec_capacity s.objects) (vec_capacity s.below) (vec_capacity c.resize.new.self) (vec_capacity c.push.new.self) k room base floor refl c.requires.count len small (omega (arith, c.in-Ok-extend_from_slice.ensures.capacity, c.in-Ok-resize.ensures.capacity)) c.in-Ok.ensures.capacity in
    rw (rows, c.in-Ok.ensures.items) h

pub returns : goal.returns
returns c =
    let s = c.self.inside in
    let k = c.self.invariant in
    let values = c.args.values.now in
    let base : c.len-base.result ≡ length s.registers.items = c.len-base.ensures ∙ s.registers.ok.0 in
    let rows = c.in-Ok-resize.ensures.items ∙ resized s.registers.items values c.extend_from_slice.new.self.items c.len-base.result c.args.count c.from.result (vec_len c.extend_from_slice.new.self) (length values) c.in-Ok-extend_from_slice.ensures.items c.extend_from_slice.new.self.ok.0 base c.from.ensures refl c.requires.few in
    let h = pushed-rows s.registers.items s.objects.items s.top s.below.items s.budgets c.args.function c.args.count c.args.into (length values) values k.laid refl c.requires.few in
    rw (← c.self.view_is, c.in-Ok.ensures.items, rows, base) (ap (λ (m : Machine). record { machine = m; room = s.room }) h)
