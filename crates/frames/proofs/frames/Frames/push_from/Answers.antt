use Rattle.std.proofs.Common.{◌≡◌, ◌+◌, ◌-◌, ◌<◌, ◌++◌, List, ℕ, length, map, replicate, refl, sym, ap, ◌∙◌, arith, vec_len, vec_capacity, slice_index}
use Rattle.std.proofs.lemmas.List.{length-map}
use Rattle.frames.specs.declared.frames.Line.{Line}
use Rattle.mid_code.specs.Machine.{Machine}
use Rattle.frames.specs.Kept.{depths}
use Rattle.frames.proofs.Rows.{registers_fit, kept_pushed, resized, pushed-rows, pushed-length, small_pushed, activations-length, arguments-row, small_arguments, each_within}
use Rattle.frames.proofs.frames.Frames.push_from.Goals as goal

pub unreachable-requires : goal.unreachable-requires
unreachable-requires c =
    let s = c.self.inside in
    let k = c.self.invariant in
    let count = activations-length s.registers.items s.objects.items s.top s.below.items s.budgets in
    let room : length s.below.items + 1 + depths s.budgets < s.room.activations = rw (← c.self.view_is, count) at c.requires.room in
    omega (arith, room, k.lines_fit, c.in_default.ensures.full, s.below.ok.0)

pub append_arguments-requires-clause-room : goal.append_arguments-requires-clause-room
append_arguments-requires-clause-room c =
    let s = c.self.inside in
    let k = c.self.invariant in
    let fit = registers_fit s.registers.items s.objects.items s.top s.below.items k.laid in
    let count = activations-length s.registers.items s.objects.items s.top s.below.items s.budgets in
    let room : length s.below.items + 1 + depths s.budgets < s.room.activations = rw (← c.self.view_is, count) at c.requires.room in
    omega (arith, fit, room, k.registers_fit, c.requires.count, c.requires.few, s.registers.ok.0)

pub unreachable-requires-in_default-resize : goal.unreachable-requires-in_default-resize
unreachable-requires-in_default-resize c =
    let s = c.self.inside in
    let k = c.self.invariant in
    let fit = registers_fit s.registers.items s.objects.items s.top s.below.items k.laid in
    let count = activations-length s.registers.items s.objects.items s.top s.below.items s.budgets in
    let room : length s.below.items + 1 + depths s.budgets < s.room.activations = rw (← c.self.view_is, count) at c.requires.room in
    omega (arith, fit, room, k.registers_fit, c.requires.count, c.from.ensures, c.len-base.ensures, s.registers.ok.0, c.append_arguments.ensures.capacity, c.in_default-resize.ensures.full)

pub overflow_cast-self : goal.overflow_cast-self
overflow_cast-self c =
    let s = c.self.inside in
    let k = c.self.invariant in
    let fit = registers_fit s.registers.items s.objects.items s.top s.below.items k.laid in
    omega (arith, fit, k.few, k.bounded, c.len-base.ensures, s.registers.ok.0)

pub invariant_of-self : goal.invariant_of-self
invariant_of-self c =
    let s = c.self.inside in
    let k = c.self.invariant in
    let args = c.args.args.now in
    let values : List ℕ = map (λ r. slice_index s.registers.items (s.top.base + r)) args in
    let many : length args ≡ length values = sym (length-map args (λ r. slice_index s.registers.items (s.top.base + r))) in
    let each = each_within s.registers.items s.objects.items s.top s.below.items args k.laid (rw (← c.self.view_is) at c.requires.each) in
    let count = activations-length s.registers.items s.objects.items s.top s.below.items s.budgets in
    let room : length s.below.items + 1 + depths s.budgets < s.room.activations = rw (← c.self.view_is, count) at c.requires.room in
    let base : c.len-base.result ≡ length s.registers.items = c.len-base.ensures ∙ s.registers.ok.0 in
    let rows = c.in-Ok-resize.ensures.items ∙ resized s.registers.items values c.append_arguments.new.registers.items c.len-base.result c.args.count c.from.result (vec_len c.append_arguments.new.registers) (length args) c.append_arguments.ensures.items c.append_arguments.new.registers.ok.0 base c.from.ensures (sym many) c.requires.few in
    let floor : c.len.result ≡ length s.objects.items = c.len.ensures ∙ s.objects.ok.0 in
    let len = pushed-length s.registers.items values c.args.count (length args) many c.requires.few in
    let small = small_pushed s.registers.items values (c.args.count - length args) k.small (small_arguments s.registers.items args s.top.base k.small (λ j d h. omega (arith, each j d h, k.laid.0))) in
    let callee : Line = record { function = c.args.function; into = c.args.into; count = c.args.count; place = 0; base = c.len-base.result; floor = c.len.result; held = 0 } in
    let h = kept_pushed s.room s.registers.items (s.registers.items ++ values ++ replicate (c.args.count - length args) 0) s.objects.items s.top callee s.below.items s.budgets (vec_capacity s.registers) (vec_capacity s.objects) (vec_capacity s.below) (vec_capacity c.resize.new.self) (vec_capacity c.push.new.self) k room base floor refl c.requires.count len small (omega (arith, c.append_arguments.ensures.capacity, c.in-Ok-resize.ensures.capacity)) c.in-Ok.ensures.capacity in
    rw (rows, c.in-Ok.ensures.items) h

pub returns : goal.returns
returns c =
    let s = c.self.inside in
    let k = c.self.invariant in
    let args = c.args.args.now in
    let values : List ℕ = map (λ r. slice_index s.registers.items (s.top.base + r)) args in
    let many : length args ≡ length values = sym (length-map args (λ r. slice_index s.registers.items (s.top.base + r))) in
    let each = each_within s.registers.items s.objects.items s.top s.below.items args k.laid (rw (← c.self.view_is) at c.requires.each) in
    let base : c.len-base.result ≡ length s.registers.items = c.len-base.ensures ∙ s.registers.ok.0 in
    let rows = c.in-Ok-resize.ensures.items ∙ resized s.registers.items values c.append_arguments.new.registers.items c.len-base.result c.args.count c.from.result (vec_len c.append_arguments.new.registers) (length args) c.append_arguments.ensures.items c.append_arguments.new.registers.ok.0 base c.from.ensures (sym many) c.requires.few in
    let h = pushed-rows s.registers.items s.objects.items s.top s.below.items s.budgets c.args.function c.args.count c.args.into (length args) values k.laid many c.requires.few in
    let passed_on = arguments-row s.registers.items args s.top.base s.top.count each in
    rw (← c.self.view_is, c.in-Ok.ensures.items, rows, base, ← passed_on) (ap (λ (m : Machine). record { machine = m; room = s.room }) h)
