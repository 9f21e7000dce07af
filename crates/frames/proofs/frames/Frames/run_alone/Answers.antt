use Rattle.std.proofs.Common.{◌≡◌, drop, sym, ap, ◌∙◌, arith}
use Rattle.srmt_base.specs.declared.budgets.Budget.{Budget}
use Rattle.srmt_base.specs.Budgets.{budget_of}
use Rattle.mid_code.specs.Machine.{Machine}
use Rattle.frames.specs.Kept.{Kept, machine_in, depths}
use Rattle.frames.proofs.Gone.{depths_with}
use Rattle.frames.proofs.Rows.{kept_ran, own_registers, ran-rows}
use Rattle.frames.proofs.AloneRuns.{comes_whole}
use Rattle.frames.proofs.frames.Frames.run_alone.Goals as goal

pub invariant_of-self : goal.invariant_of-self
invariant_of-self c =
    let s = c.self.inside in
    let k = c.self.invariant in
    let left : Budget = record { turns = c.run_row-end.result.turns; depth = c.of-left.result.depth } in
    let same : c.of-left.result.depth ≡ (budget_of c.part_of-part.result s.budgets).depth = ap (λ (b : Budget). b.depth) c.of-left.ensures in
    let all = depths_with c.part_of-part.result left s.budgets in
    let depth : depths c.with-self-inside.result ≡ depths s.budgets = ap depths c.with-self-inside.ensures ∙ omega (arith, all, same) in
    kept_ran s.room s.registers.items c.run_row-end.new.registers.items s.objects.items s.top s.below.items s.budgets c.with-self-inside.result _ _ _ _ c.run_row-end.result.place k
    c.run_row-end.ensures.count c.run_row-end.ensures.before c.run_row-end.ensures.within.1.each depth c.run_row-end.ensures.capacity

pub returns-clause-comes : goal.returns-clause-comes
returns-clause-comes c s is cells =
    let a = c.self.inside in
    let k = c.self.invariant in
    let rs2 = c.run_row-end.new.registers.items in
    let m : Machine = machine_in a.registers.items a.objects.items a.top a.below.items a.budgets in
    let here : m ≡ s.machine = ap (λ (x : Kept). x.machine) c.self.view_is ∙ sym is in
    let own = own_registers a.registers.items a.objects.items a.top a.below.items k.laid in
    let rows = ran-rows a.registers.items rs2 a.objects.items a.top a.below.items a.budgets c.with-self-inside.result c.run_row-end.result.place k.laid c.run_row-end.ensures.count c.run_row-end.ensures.before in
    comes_whole c.args.program.now s m c.args.memory.now c.run_row-end.new.memory (drop a.top.base a.registers.items) (drop a.top.base rs2) c.run_row-end.result c.part_of-part.result c.of-left.result c.with-self-inside.result _ here (sym cells)
    c.part_of-part.ensures c.of-left.ensures own c.with-self-inside.ensures rows c.run_row-end.ensures.comes
