use Rattle.std.proofs.Common.{◌≡◌, length, drop, sym, ap, subst, ◌∙◌, arith}
use Rattle.srmt_base.specs.declared.budgets.Budget.{Budget}
use Rattle.srmt_base.specs.Budgets.{budget_of}
use Rattle.mid_code.specs.Classes.{SharedProgram}
use Rattle.mid_code.specs.Machine.{Machine}
use Rattle.frames.specs.Kept.{Kept, machine_in, depths}
use Rattle.frames.specs.Copied.{CanCopyAll, CopiesManyOn}
use Rattle.frames.proofs.Gone.{depths_with}
use Rattle.frames.proofs.Rows.{kept_ran, own_registers, ran-rows}
use Rattle.frames.proofs.CopiesRun.{copies_whole}
use Rattle.frames.proofs.frames.Frames.run_copied.Goals as goal

pub copy_row-run-requires-clause-can : goal.copy_row-run-requires-clause-can
copy_row-run-requires-clause-can c =
    let a = c.self.inside in
    let own = own_registers a.registers.items a.objects.items a.top a.below.items c.self.invariant.laid in
    let h = subst (λ (k : Kept). CanCopyAll c.args.side c.args.pair.now k.machine.top.function (length k.machine.top.registers)) (sym c.self.view_is) c.requires.can in
    subst (CanCopyAll c.args.side c.args.pair.now a.top.function) (ap length own) h

pub invariant_of-self : goal.invariant_of-self
invariant_of-self c =
    let s = c.self.inside in
    let k = c.self.invariant in
    let run = c.copy_row-run.result in
    let left : Budget = record { turns = run.stand.turns; depth = c.of-left.result.depth } in
    let same : c.of-left.result.depth ≡ (budget_of c.part_of-part.result s.budgets).depth = ap (λ (b : Budget). b.depth) c.of-left.ensures in
    let all = depths_with c.part_of-part.result left s.budgets in
    let depth : depths c.with-self-inside.result ≡ depths s.budgets = ap depths c.with-self-inside.ensures ∙ omega (arith, all, same) in
    kept_ran s.room s.registers.items c.copy_row-run.new.registers.items s.objects.items s.top s.below.items s.budgets c.with-self-inside.result _ _ _ _ run.stand.place k
    c.copy_row-run.ensures.count c.copy_row-run.ensures.before c.copy_row-run.ensures.each depth c.copy_row-run.ensures.capacity

pub returns-clause-copies : goal.returns-clause-copies
returns-clause-copies c =
    let a = c.self.inside in
    let k = c.self.invariant in
    let rs2 = c.copy_row-run.new.registers.items in
    let run = c.copy_row-run.result in
    let m : Machine = machine_in a.registers.items a.objects.items a.top a.below.items a.budgets in
    let here : m ≡ c.args.self.now.machine = ap (λ (x : Kept). x.machine) c.self.view_is in
    let own = own_registers a.registers.items a.objects.items a.top a.below.items k.laid in
    let rows = ran-rows a.registers.items rs2 a.objects.items a.top a.below.items a.budgets c.with-self-inside.result run.stand.place k.laid c.copy_row-run.ensures.count c.copy_row-run.ensures.before in
    let program_is : c.program.result.now ≡ c.args.pair.now.program = c.program.ensures.same ∙ ap (λ (x : SharedProgram). x.program) c.classed.ensures.same in
    let part = rw program_is at c.part_of-part.ensures in
    subst (λ (x : Machine). CopiesManyOn c.args.side c.args.pair.now run.count x (machine_in rs2 a.objects.items (record a.top { place = run.stand.place }) a.below.items c.with-self-inside.result)) here
    (copies_whole c.args.side c.args.pair.now m run.count (drop a.top.base a.registers.items) (drop a.top.base rs2) run.stand c.part_of-part.result c.of-left.result c.with-self-inside.result _
    part c.of-left.ensures own c.with-self-inside.ensures rows c.copy_row-run.ensures.copies).0

pub returns-clause-whole : goal.returns-clause-whole
returns-clause-whole c few =
    let a = c.self.inside in
    let k = c.self.invariant in
    let rs2 = c.copy_row-run.new.registers.items in
    let run = c.copy_row-run.result in
    let m : Machine = machine_in a.registers.items a.objects.items a.top a.below.items a.budgets in
    let own = own_registers a.registers.items a.objects.items a.top a.below.items k.laid in
    let rows = ran-rows a.registers.items rs2 a.objects.items a.top a.below.items a.budgets c.with-self-inside.result run.stand.place k.laid c.copy_row-run.ensures.count c.copy_row-run.ensures.before in
    let program_is : c.program.result.now ≡ c.args.pair.now.program = c.program.ensures.same ∙ ap (λ (x : SharedProgram). x.program) c.classed.ensures.same in
    let part = rw program_is at c.part_of-part.ensures in
    (copies_whole c.args.side c.args.pair.now m run.count (drop a.top.base a.registers.items) (drop a.top.base rs2) run.stand c.part_of-part.result c.of-left.result c.with-self-inside.result _
    part c.of-left.ensures own c.with-self-inside.ensures rows c.copy_row-run.ensures.copies).1 (c.copy_row-run.ensures.whole few)
