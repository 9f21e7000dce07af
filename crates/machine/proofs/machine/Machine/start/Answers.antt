use Rattle.std.proofs.Common.{rules, ◌≡◌, None, Some, ◌∙◌, ap, length, sym, subst, arith}
use Rattle.std.specs.Option.{option_copied}
use Rattle.srmt_base.specs.Statics.{static_cells}
use Rattle.mid_code.specs.declared.program.MidProgram.{MidProgram}
use Rattle.mid_code.specs.Program.{function_at}
use Rattle.mid_code.specs.Valid.{IsValid}
use Rattle.mid_code.specs.Classes.{SharedProgram}
use Rattle.mid_code.proofs.Naming.{whole, few_statics, function_kept}
use Rattle.world.proofs.Plain.{is_main}
use Rattle.machine.specs.Fits.{SideFits}
use Rattle.machine.proofs.Fitting.{fits_opening}
use Rattle.machine.proofs.machine.Machine.start.Goals as goal

pub unreachable-requires : goal.unreachable-requires
unreachable-requires c =
    let is : c.program-program.result.now ≡ c.args.pair.now.program = c.program-program.ensures.same ∙ ap (λ (x : SharedProgram). x.program) c.classed.ensures.same in
    let main = is_main c.args.pair.now.program c.classed.ensures.sites.valid in
    let clash : Some main.function ≡ None = sym main.found ∙ ap (λ (q : MidProgram). function_at q q.main) (sym is) ∙ sym c.function.ensures ∙ ap option_copied c.in_default.is in
    cc

pub overflow_cast-count : goal.overflow_cast-count
overflow_cast-count c =
    let is : c.program-program.result.now ≡ c.args.pair.now.program = c.program-program.ensures.same ∙ ap (λ (x : SharedProgram). x.program) c.classed.ensures.same in
    let q = c.program-program.result.now in
    let valid : IsValid q = subst IsValid (sym is) c.classed.ensures.sites.valid in
    let found : function_at q q.main ≡ Some c.in-Some.main.now = sym c.function.ensures ∙ ap option_copied c.in-Some.is in
    omega (arith, (function_kept q q.main c.in-Some.main.now valid found).registers, c.len-count.ensures)

pub start-requires-clause-count : goal.start-requires-clause-count
start-requires-clause-count c =
    let is : c.program-program.result.now ≡ c.args.pair.now.program = c.program-program.ensures.same ∙ ap (λ (x : SharedProgram). x.program) c.classed.ensures.same in
    let q = c.program-program.result.now in
    let valid : IsValid q = subst IsValid (sym is) c.classed.ensures.sites.valid in
    let found : function_at q q.main ≡ Some c.in-Some.main.now = sym c.function.ensures ∙ ap option_copied c.in-Some.is in
    omega (arith, (function_kept q q.main c.in-Some.main.now valid found).registers, c.len-count.ensures)

pub overflow_add-result : goal.overflow_add-result
overflow_add-result c =
    let p = c.args.pair.now.program in
    let is : c.program-program.result.now ≡ c.args.pair.now.program = c.program-program.ensures.same ∙ ap (λ (x : SharedProgram). x.program) c.classed.ensures.same in
    let few = few_statics p.main_statics (whole p c.classed.ensures.sites.valid).main_statics in
    let same = ap (λ (q : MidProgram). length q.main_statics) is in
    omega (arith, c.len.ensures, same, few)

pub cells_of-requires : goal.cells_of-requires
cells_of-requires c =
    let is : c.program-program.result.now ≡ c.args.pair.now.program = c.program-program.ensures.same ∙ ap (λ (x : SharedProgram). x.program) c.classed.ensures.same in
    let same = ap static_cells (c.as_slice.ensures ∙ ap (λ (q : MidProgram). q.main_statics) is) in
    omega (arith, same, c.requires.main_cells, c.requires.cells)

pub returns-clause-opening : goal.returns-clause-opening
returns-clause-opening c = search rules

pub returns-clause-fits : goal.returns-clause-fits
returns-clause-fits c =
    subst (SideFits c.args._side c.args.pair.now) (sym (returns-clause-opening c)) (fits_opening c.args._side c.args.pair.now c.args.limits c.classed.ensures.sites)
