use Rattle.std.proofs.Common.{ℕ, List, refl, subst}
use Rattle.std.proofs.lemmas.Result.{err_from_is_err_and}
use Rattle.srmtrun.proofs.Serving.{compile_serves, compile_asks, memory_asks, sides_serve}
use Rattle.first_form.specs.FirstForm.{IsFirstForm}
use Rattle.srmtrun.specs.Parts.{StopsCompiling}
use Rattle.srmtrun.specs.declared.words.Mode.TheVariants.{Alternate}
use Rattle.srmtrun.proofs.still.both.Goals as goal

pub returns-in_err-program-clause-serves : goal.returns-in_err-program-clause-serves
returns-in_err-program-clause-serves g c =
    let p = err_from_is_err_and c.from_residual-in_err-program.result c.from_residual-in_err-program.ensures.1 in
    let stops = subst (λ (b : List ℕ). StopsCompiling b c.in_err-program.field-0.0) c.deref.ensures.value c.in_err-program.ensures.err in
    rw (p.1, p.2) (compile_serves (g.F.Files.contents c.args.files.now) c.args.name.now (g.O.Outlet.events c.args.outlet.now) (g.O.Outlet.events c.args.outlet.now) _ _ Alternate c.in_ok-source.source.items c.in_ok-source.ensures.ok.told c.in_ok-source.ensures.ok.within refl c.in_err-program.field-0.0 stops)

pub returns-in_err-program-clause-asks : goal.returns-in_err-program-clause-asks
returns-in_err-program-clause-asks g c =
    let p = err_from_is_err_and c.from_residual-in_err-program.result c.from_residual-in_err-program.ensures.1 in
    let stops = subst (λ (b : List ℕ). StopsCompiling b c.in_err-program.field-0.0) c.deref.ensures.value c.in_err-program.ensures.err in
    rw (p.1, p.2) (compile_asks _ _ _ _ c.in_ok-source.ensures.asks c.in_ok-source.source.items _ stops)

pub returns-in_err-run_sides-clause-asks : goal.returns-in_err-run_sides-clause-asks
returns-in_err-run_sides-clause-asks g c =
    let p = err_from_is_err_and c.from_residual-in_err-run_sides.result c.from_residual-in_err-run_sides.ensures.1 in
    rw (p.1, p.2) (memory_asks _ _ _ _ c.in_ok-source.ensures.asks)

pub returns-clause-serves : goal.returns-clause-serves
returns-clause-serves g c =
    let form = c.in_ok-program.ensures.ok in
    sides_serve (g.F.Files.contents c.args.files.now) c.args.name.now (g.O.Outlet.events c.args.outlet.now) _ (Unit {0}) _ c.in_ok-source.source.items c.in_ok-source.ensures.ok.told c.in_ok-source.ensures.ok.within c.in_ok-program.program form.0 (subst (λ (b : List ℕ). IsFirstForm b form.0) c.deref.ensures.value form.1) form.2 c.in_ok-run_sides.field-0 c.in_ok-run_sides.ensures.ok
