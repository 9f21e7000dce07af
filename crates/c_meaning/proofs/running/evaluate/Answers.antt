use Rattle.std.proofs.Common.{◌≡◌, ℕ, ◌*◌, None, IfOk, OnErr, sym, ap, subst, arith}
use Rattle.std.proofs.lemmas.Result.{err_from_is_err_and}
use Rattle.srmt_outside.specs.Told.{Appends}
use Rattle.srmt_outside.proofs.Told.{Appends-nothing}
use Rattle.c_typed.specs.StatementViews.{program_view}
use Rattle.source_meaning.specs.Places.{function_at}
use Rattle.source_meaning.specs.Start.{Behaviour}
use Rattle.c_meaning.specs.Ending.{call_of_main, Ended, Stopped}
use Rattle.c_meaning.proofs.Meanings.{means_nothing, end_is, events_are, events_begin}
use Rattle.c_meaning.proofs.running.evaluate.Goals as goal

pub returns-in_default-clause-end : goal.returns-in_default-clause-end
unfolding program_view
returns-in_default-clause-end g c =
    let p = c.args.program.now in
    let none = subst (λ (n : ℕ). function_at (program_view p) n ≡ None) c.value_of_entity-number.ensures.value c.in_default.ensures in
    sym (ap (λ (b : Behaviour). b.end) (means_nothing p c.args.input.items c.args.limits none))

pub returns-in_default-clause-events : goal.returns-in_default-clause-events
unfolding program_view
returns-in_default-clause-events g c =
    let p = c.args.program.now in
    let shown = g.O.Outlet.events c.args.outlet.now in
    let none = subst (λ (n : ℕ). function_at (program_view p) n ≡ None) c.value_of_entity-number.ensures.value c.in_default.ensures in
    subst (Appends shown shown) (sym (ap (λ (b : Behaviour). b.events) (means_nothing p c.args.input.items c.args.limits none))) (Appends-nothing shown)

pub started-requires-clause-ready : goal.started-requires-clause-ready
started-requires-clause-ready g c = c.requires.can.functions c.value_of_entity-number.result _ c.in-Some.ensures.0

pub returns-in_err-run-clause-prefix : goal.returns-in_err-run-clause-prefix
returns-in_err-run-clause-prefix g c =
    let p = err_from_is_err_and c.from_residual.result c.from_residual.ensures.1 in
    rw p.1 (0, Appends-nothing (g.O.Outlet.events c.args.outlet.now))

pub returns-clause-end : goal.returns-clause-end
unfolding program_view
returns-clause-end g c =
    let p = c.args.program.now in
    let shown = g.O.Outlet.events c.args.outlet.now in
    let after = g.O.Outlet.events c.run_main.new.outlet in
    let run = c.in_ok-run.run' in
    let turns = 2 * c.args.limits.turns in
    end_is p c.args.input.items c.args.limits run turns shown after c.run_main.result c.in_ok-run.ensures.started (omega arith)
    (subst (λ (n : ℕ). IfOk c.run_main.result (Ended (call_of_main p n run) turns shown after)) c.value_of_entity-number.ensures.value c.run_main.ensures.ended)

pub returns-clause-events : goal.returns-clause-events
unfolding program_view
returns-clause-events g c =
    let p = c.args.program.now in
    let shown = g.O.Outlet.events c.args.outlet.now in
    let after = g.O.Outlet.events c.run_main.new.outlet in
    let run = c.in_ok-run.run' in
    let turns = 2 * c.args.limits.turns in
    events_are p c.args.input.items c.args.limits run turns shown after c.run_main.result c.in_ok-run.ensures.started (omega arith)
    (subst (λ (n : ℕ). IfOk c.run_main.result (Ended (call_of_main p n run) turns shown after)) c.value_of_entity-number.ensures.value c.run_main.ensures.ended)

pub returns-clause-prefix : goal.returns-clause-prefix
unfolding program_view
returns-clause-prefix g c =
    let p = c.args.program.now in
    let shown = g.O.Outlet.events c.args.outlet.now in
    let after = g.O.Outlet.events c.run_main.new.outlet in
    let run = c.in_ok-run.run' in
    let turns = 2 * c.args.limits.turns in
    events_begin p c.args.input.items c.args.limits run turns shown after c.run_main.result c.in_ok-run.ensures.started (omega arith)
    (subst (λ (n : ℕ). OnErr c.run_main.result (Stopped (call_of_main p n run) turns shown after)) c.value_of_entity-number.ensures.value c.run_main.ensures.stopped)
