use Rattle.std.proofs.Common.{ℕ, subst}
use Rattle.std.proofs.lemmas.Result.{err_from_is_err_and}
use Rattle.c_meaning.specs.declared.running.Next.{Next}
use Rattle.c_meaning.specs.Ending.{call_of_main, Came}
use Rattle.c_meaning.proofs.Endings.{call_stops, so_far_of, ended_if, stopped_if}
use Rattle.c_meaning.proofs.running.run_main.Goals as goal

pub returns-in_err-end-clause-stopped : goal.returns-in_err-end-clause-stopped
returns-in_err-end-clause-stopped g c =
    let p = err_from_is_err_and c.from_residual.result c.from_residual.ensures.1 in
    rw (p.1, c.in_err-end.ensures.unwritten) (call_stops c.args.program.now c.args.number c.args.turns c.args.run.now (g.O.Outlet.events c.args.outlet.now))

pub returns-in-Turns-clause-ended : goal.returns-in-Turns-clause-ended
returns-in-Turns-clause-ended g c =
    let p = c.args.program.now in
    let main = call_of_main p c.args.number c.args.run.now in
    let shown = g.O.Outlet.events c.args.outlet.now in
    let middle = g.O.Outlet.events c.enter_main.new.outlet in
    let after = g.O.Outlet.events c.to_end.new.outlet in
    let came =
    subst (λ (n : Next). Came p main 0 c.args.turns c.enter_main.new.run shown middle n) c.in-Turns.is
    (subst (λ (t : ℕ). Came p main 0 t c.enter_main.new.run shown middle c.in_ok-end.field-0) c.requires.turns c.in_ok-end.ensures.came)
    in
    ended_if p main c.args.turns c.enter_main.new.run shown middle after c.to_end.result (so_far_of p main 0 c.args.turns c.enter_main.new.run shown middle came) c.to_end.ensures.ended

pub returns-in-Turns-clause-stopped : goal.returns-in-Turns-clause-stopped
returns-in-Turns-clause-stopped g c =
    let p = c.args.program.now in
    let main = call_of_main p c.args.number c.args.run.now in
    let shown = g.O.Outlet.events c.args.outlet.now in
    let middle = g.O.Outlet.events c.enter_main.new.outlet in
    let after = g.O.Outlet.events c.to_end.new.outlet in
    let came =
    subst (λ (n : Next). Came p main 0 c.args.turns c.enter_main.new.run shown middle n) c.in-Turns.is
    (subst (λ (t : ℕ). Came p main 0 t c.enter_main.new.run shown middle c.in_ok-end.field-0) c.requires.turns c.in_ok-end.ensures.came)
    in
    stopped_if p main c.args.turns c.enter_main.new.run shown middle after c.to_end.result (so_far_of p main 0 c.args.turns c.enter_main.new.run shown middle came) c.to_end.ensures.stopped
