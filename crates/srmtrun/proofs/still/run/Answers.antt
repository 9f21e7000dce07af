use Rattle.std.proofs.Common.{ℕ, List, ap, ◌∙◌}
use Rattle.std.proofs.lemmas.Result.{err_from_is_err_and}
use Rattle.mid_code.specs.Meaning.{started}
use Rattle.mid_run.specs.Progress.{At}
use Rattle.srmtrun.proofs.Serving.{prefix_written, run_finished}
use Rattle.srmtrun.proofs.Limiting.{limits_fit}
use Rattle.srmtrun.specs.declared.still.TheConstants.{LIMITS}
use Rattle.srmtrun.proofs.still.run.Goals as goal

pub start-requires-clause-limits : goal.start-requires-clause-limits
start-requires-clause-limits g c = limits_fit c.args.program.now c.requires

-- what was written is a prefix of what the program means
pub returns-in_err-run-2-clause-err : goal.returns-in_err-run-2-clause-err
returns-in_err-run-2-clause-err g c =
    let p = err_from_is_err_and c.from_residual-in_err-run-2.result c.from_residual-in_err-run-2.ensures.1 in
    let start = c.in_ok-run.ensures.started ∙ ap (λ (xs : List ℕ). At (started c.args.program.now xs LIMITS)) c.new.ensures.items in
    rw (p.1, p.2) (c.in_err-run-2.ensures.failed, prefix_written c.args.program.now LIMITS c.in_ok-run.run' c.run.new.self (g.O.Outlet.events c.args.outlet.now) (g.O.Outlet.events c.run.new.outlet) start c.in_err-run-2.ensures.runs)

pub returns-clause-ok : goal.returns-clause-ok
returns-clause-ok g c =
    let start = c.in_ok-run.ensures.started ∙ ap (λ (xs : List ℕ). At (started c.args.program.now xs LIMITS)) c.new.ensures.items in
    let runs = c.in_ok-run-2.ensures.runs in
    (runs.0, run_finished c.args.program.now LIMITS c.in_ok-run.run' c.run.new.self runs.0 _ start runs.1 c.in_ok-run-2.ensures.end, runs.2)
