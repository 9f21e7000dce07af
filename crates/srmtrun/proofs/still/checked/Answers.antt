use Rattle.std.proofs.Common.{Err, ap}
use Rattle.std.proofs.lemmas.Result.{err_from_is_err_and}
use Rattle.srmt_outside.specs.Count.{Rose}
use Rattle.std.specs.Prelude.{option_map}
use Rattle.c_front.specs.Front.{RefusesFiles}
use Rattle.srmtrun.specs.Reading.{command_of}
use Rattle.srmtrun.specs.Reads.{files_of}
use Rattle.srmtrun.proofs.Serving.{unread_serves, unread_asks, unread_faults, check_asks}
use Rattle.srmtrun.proofs.still.checked.Goals as goal

pub returns-in_err-sources-clause-serves : goal.returns-in_err-sources-clause-serves
returns-in_err-sources-clause-serves g c =
    let p = err_from_is_err_and c.from_residual.result c.from_residual.ensures.1 in
    rw (p.1, p.2) (λ events before after. unread_serves (g.F.Files.contents c.args.files.now) _ (command_of c.args.command) events _ (Rose before after) (λ e. c.in_err-sources.ensures.failed (ap Err e)))

pub returns-in_err-sources-clause-asks : goal.returns-in_err-sources-clause-asks
returns-in_err-sources-clause-asks g c =
    let p = err_from_is_err_and c.from_residual.result c.from_residual.ensures.1 in
    rw (p.1, p.2) (unread_asks (g.F.Files.contents c.args.files.now) (Unit {0}) _ _ _ (files_of (command_of c.args.command)) c.in_err-sources.ensures.asks)

pub returns-in_err-sources-clause-write_faults : goal.returns-in_err-sources-clause-write_faults
returns-in_err-sources-clause-write_faults g c =
    let p = err_from_is_err_and c.from_residual.result c.from_residual.ensures.1 in
    rw (p.1, p.2) (λ n. unread_faults _ n)

pub returns-clause-asks : goal.returns-clause-asks
returns-clause-asks g c = check_asks (g.F.Files.contents c.args.files.now) _ _ (files_of (command_of c.args.command)) c.in_ok-sources.ensures.asks
    (RefusesFiles c.deref.result.now (option_map (λ bytes. bytes.items) c.in_ok-sources.sources.binary)) c.check_read.result c.check_read.ensures.err
