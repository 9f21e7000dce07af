use Rattle.std.proofs.Common.{sym, subst}
use Rattle.c_typed.specs.Views.{place_view}
use Rattle.c_meaning.specs.declared.run.Did.{Did}
use Rattle.c_meaning.specs.Finishing.{stored}
use Rattle.c_meaning.specs.Runs.{types_of, location_view, Steps}
use Rattle.c_meaning.proofs.FinishSteps.{stored_done, stored_fails}
use Rattle.c_meaning.proofs.run.Run.stores.Goals as goal

pub returns-in_ok-push-in-Ok-clause-steps : goal.returns-in_ok-push-in-Ok-clause-steps
returns-in_ok-push-in-Ok-clause-steps c =
    let old = c.args.self.now in
    let p = c.args.at.program.now in
    let pl = place_view (types_of p) c.args.place.now in
    let new = record old { world = c.store.new.self; values = c.push.new.self } in
    subst (λ (d : Did). Steps p (stored c.args.at pl c.args.address c.args.value c.args.given old) old new d)
    (sym c.told.ensures)
    (stored_done c.args.at pl c.args.address c.args.value c.args.given old (location_view c.located-location.result) c.located-location.ensures.exact
    c.store.new.self c.in-Ok.event c.push.new.self c.in-Ok.ensures.makes c.in_ok-push-in-Ok.ensures)

pub returns-in-Err-clause-steps : goal.returns-in-Err-clause-steps
returns-in-Err-clause-steps c =
    let old = c.args.self.now in
    let pl = place_view (types_of c.args.at.program.now) c.args.place.now in
    stored_fails c.args.at pl c.args.address c.args.value c.args.given old (location_view c.located-location.result) c.located-location.ensures.exact
    (record old { world = c.store.new.self }) c.in-Err.end c.in-Err.ensures.makes
