use Rattle.c_typed.specs.Views.{place_view}
use Rattle.c_meaning.specs.Runs.{types_of}
use Rattle.c_meaning.proofs.TakingViews.{held_steps, held_traps}
use Rattle.c_meaning.proofs.run.Run.holds.Goals as goal

pub returns-in_ok-push-in-Ok-clause-steps : goal.returns-in_ok-push-in-Ok-clause-steps
returns-in_ok-push-in-Ok-clause-steps c =
    held_steps c.args.at c.args.self.now (place_view (types_of c.args.at.program.now) c.args.place.now) c.args.address c.located-location.result
    c.located-location.ensures.exact c.in-Ok.value c.in-Ok.event c.told.result c.push.new.self c.in-Ok.ensures.fetches c.in_ok-push-in-Ok.ensures
    c.told.ensures

pub returns-in-Err-clause-steps : goal.returns-in-Err-clause-steps
returns-in-Err-clause-steps c =
    held_traps c.args.at c.args.self.now (place_view (types_of c.args.at.program.now) c.args.place.now) c.args.address c.located-location.result
    c.located-location.ensures.exact c.in-Err.end c.in-Err.ensures.fetches
