use Rattle.std.proofs.Common.{◌≡◌, ◌∷◌, ap, rules}
use Rattle.c_meaning.specs.Runs.{types_of}
use Rattle.c_meaning.specs.TaskViews.{tasks_view}
use Rattle.c_meaning.proofs.TakingInitials.{first_initialized}
use Rattle.c_meaning.proofs.run.Run.initialize.Goals as goal

pub returns : goal.returns
returns c =
    let types = types_of c.args.at.program.now in
    let parts : c.args.locals.now ≡ c.in-Some.first.now ∷ c.in-Some.rest.now = search rules in
    first_initialized c.args.at c.args.self.now c.args.locals.now c.requires c.in-Some.first.now c.in-Some.rest.now c.push.new.self c.plan_initial.new.tasks
    c.address_first.new.self parts (ap (tasks_view types) c.in_ok-push.ensures) c.in_ok-address_first.ensures (c.in_ok-plan_initial.ensures types)
