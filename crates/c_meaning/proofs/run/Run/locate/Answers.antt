use Rattle.c_typed.specs.Views.{place_view}
use Rattle.c_meaning.specs.Runs.{types_of}
use Rattle.c_meaning.proofs.TakingSteps.{address_given, place_planned}
use Rattle.c_meaning.proofs.run.Run.locate.Goals as goal

pub returns-in-Some : goal.returns-in-Some
returns-in-Some c =
    address_given c.args.at c.args.self.now (place_view (types_of c.args.at.program.now) c.args.place.now) c.gives.result c.gives.new.self
    c.in-Some.address c.requires c.in-Some.ensures.exact c.gives.ensures.values c.gives.ensures.went

pub returns-in_ok-plan_place-in-None : goal.returns-in_ok-plan_place-in-None
returns-in_ok-plan_place-in-None c =
    place_planned c.args.at c.args.self.now (place_view (types_of c.args.at.program.now) c.args.place.now) c.plan_place.new.tasks c.requires
    c.in-None.ensures.exact (c.in_ok-plan_place-in-None.ensures (types_of c.args.at.program.now))
