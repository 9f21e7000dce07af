use Rattle.c_typed.specs.Views.{value_view}
use Rattle.c_meaning.specs.Runs.{types_of}
use Rattle.c_meaning.proofs.TakingSteps.{leaf_given, value_planned}
use Rattle.c_meaning.proofs.run.Run.evaluate.Goals as goal

pub returns-in-Some : goal.returns-in-Some
returns-in-Some c =
    leaf_given c.args.at c.args.self.now (value_view (types_of c.args.at.program.now) c.args.value.now) c.gives.result c.gives.new.self
    c.in-Some.leaf c.requires c.in-Some.ensures.exact c.gives.ensures.values c.gives.ensures.went

pub returns-in_ok-plan_value-in-None : goal.returns-in_ok-plan_value-in-None
returns-in_ok-plan_value-in-None c =
    value_planned c.args.at c.args.self.now (value_view (types_of c.args.at.program.now) c.args.value.now) c.plan_value.new.tasks c.requires
    c.in-None.ensures.exact (c.in_ok-plan_value-in-None.ensures (types_of c.args.at.program.now))
