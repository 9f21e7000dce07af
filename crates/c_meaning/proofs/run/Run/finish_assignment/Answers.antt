use Rattle.c_typed.specs.Views.{place_view}
use Rattle.c_meaning.specs.Runs.{types_of}
use Rattle.c_meaning.proofs.FinishSteps.{assigned_done}
use Rattle.c_meaning.proofs.run.Run.finish_assignment.Goals as goal

pub returns-clause-steps : goal.returns-clause-steps
returns-clause-steps c =
    assigned_done c.args.at c.args.self.now c.stores.new.self c.stores.result (place_view (types_of c.args.at.program.now) c.args.place.now)
    c.take-value.new.self c.take-address.new.self c.take-value.result c.take-address.result
    c.take-value.ensures.value c.take-value.ensures.rest c.take-address.ensures.value c.take-address.ensures.rest c.stores.ensures.steps
