use Rattle.std.proofs.Common.{sym, subst}
use Rattle.std.specs.Prelude.{IfOk}
use Rattle.c_typed.specs.Views.{place_view}
use Rattle.c_meaning.specs.declared.task.PlaceWork.{PlaceWork}
use Rattle.c_meaning.specs.declared.task.Task.TheVariants as task
use Rattle.c_meaning.specs.Owes.{CanTake, Takes}
use Rattle.c_meaning.specs.Runs.{types_of}
use Rattle.c_meaning.specs.TaskViews.{task_view}
use Rattle.c_meaning.proofs.TakingValues.{held_taken, held_above_taken}
use Rattle.c_meaning.proofs.run.Run.do_place.Goals as goal

pub returns-in-Hold : goal.returns-in-Hold
returns-in-Hold c =
    let types = types_of c.args.at.program.now in
    subst (λ (w : PlaceWork). IfOk c.holds.result (Takes c.args.at c.args.self.now (task_view types (task.Place w c.args.place)) c.holds.new.self))
    (sym c.in-Hold.is)
    (held_taken c.args.at c.args.self.now (place_view types c.args.place.now) c.holds.result c.holds.new.self c.take-address.result c.take-address.new.self
    (subst (λ (w : PlaceWork). CanTake c.args.at c.args.self.now (task_view types (task.Place w c.args.place))) c.in-Hold.is c.requires)
    c.take-address.ensures.value c.take-address.ensures.rest c.holds.ensures.steps c.holds.ensures.frame c.holds.ensures.framing)

pub returns-in-HoldAbove : goal.returns-in-HoldAbove
returns-in-HoldAbove c =
    let types = types_of c.args.at.program.now in
    subst (λ (w : PlaceWork). IfOk c.holds-in-HoldAbove.result (Takes c.args.at c.args.self.now (task_view types (task.Place w c.args.place)) c.holds-in-HoldAbove.new.self))
    (sym c.in-HoldAbove.is)
    (held_above_taken c.args.at c.args.self.now (place_view types c.args.place.now) c.holds-in-HoldAbove.result c.holds-in-HoldAbove.new.self c.top-address.result
    (subst (λ (w : PlaceWork). CanTake c.args.at c.args.self.now (task_view types (task.Place w c.args.place))) c.in-HoldAbove.is c.requires)
    c.top-address.ensures.value c.holds-in-HoldAbove.ensures.steps c.holds-in-HoldAbove.ensures.frame c.holds-in-HoldAbove.ensures.framing)
