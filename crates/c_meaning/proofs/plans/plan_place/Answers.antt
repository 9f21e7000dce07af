use Rattle.std.proofs.Common.{[], ◌∷◌}
use Rattle.c_typed.specs.Views.{value_view, place_view}
use Rattle.c_meaning.specs.Pending.{does, evaluate, point}
use Rattle.c_meaning.specs.declared.task.Task.TheVariants as task
use Rattle.c_meaning.specs.declared.task.ValueWork.TheVariants as value_work
use Rattle.c_meaning.specs.declared.task.PlaceWork.TheVariants as place_work
use Rattle.c_meaning.proofs.PlanRows as rows
use Rattle.c_meaning.proofs.plans.plan_place.Goals as goal

pub returns-in-Local : goal.returns-in-Local
returns-in-Local c = rows.local-row c.args.place.now c.args.tasks.now c.in-Local.is

pub returns-in-Local-2 : goal.returns-in-Local-2
returns-in-Local-2 c = rows.local-row c.args.place.now c.args.tasks.now c.in-Local.is

pub returns-in-Local-3 : goal.returns-in-Local-3
returns-in-Local-3 c = rows.local-row c.args.place.now c.args.tasks.now c.in-Local.is

pub returns-in-Pointed : goal.returns-in-Pointed
returns-in-Pointed c = rows.pointed-row c.args.place.now c.same.result c.args.tasks.now c.same.new.tasks c.in-Pointed.e c.in-Pointed.is c.same.ensures

pub returns-in_ok-push-in-Element-2 : goal.returns-in_ok-push-in-Element-2
returns-in_ok-push-in-Element-2 c =
    let old = c.args.tasks.now in
    let x = c.args.place.now in
    let first = rows.pushed_first old c.push.new.self (task.Place place_work.Point c.args.place) c.in_ok-push-in-Element.ensures in
    let second = rows.pushed_next old c.push.new.self c.push-in-Element.new.self (λ types. does (point (place_view types x)) ∷ [])
    (task.Value value_work.Evaluate c.get.result) first c.in_ok-push-in-Element-2.ensures in
    let third = rows.pushed_after c.push-in-Element-2.result old c.push-in-Element-2.new.self c.push-in-Element.new.self
    (λ types. does (evaluate (value_view types c.get.result.now)) ∷ does (point (place_view types x)) ∷ [])
    (task.Value value_work.Evaluate c.get-in-Element.result) second c.push-in-Element-2.ensures in
    rows.element-row x c.push-in-Element-2.result old c.push-in-Element-2.new.self c.in-Element.field-0 c.in-Element.field-1 c.in-Element.a c.in-Element.b
    c.in-Element.is
    (rows.replanned c.push-in-Element-2.result old c.push-in-Element-2.new.self
    (λ types. does (evaluate (value_view types c.get-in-Element.result.now)) ∷ does (evaluate (value_view types c.get.result.now)) ∷ does
    (point (place_view types x)) ∷ [])
    (λ types. does (evaluate (value_view types c.in-Element.a)) ∷ does (evaluate (value_view types c.in-Element.b)) ∷ does (point (place_view types x)) ∷ [])
    (λ types i. does (evaluate (value_view types (c.get-in-Element.ensures i))) ∷ does (evaluate (value_view types (c.get.ensures i))) ∷ does
    (point (place_view types x)) ∷ [])
    third)
