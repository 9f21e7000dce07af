use Rattle.std.proofs.Common.{ℕ, List, subst}
use Rattle.c_meaning.specs.declared.setting.At.{At}
use Rattle.c_meaning.specs.Ending.{call_of_main}
use Rattle.c_meaning.specs.Entering.{called}
use Rattle.c_meaning.specs.Runs.{Steps, Falls}
use Rattle.c_meaning.proofs.Endings.{came_if}
use Rattle.c_meaning.proofs.running.enter_main.Goals as goal

pub returns-clause-came : goal.returns-clause-came
returns-clause-came g c =
    let p = c.args.program.now in
    let run = c.args.run.now in
    let new = c.enter.new.self in
    let d = c.in_ok-did.did in
    let steps =
    subst (λ (xs : List ℕ). Steps p (called p 0 c.args.number xs run) run new d) c.in_ok-arguments.ensures
    (subst (λ (a : At). Steps a.program.now (called a.program.now 0 c.args.number c.in_ok-arguments.arguments run) run new d) c.at-at.ensures c.in_ok-did.ensures.steps)
    in
    let falls = subst (λ (a : At). Falls a.program.now 0 run new d) c.at-at.ensures c.in_ok-did.ensures.turned in
    came_if p (call_of_main p c.args.number run) 0 run new _ _ d c.settle.result steps falls c.settle.ensures.next c.settle.ensures.told
