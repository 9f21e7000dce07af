use Rattle.std.proofs.Common.{Ok, None, refl}
use Rattle.typing_rules.specs.Checking.{pure}
use Rattle.typing_rules.specs.OrderedParts as ordered
use Rattle.c_values.specs.Stand.{MeansTyped}
use Rattle.c_values.specs.Answers.{MeansTarget}
use Rattle.c_values.proofs.Means.{got-stands}
use Rattle.c_values.proofs.Answering.{bind-answers}
use Rattle.c_values.proofs.term.function_target.Goals as goal

pub returns-clause-value : goal.returns-clause-value
returns-clause-value c d t of stands =
    let new = c.designated.new.types in
    let x = c.in_ok-value.value in
    bind-answers (MeansTyped new) (MeansTarget new) x (Ok (record { ty = c.get.result.now.ty; place = None })) (ordered.designated c.args.line d t)
    (λ v. pure (record { old = v; lvalue = None })) (c.in_ok-value.ensures.value d t of stands)
    (λ v m k. (record { type = got-stands new c.get.result.now x.value v c.get.ensures m.value; place = tt }, refl))
