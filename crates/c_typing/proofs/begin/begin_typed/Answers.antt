use Rattle.std.proofs.Common.{ℕ, refl}
use Rattle.typing_rules.specs.Checking.{pure}
use Rattle.typing_rules.specs.OrderedParts.{counted_type}
use Rattle.c_known.specs.Gives.{IsDone, IsSame}
use Rattle.c_known.proofs.Binding.{bind, pure-gives}
use Rattle.c_typing.proofs.Spine.{told-on}
use Rattle.c_typing.proofs.begin.begin_typed.Goals as goal

pub returns-in_err-count_type : goal.returns-in_err-count_type
returns-in_err-count_type c t stands =
    told-on IsDone (IsSame {A = ℕ}) c.args.known.now _ _ c.in_err-count_type.field-0.0 (counted_type c.args.at.line t.type) (λ done. pure c.args.entity)
    c.from_residual.result (c.in_err-count_type.ensures t.type stands.type) c.from_residual.ensures.1

pub returns : goal.returns
returns c t stands =
    bind IsDone (IsSame {A = ℕ}) c.args.known.now _ c.count_type.new.self tt _ (counted_type c.args.at.line t.type) (λ done. pure c.args.entity)
    (c.in_ok-count_type.ensures t.type stands.type) (λ done grown is. pure-gives (IsSame {A = ℕ}) _ c.args.entity c.args.entity refl)
