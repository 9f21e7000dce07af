use Rattle.std.proofs.Common.{ℕ, Bool as Test}
use Rattle.typing_rules.specs.DeclarationRules.{fully}
use Rattle.typing_rules.specs.OrderedUnits.{defines}
use Rattle.c_known.specs.Gives.{IsSame}
use Rattle.c_known.proofs.Binding.{bind}
use Rattle.c_typing.specs.Functions.{begun_counted}
use Rattle.c_typing.proofs.Spine.{told-on, stands-later}
use Rattle.c_typing.proofs.begin.begin_defined.Goals as goal

pub returns-in_err-defines : goal.returns-in_err-defines
returns-in_err-defines c t stands =
    told-on (IsSame {A = Test}) (IsSame {A = ℕ}) c.args.known.now _ _ c.in_err-defines.field-0.0 (defines fully c.args.at.line c.args.entity) (λ first. begun_counted c.args.at.line t c.args.entity)
    c.from_residual.result c.in_err-defines.ensures c.from_residual.ensures.1

pub returns : goal.returns
returns c t stands =
    bind (IsSame {A = Test}) (IsSame {A = ℕ}) c.args.known.now _ _ c.in_ok-defines.field-0 c.begin_counted.result (defines fully c.args.at.line c.args.entity) (λ first. begun_counted c.args.at.line t c.args.entity)
    c.in_ok-defines.ensures (λ first grown is. c.begin_counted.ensures t (stands-later _ _ grown c.args.at.ty t stands))
