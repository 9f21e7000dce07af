use Rattle.c_types.specs.Table.{StandsFor}
use Rattle.typing_rules.specs.Checking.{from_result}
use Rattle.c_known.specs.Gives.{IsDone}
use Rattle.c_known.proofs.Binding.{bind}
use Rattle.c_declarators.specs.Locals.{lines_in, type_of, becomes_local}
use Rattle.c_declarators.proofs.parameters.parameter.Goals as goal

pub returns : goal.returns
returns c t es h means =
    bind StandsFor IsDone c.args.known.now c.own_type.new.known c.becomes_local.new.known c.in_ok-ty.ty c.becomes_local.result
    (from_result (type_of (lines_in c.args.file c.args.p.now) t es)) (becomes_local c.args.file c.args.p.now) (c.in_ok-ty.ensures t es h means)
    (λ a more stands. c.becomes_local.ensures a stands)
