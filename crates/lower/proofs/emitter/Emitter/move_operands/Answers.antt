use Rattle.std.proofs.Common.{ap}
use Rattle.lower.specs.Emits.{types_of}
use Rattle.lower.specs.Expressions.{moves_pointer}
use Rattle.lower.proofs.Steps.{same-making}
use Rattle.lower.proofs.emitter.Emitter.move_operands.Goals as goal

pub returns-then-pointer_first : goal.returns-then-pointer_first
returns-then-pointer_first c =
    same-making (ap (λ b. moves_pointer c.args.line c.args.by.at c.args.by.is_less b (types_of c.args.inside c.args.by.pointer_type)
    (types_of c.args.inside c.args.by.index_type) c.args.left c.args.right) c.if-pointer_first.true) c.move_pointer.ensures

pub returns : goal.returns
returns c =
    same-making (ap (λ b. moves_pointer c.args.line c.args.by.at c.args.by.is_less b (types_of c.args.inside c.args.by.pointer_type)
    (types_of c.args.inside c.args.by.index_type) c.args.left c.args.right) c.if-pointer_first.false) c.move_pointer-2.ensures
