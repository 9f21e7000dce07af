use Rattle.std.proofs.Common.{refl}
use Rattle.c_types.specs.Table.{type_at}
use Rattle.lower.proofs.Allotting.{numbered}
use Rattle.lower.proofs.allotted.Allotted.type_number.Goals as goal

pub returns : goal.returns
returns c =
    numbered c.args.types.now c.reference.result (type_at c.args.types.now c.args.of) c.reference.ensures.same c.reference.ensures.one refl refl refl
    c.in_ok-number.ensures.keys c.in_ok-number.ensures.index
