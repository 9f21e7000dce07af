use Rattle.std.proofs.Common.{subst}
use Rattle.c_types.specs.Table.{type_at}
use Rattle.lower.specs.Emitting.{type_number as number_of_type}
use Rattle.lower.specs.Emits.{Allots, itself}
use Rattle.lower.proofs.Emitted.{no-code}
use Rattle.lower.proofs.emitter.Emitter.type_number.Goals as goal

-- src/calls.rt:18:5
pub returns : goal.returns
returns c =
    no-code (subst (λ r. Allots itself r c.args.self.now.allotted c.type_number.new.self c.type_number.result (number_of_type (type_at r c.args.of)))
    c.types.ensures c.type_number.ensures)
