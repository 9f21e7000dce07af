use Rattle.typing_rules.specs.DeclarationRules as declarations
use Rattle.c_values.specs.Stand.{MeansTyped}
use Rattle.c_values.proofs.Answering.{made-answers}
use Rattle.c_values.proofs.literal.byte_value.Goals as goal

pub returns : goal.returns
returns c rows =
    made-answers (MeansTyped rows) c.or_memory.result c.byte_of.result (declarations.byte_value c.args.line c.args.ty c.args.byte) c.or_memory.ensures (c.byte_of.ensures rows)
