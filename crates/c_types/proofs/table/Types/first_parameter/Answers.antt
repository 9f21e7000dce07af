use Rattle.std.proofs.Common.{sym}
use Rattle.c_types.specs.Table.{type_at}
use Rattle.c_types.proofs.Grown.{Stands-below}
use Rattle.c_types.proofs.table.Types.first_parameter.Goals as goal

pub returns-in-Taking : goal.returns-in-Taking
returns-in-Taking c = record {
  parameter = type_at c.args.self.now c.in-Taking.parameter;
  rest = type_at c.args.self.now c.in-Taking.rest;
  is = c.in-Taking.ensures.made;
  parameter_stands = Stands-below c.args.self.now c.in-Taking.parameter c.in-Taking.ensures.below.0;
  rest_stands = Stands-below c.args.self.now c.in-Taking.rest c.in-Taking.ensures.below.1;
}
