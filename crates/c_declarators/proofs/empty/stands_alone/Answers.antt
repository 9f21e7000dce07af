use Rattle.c_known.specs.Views.{line_in}
use Rattle.c_declarators.proofs.Bare.{alone-with, alone-without}
use Rattle.c_declarators.proofs.empty.stands_alone.Goals as goal

pub returns-then-is_empty : goal.returns-then-is_empty
returns-then-is_empty c file rest =
    alone-without (line_in file) c.args.d.now c.is_empty.result c.is_empty-then-is_empty.result rest c.is_empty.ensures c.if-is_empty.true c.is_empty-then-is_empty.ensures

pub returns-else-is_empty : goal.returns-else-is_empty
returns-else-is_empty c file rest = alone-with (line_in file) c.args.d.now c.is_empty.result rest c.is_empty.ensures c.if-is_empty.false
