use Rattle.c_program.proofs.Tables.{all-made}
use Rattle.c_program.proofs.numbering.table_of.Goals as goal

pub returns-clause-made : goal.returns-clause-made
returns-clause-made c types =
    all-made types c.args.main.now c.args.binary.now c.args.count c.in_ok-next.next c.as_slice.result.now c.as_slice-2.result.now c.as_slice-3.result.now c.as_slice-4.result.now
    c.in_ok-table.table.items c.number_functions.new.table.items c.number_functions-2.new.table.items c.number_statics.new.table.items c.number_statics-2.new.table.items
    c.as_slice.ensures c.as_slice-2.ensures c.as_slice-3.ensures c.as_slice-4.ensures c.in_ok-table.ensures.made c.in_ok-next.ensures.next
    (c.in_ok-next.ensures.filled types) (c.in_ok-number_functions.ensures.filled types) (c.in_ok-number_statics.ensures.filled types) (c.in_ok-number_statics-2.ensures.filled types)
