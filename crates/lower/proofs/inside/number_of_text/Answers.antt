use Rattle.std.proofs.Common.{◌≡◌, ◌∙◌, length, arith}
use Rattle.c_types.specs.Table.{type_at}
use Rattle.c_typed.specs.StatementViews.{program_view}
use Rattle.source_meaning.specs.Places.{file_of}
use Rattle.lower.proofs.EntityNumbers.{statics_counted}
use Rattle.lower.proofs.inside.number_of_text.Goals as goal

pub overflow_add-number : goal.overflow_add-number
overflow_add-number c = omega (arith, c.from.ensures, c.if-statics.false)

pub overflow_add-number-2 : goal.overflow_add-number-2
overflow_add-number-2 c = omega (arith, c.from.ensures, c.from-2.ensures)

pub returns-clause-same : goal.returns-clause-same
returns-clause-same c =
    let p = c.args.program.now in
    let counted : c.len-statics.result ≡ length (file_of c.args.part (program_view p)).statics =
    c.len-statics.ensures ∙ statics_counted (type_at p.types) c.file_of.result.now _ c.file_of.ensures in
    omega (arith, counted, c.first_number.ensures, c.from.ensures, c.from-2.ensures)
