use Rattle.std.proofs.Common.{◌≡◌, ◌∙◌, length, arith}
use Rattle.c_types.specs.Table.{type_at}
use Rattle.c_typed.specs.StatementViews.{program_view}
use Rattle.source_meaning.specs.Places.{file_of}
use Rattle.c_meaning.proofs.NamesAndRows.{statics_counted}
use Rattle.c_meaning.proofs.setting.address_of_text.Goals as goal

pub overflow_add-result : goal.overflow_add-result
overflow_add-result c =
    let p = c.args.program.now in
    let counted : c.len-statics.result ≡ length (file_of c.args.part (program_view p)).statics =
    c.len-statics.ensures ∙ statics_counted (type_at p.types) c.file_of.result.now _ c.file_of.ensures in
    omega (arith, counted, c.first_number.ensures)

pub overflow_add-result-2 : goal.overflow_add-result-2
overflow_add-result-2 c =
    let p = c.args.program.now in
    let counted : c.len-statics.result ≡ length (file_of c.args.part (program_view p)).statics =
    c.len-statics.ensures ∙ statics_counted (type_at p.types) c.file_of.result.now _ c.file_of.ensures in
    let number : c.from.result ≡ c.args.number = c.from.ensures in
    omega (arith, counted, c.first_number.ensures)

pub overflow_mul-result : goal.overflow_mul-result
overflow_mul-result c =
    let p = c.args.program.now in
    let counted : c.len-statics.result ≡ length (file_of c.args.part (program_view p)).statics =
    c.len-statics.ensures ∙ statics_counted (type_at p.types) c.file_of.result.now _ c.file_of.ensures in
    let number : c.from.result ≡ c.args.number = c.from.ensures in
    omega (arith, counted, c.first_number.ensures)

pub returns-clause-value : goal.returns-clause-value
returns-clause-value c =
    let p = c.args.program.now in
    let counted : c.len-statics.result ≡ length (file_of c.args.part (program_view p)).statics =
    c.len-statics.ensures ∙ statics_counted (type_at p.types) c.file_of.result.now _ c.file_of.ensures in
    let number : c.from.result ≡ c.args.number = c.from.ensures in
    omega (arith, counted, c.first_number.ensures)

pub returns-clause-small : goal.returns-clause-small
returns-clause-small c =
    let p = c.args.program.now in
    let counted : c.len-statics.result ≡ length (file_of c.args.part (program_view p)).statics =
    c.len-statics.ensures ∙ statics_counted (type_at p.types) c.file_of.result.now _ c.file_of.ensures in
    let number : c.from.result ≡ c.args.number = c.from.ensures in
    omega (arith, counted, c.first_number.ensures)
