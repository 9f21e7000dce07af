use Rattle.std.proofs.Common.{◌≡◌, ◌∙◌, ap}
use Rattle.std.specs.Prelude.{slice_get, unwrap_or}
use Rattle.c_types.specs.Table.{type_at}
use Rattle.c_typed.specs.StatementViews.{function_view}
use Rattle.c_meaning.proofs.NamesAndRows.{row_or, lent_is}
use Rattle.c_meaning.proofs.setting.At.row.Goals as goal

pub returns : goal.returns
unfolding function_view
returns c = λ bound.
    let rows = c.args.self.current.function.now.locals in
    let found : c.copied.result ≡ slice_get rows c.args.number =
    c.copied.ensures ∙ lent_is _ c.args.number c.get.result c.get.ensures.lookup ∙ ap (λ l. slice_get l c.args.number) c.as_slice-rows.ensures in
    row_or (type_at c.args.self.program.now.types) rows c.args.number _ c.unwrap_or.result (c.unwrap_or.ensures ∙ ap (λ o. unwrap_or o _) found)
