use Rattle.std.proofs.Common.{ap, sym, ◌∙◌, arith}
use Rattle.std.proofs.lemmas.List.{get_or_default}
use Rattle.cell_store.specs.declared.table.Row.{Row}
use Rattle.cell_store.proofs.Rows.{row_of_at}
use Rattle.cell_store.proofs.table.newest_or_place.Goals as goal

pub returns-then-from-number : goal.returns-then-from-number
returns-then-from-number c = record {
  within = omega arith;
  is = λ d. row_of_at c.args.rows.now 0 0 _ _ c.requires.2 d _ _ (omega arith) (ap (λ (row : Row). row.number) (get_or_default c.args.rows.now _ d _ (omega arith)) ∙ (sym c.from.ensures ∙ c.if-from-number.true));
}
