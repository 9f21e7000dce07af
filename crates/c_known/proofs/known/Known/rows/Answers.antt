use Rattle.std.proofs.Common.{map, ap, ◌∙◌}
use Rattle.c_types.specs.Table.{type_at}
use Rattle.c_types.proofs.Grown.{Extends-refl}
use Rattle.c_typed.specs.StatementViews.{row_view}
use Rattle.c_known.specs.Standing.{AreRows}
use Rattle.c_known.proofs.Binding.{asks-gives}
use Rattle.c_known.proofs.LocalChanges.{rows-view}
use Rattle.c_known.proofs.known.Known.rows.Goals as goal

pub returns-in-Ok : goal.returns-in-Ok
returns-in-Ok c = asks-gives AreRows c.args.self.now c.in-Ok.rows (λ k. k.locals) (λ k h. record {
  always = λ later e.
      ap (map (row_view (type_at later))) (c.in-Ok.ensures ∙ ap (map _) c.as_slice.ensures.value)
      ∙ rows-view c.args.self.now.types later c.args.self.now.locals.items k.locals (h.locals c.args.self.now.types (Extends-refl _)) (h.locals later e);
})
