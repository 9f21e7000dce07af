use Rattle.std.proofs.Common.{◌^◌, ◌<◌, arith}
use Rattle.std.specs.Prelude.{All}
use Rattle.std.proofs.lemmas.List.{length-map}
use Rattle.std.proofs.lemmas.List.Elements.{All-map, All-take, All-drop}
use Rattle.srmt_base.specs.Objects.{Object}
use Rattle.cell_store.specs.Flat.{object_in}
use Rattle.cell_store.proofs.Begin.{few_rows}
use Rattle.cell_store.proofs.store.Store.budget.Goals as goal

pub returns-clause-few : goal.returns-clause-few
returns-clause-few c =
    let s = c.self.inside in
    let rows = few_rows s.rows.items 0 0 _ _ c.self.invariant.laid in
    rw (← c.self.view_is, length-map) (omega (arith, rows, c.self.invariant.few))

pub returns-clause-small : goal.returns-clause-small
returns-clause-small c =
    let s = c.self.inside in
    rw (← c.self.view_is) (All-map (λ (object : Object). All (λ cell. cell < 2 ^ 44) object.cells) (object_in s.cells.items) s.rows.items
    (λ k d h. All-take (λ cell. cell < 2 ^ 44) _ _ (All-drop (λ cell. cell < 2 ^ 44) _ s.cells.items c.self.invariant.small)))
