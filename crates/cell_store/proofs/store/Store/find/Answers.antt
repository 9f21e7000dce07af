use Rattle.std.proofs.Common.{◌≡◌, ◌<◌, Some, None, false, length, get_or, arith, sym}
use Rattle.cell_store.specs.declared.table.Row.{Row}
use Rattle.cell_store.specs.Flat.{row_of}
use Rattle.cell_store.proofs.Access.{live_at-place}
use Rattle.cell_store.proofs.Begin.{few_rows}
use Rattle.cell_store.proofs.End.{is_live-flat}
use Rattle.cell_store.proofs.store.Store.find.Goals as goal

-- the line that stands for what is beyond the table
none : Row
none = record { number = 0; start = 0; cells = 0; read_only = false }

pub returns-in_err-at-clause-live : goal.returns-in_err-at-clause-live
returns-in_err-at-clause-live g c =
    let s = c.self.inside in
    let e : row_of s.rows.items c.args.number ≡ None = rw (c.deref.ensures.value, c.from.ensures) at c.in_err-at.ensures.place in
    rw (c.from_residual.ensures, ← c.self.view_is) (sym (is_live-flat s.budget s.fresh s.rows.items s.cells.items c.args.number _ e))

pub overflow_cast-result : goal.overflow_cast-result
overflow_cast-result g c =
    let s = c.self.inside in
    let within : c.in_ok-at.at < length s.rows.items = rw c.deref.ensures.value at c.in_ok-at.ensures.place.within in
    omega (arith, few_rows s.rows.items 0 0 _ _ c.self.invariant.laid, c.self.invariant.few, c.self.invariant.bounded)

pub returns-clause-live : goal.returns-clause-live
returns-clause-live g c =
    let s = c.self.inside in
    let e : row_of s.rows.items c.args.number ≡ Some (get_or s.rows.items c.in_ok-at.at none) = rw (c.deref.ensures.value, c.from.ensures) at (c.in_ok-at.ensures.place.is none) in
    rw (← c.self.view_is) (sym (is_live-flat s.budget s.fresh s.rows.items s.cells.items c.args.number _ e))

pub returns-clause-found : goal.returns-clause-found
returns-clause-found g c =
    let s = c.self.inside in
    let within : c.in_ok-at.at < length s.rows.items = rw c.deref.ensures.value at c.in_ok-at.ensures.place.within in
    let e : row_of s.rows.items c.args.number ≡ Some (get_or s.rows.items c.in_ok-at.at none) = rw (c.deref.ensures.value, c.from.ensures) at (c.in_ok-at.ensures.place.is none) in
    rw (← c.self.view_is) (sym (live_at-place s.budget s.fresh s.rows.items s.cells.items c.args.number c.in_ok-at.at none within e))
