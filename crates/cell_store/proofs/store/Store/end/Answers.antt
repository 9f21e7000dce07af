use Rattle.std.proofs.Common.{◌≡◌, ◌<◌, Some, None, length, get_or, arith, sym, ap, ◌∙◌}
use Rattle.std.proofs.lemmas.List.{length-map}
use Rattle.srmt_base.specs.Objects.{Objects, is_live}
use Rattle.cell_store.specs.Flat.{row_of, moved_down}
use Rattle.cell_store.proofs.End.{is_live-flat, end-none, end-row, flat_without_row, row_within, length-without}
use Rattle.cell_store.proofs.store.Store.end.Goals as goal

pub returns-in_default-clause-live : goal.returns-in_default-clause-live
returns-in_default-clause-live c =
    let s = c.self.inside in
    let e : row_of s.rows.items c.args.number ≡ None = rw (c.deref.ensures.value, c.from.ensures) at c.in_default.ensures in
    sym (ap (λ (o : Objects). is_live o c.args.number) (sym c.self.view_is) ∙ is_live-flat s.budget s.fresh s.rows.items s.cells.items c.args.number _ e)

pub returns-in_default-clause-ended : goal.returns-in_default-clause-ended
returns-in_default-clause-ended c =
    let s = c.self.inside in
    let e : row_of s.rows.items c.args.number ≡ None = rw (c.deref.ensures.value, c.from.ensures) at c.in_default.ensures in
    rw (← c.self.view_is) (sym (end-none s.budget s.fresh s.rows.items s.cells.items c.args.number e))

pub close_up-requires : goal.close_up-requires
close_up-requires c =
    let s = c.self.inside in
    let within : c.in-Some.at < length s.rows.items = rw c.deref.ensures.value at c.in-Some.ensures.within in
    let h = row_within s.rows.items _ _ c.take_out-row.result c.in-Some.at c.self.invariant.laid within c.take_out-row.ensures.row in
    omega (arith, h, s.cells.ok.0)

pub invariant_of-self : goal.invariant_of-self
invariant_of-self c =
    let s = c.self.inside in
    let within : c.in-Some.at < length s.rows.items = rw c.deref.ensures.value at c.in-Some.ensures.within in
    let h = flat_without_row s.budget s.fresh s.rows.items s.cells.items _ _ c.take_out-row.result c.in-Some.at c.self.invariant within c.take_out-row.ensures.row in
    rw (c.take_out-row.ensures.items, c.close_up.ensures.items, c.take_out-row.ensures.capacity, c.close_up.ensures.capacity) h

pub returns-clause-live : goal.returns-clause-live
returns-clause-live c =
    let s = c.self.inside in
    let e : row_of s.rows.items c.args.number ≡ Some (get_or s.rows.items c.in-Some.at c.take_out-row.result) = rw (c.deref.ensures.value, c.from.ensures) at (c.in-Some.ensures.is c.take_out-row.result) in
    sym (ap (λ (o : Objects). is_live o c.args.number) (sym c.self.view_is) ∙ is_live-flat s.budget s.fresh s.rows.items s.cells.items c.args.number _ e)

pub returns-clause-ended : goal.returns-clause-ended
returns-clause-ended c =
    let s = c.self.inside in
    let within : c.in-Some.at < length s.rows.items = rw c.deref.ensures.value at c.in-Some.ensures.within in
    let e : row_of s.rows.items c.args.number ≡ Some (get_or s.rows.items c.in-Some.at c.take_out-row.result) = rw (c.deref.ensures.value, c.from.ensures) at (c.in-Some.ensures.is c.take_out-row.result) in
    let h = end-row s.budget s.fresh s.rows.items s.cells.items c.take_out-row.result c.in-Some.at c.args.number c.self.invariant.laid within e c.take_out-row.ensures.row in
    rw (← c.self.view_is, c.take_out-row.ensures.items, c.close_up.ensures.items) (sym h)

pub returns-clause-one : goal.returns-clause-one
returns-clause-one c =
    let s = c.self.inside in
    let within : c.in-Some.at < length s.rows.items = rw c.deref.ensures.value at c.in-Some.ensures.within in
    let len = length-without s.rows.items c.in-Some.at (moved_down c.take_out-row.result.cells) within in
    rw (← c.self.view_is, c.take_out-row.ensures.items, length-map, length-map) (omega (arith, len))
