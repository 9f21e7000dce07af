use Rattle.std.proofs.Common.{◌≡◌, ◌^◌, ◌<◌, List, Ok, Err, false, arith, ◌∙◌, sym, ap}
use Rattle.std.proofs.lemmas.List.{get_or_read}
use Rattle.std.proofs.lemmas.List.Elements.{All-get_or}
use Rattle.std.proofs.lemmas.Result.{err_from_is_err_and}
use Rattle.srmt_base.specs.Objects.{Objects, load_of}
use Rattle.cell_store.specs.declared.table.Row.{Row}
use Rattle.cell_store.specs.Flat.{reach_of}
use Rattle.cell_store.proofs.Access.{load_reached, place-within}
use Rattle.cell_store.proofs.store.Store.load.Goals as goal

pub returns-in_err-at-clause-value : goal.returns-in_err-at-clause-value
returns-in_err-at-clause-value c =
    let s = c.self.inside in
    let e : reach_of false s.rows.items c.args.pointer ≡ Err c.in_err-at.field-0.0 =
    ap (λ (rows : List Row). reach_of false rows c.args.pointer) (sym c.deref.ensures.value) ∙ (sym c.reach.ensures ∙ c.in_err-at.was) in
    let h = load_reached s.budget s.fresh s.rows.items s.cells.items c.args.pointer _ c.self.invariant.laid e in
    let p = err_from_is_err_and c.from_residual.result c.from_residual.ensures.1 in
    rw (p.1, p.2) (sym h ∙ ap (λ (o : Objects). load_of o c.args.pointer) c.self.view_is)

pub index-requires : goal.index-requires
index-requires c =
    let s = c.self.inside in
    let e : reach_of false s.rows.items c.args.pointer ≡ Ok c.in_ok-at.at =
    ap (λ (rows : List Row). reach_of false rows c.args.pointer) (sym c.deref.ensures.value) ∙ (sym c.reach.ensures ∙ c.in_ok-at.was) in
    let h = place-within false s.rows.items _ _ c.args.pointer _ c.self.invariant.laid e in
    omega (arith, h, s.cells.ok.0)

pub returns-clause-value : goal.returns-clause-value
returns-clause-value c =
    let s = c.self.inside in
    let e : reach_of false s.rows.items c.args.pointer ≡ Ok c.in_ok-at.at =
    ap (λ (rows : List Row). reach_of false rows c.args.pointer) (sym c.deref.ensures.value) ∙ (sym c.reach.ensures ∙ c.in_ok-at.was) in
    let h = load_reached s.budget s.fresh s.rows.items s.cells.items c.args.pointer _ c.self.invariant.laid e in
    let within = place-within false s.rows.items _ _ c.args.pointer _ c.self.invariant.laid e in
    let read = get_or_read s.cells.items _ _ within c.index.ensures 0 in
    rw read (sym h ∙ ap (λ (o : Objects). load_of o c.args.pointer) c.self.view_is)

pub returns-clause-small : goal.returns-clause-small
returns-clause-small c =
    let s = c.self.inside in
    let e : reach_of false s.rows.items c.args.pointer ≡ Ok c.in_ok-at.at =
    ap (λ (rows : List Row). reach_of false rows c.args.pointer) (sym c.deref.ensures.value) ∙ (sym c.reach.ensures ∙ c.in_ok-at.was) in
    let within = place-within false s.rows.items _ _ c.args.pointer _ c.self.invariant.laid e in
    let read = get_or_read s.cells.items _ _ within c.index.ensures 0 in
    rw read (All-get_or (λ cell. cell < 2 ^ 44) s.cells.items c.in_ok-at.at 0 within c.self.invariant.small)
