use Rattle.std.proofs.Common.{◌≡◌, List, Ok, Err, true, arith, ◌∙◌, sym, ap}
use Rattle.std.proofs.lemmas.Result.{err_from_is_err_and}
use Rattle.srmt_base.specs.Objects.{Objects, put_of}
use Rattle.cell_store.specs.declared.table.Row.{Row}
use Rattle.cell_store.specs.Flat.{reach_of}
use Rattle.cell_store.proofs.Access.{put_reached, place-within}
use Rattle.cell_store.proofs.store.Store.put.Goals as goal

pub returns-in_err-at-clause-trap : goal.returns-in_err-at-clause-trap
returns-in_err-at-clause-trap c =
    let s = c.self.inside in
    let e : reach_of true s.rows.items c.args.pointer ≡ Err c.in_err-at.field-0.0 =
    ap (λ (rows : List Row). reach_of true rows c.args.pointer) (sym c.deref.ensures.value) ∙ (sym c.reach.ensures ∙ c.in_err-at.was) in
    let h = put_reached true s.budget s.fresh s.rows.items s.cells.items c.args.pointer c.args.value _ c.self.invariant.laid e in
    let p = err_from_is_err_and c.from_residual.result c.from_residual.ensures.1 in
    rw (p.1, p.2) (ap (λ (o : Objects). put_of o c.args.pointer c.args.value) (sym c.self.view_is) ∙ h)

pub index_mut-requires : goal.index_mut-requires
index_mut-requires c =
    let s = c.self.inside in
    let e : reach_of true s.rows.items c.args.pointer ≡ Ok c.in_ok-at.at =
    ap (λ (rows : List Row). reach_of true rows c.args.pointer) (sym c.deref.ensures.value) ∙ (sym c.reach.ensures ∙ c.in_ok-at.was) in
    let h = place-within true s.rows.items _ _ c.args.pointer _ c.self.invariant.laid e in
    omega (arith, h, s.cells.ok.0)

pub returns-clause-ok : goal.returns-clause-ok
returns-clause-ok c =
    let s = c.self.inside in
    let e : reach_of true s.rows.items c.args.pointer ≡ Ok c.in_ok-at.at =
    ap (λ (rows : List Row). reach_of true rows c.args.pointer) (sym c.deref.ensures.value) ∙ (sym c.reach.ensures ∙ c.in_ok-at.was) in
    let h = put_reached true s.budget s.fresh s.rows.items s.cells.items c.args.pointer c.args.value _ c.self.invariant.laid e in
    ap (λ (o : Objects). put_of o c.args.pointer c.args.value) (sym c.self.view_is) ∙ h
