use Rattle.std.proofs.Common.{◌≡◌, ℕ, List, Ok, Err, true, ◌∙◌, sym, ap, subst}
use Rattle.std.proofs.lemmas.Result.{err_from_is_err_and}
use Rattle.srmt_base.specs.Objects.{Objects, put_of, written, access_of}
use Rattle.cell_store.specs.declared.table.Row.{Row}
use Rattle.cell_store.specs.Flat.{reach_of}
use Rattle.cell_store.proofs.Access.{flat, put_reached, passes}
use Rattle.cell_store.proofs.store.Store.may_put.Goals as goal

pub returns-in_err-_at-clause-trap : goal.returns-in_err-_at-clause-trap
returns-in_err-_at-clause-trap c =
    let s = c.self.inside in
    let e : reach_of true s.rows.items c.args.pointer ≡ Err c.in_err-_at.field-0.0 =
    ap (λ (rows : List Row). reach_of true rows c.args.pointer) (sym c.deref.ensures.value) ∙ (sym c.reach.ensures ∙ c.in_err-_at.was) in
    let p = err_from_is_err_and c.from_residual.result c.from_residual.ensures.1 in
    rw (p.1, p.2) (λ (value : ℕ).
    ap (λ (o : Objects). put_of o c.args.pointer value) (sym c.self.view_is) ∙ put_reached true s.budget s.fresh s.rows.items s.cells.items c.args.pointer value _ c.self.invariant.laid e)

pub returns-clause-ok : goal.returns-clause-ok
returns-clause-ok c value =
    let s = c.self.inside in
    let e : reach_of true s.rows.items c.args.pointer ≡ Ok c.in_ok-_at._at =
    ap (λ (rows : List Row). reach_of true rows c.args.pointer) (sym c.deref.ensures.value) ∙ (sym c.reach.ensures ∙ c.in_ok-_at.was) in
    let h = put_reached true s.budget s.fresh s.rows.items s.cells.items c.args.pointer value _ c.self.invariant.laid e in
    let o = flat s.budget s.fresh s.rows.items s.cells.items in
    subst (λ (o : Objects). put_of o c.args.pointer value ≡ Ok (written o c.args.pointer value)) c.self.view_is (passes (access_of true o c.args.pointer) (written o c.args.pointer value) _ h)
