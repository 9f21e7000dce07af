use Rattle.std.proofs.Common.{◌≡◌, ◌+◌, ◌<◌, ◌++◌, ◌∷◌, [], length, replicate, arith, ◌∙◌, sym, ap, ◌⊎◌, inl, inr}
use Rattle.std.proofs.lemmas.List.{length-map}
use Rattle.srmt_base.specs.Objects.{Objects, add_of}
use Rattle.cell_store.proofs.Begin.{add-ok, add-err, few_rows, flat_begun, new_row, resized}
use Rattle.cell_store.proofs.store.Store.add.Goals as goal
use Rattle.cell_store.proofs.store.Store.add.Goals.{then-from-self-via-then-from-self, then-from-self-via-else-from-self+then-room-cells}

pub returns-then-from-self-clause-trap : goal.returns-then-from-self-clause-trap
returns-then-from-self-clause-trap c =
    let s = c.self.inside in
    let refused : (c.args.number < s.fresh) ⊎ (s.budget < length s.cells.items + c.args.cells) =
    elim c.then-from-self.branch [
      | then-from-self-via-then-from-self w ↦ inl (omega (arith, w.if-from-self.true))
      | then-from-self-via-else-from-self+then-room-cells w ↦ inr (omega (arith, w.if-room-cells.true, s.cells.ok.0, c.self.invariant.few))
    ] in
    ap (λ (o : Objects). add_of o c.args.number c.args.cells c.args.read_only) (sym c.self.view_is)
    ∙ add-err s.budget s.fresh s.rows.items s.cells.items c.args.number c.args.cells c.args.read_only c.self.invariant.laid refused

pub unreachable-requires : goal.unreachable-requires
unreachable-requires c =
    let s = c.self.inside in
    omega (arith, c.in_default.ensures.full, few_rows s.rows.items 0 0 _ _ c.self.invariant.laid, s.rows.ok.0, s.cells.ok.0, c.self.invariant.row_room, c.self.invariant.few)

pub invariant_of-self : goal.invariant_of-self
invariant_of-self c =
    let s = c.self.inside in
    let len : c.len-used.result ≡ length s.cells.items = c.len-used.ensures ∙ s.cells.ok.0 in
    let cells : c.resize.new.self.items ≡ s.cells.items ++ replicate c.args.cells 0 = c.in-Ok-resize.ensures.items ∙ resized s.cells.items _ c.len-used.result c.args.cells (sym s.cells.ok.0) c.len-used.ensures in
    let flat = flat_begun s.budget s.fresh s.rows.items s.cells.items _ _ _ _ c.args.number c.args.cells c.args.read_only c.self.invariant (omega arith) c.requires (omega (arith, s.cells.ok.0, c.self.invariant.few)) c.in-Ok.ensures.capacity c.in-Ok-resize.ensures.capacity in
    rw (c.in-Ok.ensures.items, cells, c.from-2.ensures, len) flat

pub returns-clause-ok : goal.returns-clause-ok
returns-clause-ok c =
    let s = c.self.inside in
    let len : c.len-used.result ≡ length s.cells.items = c.len-used.ensures ∙ s.cells.ok.0 in
    let cells : c.resize.new.self.items ≡ s.cells.items ++ replicate c.args.cells 0 = c.in-Ok-resize.ensures.items ∙ resized s.cells.items _ c.len-used.result c.args.cells (sym s.cells.ok.0) c.len-used.ensures in
    let h = add-ok s.budget s.fresh s.rows.items s.cells.items c.args.number c.args.cells c.args.read_only c.self.invariant.laid (omega arith) (omega (arith, s.cells.ok.0, c.self.invariant.few)) in
    rw (← c.self.view_is, c.in-Ok.ensures.items, cells, c.from-2.ensures, len) h

pub returns-clause-few : goal.returns-clause-few
returns-clause-few c =
    let s = c.self.inside in
    let len : c.len-used.result ≡ length s.cells.items = c.len-used.ensures ∙ s.cells.ok.0 in
    let flat = flat_begun s.budget s.fresh s.rows.items s.cells.items _ _ _ _ c.args.number c.args.cells c.args.read_only c.self.invariant (omega arith) c.requires (omega (arith, s.cells.ok.0, c.self.invariant.few)) c.in-Ok.ensures.capacity c.in-Ok-resize.ensures.capacity in
    let rows = few_rows (s.rows.items ++ new_row c.args.number (length s.cells.items) c.args.cells c.args.read_only ∷ []) 0 0 _ _ flat.laid in
    rw (c.in-Ok.ensures.items, len, length-map) (omega (arith, rows, flat.few))
