use Rattle.std.proofs.Common.{◌≡◌, ◌+◌, ◌++◌, take, drop, arith, ◌∙◌}
use Rattle.cell_store.specs.Flat.{moved_down}
use Rattle.cell_store.proofs.End.{took_out, room_after}
use Rattle.cell_store.proofs.table.take_out.Goals as goal

pub move_down-requires : goal.move_down-requires
move_down-requires c =
    let rows = c.args.rows.now.items in
    let removed : c.deref_mut.result.now ≡ take c.args.at rows ++ drop (c.args.at + 1) rows = c.deref_mut.ensures.value ∙ c.remove-row.ensures.by_index.2 in
    room_after rows c.deref_mut.result.now _ _ c.args.at c.from.result c.remove-row.result c.requires.laid.2 (omega arith) removed c.remove-row.ensures.value c.from.ensures

pub returns-clause-items : goal.returns-clause-items
returns-clause-items c =
    let rows = c.args.rows.now.items in
    let removed : c.deref_mut.result.now ≡ take c.args.at rows ++ drop (c.args.at + 1) rows = c.deref_mut.ensures.value ∙ c.remove-row.ensures.by_index.2 in
    took_out (moved_down c.remove-row.result.cells) rows c.deref_mut.result.now c.move_down.new.rows _ c.args.at c.remove-row.new.self.len (omega arith) (omega arith) removed (rw (← c.from.ensures) c.move_down.ensures)
