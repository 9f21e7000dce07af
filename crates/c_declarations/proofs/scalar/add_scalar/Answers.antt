use Rattle.std.proofs.Common.{◌≡◌, true, not, ◌||◌, is_some, [], ◌∷◌}
use Rattle.c_typed.specs.Starts.{start_of}
use Rattle.typing_rules.specs.declared.refusal.TypeRefusal.TheVariants.{Mismatch}
use Rattle.c_declarations.specs.Cells.{Added}
use Rattle.c_declarations.proofs.Counted.{added-one, boxed-means}
use Rattle.c_declarations.proofs.Texts.{on-ok, needed-pure, needed-not}
use Rattle.c_declarations.proofs.Adding.{start-is, not-allowed, allowed-constant, allowed-local}
use Rattle.c_declarations.proofs.scalar.add_scalar.Goals.{else-object-via-then-object+else-is_none, else-object-via-else-object}
use Rattle.c_declarations.proofs.scalar.add_scalar.Goals as goal

pub returns-then-is_none : goal.returns-then-is_none
returns-then-is_none c v i m e =
    let s = c.args.known.now in
    let cells = c.args.cells.now.items in
    let is = start-is s.types c.args.value.value c.get.result.now v c.start_of.result m.value c.get.ensures c.start_of.ensures in
    needed-not s cells cells (not c.args.object.is_static || is_some (start_of v)) (Mismatch c.args.object.at 16) (record { index = i; value = v } ∷ [])
    (not-allowed c.args.object.is_static c.is_none.result c.start_of.result (start_of v) c.if-object.true c.if-is_none.true c.is_none.ensures is)

pub returns-else-object : goal.returns-else-object
returns-else-object c v i m e =
    let s = c.args.known.now in
    let before = c.args.cells.now.items in
    let after = c.add_cell.new.cells.items in
    let allowed : true ≡ (not c.args.object.is_static || is_some (start_of v)) =
    elim c.else-object.branch [
      | else-object-via-then-object+else-is_none w ↦
          allowed-constant c.args.object.is_static w.is_none.result w.start_of.result (start_of v) w.if-object.true w.if-is_none.false w.is_none.ensures
          (start-is s.types c.args.value.value w.get.result.now v w.start_of.result m.value w.get.ensures w.start_of.ensures)
      | else-object-via-else-object w ↦ allowed-local c.args.object.is_static (is_some (start_of v)) w.if-object.false
    ] in
    needed-pure s before after c.add_cell.result (not c.args.object.is_static || is_some (start_of v)) (Mismatch c.args.object.at 16) (record { index = i; value = v } ∷ []) allowed
    (on-ok c.add_cell.result _ (λ x. Added before after s.types x (record { index = i; value = v } ∷ [])) c.add_cell.ensures.added
    (λ is x. added-one before after s.types x c.args.index i c.into_inner.result v is e (boxed-means s.types c.args.value.value c.into_inner.result v c.into_inner.ensures m.value)))
    c.add_cell.ensures.memory
