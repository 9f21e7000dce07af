use Rattle.std.proofs.Common.{◌≡◌, ◌∙◌, ◌*◌, List, ℕ, Ok, Err, refl, sym, ap, subst, false, slice_set}
use Rattle.srmt_base.specs.declared.trap.SourceEnd.TheVariants.{Trap as TrapEnd}
use Rattle.srmt_base.specs.Memory.{begin_of, next_number}
use Rattle.srmt_base.specs.Objects.{pointer_to}
use Rattle.c_types.specs.Types.{unqualified, void, cells_of}
use Rattle.c_typed.specs.Statements.{LocalRow}
use Rattle.source_meaning.specs.World.{Gives, Ends}
use Rattle.source_meaning.specs.Places.{row_of}
use Rattle.source_meaning.specs.Sound.{HasCells}
use Rattle.c_meaning.specs.Runs.{setting_of, world_of}
use Rattle.c_meaning.proofs.LocalLives.{at_start, object_begun, object_refused, row_has_cells}
use Rattle.c_meaning.proofs.store.Stored.begin_object.Goals as goal

pub cells-cells-requires : goal.cells-cells-requires
cells-cells-requires c =
    let s = setting_of 0 c.args.at in
    let has : HasCells (row_of s c.args.number).type.type =
    row_has_cells s.rows c.args.number (record { line = 0; first = 0; type = unqualified void; is_placed = false }) c.requires.ready.locals refl
    (c.requires.placed 0) in
    subst (λ (r : LocalRow). HasCells r.type.type) (sym (c.row-row.ensures 0)) has

pub returns-in-Ok-clause-changes : goal.returns-in-Ok-clause-changes
returns-in-Ok-clause-changes c = λ bound es.
    let s = setting_of bound c.args.at in
    let old = c.args.self.now in
    let part = c.args.at.current.part in
    let n = c.args.number in
    let cells : c.cells-cells.result ≡ cells_of (row_of s n).type.type =
    c.cells-cells.ensures.cells ∙ ap (λ (r : LocalRow). cells_of r.type.type) (c.row-row.ensures bound) in
    let begun : begin_of part old.memory (cells_of (row_of s n).type.type) ≡ Ok c.begin.new.self =
    ap (λ k. begin_of part old.memory k) (sym cells) ∙ c.in-Ok.ensures.ok in
    let number : c.from.result ≡ next_number part old.memory = c.from.ensures ∙ c.in-Ok.ensures.number in
    let locals : c.set.new.self ≡ slice_set old.locals n (pointer_to (next_number part old.memory) 0) =
    c.set.ensures ∙ ap (λ v. slice_set old.locals n v) (ap (λ k. k * 65536) number ∙ at_start (next_number part old.memory)) in
    object_begun s n (world_of old es) c.begin.new.self begun
    ∙ ap (λ (ls : List ℕ). Gives tt (record (world_of old es) { memory = c.begin.new.self; locals = ls })) (sym locals)

pub returns-in-Err-clause-changes : goal.returns-in-Err-clause-changes
returns-in-Err-clause-changes c = λ bound es.
    let s = setting_of bound c.args.at in
    let old = c.args.self.now in
    let part = c.args.at.current.part in
    let n = c.args.number in
    let cells : c.cells-cells.result ≡ cells_of (row_of s n).type.type =
    c.cells-cells.ensures.cells ∙ ap (λ (r : LocalRow). cells_of r.type.type) (c.row-row.ensures bound) in
    let refused : begin_of part old.memory (cells_of (row_of s n).type.type) ≡ Err c.in-Err.trap =
    ap (λ k. begin_of part old.memory k) (sym cells) ∙ c.in-Err.ensures.trap in
    object_refused s n (world_of old es) c.in-Err.trap refused
    ∙ ap (λ (r : LocalRow). Ends (TrapEnd c.in-Err.trap r.line) es) (sym (c.row-row.ensures bound))
