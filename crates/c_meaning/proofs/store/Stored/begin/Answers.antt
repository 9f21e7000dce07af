use Rattle.std.proofs.Common.{◌≡◌, ◌∙◌, List, ℕ, sym, ap, false}
use Rattle.c_typed.specs.Statements.{LocalRow}
use Rattle.source_meaning.specs.World.{Gives, set_local}
use Rattle.source_meaning.specs.Places.{row_of, object_begins}
use Rattle.c_meaning.specs.Runs.{setting_of, world_of}
use Rattle.c_meaning.proofs.Grouped.{either_second}
use Rattle.c_meaning.proofs.LocalLives.{changes_first}
use Rattle.c_meaning.proofs.store.Stored.begin.Goals as goal

pub begin_object-requires-clause-placed : goal.begin_object-requires-clause-placed
begin_object-requires-clause-placed c = λ bound. sym (ap (λ (r : LocalRow). r.is_placed) (c.row.ensures bound)) ∙ c.if-row.true

pub returns-then-row-clause-changes : goal.returns-then-row-clause-changes
returns-then-row-clause-changes c = λ bound.
    changes_first _ (object_begins (setting_of bound c.args.at) c.args.number) (set_local c.args.number 0) _ _ c.begin_object.result
    (sym (ap (λ (r : LocalRow). r.is_placed) (c.row.ensures bound)) ∙ c.if-row.true) (c.begin_object.ensures.changes bound)

pub returns-else-row-clause-changes : goal.returns-else-row-clause-changes
returns-else-row-clause-changes c = λ bound es.
    let s = setting_of bound c.args.at in
    let old = c.args.self.now in
    let free : (row_of s c.args.number).is_placed ≡ false = sym (ap (λ (r : LocalRow). r.is_placed) (c.row.ensures bound)) ∙ c.if-row.false in
    either_second _ (object_begins s c.args.number) (set_local c.args.number 0) (world_of old es) free
    ∙ ap (λ (ls : List ℕ). Gives tt (record (world_of old es) { locals = ls })) (sym c.set.ensures)
