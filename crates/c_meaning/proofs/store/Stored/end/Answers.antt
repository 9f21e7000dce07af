use Rattle.std.proofs.Common.{◌≡◌, ◌∙◌, ◌/◌, sym, ap, true, false, slice_index}
use Rattle.srmt_base.specs.Memory.{Memory, finish_of}
use Rattle.srmt_base.specs.Objects.{object_part}
use Rattle.c_typed.specs.Statements.{LocalRow}
use Rattle.source_meaning.specs.World.{Gives, pure}
use Rattle.source_meaning.specs.Places.{row_of, object_ends}
use Rattle.c_meaning.specs.Runs.{setting_of, world_of}
use Rattle.c_meaning.proofs.Grouped.{either_first, either_second}
use Rattle.c_meaning.proofs.store.Stored.end.Goals as goal

pub returns-then-row-clause-leaves : goal.returns-then-row-clause-leaves
returns-then-row-clause-leaves c = λ bound es.
    let s = setting_of bound c.args.at in
    let old = c.args.self.now in
    let placed : (row_of s c.args.number).is_placed ≡ true = sym (ap (λ (r : LocalRow). r.is_placed) (c.row.ensures bound)) ∙ c.if-row.true in
    let ended : c.end.new.self ≡ finish_of old.memory (object_part (slice_index old.locals c.args.number)) =
    c.end.ensures ∙ ap (λ v. finish_of old.memory (v / 65536)) c.get-object.ensures.value in
    either_first _ (object_ends c.args.number) (pure tt) (world_of old es) placed
    ∙ ap (λ (m : Memory). Gives tt (record (world_of old es) { memory = m })) (sym ended)

pub returns-else-row-clause-leaves : goal.returns-else-row-clause-leaves
returns-else-row-clause-leaves c = λ bound es.
    let s = setting_of bound c.args.at in
    let free : (row_of s c.args.number).is_placed ≡ false = sym (ap (λ (r : LocalRow). r.is_placed) (c.row.ensures bound)) ∙ c.if-row.false in
    either_second _ (object_ends c.args.number) (pure tt) (world_of c.args.self.now es) free
