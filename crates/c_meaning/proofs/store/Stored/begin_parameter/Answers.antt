use Rattle.std.proofs.Common.{◌≡◌, ◌∙◌, sym, ap, true, Err}
use Rattle.std.proofs.lemmas.Result.{err_from_is_err_and}
use Rattle.srmt_base.specs.Memory.{write_of}
use Rattle.c_typed.specs.Statements.{LocalRow}
use Rattle.source_meaning.specs.World.{Gives}
use Rattle.source_meaning.specs.Places.{row_of}
use Rattle.c_meaning.specs.Entering.{takes}
use Rattle.c_meaning.specs.Runs.{setting_of, world_of}
use Rattle.c_meaning.proofs.LocalLives.{changes_err}
use Rattle.c_meaning.proofs.Parameters.{takes_register, takes_ends, takes_object, takes_fails}
use Rattle.c_meaning.proofs.store.Stored.begin_parameter.Goals as goal

pub begin_object-requires-clause-placed : goal.begin_object-requires-clause-placed
begin_object-requires-clause-placed c = λ bound. sym (ap (λ (r : LocalRow). r.is_placed) (c.row-row.ensures bound)) ∙ c.if-row.true

pub returns-in_err-begin_object-clause-changes : goal.returns-in_err-begin_object-clause-changes
returns-in_err-begin_object-clause-changes c = λ bound.
    let s = setting_of bound c.args.at in
    let placed : (row_of s c.args.number).is_placed ≡ true = sym (ap (λ (r : LocalRow). r.is_placed) (c.row-row.ensures bound)) ∙ c.if-row.true in
    let exit = err_from_is_err_and c.from_residual.result c.from_residual.ensures.1 in
    changes_err (takes s c.args.number c.args.value) c.args.self.now c.begin_object.new.self c.from_residual.result
    c.in_err-begin_object.field-0.0 (exit.1 ∙ ap Err exit.2)
    (λ es. takes_ends s c.args.number c.args.value (world_of c.args.self.now es) _ es placed (c.in_err-begin_object.ensures.changes bound es))

pub returns-in-Ok-clause-changes : goal.returns-in-Ok-clause-changes
returns-in-Ok-clause-changes c = λ bound es.
    let s = setting_of bound c.args.at in
    let mid = c.begin_object.new.self in
    let placed : (row_of s c.args.number).is_placed ≡ true = sym (ap (λ (r : LocalRow). r.is_placed) (c.row-row.ensures bound)) ∙ c.if-row.true in
    takes_object s c.args.number c.args.value (world_of c.args.self.now es) (world_of mid es) placed
    (c.in_ok-begin_object.ensures.changes bound es) c.put.new.self
    (ap (λ p. write_of mid.memory p c.args.value) (sym c.get-pointer.ensures.value) ∙ c.in-Ok.ensures.ok)

pub returns-in-Err-clause-changes : goal.returns-in-Err-clause-changes
returns-in-Err-clause-changes c = λ bound es.
    let s = setting_of bound c.args.at in
    let mid = c.begin_object.new.self in
    let placed : (row_of s c.args.number).is_placed ≡ true = sym (ap (λ (r : LocalRow). r.is_placed) (c.row-row.ensures bound)) ∙ c.if-row.true in
    takes_fails s c.args.number c.args.value (world_of c.args.self.now es) (world_of mid es) placed
    (c.in_ok-begin_object.ensures.changes bound es) c.row-row.result.line c.in-Err.trap
    (ap (λ (r : LocalRow). r.line) (c.row-row.ensures bound))
    (ap (λ p. write_of mid.memory p c.args.value) (sym c.get-pointer.ensures.value) ∙ c.in-Err.ensures.trap)

pub returns-else-row-clause-changes : goal.returns-else-row-clause-changes
returns-else-row-clause-changes c = λ bound es.
    let s = setting_of bound c.args.at in
    takes_register s c.args.number c.args.value (world_of c.args.self.now es)
    (sym (ap (λ (r : LocalRow). r.is_placed) (c.row-row.ensures bound)) ∙ c.if-row.false)
    ∙ ap (λ ls. Gives tt (record (world_of c.args.self.now es) { locals = ls })) (sym c.set.ensures)
