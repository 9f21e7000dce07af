use Rattle.std.proofs.Common.{◌≡◌, ◌∙◌, sym, ap, true, false}
use Rattle.c_typed.specs.Statements.{LocalRow}
use Rattle.source_meaning.specs.Places.{row_of}
use Rattle.c_meaning.specs.Runs.{setting_of}
use Rattle.c_meaning.proofs.store.Stored.address_of_local.Goals as goal

pub returns-then-row-clause-value : goal.returns-then-row-clause-value
returns-then-row-clause-value c = λ bound.
    let placed : (row_of (setting_of bound c.args.at) c.args.number).is_placed ≡ true =
    sym (ap (λ (r : LocalRow). r.is_placed) (c.row.ensures bound)) ∙ c.if-row.true in
    rw placed c.get.ensures.value

pub returns-else-row-clause-value : goal.returns-else-row-clause-value
returns-else-row-clause-value c = λ bound.
    let free : (row_of (setting_of bound c.args.at) c.args.number).is_placed ≡ false =
    sym (ap (λ (r : LocalRow). r.is_placed) (c.row.ensures bound)) ∙ c.if-row.false in
    rw free
