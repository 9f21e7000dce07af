use Rattle.std.proofs.Common.{◌≡◌, ◌∙◌, sym, ap, true, false, subst}
use Rattle.c_typed.specs.Statements.{LocalRow}
use Rattle.source_meaning.specs.Places.{row_of}
use Rattle.c_meaning.specs.Access.{IsReachable}
use Rattle.c_meaning.specs.Runs.{setting_of, location_view}
use Rattle.c_meaning.proofs.setting.At.local.Goals as goal

pub returns-then-row-clause-reachable : goal.returns-then-row-clause-reachable
returns-then-row-clause-reachable c = subst IsReachable (sym c.cell.ensures) c.requires

pub returns-then-row-clause-exact : goal.returns-then-row-clause-exact
returns-then-row-clause-exact c = λ bound.
    let placed : (row_of (setting_of bound c.args.self) c.args.number).is_placed ≡ true =
    sym (ap (λ (r : LocalRow). r.is_placed) (c.row.ensures bound)) ∙ c.if-row.true in
    rw placed (ap location_view c.cell.ensures)

pub returns-else-row-clause-exact : goal.returns-else-row-clause-exact
returns-else-row-clause-exact c = λ bound.
    let free : (row_of (setting_of bound c.args.self) c.args.number).is_placed ≡ false =
    sym (ap (λ (r : LocalRow). r.is_placed) (c.row.ensures bound)) ∙ c.if-row.false in
    rw free
