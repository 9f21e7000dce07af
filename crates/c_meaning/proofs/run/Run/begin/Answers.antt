use Rattle.c_typed.specs.StatementViews.{stmt_view}
use Rattle.c_meaning.specs.Runs.{types_of}
use Rattle.c_meaning.proofs.TakingRuns.{begun, begin_ended}
use Rattle.c_meaning.proofs.run.Run.begin.Goals as goal

pub returns-in-Err : goal.returns-in-Err
returns-in-Err c =
    begin_ended c.args.at c.args.self.now c.begin_first.new.self c.begin_first.ensures.rest (stmt_view (types_of c.args.at.program.now) c.args.stmt.now)
    c.in-Err.end c.requires.can c.requires.goes_on c.in-Err.ensures.changes c.in-Err.ensures.budgets

pub returns : goal.returns
returns c =
    let types = types_of c.args.at.program.now in
    begun c.args.at c.args.self.now c.begin_first.new.self c.begin_first.ensures.rest (stmt_view types c.args.stmt.now) c.plan_statement.new.tasks
    c.requires.can c.requires.goes_on c.in_default.ensures.changes c.in_default.ensures.budgets (c.in_ok-plan_statement.ensures types)
