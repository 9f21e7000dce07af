use Rattle.std.proofs.Common.{refl}
use Rattle.c_typed.specs.StatementViews.{stmt_view}
use Rattle.c_meaning.specs.Runs.{types_of}
use Rattle.c_meaning.proofs.TakingRows.{block-rests, continue-rests, loop-turns}
use Rattle.c_meaning.proofs.TakingRuns.{turned, turn_ended}
use Rattle.c_meaning.proofs.TakingValues.{not_at_top}
use Rattle.c_meaning.proofs.run.Run.top.Goals as goal

pub returns-in-Err : goal.returns-in-Err
returns-in-Err c =
    let types = types_of c.args.at.program.now in
    turn_ended c.args.at c.args.self.now c.spend_turn.new.self c.spend_turn.ensures.rest (stmt_view types c.args.stmt.now) c.args.stmt.now.line
    c.in-Err.end c.requires.can (loop-turns types c.args.stmt.now c.args.at.current.part c.in-While.is) c.in-Err.ensures.changes
    c.in-Err.ensures.depths

pub returns-in_ok-plan_top-in-While : goal.returns-in_ok-plan_top-in-While
returns-in_ok-plan_top-in-While c =
    let types = types_of c.args.at.program.now in
    turned c.args.at c.args.self.now c.spend_turn.new.self c.spend_turn.ensures.rest (stmt_view types c.args.stmt.now) c.args.stmt.now.line
    c.plan_top.new.tasks c.requires.can (loop-turns types c.args.stmt.now c.args.at.current.part c.in-While.is) c.in_default.ensures.changes
    c.in_default.ensures.spent (c.in_ok-plan_top-in-While.ensures types)

pub returns-in-Continue : goal.returns-in-Continue
returns-in-Continue c =
    let a = stmt_view (types_of c.args.at.program.now) c.args.stmt.now in
    not_at_top c.args.at c.args.self.now a a refl (continue-rests (types_of c.args.at.program.now) c.args.stmt.now c.in-Continue.is) c.requires.can

pub returns-in-Continue-2 : goal.returns-in-Continue-2
returns-in-Continue-2 c =
    let a = stmt_view (types_of c.args.at.program.now) c.args.stmt.now in
    not_at_top c.args.at c.args.self.now a a refl (continue-rests (types_of c.args.at.program.now) c.args.stmt.now c.in-Continue.is) c.requires.can

pub returns-in-Continue-3 : goal.returns-in-Continue-3
returns-in-Continue-3 c =
    let a = stmt_view (types_of c.args.at.program.now) c.args.stmt.now in
    not_at_top c.args.at c.args.self.now a a refl (continue-rests (types_of c.args.at.program.now) c.args.stmt.now c.in-Continue.is) c.requires.can

pub returns-in-Block : goal.returns-in-Block
returns-in-Block c =
    let a = stmt_view (types_of c.args.at.program.now) c.args.stmt.now in
    not_at_top c.args.at c.args.self.now a a refl (block-rests (types_of c.args.at.program.now) c.args.stmt.now c.in-Block.is) c.requires.can

pub returns-in-Block-2 : goal.returns-in-Block-2
returns-in-Block-2 c =
    let a = stmt_view (types_of c.args.at.program.now) c.args.stmt.now in
    not_at_top c.args.at c.args.self.now a a refl (block-rests (types_of c.args.at.program.now) c.args.stmt.now c.in-Block.is) c.requires.can

pub returns-in-Block-3 : goal.returns-in-Block-3
returns-in-Block-3 c =
    let a = stmt_view (types_of c.args.at.program.now) c.args.stmt.now in
    not_at_top c.args.at c.args.self.now a a refl (block-rests (types_of c.args.at.program.now) c.args.stmt.now c.in-Block.is) c.requires.can

pub returns-in-Block-4 : goal.returns-in-Block-4
returns-in-Block-4 c =
    let a = stmt_view (types_of c.args.at.program.now) c.args.stmt.now in
    not_at_top c.args.at c.args.self.now a a refl (block-rests (types_of c.args.at.program.now) c.args.stmt.now c.in-Block.is) c.requires.can
