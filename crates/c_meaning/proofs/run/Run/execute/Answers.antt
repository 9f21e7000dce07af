use Rattle.std.proofs.Common.{◌∙◌, ap}
use Rattle.c_typed.specs.declared.statement.StmtNode.TheVariants as sn
use Rattle.c_meaning.specs.Runs.{types_of}
use Rattle.c_meaning.proofs.TakingRows.{block-begins, if-begins, return-begins}
use Rattle.c_meaning.proofs.TakingJumps.{continued, broken, returned}
use Rattle.c_meaning.proofs.run.Run.execute.Goals as goal

pub returns-in-Continue : goal.returns-in-Continue
returns-in-Continue c =
    continued c.args.at c.args.self.now c.jump.new.self c.args.stmt.now c.jump.result c.jump.ensures.sound c.jump.ensures.falls c.in-Continue.is
    c.jump.ensures.steps

pub returns-in-Break : goal.returns-in-Break
returns-in-Break c =
    broken c.args.at c.args.self.now c.jump-in-Break.new.self c.args.stmt.now c.jump-in-Break.result c.jump-in-Break.ensures.sound
    c.jump-in-Break.ensures.falls c.in-Break.is c.jump-in-Break.ensures.steps

pub returns-in-None : goal.returns-in-None
returns-in-None c =
    returned c.args.at c.args.self.now c.jump-in-None.new.self c.args.stmt.now c.jump-in-None.result c.jump-in-None.ensures.sound
    c.jump-in-None.ensures.falls (c.in-Return.is ∙ ap sn.Return c.in-None.is) c.jump-in-None.ensures.steps

pub begin-requires-clause-goes_on : goal.begin-requires-clause-goes_on
begin-requires-clause-goes_on c =
    return-begins (types_of c.args.at.program.now) c.args.stmt.now c.in-Some.field-0 (c.in-Return.is ∙ ap sn.Return c.in-Some.is)

pub begin-requires-in-Block-clause-goes_on : goal.begin-requires-in-Block-clause-goes_on
begin-requires-in-Block-clause-goes_on c = block-begins (types_of c.args.at.program.now) c.args.stmt.now c.in-Block.is

pub begin-requires-in-If-clause-goes_on : goal.begin-requires-in-If-clause-goes_on
begin-requires-in-If-clause-goes_on c = if-begins (types_of c.args.at.program.now) c.args.stmt.now c.in-If.is
