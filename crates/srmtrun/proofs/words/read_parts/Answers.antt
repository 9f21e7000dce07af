use Rattle.std.proofs.Common.{sym}
use Rattle.srmtrun.specs.Words.{texts}
use Rattle.srmtrun.specs.Reading.{part_of, said_of}
use Rattle.srmtrun.proofs.Spelling.{stops_first, stops_added, goes_on, fewer, not_empty, if_none}
use Rattle.srmtrun.proofs.words.read_parts.Goals as goal

pub returns-in_err-part-clause-none : goal.returns-in_err-part-clause-none
returns-in_err-part-clause-none c = if_none c.from_residual.result (stops_first (texts c.args.words.now) (texts c.loop-left.left.now) (said_of c.loop-left.said) c.loop-left.invariant
    c.in_err-part.ensures.none (not_empty c.loop-left.left.now c.is_empty.result c.is_empty.ensures c.loop-left-test.true))

pub returns-in_err-said-clause-none : goal.returns-in_err-said-clause-none
returns-in_err-said-clause-none c = if_none c.from_residual-in_err-said.result (stops_added (texts c.args.words.now) (texts c.loop-left.left.now) (texts c.in_ok-part.behind.now) (said_of c.loop-left.said)
    (part_of c.in_ok-part.part) c.loop-left.invariant c.in_ok-part.ensures.some (sym c.in_err-said.ensures))

pub loop-left-smaller : goal.loop-left-smaller
loop-left-smaller c = fewer c.loop-left.left.now c.in_ok-part.behind.now (part_of c.in_ok-part.part) c.in_ok-part.ensures.some

pub loop-left-preserved : goal.loop-left-preserved
loop-left-preserved c = goes_on (texts c.args.words.now) (texts c.loop-left.left.now) (texts c.in_ok-part.behind.now) (said_of c.loop-left.said) (said_of c.in_ok-said.said)
    (part_of c.in_ok-part.part) c.loop-left.invariant c.in_ok-part.ensures.some (sym c.in_ok-said.ensures)
