use Rattle.frames.proofs.Gone.{gone}
use Rattle.frames.proofs.act.set.Goals as goal

pub returns : goal.returns
returns c program line = gone program c.args.frames.now c.give.new.self _ c.give.ensures
