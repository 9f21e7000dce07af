use Rattle.frames.proofs.act.set_or_trap.Goals as goal

pub returns-in-Ok : goal.returns-in-Ok
returns-in-Ok c program = rw c.in-Ok.is (c.set.ensures program c.args.at)
