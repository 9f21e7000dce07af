use Rattle.c_known.proofs.known.Known.begin_binary.Goals as goal

pub returns-in-Ok : goal.returns-in-Ok
returns-in-Ok c = c.begin.ensures c.in-Ok.ensures
