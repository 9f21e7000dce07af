use Rattle.pair_core.proofs.Counts.{counts_as}
use Rattle.pair_core.proofs.duo.Duo.run.Goals as goal

pub returns-clause-turns : goal.returns-clause-turns
returns-clause-turns g c =
    let turn = c.act-stepped.ensures.turn in
    let more = c.more.ensures.more in
    (turn.1, record { fails = turn.0; first = c.act-stepped.new.self; turns = turn.2; count = more.0; more = more.1 }, turn.3)

pub returns-clause-faults : goal.returns-clause-faults
returns-clause-faults g c = counts_as _ _ _ _ _ c.act-stepped.ensures.faults c.more.ensures.failed
