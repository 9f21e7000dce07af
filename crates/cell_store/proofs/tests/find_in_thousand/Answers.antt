use Rattle.std.proofs.Common.{◌-◌, length, arith}
use Rattle.cell_store.proofs.Halving.{at_most_ten}
use Rattle.cell_store.proofs.tests.find_in_thousand.Goals as goal

pub returns : goal.returns
returns g c =
    let ten = at_most_ten (c.find.new.steps - c.args.steps.now) (length c.args.store.now.live) c.requires c.find.ensures.cost in
    omega (arith, ten, c.find.ensures.counted)
