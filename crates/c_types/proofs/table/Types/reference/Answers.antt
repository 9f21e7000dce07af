use Rattle.std.proofs.Common.{subst, sym, ◌∙◌, ap}
use Rattle.c_types.specs.Table.{WellMade, Stands}
use Rattle.c_types.proofs.Grown.{Stands-below}
use Rattle.c_types.proofs.Below.{one-standing}
use Rattle.c_types.proofs.table.Types.reference.Goals as goal

pub returns : goal.returns
returns c =
    let well = subst WellMade c.self.view_is c.self.invariant in
    record {
      same = subst (Stands c.args.self.now c.known.result) c.known.ensures.same (Stands-below c.args.self.now c.known.result c.known.ensures.below);
      one = λ other stands. one-standing c.args.self.now well c.known.result other _ c.known.ensures.below c.known.ensures.same stands;
    }
