use Rattle.std.proofs.Common.{refl}
use Rattle.c_known.proofs.Changes.{grown-known}
use Rattle.c_known.proofs.known.Known.predeclared.Goals as goal

pub returns-in-Ok : goal.returns-in-Ok
returns-in-Ok c = record {
  at = λ k h. record {
    grown = c.predeclared_type.ensures.kept;
    means = (refl, refl, c.in-Ok.ensures.made);
    knows = grown-known c.args.self.now _ k c.predeclared_type.ensures.kept h;
  };
}
