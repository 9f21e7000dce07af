use Rattle.std.proofs.Common.{refl}
use Rattle.c_values.proofs.Means.{place-means}
use Rattle.c_values.proofs.objects.object.Goals as goal

pub returns-in-Ok : goal.returns-in-Ok
returns-in-Ok c rows n q stands means = λ k. (place-means rows c.in-Ok.place c.args.line c.args.ty c.args.node c.in-Ok.ensures q stands n means, refl)
