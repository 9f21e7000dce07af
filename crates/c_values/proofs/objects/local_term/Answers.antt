use Rattle.c_types.specs.Table.{type_at}
use Rattle.c_typed.specs.Typed as tree
use Rattle.c_typed.proofs.ViewLaws.{view_local}
use Rattle.c_values.proofs.objects.local_term.Goals as goal

pub returns : goal.returns
returns c rows q stands = c.object.ensures rows (tree.local c.args.number) q stands (record { always = λ later more. view_local (type_at later) c.args.number })
