use Rattle.c_program.proofs.Resolved.{each-all}
use Rattle.c_program.proofs.uses.resolve.Goals as goal

pub returns : goal.returns
returns c = each-all c.args.known.now c.resolve_each.result _ c.as_slice.ensures.value c.resolve_each.ensures
