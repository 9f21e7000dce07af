use Rattle.std.proofs.Common.{◌∙◌, sym, subst, ◌^◌}
use Rattle.srmt_base.proofs.Ranges.{IsBelow, arith_of-lt}
use Rattle.c_starts.proofs.computing.computed.Goals as goal

pub returns-in-Ok-clause-small : goal.returns-in-Ok-clause-small
returns-in-Ok-clause-small c = subst (IsBelow (2 ^ 32)) (sym c.arith_at.ensures ∙ c.in-Ok.is)
    (arith_of-lt c.args.op c.args.ty c.in-Value-Value.m c.in-Value-Value.n)
