use Rattle.std.proofs.Common.{sym}
use Rattle.mid_code.proofs.KindLemmas.{other_lengths}
use Rattle.mid_code.proofs.rules.are_of_kinds.Goals as goal

pub returns-then-args-params : goal.returns-then-args-params
returns-then-args-params c = sym (other_lengths c.args.kinds.now c.args.args.now c.args.params.now c.if-args-params.true)
