use Rattle.std.proofs.Common.{arith}
use Rattle.std.proofs.lemmas.Grind.{common_steps}
use Rattle.first_form.proofs.Puts.{puts_more}
use Rattle.first_form.proofs.reading.puts.Goals as goal

pub loop-preserved : goal.loop-preserved
loop-preserved c = grind (arith, common_steps, puts_more)
