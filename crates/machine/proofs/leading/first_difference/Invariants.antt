use Rattle.std.proofs.Common.{◌≡◌, drop}
use Rattle.mid_code.specs.Versions.{operands_list}
use Rattle.word_stream.specs.Exchange.{ack_words}
use Rattle.machine.specs.Steps.{operands}
use Rattle.machine.specs.Leading.{compared}
use Rattle.machine.proofs.leading.first_difference.Given as goal

abbrev pub invariant-loop-i : goal.invariant-loop-i
invariant-loop-i l =
    compared l.words (ack_words l.site.0 (operands l.m (operands_list l.args))) l.m ≡ compared (drop l.i l.words) (drop l.i (ack_words l.site.0 (operands l.m (operands_list l.args)))) l.m
