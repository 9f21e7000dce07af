use Rattle.std.proofs.Common.{arith}
use Rattle.word_stream.specs.Exchange.{operands_of}
use Rattle.word_stream.proofs.Beginning.{all_one}
use Rattle.word_stream.proofs.tests.writes_and_reads_exchanges.Goals as goal

pub sent-first-requires : goal.sent-first-requires
unfolding operands_of
sent-first-requires g c = all_one 65 (omega arith)

pub sent-first-requires-2 : goal.sent-first-requires-2
unfolding operands_of
sent-first-requires-2 g c = all_one 300 (omega arith)
