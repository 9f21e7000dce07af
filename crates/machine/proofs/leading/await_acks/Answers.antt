use Rattle.mid_code.specs.Versions.{operands_list}
use Rattle.word_stream.specs.Exchange.{ack_words}
use Rattle.machine.specs.Steps.{operands}
use Rattle.machine.specs.Leading.{awaits}
use Rattle.machine.proofs.Trying.{took_word}
use Rattle.machine.proofs.leading.await_acks.Goals as goal

pub returns-in-Word-clause-tries : goal.returns-in-Word-clause-tries
returns-in-Word-clause-tries g c w =
    took_word (λ meet. awaits meet (ack_words c.args.site.0 (operands c.args.m.now (operands_list c.args.args.now))) c.args.m.now) c.args.m.now c.hear-stepped.new.m w c.hear-stepped.result _ _ c.in-Word.word
    c.hear-stepped.ensures c.in-Word.ensures.asked
