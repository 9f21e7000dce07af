use Rattle.std.proofs.Common.{ap, subst, ◌∙◌}
use Rattle.srmt_base.specs.Word.{word_of}
use Rattle.srmt_base.specs.declared.word.Kind.TheVariants.{Check}
use Rattle.machine.specs.Steps.{holds}
use Rattle.machine.specs.Side.{Got}
use Rattle.machine.specs.Tried.{Comes}
use Rattle.machine.specs.Trailing.{checks}
use Rattle.machine.proofs.Trying.{took_word}
use Rattle.machine.proofs.trailing.check_word.Goals as goal

pub returns-in-Word-clause-tries : goal.returns-in-Word-clause-tries
returns-in-Word-clause-tries g c w =
    let own = c.pack-own.ensures ∙ ap (word_of Check c.args.site.0) c.register.ensures in
    took_word (λ meet. checks meet (word_of Check c.args.site.0 (holds c.args.m.now c.args.source)) c.args.m.now) c.args.m.now c.compare-stepped.new.m w c.compare-stepped.result _ _ c.in-Word.word
    (subst (λ o. Comes c.compare-stepped.result c.compare-stepped.new.m (checks (Got c.in-Word.word) o c.args.m.now)) own c.compare-stepped.ensures)
    c.in-Word.ensures.asked
