use Rattle.std.proofs.Common.{ℕ, ◌<◌, ◌∙◌, length, ap, sym, arith}
use Rattle.srmt_base.specs.Word.{word_of}
use Rattle.srmt_base.specs.declared.word.Kind.TheVariants.{Ack}
use Rattle.mid_code.specs.Versions.{operands_list}
use Rattle.word_stream.specs.Exchange.{ack_words}
use Rattle.machine.specs.Steps.{holds, operands}
use Rattle.machine.proofs.Comparing.{word_at, own_at, differs, agrees}
use Rattle.machine.proofs.leading.first_difference.Goals as goal

pub returns-then-ne-clause-some : goal.returns-then-ne-clause-some
returns-then-ne-clause-some c =
    let i : ℕ = c.loop-i.i in
    let within : i < length (operands_list c.args.args.now) = omega (arith, c.loop-i-test.true, c.requires.as_many) in
    let word = word_at c.args.words.now i c.index-words-i.result c.loop-i-test.true c.index-words-i.is in
    let own = own_at (word_of Ack c.args.site.0) (holds c.args.m.now) (operands_list c.args.args.now) i c.pack-own.result within (c.pack-own.ensures ∙ ap (word_of Ack c.args.site.0) c.operand.ensures) in
    c.loop-i.invariant ∙ differs c.args.words.now (ack_words c.args.site.0 (operands c.args.m.now (operands_list c.args.args.now))) c.args.m.now i c.index-words-i.result c.pack-own.result word own (sym c.ne.ensures ∙ c.if-ne.true)

pub loop-i-preserved : goal.loop-i-preserved
loop-i-preserved c =
    let i : ℕ = c.loop-i.i in
    let within : i < length (operands_list c.args.args.now) = omega (arith, c.loop-i-test.true, c.requires.as_many) in
    let word = word_at c.args.words.now i c.index-words-i.result c.loop-i-test.true c.index-words-i.is in
    let own = own_at (word_of Ack c.args.site.0) (holds c.args.m.now) (operands_list c.args.args.now) i c.pack-own.result within (c.pack-own.ensures ∙ ap (word_of Ack c.args.site.0) c.operand.ensures) in
    c.loop-i.invariant ∙ agrees c.args.words.now (ack_words c.args.site.0 (operands c.args.m.now (operands_list c.args.args.now))) c.args.m.now i c.index-words-i.result c.pack-own.result word own (sym c.ne.ensures ∙ c.if-ne.false)
