use Rattle.std.proofs.Common.{refl, sym, ap, map, ◌∙◌, take_all}
use Rattle.std.proofs.lemmas.List.{map_more}
use Rattle.answers.proofs.Writing.{no_line, lines_then, lines_spelled}
use Rattle.answers.proofs.pen.Pen.lines.Goals as goal

pub loop-line-init : goal.loop-line-init
loop-line-init g c = record { same_sink = refl; wrote = no_line c.args.self.now.sink.now c.args.self.now.going }

pub loop-line-preserved : goal.loop-line-preserved
loop-line-preserved g c = record {
  same_sink = c.line.ensures.same_sink ∙ c.loop-line.invariant.same_sink;
  wrote = lines_spelled (sym (map_more (λ line. line.now) c.args.lines.now c.loop-line.line-index _ c.loop-line-test.true)) (lines_then c.loop-line.invariant.wrote c.line.ensures.wrote);
}

pub returns-clause-wrote : goal.returns-clause-wrote
returns-clause-wrote g c = lines_spelled (ap (map (λ line. line.now)) (take_all _ c.args.lines.now c.loop-line-test.false)) c.loop-line.invariant.wrote
