use Rattle.std.proofs.Common.{◌≡◌, map, take}
use Rattle.answers.specs.Pens.{WroteLines}
use Rattle.answers.proofs.pen.Pen.lines.Given as goal

abbrev pub invariant-loop-line : goal.invariant-loop-line
invariant-loop-line g l = record {
  same_sink : l.self.sink.ghost_name ≡ l.initial.self.sink.ghost_name;
  wrote : WroteLines g.N.Sink.bytes g.N.Sink.faults l.initial.self.sink.now l.initial.self.going l.self.sink.now l.self.going (map (λ line. line.now) (take l.line-index l.lines));
}
