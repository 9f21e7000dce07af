use Rattle.std.proofs.Common.{map, take}
use Rattle.srmt_base.specs.Word.{word_of}
use Rattle.mid_code.specs.Versions.{operands_list}
use Rattle.machine.specs.Steps.{operands}
use Rattle.machine.specs.Link.{IsSent}
use Rattle.machine.proofs.steps.send_each.Given as goal

abbrev pub invariant-loop-i : goal.invariant-loop-i
invariant-loop-i g l = IsSent (map (word_of l.kind l.site.0) (operands l.m (take l.i (operands_list l.args)))) (g.L.Link.shows l.initial.link) (g.L.Link.shows l.link)
