use Rattle.std.proofs.Common.{◌≡◌, ◌++◌, map, drop}
use Rattle.mid_code.specs.declared.program.MidLine.{MidLine}
use Rattle.mid_code.specs.Ways.{begins_object}
use Rattle.mid_code.proofs.class.beginnings.Given as goal

-- the marks so far, and those of what is left, are those of all
abbrev pub invariant-loop-line : goal.invariant-loop-line
invariant-loop-line l = l.marks ++ map (λ (x : MidLine). begins_object x.mid) (drop l.line-index l.code) ≡ map (λ (x : MidLine). begins_object x.mid) l.code
