use Rattle.std.proofs.Common.{◌≡◌, take}
use Rattle.std.specs.Prelude.{map}
use Rattle.lower.specs.Instructions.{line_view}
use Rattle.lower.specs.Drafts.{known_leads, line_of}
use Rattle.lower.proofs.code.Code.into_lines.Given as goal

abbrev pub invariant-loop-draft : goal.invariant-loop-draft
invariant-loop-draft l = map line_view l.lines.items ≡ map (line_of (known_leads l.fn.self.loops)) (take l.draft-index l.draft-items)
