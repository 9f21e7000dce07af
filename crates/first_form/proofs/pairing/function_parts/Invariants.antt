use Rattle.std.proofs.Common.{drop}
use Rattle.first_form.proofs.Growing.{Grows}
use Rattle.first_form.proofs.pairing.function_parts.Given as goal

abbrev pub invariant-loop-place : goal.invariant-loop-place
invariant-loop-place l = Grows l.fn.mains l.fn.first l.fn.shared l.code (drop l.place l.code) l.place l.parts
