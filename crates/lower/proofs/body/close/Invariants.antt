use Rattle.std.proofs.Common.{◌≡◌, List, reverse}
use Rattle.lower.specs.Statements.{closes}
use Rattle.lower.specs.SoFar.{Leads, added}
use Rattle.lower.specs.Drafts.{code_of}
use Rattle.lower.proofs.body.close.Given as goal

abbrev pub invariant-loop-place : goal.invariant-loop-place
invariant-loop-place l = record {
  allotted : l.out.allotted ≡ l.fn.out.allotted;
  rest : (leads : List Leads) →
      added (closes l.line (reverse l.place-iterator.iter.rest.now)) (code_of l.out.code leads)
      ≡ added (closes l.line (reverse l.objects)) (code_of l.fn.out.code leads);
}
