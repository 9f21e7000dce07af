use Rattle.std.proofs.Common.{Some, None, subst, arith}
use Rattle.typing_rules.specs.SourceViews.{suffix_view}
use Rattle.c_known.specs.Views.{line_in}
use Rattle.c_declarators.specs.Trees.{IsFirst}
use Rattle.c_declarators.proofs.FirstLines.{only-none, first-from, first-found, first-of-none}
use Rattle.c_declarators.proofs.mark.first_among.Goals as goal

pub returns-in-Some : goal.returns-in-Some
returns-in-Some c =
    c.loop-suffix.invariant (Some c.in-Some.line)
    (first-found c.args.mark (line_in c.args.file) c.args.suffixes.now c.loop-suffix.suffix-index c.suffix-item.result c.in-Some.line (omega arith) c.suffix-item.is c.in-Some.ensures)

pub loop-suffix-preserved : goal.loop-suffix-preserved
loop-suffix-preserved c a h =
    c.loop-suffix.invariant a
    (first-from c.args.mark (line_in c.args.file) c.args.suffixes.now c.loop-suffix.suffix-index c.suffix-item.result a None (omega arith) c.suffix-item.is (subst (λ r. IsFirst c.args.mark r (suffix_view (line_in c.args.file) c.suffix-item.result)) (only-none c.mark_of.result c.in_default.not-Some) c.mark_of.ensures) h)

pub returns : goal.returns
returns c = c.loop-suffix.invariant None (first-of-none c.args.mark (line_in c.args.file) c.args.suffixes.now c.loop-suffix.suffix-index (omega arith))
