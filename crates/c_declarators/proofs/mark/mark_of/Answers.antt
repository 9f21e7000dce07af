use Rattle.std.proofs.Common.{sym, subst, Some, None}
use Rattle.typing_rules.specs.SourceViews.{suffix_view}
use Rattle.c_known.specs.Views.{line_in}
use Rattle.c_declarators.specs.declared.mark.Mark.TheVariants.{Bracket, Parenthesis}
use Rattle.c_declarators.specs.Trees.{IsFirst}
use Rattle.c_declarators.proofs.FirstLines.{array-bracket, array-parenthesis, function-mark}
use Rattle.c_declarators.proofs.mark.mark_of.Goals as goal

pub returns-in-Bracket : goal.returns-in-Bracket
returns-in-Bracket c =
    let at = subst (λ n. IsFirst Bracket (Some n) (suffix_view (line_in c.args.file) c.args.suffix.now)) (sym c.line_in.ensures)
    (array-bracket (line_in c.args.file) c.args.suffix.now c.in-Array.line c.in-Array.field-1 c.in-Array.is) in
    subst (λ m. IsFirst m (Some c.line_in.result) (suffix_view (line_in c.args.file) c.args.suffix.now)) (sym c.in-Bracket.is) at

pub returns-in-Parenthesis : goal.returns-in-Parenthesis
returns-in-Parenthesis c =
    subst (λ m. IsFirst m None (suffix_view (line_in c.args.file) c.args.suffix.now)) (sym c.in-Parenthesis.is)
    (array-parenthesis (line_in c.args.file) c.args.suffix.now c.in-Array.line c.in-Array.field-1 c.in-Array.is)

pub returns-in-Bracket-mark : goal.returns-in-Bracket-mark
returns-in-Bracket-mark c =
    subst (λ m. IsFirst m None (suffix_view (line_in c.args.file) c.args.suffix.now)) (sym c.in-Bracket-mark.is)
    (function-mark (line_in c.args.file) c.args.suffix.now c.in-Function.line c.in-Function.field-1 c.in-Function.is).0

pub returns-in-Parenthesis-mark : goal.returns-in-Parenthesis-mark
returns-in-Parenthesis-mark c =
    let at = subst (λ n. IsFirst Parenthesis (Some n) (suffix_view (line_in c.args.file) c.args.suffix.now)) (sym c.line_in-in-Parenthesis-mark.ensures)
    (function-mark (line_in c.args.file) c.args.suffix.now c.in-Function.line c.in-Function.field-1 c.in-Function.is).1 in
    subst (λ m. IsFirst m (Some c.line_in-in-Parenthesis-mark.result) (suffix_view (line_in c.args.file) c.args.suffix.now)) (sym c.in-Parenthesis-mark.is) at
