use Rattle.std.proofs.Common.{Ok, Some, sym, subst}
use Rattle.std.specs.Prelude.{option_map}
use Rattle.typing_rules.specs.SourceViews.{expr_view}
use Rattle.typing_rules.specs.OrderedDeclarations.{value_of}
use Rattle.typing_rules.specs.OrderedStatements as ordered
use Rattle.c_values.specs.Stand.{MeansWritten}
use Rattle.c_known.specs.Views.{line_in}
use Rattle.c_known.specs.Gives.{Gives}
use Rattle.c_statements.specs.Parts.{MeansValueIf}
use Rattle.c_statements.proofs.Giving.{one}
use Rattle.c_statements.proofs.Views.{some-value}
use Rattle.c_statements.proofs.expression.value_if.Goals as goal

pub returns-in_ok-value_of-in-Some : goal.returns-in_ok-value_of-in-Some
returns-in_ok-value_of-in-Some c =
    let x = c.in_ok-value_of-in-Some.field-0 in
    let gives = subst (λ e. Gives MeansWritten c.args.known.now c.value_of.new.known (Ok x) (value_of (expr_view (line_in c.args.file) e))) c.get.ensures c.in_ok-value_of-in-Some.ensures in
    subst (λ o. Gives MeansValueIf c.args.known.now c.value_of.new.known (Ok (Some x.typed.value)) (ordered.value_if (option_map (expr_view (line_in c.args.file)) o))) (sym c.in-Some.is)
    (one MeansWritten MeansValueIf c.args.known.now c.value_of.new.known x (Some x.typed.value) (value_of (expr_view (line_in c.args.file) c.in-Some.e)) (λ a. Some a.value) gives
    (λ a means. some-value c.value_of.new.known.types x.typed.value a.value means.typed.value))
