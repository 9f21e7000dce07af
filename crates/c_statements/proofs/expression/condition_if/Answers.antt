use Rattle.std.proofs.Common.{Ok, Some, sym, subst}
use Rattle.std.specs.Prelude.{option_map}
use Rattle.typing_rules.specs.SourceViews.{expr_view}
use Rattle.typing_rules.specs.OrderedStatements as ordered
use Rattle.c_values.specs.Stand.{MeansValue}
use Rattle.c_known.specs.Views.{line_in}
use Rattle.c_known.specs.Gives.{Gives}
use Rattle.c_statements.specs.Parts.{MeansValueIf}
use Rattle.c_statements.proofs.Giving.{one}
use Rattle.c_statements.proofs.Views.{some-value}
use Rattle.c_statements.proofs.expression.condition_if.Goals as goal

pub returns-in_ok-condition-in-Some : goal.returns-in_ok-condition-in-Some
returns-in_ok-condition-in-Some c =
    let x = c.in_ok-condition-in-Some.field-0 in
    let gives = subst (λ e. Gives MeansValue c.args.known.now c.condition.new.known (Ok x) (ordered.condition c.args.line (expr_view (line_in c.args.file) e))) c.get.ensures c.in_ok-condition-in-Some.ensures in
    subst (λ o. Gives MeansValueIf c.args.known.now c.condition.new.known (Ok (Some x)) (ordered.condition_if c.args.line (option_map (expr_view (line_in c.args.file)) o))) (sym c.in-Some.is)
    (one MeansValue MeansValueIf c.args.known.now c.condition.new.known x (Some x) (ordered.condition c.args.line (expr_view (line_in c.args.file) c.in-Some.e)) (λ v. Some v) gives
    (λ v means. some-value c.condition.new.known.types x v means))
