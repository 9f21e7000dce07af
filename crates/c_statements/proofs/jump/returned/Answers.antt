use Rattle.std.proofs.Common.{sym, subst}
use Rattle.std.specs.Prelude.{option_map}
use Rattle.typing_rules.specs.SourceViews.{expr_view}
use Rattle.typing_rules.specs.OrderedDeclarations.{value_of}
use Rattle.typing_rules.specs.OrderedStatements as ordered
use Rattle.c_values.specs.Stand.{MeansWritten}
use Rattle.c_values.proofs.Means.{later-stands}
use Rattle.c_known.specs.Views.{line_in}
use Rattle.c_known.specs.Gives.{Gives}
use Rattle.c_known.proofs.Binding.{bind}
use Rattle.c_statements.specs.Steps.{returned_value}
use Rattle.c_statements.specs.Parts.{MeansValueIf}
use Rattle.c_statements.proofs.jump.returned.Goals as goal

pub returns-in_ok-operand-in-Some : goal.returns-in_ok-operand-in-Some
returns-in_ok-operand-in-Some c t stands =
    subst (λ o. Gives MeansValueIf c.args.known.now c.returned_value.new.known c.returned_value.result (ordered.returned c.args.line t (option_map (expr_view (line_in c.args.at.file)) o))) (sym c.in-Some.is)
    (bind MeansWritten MeansValueIf c.args.known.now c.value_of.new.known c.returned_value.new.known c.in_ok-operand-in-Some.operand c.returned_value.result
    (value_of (expr_view (line_in c.args.at.file) c.in-Some.e)) (λ a. returned_value c.args.line t a) c.in_ok-operand-in-Some.ensures
    (λ a grown means. c.returned_value.ensures t a (later-stands _ _ c.args.at.returns t grown stands) means))
