use Rattle.std.proofs.Common.{Err, ap, ◌∙◌}
use Rattle.std.specs.Prelude.{option_map}
use Rattle.std.proofs.lemmas.Result.{err_from_is_err_and}
use Rattle.c_typed.specs.Statements as t
use Rattle.c_typed.specs.declared.statement.StmtNode.TheVariants as sn
use Rattle.typing_rules.specs.SourceViews.{expr_view}
use Rattle.typing_rules.specs.Checking.{pure}
use Rattle.typing_rules.specs.OrderedStatements as ordered
use Rattle.c_known.specs.Views.{line_in}
use Rattle.c_statements.specs.Parts.{MeansValueIf, IsNode}
use Rattle.c_statements.proofs.Giving.{exits, one}
use Rattle.c_statements.proofs.Views.{is-return}
use Rattle.c_statements.proofs.jump.return_node.Goals as goal

pub returns-in_err-returned : goal.returns-in_err-returned
unfolding ordered.stmt_of
returns-in_err-returned c type stands =
    let p = err_from_is_err_and c.from_residual.result c.from_residual.ensures.1 in
    exits MeansValueIf (IsNode c.args.line) c.args.known.now c.returned.new.known c.returned.new.known c.in_err-returned.field-0.0 c.from_residual.result
    (ordered.returned c.args.line type (option_map (expr_view (line_in c.args.at.file)) c.args.e.now)) (λ v. pure (t.return c.args.line v)) (p.1 ∙ ap Err p.2) (c.in_err-returned.ensures type stands)

pub returns : goal.returns
unfolding ordered.stmt_of
returns c type stands =
    one MeansValueIf (IsNode c.args.line) c.args.known.now c.returned.new.known c.in_ok-returned.field-0 (sn.Return c.in_ok-returned.field-0)
    (ordered.returned c.args.line type (option_map (expr_view (line_in c.args.at.file)) c.args.e.now)) (λ v. t.return c.args.line v) (c.in_ok-returned.ensures type stands)
    (λ v means. is-return c.args.line c.returned.new.known.types c.in_ok-returned.field-0 v means)
