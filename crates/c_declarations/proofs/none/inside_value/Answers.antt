use Rattle.typing_rules.specs.SourceViews.{expr_view}
use Rattle.c_known.specs.Views.{line_in}
use Rattle.std.proofs.lemmas.Result.{err_from_is_err_and}
use Rattle.c_declarations.proofs.Insides.{single-done, single-refused}
use Rattle.c_declarations.proofs.none.inside_value.Goals as goal

pub returns : goal.returns
returns c = single-done c.args.known.now c.value_of.new.known c.in_ok-value_of.field-0 (expr_view (line_in c.args.file) c.args.e.now) c.in_ok-value_of.ensures

pub returns-in_err-value_of : goal.returns-in_err-value_of
returns-in_err-value_of c =
    let e = err_from_is_err_and c.from_residual.result c.from_residual.ensures.1 in
    rw (e.1, e.2) (single-refused c.args.known.now c.value_of.new.known c.in_err-value_of.field-0.0 (expr_view (line_in c.args.file) c.args.e.now) c.in_err-value_of.ensures)
