use Rattle.std.proofs.Common.{refl, sym, subst}
use Rattle.c_types.specs.Types.{result_of}
use Rattle.c_types.specs.Table.{type_at, Stands}
use Rattle.c_typed.specs.Typed as tree
use Rattle.c_typed.specs.declared.constant.Constant.TheVariants.{NoForm}
use Rattle.c_typed.specs.declared.value.ValueNode.TheVariants as vn
use Rattle.c_typed.proofs.ViewLaws.{view_getchar}
use Rattle.typing_rules.specs.Terms as terms
use Rattle.c_values.specs.Stand.{Makes}
use Rattle.c_values.specs.Answers.{predeclared_view}
use Rattle.c_values.proofs.Means.{makes, stands-now, no-constant-getchar}
use Rattle.c_operators.proofs.call.predeclared_call.Goals as goal

pub returns-in-Getchar : goal.returns-in-Getchar
returns-in-Getchar c t vs stands m =
    let rows = c.args.types.now in
    subst (λ f. Makes rows c.make.result (tree.value c.args.line (result_of t) (terms.predeclared_node (predeclared_view f) c.args.at vs))) (sym c.in-Getchar.is)
    (makes rows c.make.result c.args.line c.result-to.result (vn.Getchar c.args.at) NoForm c.make.ensures
    (result_of t) (subst (λ u. Stands rows c.result-to.result (result_of u)) (stands-now rows _ _ stands) c.result-to.ensures) c.args.line refl (tree.getchar c.args.at)
    (λ later more. view_getchar (type_at later) c.args.at) (no-constant-getchar c.args.line c.args.at (result_of t)))
