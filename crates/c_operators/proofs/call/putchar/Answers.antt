use Rattle.std.proofs.Common.{refl, ap, ◌∙◌}
use Rattle.c_types.specs.Table.{type_at}
use Rattle.c_typed.specs.Typed as tree
use Rattle.c_typed.specs.declared.constant.Constant.TheVariants.{NoForm}
use Rattle.c_typed.specs.declared.value.ValueNode.TheVariants as vn
use Rattle.c_typed.proofs.ViewLaws.{view_putchar}
use Rattle.typing_rules.specs.Terms as terms
use Rattle.c_values.proofs.Means.{makes, no-constant-putchar}
use Rattle.c_operators.proofs.call.putchar.Goals as goal

pub returns : goal.returns
returns c rows t vs stands m =
    let first = c.in_ok-argument.ensures rows vs m in
    makes rows c.make.result c.args.line c.args.ty (vn.Putchar c.args.at c.in_ok-argument.argument) NoForm c.make.ensures
    t stands c.args.line refl (tree.putchar c.args.at (terms.first_argument c.args.at vs))
    (λ later more. view_putchar (type_at later) c.args.at c.in_ok-argument.argument ∙ ap (tree.putchar c.args.at) (first.always later more))
    (no-constant-putchar c.args.line c.args.at t _)
