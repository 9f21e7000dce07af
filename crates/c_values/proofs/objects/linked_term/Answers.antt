use Rattle.std.proofs.Common.{◌≡◌, false, ap, sym, ◌∙◌, subst}
use Rattle.c_types.specs.Types.{is_function}
use Rattle.c_types.specs.Table.{type_at}
use Rattle.c_typed.specs.Typed as tree
use Rattle.c_typed.proofs.ViewLaws.{view_static}
use Rattle.typing_rules.specs.Terms as terms
use Rattle.typing_rules.specs.Checking.{pure}
use Rattle.c_values.specs.Answers.{Answers, MeansTerm}
use Rattle.c_values.proofs.Means.{stands-now}
use Rattle.c_values.proofs.Naming.{linked-object}
use Rattle.c_values.proofs.objects.linked_term.Goals as goal

pub returns-else-is_function : goal.returns-else-is_function
returns-else-is_function c q stands =
    let rows = c.args.types.now in
    let is : is_function q.type ≡ false = sym (ap is_function (stands-now rows _ _ stands.type)) ∙ sym c.is_function.ensures ∙ c.if-is_function.false in
    subst (λ t. Answers (MeansTerm rows) c.object.result (pure t)) (linked-object c.args.line c.args.number q c.args.is_main is)
    (c.object.ensures rows (tree.static c.args.number) q stands (record { always = λ later more. view_static (type_at later) c.args.number }))
