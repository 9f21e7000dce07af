use Rattle.std.proofs.Common.{◌≡◌, Ok, Err, ap, sym, ◌∙◌, subst}
use Rattle.c_types.specs.Rules.{assignment_form}
use Rattle.c_types.specs.Table.{type_at, operand_at}
use Rattle.c_typed.specs.Typed as tree
use Rattle.typing_rules.specs.declared.refusal.TypeRefusal.TheVariants.{Mismatch}
use Rattle.typing_rules.specs.Terms as terms
use Rattle.typing_rules.specs.Checking.{◌>>=◌, pure, given}
use Rattle.c_values.specs.Stand.{MeansPlace}
use Rattle.c_values.specs.Answers.{MeansTerm}
use Rattle.c_values.proofs.Means.{stands-now}
use Rattle.c_values.proofs.Answering.{allowed-answers, given-answers, placed}
use Rattle.c_operators.proofs.assignment.assigned.Goals as goal

pub returns-in-Some : goal.returns-in-Some
returns-in-Some c t w m n =
    let rows = c.args.types.now in
    let there = placed rows c.in-Some.place c.args.target.place t c.in-Some.is m.place in
    let may = c.may_change-may_change.ensures t m in
    let to : type_at rows c.args.target.ty ≡ tree.type_of t.old = stands-now rows _ _ m.type in
    let from : operand_at rows c.operand_of.result ≡ terms.operand_of w.value = c.operand_of.ensures w.value n.typed in
    allowed-answers (MeansTerm rows) c.args.at (assignment_form (terms.may_change t) (tree.type_of t.old) (terms.operand_of w.value)) c.in-Ok.form
    (λ f. given t.lvalue (Mismatch c.args.at 7) >>= (λ q. pure (terms.result (terms.assigned_value c.args.line f q w)))) c.result_of.result
    (sym c.in-Ok.is ∙ c.assignment_form.ensures ∙ (λ i. assignment_form (may i) (to i) (from i)))
    (given-answers (MeansTerm rows) t.lvalue there.place (Mismatch c.args.at 7) (λ q. pure (terms.result (terms.assigned_value c.args.line c.in-Ok.form q w))) c.result_of.result
    there.is (c.result_of.ensures rows _ (c.assignment.ensures there.place (subst (λ x. MeansPlace rows x there.place) (sym c.in-Some.place-is) there.means) w n)))
