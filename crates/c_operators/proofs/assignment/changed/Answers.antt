use Rattle.std.proofs.Common.{◌≡◌, Ok, Err, ap, sym, ◌∙◌, subst}
use Rattle.c_types.specs.Rules.{update_form}
use Rattle.c_types.specs.Table.{type_at}
use Rattle.c_typed.specs.Typed as tree
use Rattle.typing_rules.specs.declared.refusal.TypeRefusal.TheVariants.{Mismatch}
use Rattle.typing_rules.specs.Terms as terms
use Rattle.typing_rules.specs.Checking.{◌>>=◌, pure, given}
use Rattle.c_values.specs.Stand.{MeansPlace}
use Rattle.c_values.specs.Answers.{MeansTerm, change_view}
use Rattle.c_values.proofs.Means.{got-type, stands-now}
use Rattle.c_values.proofs.Answering.{allowed-answers, broken-answers, given-answers, placed}
use Rattle.c_operators.proofs.assignment.changed.Goals as goal

pub returns-in-Err : goal.returns-in-Err
returns-in-Err c t w m n =
    let rows = c.args.types.now in
    let may = c.may_change-may_change.ensures t m in
    let to : type_at rows c.args.target.ty ≡ tree.type_of t.old = stands-now rows _ _ m.type in
    let from = got-type rows c.get.result.now c.args.a.typed.value w.value c.get.ensures n.typed.value in
    broken-answers (MeansTerm rows) c.args.change.at (update_form c.args.change.op (terms.may_change t) (tree.type_of t.old) (terms.written_type w)) c.in-Err.rule
    (λ f. given t.lvalue (Mismatch c.args.change.at 7) >>= (λ q. pure (terms.result (terms.changed_value c.args.line (change_view c.args.change) f q w))))
    (sym c.in-Err.is ∙ c.update_form.ensures.exact ∙ (λ i. update_form c.args.change.op (may i) (to i) (from i)))

pub returns-in-Some : goal.returns-in-Some
returns-in-Some c t w m n =
    let rows = c.args.types.now in
    let there = placed rows c.in-Some.place c.args.target.place t c.in-Some.is m.place in
    let may = c.may_change-may_change.ensures t m in
    let to : type_at rows c.args.target.ty ≡ tree.type_of t.old = stands-now rows _ _ m.type in
    let from = got-type rows c.get.result.now c.args.a.typed.value w.value c.get.ensures n.typed.value in
    allowed-answers (MeansTerm rows) c.args.change.at (update_form c.args.change.op (terms.may_change t) (tree.type_of t.old) (terms.written_type w)) c.in-Ok.form
    (λ f. given t.lvalue (Mismatch c.args.change.at 7) >>= (λ q. pure (terms.result (terms.changed_value c.args.line (change_view c.args.change) f q w)))) c.result_of.result
    (sym c.in-Ok.is ∙ c.update_form.ensures.exact ∙ (λ i. update_form c.args.change.op (may i) (to i) (from i)))
    (given-answers (MeansTerm rows) t.lvalue there.place (Mismatch c.args.change.at 7) (λ q. pure (terms.result (terms.changed_value c.args.line (change_view c.args.change) c.in-Ok.form q w))) c.result_of.result
    there.is (c.result_of.ensures rows _ (c.change_by.ensures there.place (subst (λ x. MeansPlace rows x there.place) (sym c.in-Some.place-is) there.means) w n)))
