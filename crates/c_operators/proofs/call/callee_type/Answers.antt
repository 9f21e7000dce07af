use Rattle.std.proofs.Common.{Ok, Err, refl, inl, ap, subst}
use Rattle.c_types.specs.Rules.{callee_type}
use Rattle.c_types.specs.Table.{Stands, CalleeIs}
use Rattle.c_typed.specs.Typed as tree
use Rattle.typing_rules.specs.declared.refusal.TypeRefusal.TheVariants.{Mismatch}
use Rattle.typing_rules.specs.Checking.{ruled_by}
use Rattle.c_values.specs.Answers.{Answers}
use Rattle.c_values.proofs.Means.{got-type}
use Rattle.c_operators.proofs.Indexing.{callee-refused, callee-allowed}
use Rattle.c_operators.proofs.call.callee_type.Goals as goal

pub returns-in-Err : goal.returns-in-Err
returns-in-Err c v m =
    let rows = c.args.types.now in
    let from = ap callee_type (got-type rows c.get.result.now c.args.callee.now.value v c.get.ensures m.value) in
    let rule = subst (λ r. CalleeIs rows r (callee_type (tree.type_of v))) c.in-Err.is (subst (CalleeIs rows c.callee_type.result) from c.callee_type.ensures) in
    subst (λ r. Answers (Stands rows) (Err (Mismatch c.args.at c.in-Err.rule)) (ruled_by c.args.at r)) (callee-refused rows c.in-Err.rule (callee_type (tree.type_of v)) rule) (λ k. inl refl)

pub returns-in-Ok : goal.returns-in-Ok
returns-in-Ok c v m =
    let rows = c.args.types.now in
    let from = ap callee_type (got-type rows c.get.result.now c.args.callee.now.value v c.get.ensures m.value) in
    let rule = subst (λ r. CalleeIs rows r (callee_type (tree.type_of v))) c.in-Ok.is (subst (CalleeIs rows c.callee_type.result) from c.callee_type.ensures) in
    let found = callee-allowed rows c.in-Ok.ty (callee_type (tree.type_of v)) rule in
    subst (λ r. Answers (Stands rows) (Ok c.in-Ok.ty) (ruled_by c.args.at r)) found.is (λ k. (found.stands, refl))
