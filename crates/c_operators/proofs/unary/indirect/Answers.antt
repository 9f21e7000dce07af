use Rattle.std.proofs.Common.{◌≡◌, Ok, Err, ap, sym, ◌∙◌, subst}
use Rattle.c_types.specs.Rules.{indirection_type}
use Rattle.c_types.specs.Table.{type_at, IndirectionIs}
use Rattle.typing_rules.specs.Terms as terms
use Rattle.typing_rules.specs.Checking.{pure}
use Rattle.c_values.specs.Answers.{MeansTerm}
use Rattle.c_values.proofs.Means.{got-type}
use Rattle.c_values.proofs.Answering.{allowed-answers, broken-answers}
use Rattle.c_operators.proofs.Indexing.{indirection-refused, indirection-allowed}
use Rattle.c_operators.proofs.unary.indirect.Goals as goal

pub returns-in-Err : goal.returns-in-Err
returns-in-Err c w m =
    let rows = c.args.types.now in
    let from = ap indirection_type (got-type rows c.get.result.now c.args.a.typed.value w.value c.get.ensures m.typed.value) in
    let rule = subst (λ r. IndirectionIs rows r (indirection_type (terms.written_type w))) c.in-Err.is (subst (IndirectionIs rows c.indirection_type.result) from c.indirection_type.ensures) in
    broken-answers (MeansTerm rows) c.args.line (indirection_type (terms.written_type w)) c.in-Err.rule (λ to. pure (terms.pointed_term c.args.line w.value to))
    (indirection-refused rows c.in-Err.rule (indirection_type (terms.written_type w)) rule)

pub returns-in-Ok : goal.returns-in-Ok
returns-in-Ok c w m =
    let rows = c.args.types.now in
    let from = ap indirection_type (got-type rows c.get.result.now c.args.a.typed.value w.value c.get.ensures m.typed.value) in
    let rule = subst (λ r. IndirectionIs rows r (indirection_type (terms.written_type w))) c.in-Ok.is (subst (IndirectionIs rows c.indirection_type.result) from c.indirection_type.ensures) in
    let found = indirection-allowed rows c.in-Ok.to (indirection_type (terms.written_type w)) rule in
    allowed-answers (MeansTerm rows) c.args.line (indirection_type (terms.written_type w)) found.to (λ to. pure (terms.pointed_term c.args.line w.value to)) c.pointed_term.result
    found.is (c.pointed_term.ensures found.to found.stands w.value m.typed)
