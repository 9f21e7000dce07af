use Rattle.std.proofs.Common.{◌≡◌, Result, Ok, Err, refl, ap, sym, ◌∙◌, subst, inl}
use Rattle.c_types.specs.Types.{CType}
use Rattle.c_types.specs.Rules.{Ruled, cast_type}
use Rattle.c_types.specs.Table.{type_at, CastIs}
use Rattle.typing_rules.specs.Terms as terms
use Rattle.typing_rules.specs.Checking.{pure}
use Rattle.c_values.specs.Answers.{MeansTerm}
use Rattle.c_values.proofs.Means.{got-type, stands-now}
use Rattle.c_values.proofs.Answering.{allowed-answers, broken-answers}
use Rattle.c_operators.proofs.Casting.{cast-refused, cast-allowed}
use Rattle.c_operators.proofs.cast.cast_to.Goals as goal

pub returns-in-Err : goal.returns-in-Err
returns-in-Err c q stands w m =
    let rows = c.args.types.now in
    let to : type_at rows c.args.ty.target ≡ q.type = stands-now rows _ _ stands.type in
    let from = got-type rows c.get.result.now c.args.a.typed.value w.value c.get.ensures m.typed.value in
    let same : cast_type (type_at rows c.args.ty.target) (type_at rows c.get.result.now.ty) ≡ cast_type q.type (terms.written_type w) = λ i. cast_type (to i) (from i) in
    broken-answers (MeansTerm rows) c.args.line (cast_type q.type (terms.written_type w)) c.in-Err.rule (λ t. pure (terms.result (terms.cast_value c.args.line t w)))
    (cast-refused c.in-Err.rule (cast_type q.type (terms.written_type w)) (subst (CastIs (Err c.in-Err.rule)) same (subst (λ r. CastIs r (cast_type (type_at rows c.args.ty.target) (type_at rows c.get.result.now.ty))) c.in-Err.is c.cast_rule.ensures)))

pub returns-in-Ok : goal.returns-in-Ok
returns-in-Ok c q stands w m =
    let rows = c.args.types.now in
    let to : type_at rows c.args.ty.target ≡ q.type = stands-now rows _ _ stands.type in
    let from = got-type rows c.get.result.now c.args.a.typed.value w.value c.get.ensures m.typed.value in
    let same : cast_type (type_at rows c.args.ty.target) (type_at rows c.get.result.now.ty) ≡ cast_type q.type (terms.written_type w) = λ i. cast_type (to i) (from i) in
    allowed-answers (MeansTerm rows) c.args.line (cast_type q.type (terms.written_type w)) q.type (λ t. pure (terms.result (terms.cast_value c.args.line t w))) c.result_of.result
    (cast-allowed q.type (terms.written_type w) (subst (CastIs (Ok tt)) same (subst (λ r. CastIs r (cast_type (type_at rows c.args.ty.target) (type_at rows c.get.result.now.ty))) c.in-Ok.is c.cast_rule.ensures)))
    (c.result_of.ensures rows _ (c.cast.ensures q.type stands.type w m))
