use Rattle.std.proofs.Common.{◌≡◌, ◌∷◌, List, length, ap, sym, ◌∙◌, subst, ◌<◌, true≢false}
use Rattle.std.proofs.lemmas.Result.{err_from_is_err_and}
use Rattle.c_types.specs.Types.{CType, parameters_of}
use Rattle.c_types.specs.Table.{type_at}
use Rattle.c_values.specs.Answers.{AreWritten}
use Rattle.c_values.proofs.Means.{stands-now}
use Rattle.c_operators.proofs.Passing.{split, none-written, done-answers, extra-answers, step-answers, step-told, shorter}
use Rattle.c_operators.proofs.arguments.+passed.Goals as goal

pub passed-requires : goal.passed-requires
passed-requires t c =
    (subst (λ z. length c.remove.new.self < z) c.decreases (subst (λ z. length z < length c.args.arguments) (sym c.remove.ensures.rest) (shorter c.args.arguments c.remove.result c.remove.ensures.item)), tt)

pub returns-then-is_empty : goal.returns-then-is_empty
returns-then-is_empty t c u ws vs stands m n =
    done-answers c.args.types.now c.args.at c.args.found vs (parameters_of u) ws n
    (ap parameters_of (sym (stands-now c.args.types.now _ _ stands)) ∙ c.in-None.ensures)
    (none-written c.args.types.now c.args.arguments ws (c.is_empty.ensures.0 c.if-is_empty.true) m)

pub returns-else-is_empty : goal.returns-else-is_empty
returns-else-is_empty t c u ws vs stands m n =
    extra-answers c.args.types.now c.args.at c.args.arguments vs (parameters_of u) ws m (λ e. absurd (true≢false (sym (c.is_empty.ensures.1 e) ∙ c.if-is_empty.false)))
    (ap parameters_of (sym (stands-now c.args.types.now _ _ stands)) ∙ c.in-None.ensures)

pub returns-in_err-found-in-Some : goal.returns-in_err-found-in-Some
returns-in_err-found-in-Some t c u ws vs stands m n =
    let rows = c.args.types.now in
    let p = err_from_is_err_and c.from_residual.result c.from_residual.ensures.1 in
    let s = split rows c.args.arguments c.remove.result ws c.remove.ensures.item m in
    let first = c.in-Some.ensures in
    rw (p.1, p.2)
    (step-told rows c.args.at vs first.parameter (parameters_of first.rest) (parameters_of u) s.first s.rest ws c.in_err-found-in-Some.field-0.0
    (ap parameters_of (sym (stands-now rows _ _ stands) ∙ first.is)) s.is
    (c.in_err-found-in-Some.ensures first.parameter s.first vs first.parameter_stands s.means n))

pub returns-in_ok-found-in-Some : goal.returns-in_ok-found-in-Some
returns-in_ok-found-in-Some t c u ws vs stands m n =
    let rows = c.args.types.now in
    let s = split rows c.args.arguments c.remove.result ws c.remove.ensures.item m in
    let first = c.in-Some.ensures in
    step-answers rows c.args.at vs first.parameter (parameters_of first.rest) (parameters_of u) s.first s.rest ws c.in_ok-found-in-Some.found c.passed.result
    (ap parameters_of (sym (stands-now rows _ _ stands) ∙ first.is)) s.is
    (c.in_ok-found-in-Some.ensures first.parameter s.first vs first.parameter_stands s.means n)
    (λ more means. c.passed.ensures first.rest s.rest more first.rest_stands (subst (λ z. AreWritten rows z s.rest) (sym c.remove.ensures.rest) s.others) means)
