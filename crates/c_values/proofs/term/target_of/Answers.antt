use Rattle.std.proofs.Common.{Ok, None, refl, subst}
use Rattle.typing_rules.specs.OrderedParts as ordered
use Rattle.c_values.specs.Answers.{Answers, MeansTarget}
use Rattle.c_values.proofs.Means.{got-stands}
use Rattle.c_values.proofs.TermParts.{term-result}
use Rattle.c_values.proofs.term.target_of.Goals as goal

pub returns-in-Result-clause-value : goal.returns-in-Result-clause-value
returns-in-Result-clause-value c t m =
    let rows = c.args.types.now in
    let found = term-result rows c.args.term c.in-Result.value t c.in-Result.is m in
    subst (λ u. Answers (MeansTarget rows) (Ok (record { ty = c.get.result.now.ty; place = None })) (ordered.target_of u)) found.is
    (λ k. (record { type = got-stands rows c.get.result.now c.in-Result.value.value found.value c.get.ensures found.means.value; place = tt }, refl))
