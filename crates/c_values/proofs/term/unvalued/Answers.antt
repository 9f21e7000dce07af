use Rattle.std.proofs.Common.{Ok, refl, subst}
use Rattle.c_types.specs.Table.{Stands}
use Rattle.typing_rules.specs.OrderedParts as ordered
use Rattle.c_values.specs.Answers.{Answers}
use Rattle.c_values.proofs.Means.{got-place, got-stands}
use Rattle.c_values.proofs.TermParts.{term-object, term-result}
use Rattle.c_values.proofs.term.unvalued.Goals as goal

pub returns-in-Object : goal.returns-in-Object
returns-in-Object c rows t m =
    let found = term-object rows c.args.term.now c.in-Object.place t c.in-Object.is m in
    subst (λ u. Answers (Stands rows) (Ok c.get.result.now.ty.target) (ordered.unvalued u)) found.is
    (λ k. ((got-place rows c.get.result.now c.in-Object.place found.place c.get.ensures found.means).type, refl))

pub returns-in-Result : goal.returns-in-Result
returns-in-Result c rows t m =
    let found = term-result rows c.args.term.now c.in-Result.value t c.in-Result.is m in
    subst (λ u. Answers (Stands rows) (Ok c.get-in-Result.result.now.ty) (ordered.unvalued u)) found.is
    (λ k. (got-stands rows c.get-in-Result.result.now c.in-Result.value.value found.value c.get-in-Result.ensures found.means.value, refl))
