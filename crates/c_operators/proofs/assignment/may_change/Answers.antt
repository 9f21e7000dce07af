use Rattle.std.proofs.Common.{◌≡◌, Some, ap, sym, ◌∙◌, subst}
use Rattle.c_types.specs.Rules.{is_modifiable}
use Rattle.c_types.specs.Table.{qualified_at}
use Rattle.c_typed.specs.Typed.{place_type}
use Rattle.typing_rules.specs.Terms as terms
use Rattle.c_values.proofs.Means.{got-place, qualified-now}
use Rattle.c_values.proofs.Answering.{placed}
use Rattle.c_operators.proofs.assignment.may_change.Goals as goal

pub returns-in-Some : goal.returns-in-Some
returns-in-Some c t m =
    let rows = c.args.types.now in
    let there = placed rows c.in-Some.place c.args.target.now.place t c.in-Some.is m.place in
    let at : qualified_at rows c.get.result.now.ty ≡ place_type there.place = qualified-now rows _ _ (got-place rows c.get.result.now c.in-Some.place there.place c.get.ensures there.means) in
    subst (λ l. c.is_modifiable.result ≡ terms.may_change (record { old = t.old; lvalue = l })) (sym there.is) (c.is_modifiable.ensures ∙ ap is_modifiable at)
