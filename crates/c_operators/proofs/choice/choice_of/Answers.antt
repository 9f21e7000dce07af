use Rattle.std.proofs.Common.{◌≡◌, ap, subst}
use Rattle.c_types.specs.Rules.{choice_type}
use Rattle.c_types.specs.Table.{Stands}
use Rattle.typing_rules.specs.Terms as terms
use Rattle.c_values.proofs.Means.{got-type, later-typed, later-written}
use Rattle.c_operators.proofs.choice.choice_of.Goals as goal

pub returns-clause-value : goal.returns-clause-value
returns-clause-value c u v w l m n =
    let old = c.args.types.now in
    let new = c.choice_type.new.types in
    let more = c.choice_type.ensures.kept in
    let first = got-type old c.get.result.now c.args.a.typed.value v.value c.get.ensures m.typed.value in
    let second = got-type old c.get-2.result.now c.args.b.typed.value w.value c.get-2.ensures n.typed.value in
    c.choice_at.ensures (choice_type c.args.form (terms.written_type v) (terms.written_type w))
    (subst (Stands new c.in_ok-ty.ty) (λ i. choice_type c.args.form (first i) (second i)) c.in_ok-ty.ensures.made)
    u v w (later-typed old new c.args.test u more l) (later-written old new c.args.a v more m) (later-written old new c.args.b w more n)
