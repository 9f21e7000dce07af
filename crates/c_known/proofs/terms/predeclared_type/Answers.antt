use Rattle.std.proofs.Common.{subst, sym, refl}
use Rattle.std.specs.Result.{IfOk}
use Rattle.srmt_base.specs.declared.ty.Ty.TheVariants.{Int}
use Rattle.c_types.specs.Types.{integer, returning}
use Rattle.c_types.specs.Table.{Stands}
use Rattle.c_types.proofs.Grown.{Extends-refl}
use Rattle.typing_rules.specs.Known.{type_of_predeclared}
use Rattle.c_values.specs.Answers.{predeclared_view}
use Rattle.c_known.proofs.terms.predeclared_type.Goals as goal

pub returns-in-Getchar-clause-made : goal.returns-in-Getchar-clause-made
returns-in-Getchar-clause-made c =
    let h = c.unqualified_ref.ensures (integer Int) c.args.types.now (record { always = λ later e. refl }) in
    subst (λ p. IfOk c.returning.result (λ r. Stands c.returning.new.self r (type_of_predeclared (predeclared_view p)))) (sym c.in-Getchar.is)
    (subst (λ t. IfOk c.returning.result (λ r. Stands c.returning.new.self r t)) (λ i. returning (h.qualifiers i) (h.type.always c.args.types.now (Extends-refl _) i))
    c.returning.ensures.made)
