use Rattle.std.proofs.Common.{subst, ◌∙◌}
use Rattle.std.specs.Result.{IfOk}
use Rattle.srmt_base.specs.declared.ty.Ty.TheVariants.{Int}
use Rattle.c_types.specs.Types.{integer, returning, taking}
use Rattle.c_types.specs.Table.{Stands}
use Rattle.c_types.proofs.Grown.{Extends-refl}
use Rattle.c_known.proofs.terms.taking_int.Goals as goal

pub returns-clause-made : goal.returns-clause-made
returns-clause-made c = λ type stands.
    let h = c.unqualified_ref.ensures type c.args.types.now stands in
    subst (λ t. IfOk c.taking.result (λ r. Stands c.taking.new.self r (taking (integer Int) t)))
    (c.in_ok-rest.ensures.made.always c.returning.new.self (Extends-refl _) ∙ (λ i. returning (h.qualifiers i) (h.type.always c.args.types.now (Extends-refl _) i)))
    c.taking.ensures.made
