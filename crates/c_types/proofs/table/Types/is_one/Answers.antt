use Rattle.std.proofs.Common.{subst, ◌∙◌}
use Rattle.c_types.specs.Types.{same_type}
use Rattle.c_types.specs.Table.{WellMade}
use Rattle.c_types.proofs.Denotes.{equal-references}
use Rattle.c_types.proofs.table.Types.is_one.Goals as goal

pub returns : goal.returns
returns c =
    let well = subst WellMade c.self.view_is c.self.invariant in
    let e = equal-references c.args.self.now well c.known.result c.known-2.result c.known.ensures.below c.known-2.ensures.below in
    c.eq.ensures ∙ e ∙ (λ i. same_type (c.known.ensures.same i) (c.known-2.ensures.same i))
