use Rattle.std.proofs.Common.{refl, sym}
use Rattle.std.proofs.lemmas.Bool.{false≢true}
use Rattle.c_types.specs.Table.{qualified_at}
use Rattle.c_declarators.specs.Derivations.{lines_view}
use Rattle.c_declarators.proofs.Outward.{qualified-stands, array-made, array-large}
use Rattle.c_declarators.proofs.types.array_with.Goals as goal

pub returns-in-Ok-Some-clause-made : goal.returns-in-Ok-Some-clause-made
returns-in-Ok-Some-clause-made c t h =
    let large = rw c.in-Ok-Some.field-0-is at c.in-Ok-Some.ensures.large in
    let made = rw c.in-Ok-Some.field-0-is at c.in-Ok-Some.ensures.made in
    array-made c.array_of.new.self (lines_view c.args.at) c.args.length c.in-Ok-Some.target t (qualified_at c.args.types.now c.args.element)
    (qualified-stands c.args.types.now c.args.element t h) (λ x. false≢true (sym (large.1 x))) made

pub returns-in-Ok-None-clause-made : goal.returns-in-Ok-None-clause-made
returns-in-Ok-None-clause-made c t h =
    let large = rw c.in-Ok-None.field-0-is at c.in-Ok-None.ensures.large in
    array-large c.array_of.new.self (lines_view c.args.at) c.args.length t (qualified_at c.args.types.now c.args.element)
    (qualified-stands c.args.types.now c.args.element t h) (large.0 refl)
