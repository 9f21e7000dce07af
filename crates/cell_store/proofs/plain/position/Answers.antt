use Rattle.std.proofs.Common.{ap, sym, ◌∙◌}
use Rattle.std.proofs.lemmas.List.{get_or_default}
use Rattle.cell_store.specs.Plain.{PlainObject}
use Rattle.cell_store.proofs.Listed.{first_found}
use Rattle.cell_store.proofs.plain.position.Goals as goal

pub returns-then-from-number : goal.returns-then-from-number
returns-then-from-number c =
    let number = λ (d : PlainObject).
    ap (λ (object : PlainObject). object.number) (get_or_default c.args.objects.now c.loop-at.at d c.index-objects-at.result c.loop-at-test.true ∙ sym c.index-objects-at.is)
    ∙ sym c.from.ensures ∙ c.if-from-number.true in
    record {
      within = c.loop-at-test.true;
      is = λ d. first_found c.args.objects.now c.args.number c.loop-at.at d c.loop-at-test.true c.loop-at.invariant (number d);
      numbered = number;
    }
