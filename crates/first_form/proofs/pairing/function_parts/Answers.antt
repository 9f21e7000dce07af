use Rattle.std.proofs.Common.{◌+◌, suc, ◌∷◌, drop, drop-cons, add-one, sym, ap, ◌∙◌}
use Rattle.first_form.proofs.Growing.{grows_more}
use Rattle.first_form.proofs.pairing.function_parts.Goals as goal

pub loop-place-preserved : goal.loop-place-preserved
loop-place-preserved c =
    grows_more c.args.mains c.args.first c.args.shared.now c.args.code.now _ _ (drop (c.loop-place.place + 1) c.args.code.now) c.loop-place.place c.loop-place.parts c.add_line.new.parts
    (rw add-one (drop-cons c.args.code.now c.loop-place.place c.index-code-place.result c.loop-place-test.true ∙ ap (λ w. w ∷ drop (suc c.loop-place.place) c.args.code.now) (sym c.index-code-place.is))) c.loop-place.invariant
    c.in_ok-add_line.ensures.classes c.in_ok-add_line.ensures.leading c.in_ok-add_line.ensures.trailing c.in_ok-add_line.ensures.next
