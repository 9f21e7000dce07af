use Rattle.std.proofs.Common.{◌∙◌, ap, sym, subst}
use Rattle.c_types.proofs.Grown.{Extends-refl}
use Rattle.c_declarators.specs.Derivations.{lines_view, Derives, array_refusal}
use Rattle.c_declarators.proofs.Outward.{arrayed-sized}
use Rattle.c_declarators.proofs.types.arrayed.Goals as goal

pub returns-in-None-clause-made : goal.returns-in-None-clause-made
returns-in-None-clause-made c t h =
    let free = c.in-None.ensures ∙ ap (array_refusal (lines_view c.args.at)) (h.type.always c.args.types.now (Extends-refl c.args.types.now)) in
    subst (Derives c.array_with.new.types c.array_with.result) (sym (arrayed-sized (lines_view c.args.at) c.args.length t free)) (c.array_with.ensures.made t h)
