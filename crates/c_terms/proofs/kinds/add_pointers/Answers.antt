use Rattle.std.proofs.Common.{◌≡◌, ◌∙◌, ◌-◌, ◌<◌, suc, length, false, subst, ap, arith, drop, Ok}
use Rattle.typing_rules.specs.SourceViews.{pointers_from}
use Rattle.typing_rules.specs.Ordered.{parts_of}
use Rattle.c_declarators.specs.Derivations.{AreDerivations, lines_view}
use Rattle.c_terms.specs.Fronts.{AddsParts, More}
use Rattle.std.proofs.Math.ListN.{drop_of_length-le}
use Rattle.c_terms.proofs.ListSteps.{parts-none}
use Rattle.c_terms.proofs.Pointers.{pointers-next}
use Rattle.c_terms.proofs.Paths.{exits}
use Rattle.c_terms.proofs.FrontLaws.{memory-front}
use Rattle.c_terms.proofs.FrontSteps.{front-returned}
use Rattle.c_terms.proofs.kinds.add_pointers.Goals as goal

pub loop-left-preserved : goal.loop-left-preserved
loop-left-preserved c =
    let bound = c.loop-left.invariant.0 in
    let next : c.loop-left.left ≡ suc (c.loop-left.left - 1) = omega arith in
    let below : c.loop-left.left - 1 < length c.args.pointers.now = omega arith in (
      omega arith,
      pointers-next c.args.lines c.args.known.now c.args.parts.now.items c.loop-left.parts.items c.add.new.items.items c.args.pointers.now c.loop-left.left (c.loop-left.left - 1)
          c.pointer_at.result (record { line = 0; is_const = false; is_volatile = false }) next below
          (c.pointer_at.ensures (record { line = 0; is_const = false; is_volatile = false })) c.in_ok-add.ensures.added c.loop-left.invariant.1,
    )

pub returns-in_err-add : goal.returns-in_err-add
returns-in_err-add c =
    front-returned (exits c.from_residual.result _ c.from_residual.ensures.1 ∙ c.in_err-add.ensures.memory)
    (memory-front (More AreDerivations c.args.parts.now.items c.add.new.items.items) c.args.known.now c.args.known.now (parts_of (lines_view c.args.lines)) (pointers_from c.args.pointers.now))

pub returns : goal.returns
returns c =
    let none : c.loop-left.left ≡ 0 = omega arith in
    subst (λ z. AddsParts c.args.known.now c.args.known.now c.args.lines c.args.parts.now.items c.loop-left.parts.items (Ok tt) (pointers_from (drop z c.args.pointers.now))) none c.loop-left.invariant.1

pub loop-left-init : goal.loop-left-init
loop-left-init c = (
  omega arith,
  parts-none c.args.lines c.args.known.now c.args.parts.now.items (pointers_from (drop (length c.args.pointers.now) c.args.pointers.now))
      (λ rest. ap (λ z. pointers_from z rest) (drop_of_length-le c.args.pointers.now (omega arith))),
)
