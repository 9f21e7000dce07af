use Rattle.std.proofs.Common.{arith, map, refl, sym, ap, ◌∙◌}
use Rattle.typing_rules.specs.DeclarationRules.{is_undefined}
use Rattle.c_known.specs.Views.{use_view}
use Rattle.c_program.proofs.Resolved.{use-past, use-here, uses-end, all-defined, one-nowhere}
use Rattle.c_program.proofs.uses.resolve_each.Goals as goal

pub loop-u-init : goal.loop-u-init
loop-u-init c k h = refl

pub loop-u-preserved : goal.loop-u-preserved
loop-u-preserved c k h =
    c.loop-u.invariant k h
    ∙ use-past k.entities c.args.uses.now c.loop-u.u-index c.loop-u-test.true
    (sym (c.is_undefined.ensures ∙ ap is_undefined (c.definition.ensures c.args.known.now.types k h.entities)) ∙ c.if-is_undefined.false)

pub returns : goal.returns
returns c =
    all-defined c.args.known.now (map use_view c.args.uses.now) (λ k h. c.loop-u.invariant k h ∙ uses-end k.entities c.args.uses.now c.loop-u.u-index (omega arith))

pub returns-then-is_undefined : goal.returns-then-is_undefined
returns-then-is_undefined c =
    one-nowhere c.args.known.now (map use_view c.args.uses.now) _ (λ k h. c.loop-u.invariant k h
    ∙ use-here k.entities c.args.uses.now c.loop-u.u-index c.loop-u-test.true
    (sym (c.is_undefined.ensures ∙ ap is_undefined (c.definition.ensures c.args.known.now.types k h.entities)) ∙ c.if-is_undefined.true))
