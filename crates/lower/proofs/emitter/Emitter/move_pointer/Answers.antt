use Rattle.std.proofs.Common.{refl, sym, ap, Err, ◌∙◌}
use Rattle.mid_code.specs.declared.mid.Mid.TheVariants as mid
use Rattle.lower.specs.Emitting.{emits}
use Rattle.lower.proofs.Steps.{step, stop, exits, given, memory, same-making}
use Rattle.lower.proofs.emitter.Emitter.move_pointer.Goals as goal

-- src/operators.rt:402:21
pub returns-in_err-scale : goal.returns-in_err-scale
returns-in_err-scale c = memory (exits c.from_residual.result _ c.from_residual.ensures.1 ∙ ap Err c.in_err-scale.ensures.memory)

-- src/operators.rt:403:22
pub returns-in_err-target : goal.returns-in_err-target
returns-in_err-target c = stop _ refl (exits c.from_residual-in_err-target.result _ c.from_residual-in_err-target.ensures.1) (c.in_err-target.ensures _)

-- src/operators.rt:404:9
pub returns-in_err-emit : goal.returns-in_err-emit
returns-in_err-emit c =
    step _ refl (c.in_ok-target.ensures _) (stop _ refl (exits c.from_residual-in_err-emit.result _ c.from_residual-in_err-emit.ensures.1)
    (same-making (λ i. emits c.args.by.at (mid.PtrAdd c.in_ok-target.target c.args.pointer c.args.index (sym c.ty.ensures i) c.args.by.is_less (sym
    c.in_ok-scale.ensures.same i))) (c.in_err-emit.ensures _)))

-- src/operators.rt:389:5
pub returns : goal.returns
returns c =
    step _ refl (c.in_ok-target.ensures _) (step _ refl
    (same-making (λ i. emits c.args.by.at (mid.PtrAdd c.in_ok-target.target c.args.pointer c.args.index (sym c.ty.ensures i) c.args.by.is_less (sym
    c.in_ok-scale.ensures.same i))) (c.in_ok-emit.ensures _)) given)
