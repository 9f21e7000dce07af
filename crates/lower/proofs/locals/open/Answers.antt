use Rattle.std.proofs.Common.{refl, [], ◌∷◌}
use Rattle.mid_code.specs.declared.program.RegisterKind.TheVariants.{Address}
use Rattle.lower.specs.declared.refusal.LowerRefusal.TheVariants.{Memory}
use Rattle.lower.proofs.Steps.{exits}
use Rattle.lower.proofs.BeginSteps.{begin-step, begin-stop, begin-emitted, begin-memory, begin-given, emitted-begins, emitted-opens, opened-here, sized-new}
use Rattle.lower.proofs.locals.open.Goals as goal

pub returns-in_err-target : goal.returns-in_err-target
returns-in_err-target c = λ rows. begin-stop _ refl (exits c.from_residual.result _ c.from_residual.ensures.1) (emitted-begins (c.in_err-target.ensures rows))

pub returns-in_err-push : goal.returns-in_err-push
returns-in_err-push c = λ rows. begin-memory (exits c.from_residual-in_err-push.result Memory c.from_residual-in_err-push.ensures.1)

pub returns-in_err-emit : goal.returns-in_err-emit
returns-in_err-emit c = λ rows.
    begin-emitted _ refl (sized-new Address c.args.line) (c.in_ok-target.ensures rows)
    (begin-emitted _ refl (λ allotted around start. refl) (c.settle.ensures rows)
    (begin-stop _ refl (exits c.from_residual-in_err-emit.result _ c.from_residual-in_err-emit.ensures.1) (emitted-begins (c.in_err-emit.ensures rows))))

pub returns : goal.returns
returns c = λ rows.
    begin-emitted _ refl (sized-new Address c.args.line) (c.in_ok-target.ensures rows)
    (begin-emitted _ refl (λ allotted around start. refl) (c.settle.ensures rows)
    (begin-step {first = λ start. start ∷ []} {rest = λ start. []} _ 1 refl (λ allotted around start. refl) (λ start. refl)
    (emitted-opens (λ start. start ∷ []) (record c.args.body.now { out = c.settle.new.self })
    (record c.args.body.now { out = c.emit.new.self; objects = c.push.new.self })
    (opened-here (record c.args.body.now { out = c.settle.new.self })
    (record c.args.body.now { out = c.emit.new.self; objects = c.push.new.self }) c.here.result c.here.ensures
    c.in_ok-push.ensures.items refl)
    (c.in_ok-emit.ensures rows))
    (begin-given (λ start. refl))))
