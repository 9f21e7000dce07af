use Rattle.std.proofs.Common.{subst, ap, ◌∙◌}
use Rattle.typing_rules.specs.OrderedParts as ordered
use Rattle.c_values.specs.declared.typed.Term.TheVariants.{Designator}
use Rattle.c_values.specs.Answers.{MeansTerm}
use Rattle.c_terms.proofs.Paths.{exits, step, stop, all-later}
use Rattle.c_terms.proofs.Calls.{object-call, entity-call, predeclared-call}
use Rattle.c_terms.proofs.steps.call_of.Goals as goal

pub returns-in_err-callee-in-Object : goal.returns-in_err-callee-in-Object
returns-in_err-callee-in-Object c t mt ws mws =
    let mo = subst (λ z. MeansTerm c.args.known.now.types z t) c.in-Object.is mt in
    stop (λ v. ordered.call_through c.args.line c.args.at v ws) (object-call c.args.known.now.types c.in-Object.place t c.args.line c.args.at ws mo) (exits c.from_residual.result _ c.from_residual.ensures.1) (c.in_err-callee-in-Object.ensures t mo)

pub returns-in_ok-callee-in-Object : goal.returns-in_ok-callee-in-Object
returns-in_ok-callee-in-Object c t mt ws mws =
    let mo = subst (λ z. MeansTerm c.args.known.now.types z t) c.in-Object.is mt in
    step {f = λ v. ordered.call_through c.args.line c.args.at v ws} (object-call c.args.known.now.types c.in-Object.place t c.args.line c.args.at ws mo) (c.in_ok-callee-in-Object.ensures t mo)
    (λ v more mv. c.call_through.ensures v mv ws (all-later c.args.arguments.items ws more mws))

pub returns-in-Designator-default-Entity-default : goal.returns-in-Designator-default-Entity-default
returns-in-Designator-default-Entity-default c t mt ws mws =
    entity-call c.args.known.now c.args.line c.args.at c.in-Designator-default-Entity-default.field-0 c.in-Designator-default-Entity-default.n c.in-Designator-default-Entity-default.field-1-1 c.in-Designator-default-Entity-default.ty c.call_of_entity.result t ws
    (subst (λ z. MeansTerm c.args.known.now.types z t) (c.in-Designator-default-Entity-default.is ∙ ap (λ z. Designator c.in-Designator-default-Entity-default.field-0 z c.in-Designator-default-Entity-default.ty) c.in-Designator-default-Entity-default.field-1-is) mt)
    (λ l m u mu. c.call_of_entity.ensures l m u ws mu mws)

pub returns-in-Designator-default-Predeclared-default : goal.returns-in-Designator-default-Predeclared-default
returns-in-Designator-default-Predeclared-default c t mt ws mws =
    predeclared-call c.args.known.now c.args.line c.args.at c.in-Designator-default-Predeclared-default.field-0 c.in-Designator-default-Predeclared-default.of c.in-Designator-default-Predeclared-default.ty c.call_of_predeclared.result t ws
    (subst (λ z. MeansTerm c.args.known.now.types z t) (c.in-Designator-default-Predeclared-default.is ∙ ap (λ z. Designator c.in-Designator-default-Predeclared-default.field-0 z c.in-Designator-default-Predeclared-default.ty) c.in-Designator-default-Predeclared-default.field-1-is) mt)
    (λ l u mu. c.call_of_predeclared.ensures l u ws mu mws)
