use Rattle.std.proofs.Common.{length, subst}
use Rattle.typing_rules.specs.SourceViews.{definition_view}
use Rattle.typing_rules.specs.UnitRules.{function_opened}
use Rattle.typing_rules.specs.Checking.{makes}
use Rattle.c_known.specs.Views.{line_in}
use Rattle.c_known.specs.Gives.{Gives, IsDone}
use Rattle.c_known.proofs.Binding.{bind}
use Rattle.c_typing.specs.Files.{IsFunction}
use Rattle.c_typing.specs.Functions.{function_bodied}
use Rattle.c_typing.proofs.Spine.{told-on}
use Rattle.c_typing.proofs.Bodies.{type-later}
use Rattle.c_typing.proofs.function.open_body.Goals as goal

pub returns-in_err-open_function : goal.returns-in_err-open_function
returns-in_err-open_function c t ls stands means long =
    told-on IsDone IsFunction c.args.known.now _ _ c.in_err-open_function.field-0.0 (makes (function_opened ls))
    (λ done. function_bodied c.args.head.entity c.args.head.line t (length ls) (definition_view (line_in c.args.file) c.args.d.now))
    c.from_residual.result (c.in_err-open_function.ensures ls means) c.from_residual.ensures.1

pub returns : goal.returns
returns c t ls stands means long =
    let head = c.args.head in
    let d = definition_view (line_in c.args.file) c.args.d.now in
    bind IsDone IsFunction c.args.known.now c.open_function.new.self c.check_body.new.known tt c.check_body.result (makes (function_opened ls))
    (λ done. function_bodied head.entity head.line t (length ls) d) (c.in_ok-open_function.ensures ls means)
    (λ done grown is. subst (λ m. Gives IsFunction c.open_function.new.self c.check_body.new.known c.check_body.result (function_bodied head.entity head.line t m d)) long
    (c.check_body.ensures t (type-later _ _ grown head.ty t stands)))
