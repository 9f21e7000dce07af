use Rattle.std.proofs.Common.{List, Ok, Err, [], ◌∷◌, ◌++◌, sym, subst}
use Rattle.c_typed.specs.Statements as t
use Rattle.typing_rules.specs.SourceViews.{external_view, definition_view, declaration_view}
use Rattle.typing_rules.specs.Checking.{pure}
use Rattle.typing_rules.specs.OrderedUnits.{function_defined}
use Rattle.c_known.specs.Views.{line_in}
use Rattle.c_known.specs.Gives.{Gives, IsDone}
use Rattle.c_typing.specs.Files.{IsFunction, MoreFunctions}
use Rattle.c_typing.specs.Steps.{external_step, declared_at_file}
use Rattle.c_typing.proofs.Spine.{told-on}
use Rattle.c_typing.proofs.Externals.{function-by, declared-by}
use Rattle.c_typing.proofs.file.check_external.Goals as goal

pub returns-in_err-function-in-Function : goal.returns-in_err-function-in-Function
returns-in_err-function-in-Function c fs are =
    let s = c.args.known.now in
    let shift = line_in c.args.file in
    subst (λ z. Gives (MoreFunctions c.args.made.now) s c.define_function.new.known c.from_residual.result (external_step fs (external_view shift z))) (sym c.in-Function.is)
    (told-on IsFunction (MoreFunctions c.args.made.now) s c.define_function.new.known c.define_function.new.known c.in_err-function-in-Function.field-0.0
    (function_defined (definition_view shift c.in-Function.d)) (λ f. pure (fs ++ f ∷ [])) c.from_residual.result
    (subst (λ z. Gives IsFunction s c.define_function.new.known (Err c.in_err-function-in-Function.field-0.0) (function_defined (definition_view shift z))) c.get.ensures c.in_err-function-in-Function.ensures)
    c.from_residual.ensures.1)

pub returns-in_ok-function-in-Function : goal.returns-in_ok-function-in-Function
returns-in_ok-function-in-Function c fs are =
    let s = c.args.known.now in
    let shift = line_in c.args.file in
    subst (λ z. Gives (MoreFunctions c.add_function.new.made) s c.define_function.new.known c.add_function.result (external_step fs (external_view shift z))) (sym c.in-Function.is)
    (function-by s c.define_function.new.known c.args.made.now c.add_function.new.made c.in_ok-function-in-Function.function fs (function_defined (definition_view shift c.in-Function.d)) c.add_function.result
    (subst (λ z. Gives IsFunction s c.define_function.new.known (Ok c.in_ok-function-in-Function.function) (function_defined (definition_view shift z))) c.get.ensures c.in_ok-function-in-Function.ensures)
    c.add_function.ensures.added c.add_function.ensures.memory are)

pub returns-in-Declaration : goal.returns-in-Declaration
returns-in-Declaration c fs are =
    let s = c.args.known.now in
    let shift = line_in c.args.file in
    subst (λ z. Gives (MoreFunctions c.args.made.now) s c.declare_all.new.known c.declare_all.result (external_step fs (external_view shift z))) (sym c.in-Declaration.is)
    (declared-by s c.declare_all.new.known c.args.made.now fs (declared_at_file (declaration_view shift c.in-Declaration.d)) c.declare_all.result
    (subst (λ z. Gives IsDone s c.declare_all.new.known c.declare_all.result (declared_at_file (declaration_view shift z))) c.get-in-Declaration.ensures c.declare_all.ensures) are)
