use Rattle.std.proofs.Common.{Ok, Err, ap, sym, ◌∙◌, subst}
use Rattle.std.specs.Prelude.{option_map}
use Rattle.std.proofs.lemmas.Result.{err_from_is_err_and}
use Rattle.c_typed.specs.Statements as t
use Rattle.c_typed.specs.declared.statement.ForStart.TheVariants as fs
use Rattle.typing_rules.specs.Known.{opened}
use Rattle.typing_rules.specs.SourceViews.{expr_view, declaration_view, for_start_view}
use Rattle.typing_rules.specs.Checking.{◌>>=◌, pure, makes}
use Rattle.typing_rules.specs.OrderedDeclarations.{declared_in_block}
use Rattle.typing_rules.specs.OrderedStatements as ordered
use Rattle.c_declarations.specs.Parts.{AreLocalItems}
use Rattle.c_known.specs.Views.{line_in}
use Rattle.c_known.specs.Gives.{Gives, IsDone}
use Rattle.c_known.proofs.Binding.{bind}
use Rattle.c_statements.specs.Parts.{MeansValueIf, IsStart}
use Rattle.c_statements.proofs.Giving.{exits, one}
use Rattle.c_statements.proofs.start.for_start.Goals as goal

pub returns-in_err-open-in-Declaration : goal.returns-in_err-open-in-Declaration
returns-in_err-open-in-Declaration c =
    let f = line_in c.args.file in
    let r = c.from_residual-in_err-open-in-Declaration.result in
    let p = err_from_is_err_and r c.from_residual-in_err-open-in-Declaration.ensures.1 in
    subst (λ x. Gives IsStart c.args.known.now c.open.new.self r (ordered.for_start (for_start_view f x))) (sym c.in-Declaration.is)
    (exits IsDone IsStart c.args.known.now c.open.new.self c.open.new.self c.in_err-open-in-Declaration.field-0.0 r (makes opened)
    (λ _. declared_in_block (declaration_view f c.in-Declaration.d) >>= (λ locals. pure (t.declares locals))) (p.1 ∙ ap Err p.2) c.in_err-open-in-Declaration.ensures)

pub returns-in_err-declared_in_block-in-Declaration : goal.returns-in_err-declared_in_block-in-Declaration
returns-in_err-declared_in_block-in-Declaration c =
    let f = line_in c.args.file in
    let new = c.declared_in_block.new.known in
    let r = c.from_residual-in_err-declared_in_block-in-Declaration.result in
    let p = err_from_is_err_and r c.from_residual-in_err-declared_in_block-in-Declaration.ensures.1 in
    let e = c.in_err-declared_in_block-in-Declaration.field-0.0 in
    let gives = subst (λ d. Gives AreLocalItems c.open.new.self new (Err e) (declared_in_block (declaration_view f d))) c.get.ensures c.in_err-declared_in_block-in-Declaration.ensures in
    subst (λ x. Gives IsStart c.args.known.now new r (ordered.for_start (for_start_view f x))) (sym c.in-Declaration.is)
    (bind IsDone IsStart c.args.known.now c.open.new.self new c.in_ok-open-in-Declaration.field-0 r (makes opened)
    (λ _. declared_in_block (declaration_view f c.in-Declaration.d) >>= (λ locals. pure (t.declares locals))) c.in_ok-open-in-Declaration.ensures
    (λ _ _ _. exits AreLocalItems IsStart c.open.new.self new new e r (declared_in_block (declaration_view f c.in-Declaration.d)) (λ locals. pure (t.declares locals)) (p.1 ∙ ap Err p.2) gives))

pub returns-in_ok-value_if-in-Expr : goal.returns-in_ok-value_if-in-Expr
returns-in_ok-value_if-in-Expr c =
    let f = line_in c.args.file in
    let x = c.in_ok-value_if-in-Expr.field-0 in
    subst (λ s. Gives IsStart c.args.known.now c.value_if.new.known (Ok (fs.Value x)) (ordered.for_start (for_start_view f s))) (sym c.in-Expr.is)
    (one MeansValueIf IsStart c.args.known.now c.value_if.new.known x (fs.Value x) (ordered.value_if (option_map (expr_view f) c.in-Expr.e)) (λ v. t.starts v) c.in_ok-value_if-in-Expr.ensures
    (λ v means. record { always = λ later more. ap t.starts (means.always later more) }))

pub returns-in_ok-declared_in_block-in-Declaration : goal.returns-in_ok-declared_in_block-in-Declaration
returns-in_ok-declared_in_block-in-Declaration c =
    let f = line_in c.args.file in
    let new = c.declared_in_block.new.known in
    let x = c.in_ok-declared_in_block-in-Declaration.field-0 in
    let gives = subst (λ d. Gives AreLocalItems c.open.new.self new (Ok x) (declared_in_block (declaration_view f d))) c.get.ensures c.in_ok-declared_in_block-in-Declaration.ensures in
    subst (λ s. Gives IsStart c.args.known.now new (Ok (fs.Locals x)) (ordered.for_start (for_start_view f s))) (sym c.in-Declaration.is)
    (bind IsDone IsStart c.args.known.now c.open.new.self new c.in_ok-open-in-Declaration.field-0 (Ok (fs.Locals x)) (makes opened)
    (λ _. declared_in_block (declaration_view f c.in-Declaration.d) >>= (λ locals. pure (t.declares locals))) c.in_ok-open-in-Declaration.ensures
    (λ _ _ _. one AreLocalItems IsStart c.open.new.self new x (fs.Locals x) (declared_in_block (declaration_view f c.in-Declaration.d)) (λ ls. t.declares ls) gives
    (λ ls means. record { always = λ later more. ap t.declares (means.always later more) })))
