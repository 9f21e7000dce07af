use Rattle.std.proofs.Common.{false, Err}
use Rattle.c_types.specs.Table.{StandsFor}
use Rattle.typing_rules.specs.DeclaratorRules as rule
use Rattle.typing_rules.specs.Checking.{from_result}
use Rattle.typing_rules.specs.Ordered.{derivations_of}
use Rattle.typing_rules.specs.SourceViews.{item_view}
use Rattle.c_known.specs.Views.{line_in}
use Rattle.c_known.proofs.Binding.{bind, told, regroup}
use Rattle.c_declarations.specs.Parts.{IsLocalItem, type_declared, as_declared}
use Rattle.c_declarations.proofs.block.item_in_block.Goals as goal

pub returns-in-Ok : goal.returns-in-Ok
returns-in-Ok c t h =
    let x = item_view (line_in c.args.file) c.args.x.now in
    let line = line_in c.args.file c.args.specifiers in
    regroup IsLocalItem c.args.known.now c.declared_as.new.known c.declared_as.result (derivations_of (rule.lines_of x.declarator line) x.declarator)
    (λ ds. from_result (rule.derived (rule.lines_of x.declarator line) false t ds)) (as_declared x)
    (bind StandsFor IsLocalItem c.args.known.now c.declared_type.new.known c.declared_as.new.known c.in-Ok.ty c.declared_as.result (type_declared t line x.declarator) (as_declared x) (c.in-Ok.ensures t h)
    (λ a more stands. c.declared_as.ensures a stands))

pub returns-in-Err : goal.returns-in-Err
returns-in-Err c t h =
    let x = item_view (line_in c.args.file) c.args.x.now in
    let line = line_in c.args.file c.args.specifiers in
    regroup IsLocalItem c.args.known.now c.declared_type.new.known (Err c.in-Err.refusal) (derivations_of (rule.lines_of x.declarator line) x.declarator)
    (λ ds. from_result (rule.derived (rule.lines_of x.declarator line) false t ds)) (as_declared x)
    (told StandsFor IsLocalItem c.args.known.now c.declared_type.new.known c.declared_type.new.known c.in-Err.refusal (type_declared t line x.declarator) (as_declared x) (c.in-Err.ensures t h))
