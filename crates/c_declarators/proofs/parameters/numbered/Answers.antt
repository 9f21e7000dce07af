use Rattle.std.proofs.Common.{Ok, Err, ap, ◌∙◌, subst}
use Rattle.std.proofs.lemmas.Result.{err_from_is_err_and}
use Rattle.c_tree.specs.declared.expression.Parameter.{out-Parameter}
use Rattle.typing_rules.specs.DeclaratorRules as rule
use Rattle.typing_rules.specs.Known as known
use Rattle.typing_rules.specs.Checking.{makes}
use Rattle.typing_rules.specs.OrderedParts.{named_local}
use Rattle.c_known.specs.Gives.{Gives, IsDone}
use Rattle.c_known.proofs.Binding.{bind, told}
use Rattle.c_declarators.specs.Locals.{local_of}
use Rattle.c_declarators.specs.Trees.{parameter_in}
use Rattle.c_declarators.proofs.Becoming.{declarator-is}
use Rattle.c_known.proofs.Growing.{stands-for-later}
use Rattle.c_declarators.proofs.parameters.numbered.Goals as goal

pub returns : goal.returns
returns c t h =
    let file = c.args.file in
    let p = c.args.p.now in
    let name = c.name_if.ensures file (out-Parameter p).line ∙ ap rule.name_of (declarator-is file p) in
    let first = subst (λ n. Gives IsDone c.args.known.now c.name_local.new.self (Ok c.in_ok-name_local.field-0) (named_local n c.args.number)) name c.in_ok-name_local.ensures in
    bind IsDone IsDone c.args.known.now c.name_local.new.self c.added.new.known c.in_ok-name_local.field-0 c.added.result (named_local (rule.name_of (parameter_in file p).declarator) c.args.number)
    (λ _. makes (known.with_local (local_of file p t))) first
    (λ a more done. c.added.ensures t (stands-for-later more h))

pub returns-in_err-name_local : goal.returns-in_err-name_local
returns-in_err-name_local c t h =
    let file = c.args.file in
    let p = c.args.p.now in
    let e = err_from_is_err_and c.from_residual.result c.from_residual.ensures.1 in
    let name = c.name_if.ensures file (out-Parameter p).line ∙ ap rule.name_of (declarator-is file p) in
    let first = subst (λ n. Gives IsDone c.args.known.now c.name_local.new.self (Err c.in_err-name_local.field-0.0) (named_local n c.args.number)) name c.in_err-name_local.ensures in
    rw (e.1, e.2) (told IsDone IsDone c.args.known.now c.name_local.new.self c.name_local.new.self c.in_err-name_local.field-0.0 (named_local (rule.name_of (parameter_in file p).declarator) c.args.number)
    (λ _. makes (known.with_local (local_of file p t))) first)
