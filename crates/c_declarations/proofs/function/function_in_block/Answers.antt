use Rattle.std.proofs.Common.{◌≡◌, Ok, Err, subst}
use Rattle.std.specs.Prelude.{is_none}
use Rattle.typing_rules.specs.declared.refusal.TypeRefusal.TheVariants.{Twice}
use Rattle.typing_rules.specs.Known.{found_in, innermost}
use Rattle.typing_rules.specs.Source.{Named}
use Rattle.typing_rules.specs.SourceViews.{item_view}
use Rattle.typing_rules.specs.Checking.{tests}
use Rattle.c_known.specs.Views.{line_in}
use Rattle.c_known.specs.Gives.{Gives, IsDone}
use Rattle.c_known.proofs.Binding.{bind, told}
use Rattle.c_declarations.specs.Parts.{IsLocalItem, item_name, found_and_meant}
use Rattle.c_declarations.proofs.function.function_in_block.Goals as goal

pub returns-in-Ok : goal.returns-in-Ok
returns-in-Ok c t h =
    let x = item_view (line_in c.args.file) c.args.x.now in
    let s = c.args.known.now in
    let same : record { line = c.line_of_name-line.result; bytes = c.bytes_of_name.result.now } ≡ item_name x =
    (λ i. record { line = c.line_of_name-line.ensures i; bytes = c.bytes_of_name.ensures c.args.file i }) in
    let free = subst (λ (n : Named). Gives IsDone s s (Ok c.in-Ok.field-0) (tests (λ k. is_none (found_in n.bytes (innermost k.scopes))) (Twice n.line))) same c.in-Ok.ensures in
    bind IsDone IsLocalItem s s c.free_function.new.known c.in-Ok.field-0 c.free_function.result (tests (λ k. is_none (found_in (item_name x).bytes (innermost k.scopes))) (Twice (item_name x).line)) (λ _. found_and_meant x t)
    free (λ a more done. c.free_function.ensures t h)

pub returns-in-Err : goal.returns-in-Err
returns-in-Err c t h =
    let x = item_view (line_in c.args.file) c.args.x.now in
    let s = c.args.known.now in
    let same : record { line = c.line_of_name-line.result; bytes = c.bytes_of_name.result.now } ≡ item_name x =
    (λ i. record { line = c.line_of_name-line.ensures i; bytes = c.bytes_of_name.ensures c.args.file i }) in
    let taken = subst (λ (n : Named). Gives IsDone s s (Err c.in-Err.refusal) (tests (λ k. is_none (found_in n.bytes (innermost k.scopes))) (Twice n.line))) same c.in-Err.ensures in
    told IsDone IsLocalItem s s s c.in-Err.refusal (tests (λ k. is_none (found_in (item_name x).bytes (innermost k.scopes))) (Twice (item_name x).line)) (λ _. found_and_meant x t) taken
