use Rattle.std.proofs.Common.{List, ℕ, subst}
use Rattle.typing_rules.specs.Known as known
use Rattle.typing_rules.specs.SourceViews.{item_view}
use Rattle.typing_rules.specs.Checking.{◌>>◌, makes}
use Rattle.c_known.specs.Views.{line_in}
use Rattle.c_known.specs.Gives.{Gives, IsDone}
use Rattle.c_known.proofs.Binding.{bind}
use Rattle.c_declarations.specs.Parts.{IsLocalItem, without_initial}
use Rattle.c_declarations.proofs.function.with_meaning.Goals as goal

pub returns-in-Ok : goal.returns-in-Ok
returns-in-Ok c m means =
    let x = item_view (line_in c.args.file) c.args.x.now in
    let new = c.without.new.known in
    subst (λ (bytes : List ℕ). Gives IsLocalItem c.args.known.now new c.without.result (makes (known.meaning bytes m) >> without_initial x)) (c.bytes_of_name.ensures c.args.file)
    (bind IsDone IsLocalItem c.args.known.now c.give_meaning.new.known new c.in-Ok.field-0 c.without.result (makes (known.meaning c.bytes_of_name.result.now m)) (λ _. without_initial x) (c.in-Ok.ensures m means)
    (λ a more done. c.without.ensures))
