use Rattle.std.proofs.Common.{[], None, Ok, refl, subst}
use Rattle.typing_rules.specs.SourceViews.{item_view}
use Rattle.typing_rules.specs.Checking.{◌>>◌, pure}
use Rattle.typing_rules.specs.OrderedDeclarations.{no_initial}
use Rattle.c_known.specs.Views.{line_in}
use Rattle.c_known.specs.Gives.{Gives, IsDone}
use Rattle.c_known.proofs.Binding.{bind, pure-gives}
use Rattle.c_declarations.specs.Parts.{IsLocalItem}
use Rattle.c_declarations.proofs.function.without.Goals as goal

pub returns-in-Ok : goal.returns-in-Ok
returns-in-Ok c =
    let x = item_view (line_in c.args.file) c.args.x.now in
    let mid = c.no_initial.new.known in
    subst (λ line. Gives IsLocalItem c.args.known.now mid (Ok None) (no_initial line x.initial >> pure [])) c.line_of_name-at.ensures
    (bind IsDone IsLocalItem c.args.known.now mid mid c.in-Ok.field-0 (Ok None) (no_initial c.line_of_name-at.result x.initial) (λ _. pure []) c.in-Ok.ensures
    (λ a more done. pure-gives IsLocalItem mid None [] (record { always = λ later e. refl })))
