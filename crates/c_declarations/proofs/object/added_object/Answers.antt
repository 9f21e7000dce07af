use Rattle.typing_rules.specs.Known as known
use Rattle.typing_rules.specs.SourceViews.{item_view}
use Rattle.typing_rules.specs.Checking.{makes}
use Rattle.c_known.specs.Views.{line_in}
use Rattle.c_known.specs.Gives.{IsDone}
use Rattle.c_known.proofs.Binding.{bind}
use Rattle.c_known.proofs.Growing.{stands-for-later}
use Rattle.c_declarations.specs.Parts.{IsLocalItem, new_object, given}
use Rattle.c_declarations.proofs.object.added_object.Goals as goal

pub returns-in-Ok : goal.returns-in-Ok
returns-in-Ok c t h =
    let x = item_view (line_in c.args.file) c.args.x.now in
    bind IsDone IsLocalItem c.args.known.now c.add_object.new.known c.given_object.new.known c.in-Ok.field-0 c.given_object.result (makes (known.with_local (new_object x t))) (λ _. given x t c.args.number)
    (c.in-Ok.ensures t h) (λ a more done. c.given_object.ensures t (stands-for-later more h))
