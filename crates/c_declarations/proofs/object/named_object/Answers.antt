use Rattle.typing_rules.specs.Known as known
use Rattle.typing_rules.specs.SourceViews.{item_view}
use Rattle.typing_rules.specs.OrderedParts.{declares}
use Rattle.c_known.specs.Views.{line_in}
use Rattle.c_known.specs.Gives.{IsDone}
use Rattle.c_known.proofs.Binding.{bind}
use Rattle.c_known.proofs.Growing.{stands-for-later}
use Rattle.c_declarations.specs.Parts.{IsLocalItem, item_name, added}
use Rattle.c_declarations.proofs.object.named_object.Goals as goal

pub returns-in-Ok : goal.returns-in-Ok
returns-in-Ok c t h =
    let x = item_view (line_in c.args.file) c.args.x.now in
    bind IsDone IsLocalItem c.args.known.now c.name_object.new.known c.added_object.new.known c.in-Ok.field-0 c.added_object.result (declares (item_name x) (known.local c.args.number)) (λ _. added x t c.args.number)
    c.in-Ok.ensures (λ a more done. c.added_object.ensures t (stands-for-later more h))
