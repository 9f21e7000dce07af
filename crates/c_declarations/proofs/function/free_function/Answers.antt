use Rattle.typing_rules.specs.SourceViews.{item_view}
use Rattle.c_known.specs.Views.{line_in}
use Rattle.c_known.specs.Standing.{MeansMeaning}
use Rattle.c_known.proofs.Binding.{bind, told}
use Rattle.c_declarations.specs.Parts.{IsLocalItem, meaning_found, meant}
use Rattle.c_declarations.proofs.function.free_function.Goals as goal

pub returns-in-Ok : goal.returns-in-Ok
returns-in-Ok c t h =
    let x = item_view (line_in c.args.file) c.args.x.now in
    bind MeansMeaning IsLocalItem c.args.known.now c.item_meaning.new.known c.with_meaning.new.known c.in-Ok.meaning c.with_meaning.result (meaning_found x t) (meant x) (c.in-Ok.ensures t h)
    (λ m more means. c.with_meaning.ensures m means)

pub returns-in-Err : goal.returns-in-Err
returns-in-Err c t h =
    let x = item_view (line_in c.args.file) c.args.x.now in
    told MeansMeaning IsLocalItem c.args.known.now c.item_meaning.new.known c.item_meaning.new.known c.in-Err.refusal (meaning_found x t) (meant x) (c.in-Err.ensures t h)
