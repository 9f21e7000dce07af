use Rattle.std.proofs.Common.{refl}
use Rattle.typing_rules.specs.SourceViews.{initial_view}
use Rattle.typing_rules.specs.OrderedDeclarations.{cells_given}
use Rattle.c_known.specs.Views.{line_in}
use Rattle.c_known.proofs.Binding.{bind, told}
use Rattle.c_known.proofs.Growing.{stands-for-later}
use Rattle.c_declarations.specs.Parts.{MeansInitialized}
use Rattle.c_declarations.specs.Cells.{Added, given_with}
use Rattle.c_declarations.proofs.Counted.{added-alone}
use Rattle.c_declarations.proofs.initializer.cells_given.Goals as goal

pub returns-in-Ok : goal.returns-in-Ok
returns-in-Ok c t h =
    let x = initial_view (line_in c.args.file) c.args.x.now in
    let mid = c.add_cells.new.known in
    let after = c.add_cells.new.cells.items in
    bind (Added c.new-given.result.items after) MeansInitialized c.args.known.now mid c.given_to.new.known c.in-Ok.field-0 c.given_to.result (cells_given c.args.is_static c.args.at t.type 0 x) (given_with c.args.at t x)
    (c.in-Ok.ensures t.type 0 h.type refl)
    (λ cs more a. c.given_to.ensures t cs (stands-for-later more h) (added-alone c.new-given.result.items after mid.types c.in-Ok.field-0 cs c.new-given.ensures.items a))

pub returns-in-Err : goal.returns-in-Err
returns-in-Err c t h =
    let x = initial_view (line_in c.args.file) c.args.x.now in
    told (Added c.new-given.result.items c.add_cells.new.cells.items) MeansInitialized c.args.known.now c.add_cells.new.known c.add_cells.new.known c.in-Err.refusal (cells_given c.args.is_static c.args.at t.type 0 x) (given_with c.args.at t x)
    (c.in-Err.ensures t.type 0 h.type refl)
