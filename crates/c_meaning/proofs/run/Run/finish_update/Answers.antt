use Rattle.std.proofs.Common.{ap, sym, subst, ◌∙◌}
use Rattle.c_types.specs.Types.{ty_of}
use Rattle.c_typed.specs.Views.{place_view}
use Rattle.c_meaning.specs.declared.run.Did.{Did}
use Rattle.c_meaning.specs.Finishing.{updated}
use Rattle.c_meaning.specs.Runs.{types_of, Steps}
use Rattle.c_meaning.proofs.FinishSteps.{type_of_place, updated_done, updated_fails}
use Rattle.c_meaning.proofs.run.Run.finish_update.Goals as goal

pub returns-in-Ok-clause-steps : goal.returns-in-Ok-clause-steps
returns-in-Ok-clause-steps c =
    let types = types_of c.args.at.program.now in
    updated_done c.args.at c.args.self.now c.stores.new.self c.take-by.new.self c.take-old.new.self c.take-address.new.self c.take-by.result c.take-old.result
    c.take-address.result c.take-by.ensures.value c.take-by.ensures.rest c.take-old.ensures.value c.take-old.ensures.rest c.take-address.ensures.value
    c.take-address.ensures.rest c.stores.result c.args.change (place_view types c.args.place.now) c.ty-ty.result c.convert-operand.result c.in-Ok.outcome
    c.convert-new.result c.changed-given.result (c.ty-ty.ensures ∙ ap ty_of (type_of_place types c.args.place.now)) c.convert-operand.ensures.exact
    c.in-Ok.ensures.exact c.convert-new.ensures.exact c.changed-given.ensures.value c.stores.ensures.steps

pub returns-in-Err-clause-steps : goal.returns-in-Err-clause-steps
returns-in-Err-clause-steps c =
    let old = c.args.self.now in
    let p = c.args.at.program.now in
    let pl = place_view (types_of p) c.args.place.now in
    let new = record old { values = c.take-address.new.self } in
    subst (λ (d : Did). Steps p (updated c.args.at c.args.change pl old) old new d) (sym c.trapped.ensures)
    (updated_fails c.args.at old new c.take-by.new.self c.take-old.new.self c.take-address.new.self c.take-by.result c.take-old.result
    c.take-address.result c.take-by.ensures.value c.take-by.ensures.rest c.take-old.ensures.value c.take-old.ensures.rest c.take-address.ensures.value
    c.take-address.ensures.rest c.args.change pl c.ty-ty.result c.convert-operand.result c.in-Err.trap
    (c.ty-ty.ensures ∙ ap ty_of (type_of_place (types_of p) c.args.place.now)) c.convert-operand.ensures.exact c.in-Err.ensures.exact)
