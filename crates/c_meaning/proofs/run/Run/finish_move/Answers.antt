use Rattle.std.proofs.Common.{sym, subst}
use Rattle.c_typed.specs.Views.{place_view}
use Rattle.c_meaning.specs.declared.run.Did.{Did}
use Rattle.c_meaning.specs.Finishing.{pointer_moved}
use Rattle.c_meaning.specs.Runs.{types_of, Steps}
use Rattle.c_meaning.proofs.FinishSteps.{type_of_place, moved_done, moved_fails}
use Rattle.c_meaning.proofs.run.Run.finish_move.Goals as goal

pub returns-in-Ok-clause-steps : goal.returns-in-Ok-clause-steps
returns-in-Ok-clause-steps c =
    let types = types_of c.args.at.program.now in
    moved_done c.args.at c.args.self.now c.stores.new.self c.take-y.new.self c.take-old.new.self c.take-address.new.self c.take-y.result c.take-old.result
    c.take-address.result c.take-y.ensures.value c.take-y.ensures.rest c.take-old.ensures.value c.take-old.ensures.rest c.take-address.ensures.value
    c.take-address.ensures.rest c.stores.result c.args.change (place_view types c.args.place.now) (types c.args.place.now.ty.target) (types c.args.by)
    c.in-Ok.new c.changed-given.result (type_of_place types c.args.place.now) c.in-Ok.ensures.exact c.changed-given.ensures.value c.stores.ensures.steps

pub returns-in-Err-clause-steps : goal.returns-in-Err-clause-steps
returns-in-Err-clause-steps c =
    let old = c.args.self.now in
    let p = c.args.at.program.now in
    let types = types_of p in
    let pl = place_view types c.args.place.now in
    let new = record old { values = c.take-address.new.self } in
    subst (λ (d : Did). Steps p (pointer_moved c.args.at c.args.change pl (types c.args.by) old) old new d) (sym c.trapped.ensures)
    (moved_fails c.args.at old new c.take-y.new.self c.take-old.new.self c.take-address.new.self c.take-y.result c.take-old.result
    c.take-address.result c.take-y.ensures.value c.take-y.ensures.rest c.take-old.ensures.value c.take-old.ensures.rest c.take-address.ensures.value
    c.take-address.ensures.rest c.args.change pl (types c.args.place.now.ty.target) (types c.args.by) c.in-Err.trap
    (type_of_place types c.args.place.now) c.in-Err.ensures.exact)
