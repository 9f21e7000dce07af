use Rattle.std.proofs.Common.{◌%◌, ap, ◌∙◌, sym, subst, List}
use Rattle.srmt_base.specs.declared.event.Event.{Event}
use Rattle.srmt_base.specs.declared.event.Event.TheVariants.{Byte, Exit as ExitEvent}
use Rattle.srmt_outside.specs.Told.{Appends}
use Rattle.world.specs.World.{Asked}
use Rattle.world.proofs.Asking.{ask-put, ask-exit, before_one}
use Rattle.world.proofs.world.World.ask.Goals as goal

pub returns-in_err-write-in-Put-clause-before : goal.returns-in_err-write-in-Put-clause-before
returns-in_err-write-in-Put-clause-before g c =
    let gives = ask-put c.args.self.now c.args.request.now c.in-Put.site c.in-Put.value c.requires c.in-Put.is in
    before_one _ _ _ _ (Byte (c.in-Put.value % 256)) (ap (λ (a : Asked). a.events) gives) c.in_err-write-in-Put.ensures.keeps

pub returns-in_err-write-in-Exit-clause-before : goal.returns-in_err-write-in-Exit-clause-before
returns-in_err-write-in-Exit-clause-before g c =
    let gives = ask-exit c.args.self.now c.args.request.now c.in-Exit.site c.in-Exit.value c.requires c.in-Exit.is in
    before_one _ _ _ _ (ExitEvent (c.in-Exit.value % 256)) (ap (λ (a : Asked). a.events) gives) c.in_err-write-in-Exit.ensures.keeps

pub returns-in_ok-write-in-Put-clause-world : goal.returns-in_ok-write-in-Put-clause-world
returns-in_ok-write-in-Put-clause-world g c =
    let gives = ask-put c.args.self.now c.args.request.now c.in-Put.site c.in-Put.value c.requires c.in-Put.is in
    c.in_ok-write-in-Put.ensures.same ∙ sym (ap (λ (a : Asked). a.world) gives)

pub returns-in_ok-write-in-Put-clause-events : goal.returns-in_ok-write-in-Put-clause-events
returns-in_ok-write-in-Put-clause-events g c =
    let gives = ask-put c.args.self.now c.args.request.now c.in-Put.site c.in-Put.value c.requires c.in-Put.is in
    let P : List Event → Type 0 = Appends (g.O.Outlet.events c.args.outlet.now) (g.O.Outlet.events c.write.new.outlet) in
    subst P (sym (ap (λ (a : Asked). a.events) gives)) c.in_ok-write-in-Put.ensures.appends

pub returns-in_ok-write-in-Exit-clause-world : goal.returns-in_ok-write-in-Exit-clause-world
returns-in_ok-write-in-Exit-clause-world g c =
    sym (ap (λ (a : Asked). a.world) (ask-exit c.args.self.now c.args.request.now c.in-Exit.site c.in-Exit.value c.requires c.in-Exit.is))

pub returns-in_ok-write-in-Exit-clause-events : goal.returns-in_ok-write-in-Exit-clause-events
returns-in_ok-write-in-Exit-clause-events g c =
    let gives = ask-exit c.args.self.now c.args.request.now c.in-Exit.site c.in-Exit.value c.requires c.in-Exit.is in
    let P : List Event → Type 0 = Appends (g.O.Outlet.events c.args.outlet.now) (g.O.Outlet.events c.write-in-Exit.new.outlet) in
    subst P (sym (ap (λ (a : Asked). a.events) gives)) c.in_ok-write-in-Exit.ensures.appends
