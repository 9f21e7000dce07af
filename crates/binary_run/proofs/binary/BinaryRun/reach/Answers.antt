use Rattle.std.proofs.Common.{◌≡◌, ℕ, ◌+◌, ◌<◌, ◌^◌, List, Some, drop, refl, sym, ap, ◌∙◌, subst, arith}
use Rattle.std.specs.Prelude.{IfSome}
use Rattle.srmt_base.specs.declared.part.Part.TheVariants.{Binary}
use Rattle.srmt_base.specs.Memory.{Memory}
use Rattle.srmt_base.specs.Objects.{Objects}
use Rattle.srmt_outside.specs.Told.{Appends}
use Rattle.mid_code.specs.Meaning.{Ends, reach}
use Rattle.frames.specs.Kept.{Kept}
use Rattle.frames.specs.Acts.{CanReach}
use Rattle.frames.specs.Reaching.{state_of, events_of, LeadsTo, HasRoom}
use Rattle.frames.specs.declared.running.Running.{Running}
use Rattle.frames.proofs.FewObjects.{few_in}
use Rattle.binary_run.specs.Binary.{BinaryState, Next, Stopped}
use Rattle.binary_run.specs.Fits.{FitsBinary}
use Rattle.binary_run.specs.View.{state_of_run, next_of}
use Rattle.binary_run.proofs.CodeSteps.{state_in, reached_end}
use Rattle.binary_run.proofs.binary.BinaryRun.reach.Goals as goal

pub reach-end-requires : goal.reach-end-requires
reach-end-requires g c =
    let r = c.self.inside.running in
    let b = state_of_run c.self.inside in
    let fits : FitsBinary c.args.program.now b = subst (FitsBinary c.args.program.now) (sym c.self.view_is) c.requires.fits in
    let cells = c.budget-cells.ensures in
    record {
      place = subst (λ (s : BinaryState). s.machine.top.place + 1 < 2 ^ 32) (sym c.self.view_is) c.requires.place;
      can = subst (λ (s : BinaryState). CanReach c.args.access s.machine.top) (sym c.self.view_is) c.requires.can;
      room = subst (λ (m : Memory). HasRoom (record r { memory = m })) (sym c.exchange.ensures.memory) (record {
        opened = omega (arith, fits.opened);
        protected_few = omega (arith, cells.few, cells.budget, cells.bounded);
        binary_few = few_in Binary c.self.inside.objects fits.objects;
        room = ap (λ x. x.objects) c.self.invariant;
      });
    }

-- an end leaves the fields as they were
unchanged : (b old : BinaryState) (run : Running) (memory : Memory) (frames : Kept) (input : List ℕ) (shared objects objects2 shared2 : Objects) (entered : ℕ) (next : Next) →
    state_in frames.machine objects entered next ≡ b → run ≡ record { frames = frames; memory = memory; input = input } →
    memory ≡ record { protected = shared; binary = objects } → objects2 ≡ run.memory.binary → shared2 ≡ run.memory.protected →
    (record (state_in run.frames.machine objects2 entered next) { next = Stopped } ≡ record b { next = Stopped }) × (shared2 ≡ shared)
unchanged b old run memory frames input shared objects objects2 shared2 entered next view still lent binary protected =
    let m = ap (λ (r : Running). r.frames.machine) still in
    let o = binary ∙ ap (λ (r : Running). r.memory.binary) still ∙ ap (λ (x : Memory). x.binary) lent in
    let s = protected ∙ ap (λ (r : Running). r.memory.protected) still ∙ ap (λ (x : Memory). x.protected) lent in
    let state : record (state_in run.frames.machine objects2 entered next) { next = Stopped } ≡ record (state_in frames.machine objects entered next) { next = Stopped } =
    rw (m, o) refl in
    (state ∙ ap (λ (x : BinaryState). record x { next = Stopped }) view, s)

pub returns-in-Some : goal.returns-in-Some
returns-in-Some g c =
    let a = c.args in
    let i = c.self.inside in
    let r = i.running in
    let end = c.in-Some.end in
    let old : Running = record r { memory = c.exchange.new.self } in
    let e = c.in_ok-end.ensures in
    let still : c.reach-end.new.running ≡ old = subst (λ o. IfSome o (λ _. c.reach-end.new.running ≡ old)) c.in-Some.is e.still in
    let reached : reach a.program.now a.access a.line (state_of old) ≡ Ends end (events_of a.access (Some end)) =
    subst (λ o. LeadsTo (reach a.program.now a.access a.line (state_of old)) (state_of c.reach-end.new.running) (events_of a.access o) o) c.in-Some.is e.reached in
    let told = subst (λ o. Appends (g.O.Outlet.events a.outlet.now) (g.O.Outlet.events c.reach-end.new.outlet) (events_of a.access o)) c.in-Some.is e.told in
    let meant = reached_end a.program.now a.access a.line a.self.now r.frames.machine i.objects i.entered (next_of i.due) a.shared.now r.input (drop a.at.now a.input.now)
    c.exchange.new.self end (events_of a.access (Some end)) c.self.view_is c.in_default.not-Gets c.exchange.ensures.memory reached in
    let same = unchanged a.self.now a.self.now c.reach-end.new.running c.exchange.new.self r.frames r.input a.shared.now i.objects c.exchange-2.new.binary c.exchange-2.new.protected
    i.entered (next_of i.due) c.self.view_is still c.exchange.ensures.memory c.exchange-2.ensures.binary c.exchange-2.ensures.protected in
    record {
      meant = (events_of a.access (Some end), rw (c.stop.ensures.stopped, c.stop.ensures.answer, same.0, same.1) meant, told);
      next = rw (c.stop.ensures.answer, c.stop.ensures.stopped) refl;
      within = c.requires.within;
      kept = tt;
      unwritten = tt;
      counted = e.counted;
    }
