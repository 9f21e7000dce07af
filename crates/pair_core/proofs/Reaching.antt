-- What the loop over both sides needs to know of one event more.
use Rattle.std.proofs.Common.{◌≡◌, ℕ, Bool, true, false, List, [], ◌∷◌, ◌++◌, length, Option, refl, ap, ◌∙◌}
use Rattle.srmt_base.specs.declared.event.Event.{Event}
use Rattle.srmt_base.specs.declared.side.Side.{Side}
use Rattle.mid_code.specs.Classes.{SharedProgram}
use Rattle.world.specs.World.{Setting}
use Rattle.machine.specs.declared.stepped.Stepped.TheVariants.{NotYet}
use Rattle.machine.specs.Side.{SideState, Meet, Plain, Outcome, Went, Ended}
use Rattle.machine.specs.Steps.{side_op, takes_at, may_send_at}
use Rattle.machine.specs.Meets.{next_of}
use Rattle.machine.specs.Upset.{no_upsets}
use Rattle.pair_core.specs.Duo.{DuoState, opening_duo, View, view_of, Finds, Waits, Meets, meet_by, finds_room, is_crowded, finds_by, finds, turn_found, turn_at, turn_of, Entry, Scheduled, run_on, Reached}
use Rattle.pair_core.proofs.Finding.{stepped_made}

pub reached_opening : (setting : Setting) → Reached setting no_upsets (opening_duo setting) []
reached_opening setting = ([], refl)

run_more : (program : SharedProgram) (entries more : List Entry) (sofar : Scheduled) → run_on program no_upsets sofar (entries ++ more) ≡ run_on program no_upsets (run_on program no_upsets sofar entries) more
run_more program [] more sofar = refl
run_more program (entry ∷ entries) more sofar =
    run_more program entries more (record { duo = (turn_of program no_upsets entry.side entry.fails sofar.duo).state; events = sofar.events ++ (turn_of program no_upsets entry.side entry.fails sofar.duo).events })

-- one event more
pub reached_turn : (setting : Setting) (duo : DuoState) (events : List Event) → Reached setting no_upsets duo events → (side : Side) (fails : Option ℕ) →
    Reached setting no_upsets (turn_of setting.program no_upsets side fails duo).state (events ++ (turn_of setting.program no_upsets side fails duo).events)
reached_turn setting duo events reached side fails =
    let entry : Entry = record { side = side; fails = fails } in (
      reached.0 ++ entry ∷ [],
      run_more setting.program reached.0 (entry ∷ []) (record { duo = opening_duo setting; events = [] }) ∙ ap (λ sofar. run_on setting.program no_upsets sofar (entry ∷ [])) reached.1,
    )

-- what waits is left as it is
waits_found : (side : Side) (program : SharedProgram) (s : SideState) (duo : DuoState) (f : Finds) → (turn_found f side program s duo).stepped ≡ NotYet → (f ≡ Waits) × ((turn_found f side program s duo).state ≡ duo) × ((turn_found f side program s duo).events ≡ [])
waits_found side program s duo Waits h = (refl, refl, refl)
waits_found side program s duo (Meets meet left) h = absurd (stepped_made (next_of side program s duo.world meet).outcome h)

waits_at : (side : Side) (program : SharedProgram) (fails : Option ℕ) (duo : DuoState) (o : Outcome) → (turn_at o side program fails duo).stepped ≡ NotYet → ((turn_at o side program fails duo).state ≡ duo) × ((turn_at o side program fails duo).events ≡ [])
waits_at side program fails duo (Went s) h = let w = waits_found side program s duo (finds side program s duo.world fails (view_of side duo)) h in (w.1, w.2)
waits_at side program fails duo (Ended end) h = absurd (cc)

pub turn_waits : (program : SharedProgram) (side : Side) (fails : Option ℕ) (duo : DuoState) → (turn_of program no_upsets side fails duo).stepped ≡ NotYet → ((turn_of program no_upsets side fails duo).state ≡ duo) × ((turn_of program no_upsets side fails duo).events ≡ [])
turn_waits program side fails duo h = waits_at side program fails duo (view_of side duo).at h

-- whether a side waits does not depend on the outlet
room_waits : (crowded : Bool) (a b : Meet) (coming : List ℕ) → finds_room crowded a coming ≡ Waits → finds_room crowded b coming ≡ Waits
room_waits true a b coming h = refl
room_waits false a b coming h = absurd (cc)

by_waits : (taking sending : Bool) (view : View) (a b : Meet) → finds_by taking sending view a ≡ Waits → finds_by taking sending view b ≡ Waits
by_waits true sending view a b h = h
by_waits false sending view a b h = room_waits (is_crowded sending view) a b view.coming h

at_waits : (side : Side) (program : SharedProgram) (a b : Option ℕ) (duo : DuoState) (o : Outcome) → (turn_at o side program a duo).stepped ≡ NotYet → (turn_at o side program b duo).stepped ≡ NotYet
at_waits side program a b duo (Went s) h =
    let found = (waits_found side program s duo (finds side program s duo.world a (view_of side duo)) h).0 in
    let count = length (next_of side program s duo.world Plain).events in
    let too : finds side program s duo.world b (view_of side duo) ≡ Waits = by_waits (takes_at (side_op side program s)) (may_send_at (side_op side program s)) (view_of side duo) (meet_by a count) (meet_by b count) found in
    ap (λ f. (turn_found f side program s duo).stepped) too
at_waits side program a b duo (Ended end) h = absurd (cc)

pub waits_too : (program : SharedProgram) (side : Side) (a b : Option ℕ) (duo : DuoState) → (turn_of program no_upsets side a duo).stepped ≡ NotYet → (turn_of program no_upsets side b duo).stepped ≡ NotYet
waits_too program side a b duo h = at_waits side program a b duo (view_of side duo).at h
