-- What a step finds is what it can meet.
use Rattle.std.proofs.Common.{◌≡◌, ℕ, ◌+◌, ◌<◌, Bool, true, false, ◌&&◌, not, List, [], ◌∷◌, ◌++◌, length, Option, Some, None, nat_lt, refl, sym, ap, ltb-true}
use Rattle.srmt_base.specs.declared.side.Side.{Side}
use Rattle.srmt_base.specs.declared.side.Side.TheVariants.{Trail}
use Rattle.mid_code.specs.Classes.{SharedProgram}
use Rattle.mid_code.specs.declared.version.VersionOp.{VersionOp}
use Rattle.mid_code.specs.declared.version.VersionOp.TheVariants.{Copied}
use Rattle.mid_code.specs.declared.version.VersionLine.{VersionLine}
use Rattle.world.specs.World.{WorldState}
use Rattle.machine.specs.declared.stepped.Stepped.TheVariants.{NotYet}
use Rattle.machine.specs.Side.{SideState, Meet, Plain, Closed, Outcome, Went, Ended, StepGives}
use Rattle.machine.specs.Steps.{side_op, takes_at, may_send_at, step_room}
use Rattle.machine.specs.Trailing.{trail_op, trail_at, trail_next}
use Rattle.machine.specs.Meets.{MeetsBy, next_of}
use Rattle.pair_core.specs.History.{word_met}
use Rattle.pair_core.specs.Duo.{View, Finds, Waits, Meets, finds_word, failed_by, meet_by, finds_room, is_crowded, finds_by, finds, stepped_of}

-- a step that was made is none that waits
pub stepped_made : (o : Outcome) → stepped_of o ≡ NotYet → ⊥
stepped_made (Went s) h = cc
stepped_made (Ended end) h = cc

-- a step takes what comes first, finds its link closed only where all was taken, and meets else
-- what its instruction can meet
abbrev pub IsFound : Bool → ℕ → View → Finds → Type 0
IsFound taking count view Waits = Unit {0}
IsFound taking count view (Meets meet left) = MeetsBy taking count meet × (view.coming ≡ word_met meet ++ left) × (meet ≡ Closed → (view.peer_over ≡ true) × (view.coming ≡ []))

found_word : (count : ℕ) (view : View) (over : Bool) (coming : List ℕ) → view.peer_over ≡ over → view.coming ≡ coming → IsFound true count view (finds_word over coming)
found_word count view over (word ∷ words) o c = (refl, c, λ h. absurd (cc))
found_word count view true [] o c = (refl, c, λ h. (o, c))
found_word count view false [] o c = tt

found_failed : (count written : ℕ) (b : Bool) → nat_lt written count ≡ b → MeetsBy false count (failed_by b written) × (failed_by b written ≡ Closed → ⊥) × (word_met (failed_by b written) ≡ [])
found_failed count written true h = ((refl, ltb-true written count h), (λ e. cc), refl)
found_failed count written false h = (refl, (λ e. cc), refl)

found_meet : (count : ℕ) (fails : Option ℕ) → MeetsBy false count (meet_by fails count) × (meet_by fails count ≡ Closed → ⊥) × (word_met (meet_by fails count) ≡ [])
found_meet count None = (refl, (λ e. cc), refl)
found_meet count (Some written) = found_failed count written (nat_lt written count) refl

found_room : (count : ℕ) (view : View) (fails : Option ℕ) (crowded : Bool) → IsFound false count view (finds_room crowded (meet_by fails count) view.coming)
found_room count view fails true = tt
found_room count view fails false =
    let m = found_meet count fails in
    (m.0, ap (λ t. t ++ view.coming) (sym m.2), λ h. absurd (m.1 h))

found_by : (taking sending : Bool) (count : ℕ) (view : View) (fails : Option ℕ) → IsFound taking count view (finds_by taking sending view (meet_by fails count))
found_by true sending count view fails = found_word count view view.peer_over view.coming refl refl
found_by false sending count view fails = found_room count view fails (is_crowded sending view)

pub found : (side : Side) (program : SharedProgram) (s : SideState) (w : WorldState) (fails : Option ℕ) (view : View) →
    IsFound (takes_at (side_op side program s)) (length (next_of side program s w Plain).events) view (finds side program s w fails view)
found side program s w fails view = found_by (takes_at (side_op side program s)) (may_send_at (side_op side program s)) (length (next_of side program s w Plain).events) view fails

-- why a step waits: the other side has not ended, and no word is there, or too little room
pub data Why (taking sending : Bool) (view : View) : Type 0 where
  Hungry : taking ≡ true → view.peer_over ≡ false → view.coming ≡ [] → Why taking sending view
  Crowded : taking ≡ false → sending ≡ true → view.peer_over ≡ false → view.room < length view.going + step_room → Why taking sending view

why_word : (sending : Bool) (view : View) (over : Bool) (coming : List ℕ) → view.peer_over ≡ over → view.coming ≡ coming → finds_word over coming ≡ Waits → Why true sending view
why_word sending view over (word ∷ words) o c h = absurd (cc)
why_word sending view true [] o c h = absurd (cc)
why_word sending view false [] o c h = Hungry refl o c

all_true : (a b c : Bool) → (a && not b && c) ≡ true → (a ≡ true) × (b ≡ false) × (c ≡ true)
all_true true true c h = absurd (cc)
all_true true false true h = (refl, refl, refl)
all_true true false false h = absurd (cc)
all_true false true c h = absurd (cc)
all_true false false true h = absurd (cc)
all_true false false false h = absurd (cc)

why_room : (sending : Bool) (view : View) (meet : Meet) (crowded : Bool) → is_crowded sending view ≡ crowded → finds_room crowded meet view.coming ≡ Waits → Why false sending view
why_room sending view meet true e h =
    let all = all_true sending view.peer_over (nat_lt view.room (length view.going + step_room)) e in
    Crowded refl all.0 all.1 (ltb-true view.room (length view.going + step_room) all.2)
why_room sending view meet false e h = absurd (cc)

why_by : (taking sending : Bool) (view : View) (meet : Meet) → finds_by taking sending view meet ≡ Waits → Why taking sending view
why_by true sending view meet h = why_word sending view view.peer_over view.coming refl refl h
why_by false sending view meet h = why_room sending view meet (is_crowded sending view) refl h

pub why : (side : Side) (program : SharedProgram) (s : SideState) (w : WorldState) (fails : Option ℕ) (view : View) → finds side program s w fails view ≡ Waits → Why (takes_at (side_op side program s)) (may_send_at (side_op side program s)) view
why side program s w fails view h = why_by (takes_at (side_op side program s)) (may_send_at (side_op side program s)) view (meet_by fails (length (next_of side program s w Plain).events)) h

-- a trailing step is the same whatever the world
pub record Alike (a b : StepGives) : Type 0 where
  pub outcome : a.outcome ≡ b.outcome
  pub sent : a.sent ≡ b.sent
  pub events : a.events ≡ b.events

alike_op : (program : SharedProgram) (op : VersionOp) (line : ℕ) (s : SideState) (v w : WorldState) (meet : Meet) → Alike (trail_op program op line s v meet) (trail_op program op line s w meet)
alike_op program (Copied mid) line s v w meet = record { outcome = refl; sent = refl; events = refl }
alike_op program _ line s v w meet = record { outcome = refl; sent = refl; events = refl }

alike_at : (program : SharedProgram) (o : Option VersionLine) (s : SideState) (v w : WorldState) (meet : Meet) → Alike (trail_at program o s v meet) (trail_at program o s w meet)
alike_at program None s v w meet = record { outcome = refl; sent = refl; events = refl }
alike_at program (Some l) s v w meet = alike_op program l.op l.line s v w meet

pub alike : (program : SharedProgram) (s : SideState) (v w : WorldState) (meet : Meet) → Alike (trail_next program s v meet) (trail_next program s w meet)
unfolding trail_next
alike program s v w meet = alike_at program (side_op Trail program s) s v w meet

-- a trailing step writes nothing
quiet_op : (program : SharedProgram) (op : VersionOp) (line : ℕ) (s : SideState) (w : WorldState) (meet : Meet) → (trail_op program op line s w meet).events ≡ []
quiet_op program (Copied mid) line s w meet = refl
quiet_op program _ line s w meet = refl

quiet_at : (program : SharedProgram) (o : Option VersionLine) (s : SideState) (w : WorldState) (meet : Meet) → (trail_at program o s w meet).events ≡ []
quiet_at program None s w meet = refl
quiet_at program (Some l) s w meet = quiet_op program l.op l.line s w meet

pub writes_nothing : (program : SharedProgram) (s : SideState) (w : WorldState) (meet : Meet) → (trail_next program s w meet).events ≡ []
unfolding trail_next
writes_nothing program s w meet = quiet_at program (side_op Trail program s) s w meet
