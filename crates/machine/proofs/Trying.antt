-- How the try of a step went, from what the code did.
use Rattle.std.proofs.Common.{◌≡◌, ℕ, ◌<◌, Bool, true, false, List, [], ◌∷◌, ◌++◌, length, take, cond, nat_eq, nat_lt, refl, sym, ap, ◌∙◌, subst}
use Rattle.srmt_base.specs.declared.event.Event.{Event}
use Rattle.word_stream.specs.declared.request.Request.{Request}
use Rattle.word_stream.specs.declared.request.Response.{Response}
use Rattle.word_stream.proofs.Spelled.{no_words}
use Rattle.world.specs.World.{WorldState, Over, Asked}
use Rattle.machine.specs.declared.link_call.Taken.TheVariants.{Word}
use Rattle.machine.specs.declared.link_call.LastCall.{LastCall}
use Rattle.machine.specs.declared.link_call.LastCall.TheVariants.{Room, Take}
use Rattle.verdicts.specs.declared.thread_end.ThreadEnd.TheVariants.{Exit, Trap, Mismatch, Echo, PeerEnded, WriteFault}
use Rattle.machine.specs.declared.stepped.Stepped.{Stepped}
use Rattle.machine.specs.declared.stepped.Stepped.TheVariants.{Made, NotYet, MadeLast}
use Rattle.machine.specs.Side.{SideState, Meet, Plain, Got, Closed, Failed, Outcome, Ended, StepGives}
use Rattle.machine.specs.Steps.{quiet, sends, step_room}
use Rattle.machine.specs.Meets.{MeetsBy}
use Rattle.machine.specs.Link.{Shown, kept, dropped_more, IsAsked}
use Rattle.machine.specs.Leading.{answered, acts, awaits, compared, heard_by}
use Rattle.machine.specs.Faults.{faults_after}
use Rattle.machine.specs.Tried.{question, Asks, Comes, TriesBy}
use Rattle.machine.proofs.Sending.{kept_none, dropped_none}

-- a step that was made: it asked its link this, and sent these words
pub made_so : (taking sending : Bool) (gives : Meet → StepGives) (meet : Meet) (s s' : SideState) (w w' : WorldState) (stepped : Stepped) (events : List Event) (before after : Shown) →
    MeetsBy taking (length (gives Plain).events) meet → Asks before after (question taking sending meet) →
    after.sent ≡ kept after.gone before.sent (gives meet).sent → after.dropped ≡ dropped_more after.gone before.dropped (length (gives meet).sent) →
    (gives meet).world ≡ w' → (gives meet).events ≡ events → Comes stepped s' (gives meet).outcome → TriesBy taking sending gives s w stepped s' w' events before after
made_so taking sending gives meet s s' w w' Made events before after can asks sent dropped world written comes =
    record { meet = meet; can_meet = can; asks = asks; outcome_is = comes; world_is = world; events_are = written; sent = sent; dropped = dropped }
made_so taking sending gives meet s s' w w' NotYet events before after can asks sent dropped world written comes = absurd comes
made_so taking sending gives meet s s' w w' (MadeLast end) events before after can asks sent dropped world written comes =
    record { meet = meet; can_meet = can; asks = asks; outcome_is = comes; world_is = world; events_are = written; sent = sent; dropped = dropped }

-- nothing was sent after the question
module _ (call : LastCall) (before after : Shown) (asked : IsAsked call before after) where
  pub none_kept : after.sent ≡ kept after.gone before.sent []
  none_kept = asked.sent ∙ kept_none after.gone before.sent

  pub none_lost : after.dropped ≡ dropped_more after.gone before.dropped 0
  none_lost = asked.dropped ∙ dropped_none after.gone before.dropped

-- a step that took a word
pub took_word : (gives : Meet → Outcome) (s s' : SideState) (w : WorldState) (stepped : Stepped) (before after : Shown) (word : ℕ) →
    Comes stepped s' (gives (Got word)) → IsAsked (Take (Word word)) before after →
    TriesBy true false (λ meet. quiet w (gives meet)) s w stepped s' w [] before after
took_word gives s s' w stepped before after word comes asked =
    made_so true false (λ meet. quiet w (gives meet)) (Got word) s s' w w stepped [] before after refl (asked.last, asked.asks, asked.taken)
    (none_kept _ before after asked) (none_lost _ before after asked) refl refl comes

-- a step that reached neither the other side nor the world
pub was_quiet : (outcome : Outcome) (s s' : SideState) (w : WorldState) (stepped : Stepped) (link : Shown) →
    Comes stepped s' outcome → TriesBy false false (λ meet. quiet w outcome) s w stepped s' w [] link link
was_quiet outcome s s' w stepped link comes =
    made_so false false (λ meet. quiet w outcome) Plain s s' w w stepped [] link link refl (refl, refl, refl) (kept_none link.gone link.sent) (dropped_none link.gone link.dropped) refl refl comes

-- room was asked for, and was there
abbrev pub HadRoom : Shown → Shown → Type 0
HadRoom before after = IsAsked (Room step_room true) before after

pub had_room : (before after : Shown) (granted : Bool) → granted ≡ true → IsAsked (Room step_room granted) before after → HadRoom before after
had_room before after granted is asked = subst (λ g. IsAsked (Room step_room g) before after) is asked

-- the world has answered
pub acted : (request : Request) (asked : Asked) (response : Response) (s s' : SideState) (w w' : WorldState) (stepped : Stepped) (before after : Shown) →
    HadRoom before after → w' ≡ asked.world → response ≡ asked.response → Comes stepped s' (answered request response s) →
    TriesBy false true (λ meet. acts meet request asked s w) s w stepped s' w' asked.events before after
acted request asked response s s' w w' stepped before after room world same comes =
    made_so false true (λ meet. acts meet request asked s w) Plain s s' w w' stepped asked.events before after refl (room.last, room.asks, room.taken)
    (subst (λ (words : List ℕ). after.sent ≡ kept after.gone before.sent words) (sym (no_words request asked.response)) (none_kept _ before after room))
    (subst (λ (words : List ℕ). after.dropped ≡ dropped_more after.gone before.dropped (length words)) (sym (no_words request asked.response)) (none_lost _ before after room))
    (sym world) refl (subst (λ r. Comes stepped s' (answered request r s)) same comes)

-- the outlet has failed
pub acted_failed : (request : Request) (asked : Asked) (written : ℕ) (s s' : SideState) (w w' : WorldState) (before after : Shown) →
    HadRoom before after → written < length asked.events → w' ≡ Over →
    TriesBy false true (λ meet. acts meet request asked s w) s w (MadeLast WriteFault) s' w' (take written asked.events) before after
acted_failed request asked written s s' w w' before after room within world =
    made_so false true (λ meet. acts meet request asked s w) (Failed written) s s' w w' (MadeLast WriteFault) (take written asked.events) before after (refl, within) (room.last, room.asks, room.taken)
    (none_kept _ before after room) (none_lost _ before after room) (sym world) refl refl

-- no step but an ACT ends by an event that failed
pub sends_no_fault : (s s' : SideState) (w w' : WorldState) (words : List ℕ) (stepped : Stepped) (events : List Event) (before after : Shown) →
    TriesBy false true (λ meet. sends w s words) s w stepped s' w' events before after → stepped ≡ MadeLast WriteFault → ⊥
sends_no_fault s s' w w' words Made events before after tries h = cc
sends_no_fault s s' w w' words NotYet events before after tries h = cc
sends_no_fault s s' w w' words (MadeLast end) events before after tries h = let e = tries.outcome_is in cc

tested_no_fault : (b : Bool) (next : Outcome) (word mine : ℕ) → (next ≡ Ended WriteFault → ⊥) → cond b next (Ended (Echo word mine)) ≡ Ended WriteFault → ⊥
tested_no_fault true next word mine rest h = rest h
tested_no_fault false next word mine rest h = cc

compared_no_fault : (words own : List ℕ) (s : SideState) → compared words own s ≡ Ended WriteFault → ⊥
compared_no_fault [] own s h = cc
compared_no_fault (w ∷ ws) [] s h = cc
compared_no_fault (w ∷ ws) (o ∷ os) s h = tested_no_fault (nat_eq w o) (compared ws os s) w o (compared_no_fault ws os s) h

heard_no_fault : (b : Bool) (words own : List ℕ) (s : SideState) → heard_by b words own s ≡ Ended WriteFault → ⊥
heard_no_fault true words own s h = cc
heard_no_fault false words own s h = compared_no_fault words own s h

pub awaits_fault : (meet : Meet) (own : List ℕ) (s : SideState) → awaits meet own s ≡ Ended WriteFault → ⊥
awaits_fault (Got word) own s h = heard_no_fault (nat_lt (length (s.heard ++ word ∷ [])) (length own)) (s.heard ++ word ∷ []) own s h
awaits_fault Closed own s h = cc
awaits_fault Plain own s h = cc
awaits_fault (Failed written) own s h = cc

pub awaits_no_fault : (own : List ℕ) (s s' : SideState) (w w' : WorldState) (stepped : Stepped) (events : List Event) (before after : Shown) →
    TriesBy true false (λ meet. quiet w (awaits meet own s)) s w stepped s' w' events before after → stepped ≡ MadeLast WriteFault → ⊥
awaits_no_fault own s s' w w' Made events before after tries h = cc
awaits_no_fault own s s' w w' NotYet events before after tries h = cc
awaits_no_fault own s s' w w' (MadeLast end) events before after tries h =
    let same : end ≡ WriteFault = cc in awaits_fault tries.meet own s (tries.outcome_is ∙ ap Ended same)

-- so the count of faults is as it was
no_fault_counts : (stepped : Stepped) (faults : ℕ) → (stepped ≡ MadeLast WriteFault → ⊥) → faults ≡ faults_after stepped faults
no_fault_counts Made faults none = refl
no_fault_counts NotYet faults none = refl
no_fault_counts (MadeLast (Exit status)) faults none = refl
no_fault_counts (MadeLast (Trap trap line)) faults none = refl
no_fault_counts (MadeLast (Mismatch taken own)) faults none = refl
no_fault_counts (MadeLast (Echo taken own)) faults none = refl
no_fault_counts (MadeLast PeerEnded) faults none = refl
no_fault_counts (MadeLast WriteFault) faults none = absurd (none refl)

pub sends_counts : (s s' : SideState) (w w' : WorldState) (words : List ℕ) (stepped : Stepped) (events : List Event) (before after : Shown) (faults : ℕ) →
    TriesBy false true (λ meet. sends w s words) s w stepped s' w' events before after → faults ≡ faults_after stepped faults
sends_counts s s' w w' words stepped events before after faults tries = no_fault_counts stepped faults (sends_no_fault s s' w w' words stepped events before after tries)

pub awaits_counts : (own : List ℕ) (s s' : SideState) (w w' : WorldState) (stepped : Stepped) (events : List Event) (before after : Shown) (faults : ℕ) →
    TriesBy true false (λ meet. quiet w (awaits meet own s)) s w stepped s' w' events before after → faults ≡ faults_after stepped faults
awaits_counts own s s' w w' stepped events before after faults tries = no_fault_counts stepped faults (awaits_no_fault own s s' w w' stepped events before after tries)
