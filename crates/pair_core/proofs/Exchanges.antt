-- The steps of both sides within the group of an instruction that asks the world.
use Rattle.std.proofs.Common.{◌≡◌, ℕ, suc, ◌+◌, ◌≤◌, true, false, List, [], ◌∷◌, ◌++◌, length, take, sym, ap, ap₂, ◌∙◌, arith}
use Rattle.srmt_base.specs.declared.side.Side.TheVariants.{Lead, Trail}
use Rattle.srmt_base.specs.declared.trap.SourceEnd.{SourceEnd}
use Rattle.mid_code.specs.Classes.{SharedProgram}
use Rattle.mid_code.specs.Versions.{leading, trailing}
use Rattle.world.specs.Standing.{Standing}
use Rattle.word_stream.specs.declared.request.Request.{Request}
use Rattle.word_stream.specs.declared.request.Response.{Response}
use Rattle.word_stream.specs.Exchange.{is_guarded, response_words, checks_of, acks_of}
use Rattle.world.specs.World.{WorldState, Over as WorldOver, ask}
use Rattle.world.specs.Requests.{Requests, wants, Back, Over, resume}
use Rattle.verdicts.specs.declared.thread_end.ThreadEnd.TheVariants.{PeerEnded, WriteFault}
use Rattle.machine.specs.Side.{Plain, Got, Closed, Failed, Went, Ended}
use Rattle.machine.specs.Steps.{side_op, takes_at, may_send_at, passed_on}
use Rattle.machine.specs.Leading.{lead_next}
use Rattle.machine.specs.Trailing.{trail_next}
use Rattle.pair_core.specs.Laws.{end_as}
use Rattle.pair_core.proofs.Groups.{Stands, Next, next_line, group_place, lead_side, trail_side, ExchangeGroup, group_asks, passed_within}
use Rattle.pair_core.proofs.Steps.{gave, IsPresent, single, own_check, ask_op, await_op, act_op, check_op, ack_op, end_op, lead_asks_by, lead_hears_by, lead_acts_by, lead_fails_by, lead_behind, trail_behind, trail_checks_one, trail_closed_by, trail_acks_by, trail_ends_by}

module _ (program : SharedProgram) (m : Standing) (stands : Stands program m) (q : Request) (h : wants program m ≡ Requests q) where
  n : Next program m
  n = next_line program m stands

  g : ExchangeGroup program m q n
  g = group_asks program m stands n q h

  pub asks_guarded : is_guarded q ≡ true
  asks_guarded = g.guarded

  pub checks_some : (x : ℕ) × (rest : List ℕ) × (checks_of q ≡ x ∷ rest)
  checks_some = (_, [], g.checks)

  pub acks_some : (x : ℕ) × (rest : List ℕ) × (acks_of q ≡ x ∷ rest)
  acks_some = (_, [], g.acks)

  pub same_count : length (acks_of q) ≡ length (checks_of q)
  same_count = ap length g.acks ∙ sym (ap length g.checks)

  one_check : length (checks_of q) ≡ 1
  one_check = ap length g.checks

  -- the leading side
  pub lead_asks : (w : WorldState) → lead_next program (lead_side program m 0 []) w Plain ≡ gave (Went (lead_side program m 1 [])) (checks_of q) w []
  lead_asks w = lead_asks_by program m stands n q g w

  pub lead_asks_takes : takes_at (side_op Lead program (lead_side program m 0 [])) ≡ false
  lead_asks_takes = ap takes_at (ask_op program m stands n q g)

  pub lead_hears_last : (w : WorldState) (heard : List ℕ) (x : ℕ) → acks_of q ≡ heard ++ x ∷ [] → lead_next program (lead_side program m 1 heard) w (Got x) ≡ gave (Went (lead_side program m 2 [])) [] w []
  lead_hears_last w heard x e = lead_hears_by program m stands n q g w heard x e

  pub lead_hears_more : (w : WorldState) (heard : List ℕ) (x y : ℕ) (rest : List ℕ) → acks_of q ≡ heard ++ x ∷ y ∷ rest → lead_next program (lead_side program m 1 heard) w (Got x) ≡ gave (Went (lead_side program m 1 (heard ++ x ∷ []))) [] w []
  lead_hears_more w heard x y rest e = let none = (single _ x heard (y ∷ rest) (sym g.acks ∙ e)).2 in absurd (cc)

  pub lead_hears_takes : (heard : List ℕ) → takes_at (side_op Lead program (lead_side program m 1 heard)) ≡ true
  lead_hears_takes heard = ap takes_at (await_op program m stands n q g heard)

  pub lead_acts_back : (w : WorldState) (next : Standing) → resume program m (ask w q).response ≡ Back next →
      lead_next program (lead_side program m 2 []) w Plain ≡ gave (Went (lead_side program next 0 [])) (response_words q (ask w q).response) (ask w q).world (ask w q).events
  lead_acts_back w next back =
      let b = g.back (ask w q).response next back in
      lead_acts_by program m stands n q g w
      ∙ ap (λ o. gave o (response_words q (ask w q).response) (ask w q).world (ask w q).events) (b.2 (lead_side program m 2 []) ∙ ap Went (lead_behind program m stands n q g) ∙ ap (λ x. Went (lead_side program x 0 [])) (sym b.0))

  pub lead_acts_over : (w : WorldState) (end : SourceEnd) → resume program m (ask w q).response ≡ Over end →
      lead_next program (lead_side program m 2 []) w Plain ≡ gave (Ended (end_as end)) (response_words q (ask w q).response) (ask w q).world (ask w q).events
  lead_acts_over w end over =
      let o = g.over (ask w q).response end over in
      lead_acts_by program m stands n q g w
      ∙ ap (λ x. gave x (response_words q (ask w q).response) (ask w q).world (ask w q).events) (o.2 (lead_side program m 2 []))

  pub lead_acts_takes : takes_at (side_op Lead program (lead_side program m 2 [])) ≡ false
  lead_acts_takes = ap takes_at (act_op program m stands n q g)

  pub lead_fails : (w : WorldState) (written : ℕ) → lead_next program (lead_side program m 2 []) w (Failed written) ≡ gave (Ended WriteFault) [] WorldOver (take written (ask w q).events)
  lead_fails w written = lead_fails_by program m stands n q g w written

  -- the trailing side
  pub trail_checks : (w : WorldState) (done : List ℕ) (x : ℕ) (rest : List ℕ) → checks_of q ≡ done ++ x ∷ rest → trail_next program (trail_side program m (length done)) w (Got x) ≡ gave (Went (trail_side program m (suc (length done)))) [] w []
  trail_checks w done x rest e =
      let one = single (own_check program m stands n q g) x done rest (sym g.checks ∙ e) in
      ap₂ (λ ds y. trail_next program (trail_side program m (length ds)) w (Got y)) one.0 one.1
      ∙ trail_checks_one program m stands n q g w
      ∙ ap (λ ds. gave (Went (trail_side program m (suc (length ds)))) [] w []) (sym one.0)

  pub trail_checks_takes : (done : List ℕ) (x : ℕ) (rest : List ℕ) → checks_of q ≡ done ++ x ∷ rest → takes_at (side_op Trail program (trail_side program m (length done))) ≡ true
  trail_checks_takes done x rest e =
      let one = single (own_check program m stands n q g) x done rest (sym g.checks ∙ e) in
      ap (λ ds. takes_at (side_op Trail program (trail_side program m (length ds)))) one.0
      ∙ ap takes_at (check_op program m stands n q g)

  pub trail_closed : (w : WorldState) (done : List ℕ) (x : ℕ) (rest : List ℕ) → checks_of q ≡ done ++ x ∷ rest → trail_next program (trail_side program m (length done)) w Closed ≡ gave (Ended PeerEnded) [] w []
  trail_closed w done x rest e =
      let one = single (own_check program m stands n q g) x done rest (sym g.checks ∙ e) in
      ap (λ ds. trail_next program (trail_side program m (length ds)) w Closed) one.0
      ∙ trail_closed_by program m stands n q g w

  acks_at : (w : WorldState) → trail_next program (trail_side program m (length (checks_of q))) w Plain ≡ gave (Went (passed_on (trail_side program m 1))) (acks_of q) w []
  acks_at w = ap (λ k. trail_next program (trail_side program m k) w Plain) one_check ∙ trail_acks_by program m stands n q g w

  pub trail_acks_back : (w : WorldState) (r : Response) (next : Standing) → resume program m r ≡ Back next → trail_next program (trail_side program m (length (checks_of q))) w Plain ≡ gave (Went (trail_side program next 0)) (acks_of q) w []
  trail_acks_back w r next back =
      let b = g.back r next back in
      acks_at w ∙ ap (λ s. gave (Went s) (acks_of q) w []) (trail_behind program m stands n q g b.1 ∙ ap (λ x. trail_side program x 0) (sym b.0))

  pub trail_acks_over : (w : WorldState) (r : Response) (end : SourceEnd) → resume program m r ≡ Over end → trail_next program (trail_side program m (length (checks_of q))) w Plain ≡ gave (Went (trail_side program m (suc (length (checks_of q))))) (acks_of q) w []
  trail_acks_over w r end over =
      acks_at w ∙ ap (λ x. gave (Went (record { at = x; heard = [] })) (acks_of q) w []) (passed_within trailing program m 1)
      ∙ ap (λ k. gave (Went (trail_side program m (suc k))) (acks_of q) w []) (sym one_check)

  pub trail_acks_takes : takes_at (side_op Trail program (trail_side program m (length (checks_of q)))) ≡ false
  trail_acks_takes = ap (λ k. takes_at (side_op Trail program (trail_side program m k))) one_check ∙ ap takes_at (ack_op program m stands n q g)

  pub trail_ends : (w : WorldState) (r : Response) (end : SourceEnd) → resume program m r ≡ Over end → trail_next program (trail_side program m (suc (length (checks_of q)))) w Plain ≡ gave (Ended (end_as end)) [] w []
  trail_ends w r end over =
      ap (λ k. trail_next program (trail_side program m (suc k)) w Plain) one_check ∙ trail_ends_by program m stands n q g w r end over

  pub trail_ends_takes : (r : Response) (end : SourceEnd) → resume program m r ≡ Over end → takes_at (side_op Trail program (trail_side program m (suc (length (checks_of q))))) ≡ false
  trail_ends_takes r end over =
      ap (λ k. takes_at (side_op Trail program (trail_side program m (suc k)))) one_check ∙ ap takes_at (end_op program m stands n q g (g.over r end over).0)

  pub trail_ends_sends : (r : Response) (end : SourceEnd) → resume program m r ≡ Over end → may_send_at (side_op Trail program (trail_side program m (suc (length (checks_of q))))) ≡ false
  trail_ends_sends r end over =
      ap (λ k. may_send_at (side_op Trail program (trail_side program m (suc k)))) one_check ∙ ap may_send_at (end_op program m stands n q g (g.over r end over).0)

  -- the sides stand at an instruction, and where they go on
  pub acks_few : length (acks_of q) ≤ 17
  acks_few = omega (arith, ap length g.acks)

  pub checks_few : length (checks_of q) ≤ 17
  checks_few = omega (arith, ap length g.checks)

  pub lead_ask_here : IsPresent Lead program (lead_side program m 0 [])
  lead_ask_here = (_, ask_op program m stands n q g)

  pub lead_await_here : (heard : List ℕ) → IsPresent Lead program (lead_side program m 1 heard)
  lead_await_here heard = (_, await_op program m stands n q g heard)

  pub lead_act_here : IsPresent Lead program (lead_side program m 2 [])
  lead_act_here = (_, act_op program m stands n q g)

  pub trail_check_here : (done : List ℕ) (x : ℕ) (rest : List ℕ) → checks_of q ≡ done ++ x ∷ rest → IsPresent Trail program (trail_side program m (length done))
  trail_check_here done x rest e =
      let one = single (own_check program m stands n q g) x done rest (sym g.checks ∙ e) in
      (_, ap (λ ds. side_op Trail program (trail_side program m (length ds))) one.0 ∙ check_op program m stands n q g)

  pub trail_ack_here : IsPresent Trail program (trail_side program m (length (checks_of q)))
  trail_ack_here = (_, ap (λ k. side_op Trail program (trail_side program m k)) one_check ∙ ack_op program m stands n q g)

  pub trail_end_here : (r : Response) (end : SourceEnd) → resume program m r ≡ Over end → IsPresent Trail program (trail_side program m (suc (length (checks_of q))))
  trail_end_here r end over = (_, ap (λ k. side_op Trail program (trail_side program m (suc k))) one_check ∙ end_op program m stands n q g (g.over r end over).0)

  pub back_function : (r : Response) (next : Standing) → resume program m r ≡ Back next → next.machine.top.function ≡ m.machine.top.function
  back_function r next back = ap (λ x. x.machine.top.function) (g.back r next back).0

  pub lead_back_place : (r : Response) (next : Standing) → resume program m r ≡ Back next → group_place leading program m + 2 + 1 ≡ group_place leading program next + 0
  lead_back_place r next back =
      ap (λ s. s.at.machine.top.place) (lead_behind program m stands n q g) ∙ ap (λ x. group_place leading program x + 0) (sym (g.back r next back).0)

  pub trail_back_place : (r : Response) (next : Standing) → resume program m r ≡ Back next → group_place trailing program m + length (checks_of q) + 1 ≡ group_place trailing program next + 0
  trail_back_place r next back =
      let b = g.back r next back in
      ap (λ k. group_place trailing program m + k + 1) one_check
      ∙ ap (λ s. s.at.machine.top.place) (trail_behind program m stands n q g b.1) ∙ ap (λ x. group_place trailing program x + 0) (sym b.0)
