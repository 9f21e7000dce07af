-- The steps of both sides within the group of one instruction: the laws by which the runs of whole
-- programs know them.
use Rattle.std.proofs.Common.{◌≡◌, ℕ, ◌+◌, ◌<◌, false, List, [], ◌∷◌, ◌++◌, length, take, Some, None, slice_get, if◌then◌else◌, refl, sym, ap, ap₂, ◌∙◌, arith, eq-eqb}
use Rattle.srmt_base.specs.declared.event.Event.{Event}
use Rattle.srmt_base.specs.declared.side.Side.{Side}
use Rattle.srmt_base.specs.declared.side.Side.TheVariants.{Lead, Trail}
use Rattle.srmt_base.specs.declared.trap.SourceEnd.{SourceEnd}
use Rattle.srmt_base.specs.declared.word.Kind.TheVariants.{Check as CheckKind, Ack as AckKind}
use Rattle.srmt_base.specs.Word.{word_of}
use Rattle.mid_code.specs.Classes.{SharedProgram}
use Rattle.mid_code.specs.declared.version.VersionOp.{VersionOp}
use Rattle.mid_code.specs.declared.version.VersionOp.TheVariants.{Copied, Ask, Await, Act, Check, Ack, End}
use Rattle.mid_code.specs.declared.version.VersionLine.{VersionLine}
use Rattle.mid_code.specs.Versions.{Table, leading, trailing, with_line, version_at, versions_of as table_versions}
use Rattle.mid_code.specs.declared.version.Operands.TheVariants.{One}
use Rattle.mid_code.proofs.VersionGroups.{IsSized, leading_sized, trailing_sized, length-with_line, length-group_of, version_place}
use Rattle.mid_code.specs.Machine.{register}
use Rattle.world.specs.Standing.{Standing, passed_on as passed}
use Rattle.word_stream.specs.declared.request.Request.{Request}
use Rattle.word_stream.specs.declared.request.Response.{Response}
use Rattle.word_stream.specs.Exchange.{checks_of, acks_of}
use Rattle.world.specs.World.{WorldState, Over as WorldOver, ask}
use Rattle.world.specs.Requests.{Runs, wants, Over, resume}
use Rattle.verdicts.specs.declared.thread_end.ThreadEnd.TheVariants.{Echo, Mismatch, PeerEnded, WriteFault}
use Rattle.machine.specs.Side.{SideState, Plain, Got, Closed, Failed, Outcome, Went, Ended, StepGives}
use Rattle.machine.specs.Steps.{side_op, takes_at, may_send_at, passed_on, performed, quiet}
use Rattle.machine.specs.Leading.{lead_at, lead_next, acts, acts_by}
use Rattle.machine.specs.Trailing.{trail_at, trail_next}
use Rattle.pair_core.specs.Laws.{end_as}
use Rattle.pair_core.proofs.Groups.{Stands, Next, place_of, group_place, put_at, lead_side, trail_side, class_next, group_next, op_within, next_start, passed_within, CopiedGroup, ExchangeGroup, group_runs}

abbrev pub gave : Outcome → List ℕ → WorldState → List Event → StepGives
gave outcome sent w events = record { outcome = outcome; sent = sent; world = w; events = events }

-- the side stands at an instruction of its version
abbrev pub IsPresent : Side → SharedProgram → SideState → Type 0
IsPresent side program s = (l : VersionLine) × (side_op side program s ≡ Some l)

-- the one element of a list, found within it
pub single : {A : Type 0} (a x : A) (before after : List A) → a ∷ [] ≡ before ++ x ∷ after → (before ≡ []) × (x ≡ a) × (after ≡ [])
single a x [] after h = (refl, cc, cc)
single a x (b ∷ []) after h = absurd (cc)
single a x (b ∷ c ∷ before) after h = absurd (cc)

module _ (program : SharedProgram) (m : Standing) (stands : Stands program m) (n : Next program m) where
  -- an instruction of the group, which is known
  op_at : (table : Table) → IsSized table → (k : ℕ) (ops : List VersionOp) → group_next table program m n ≡ ops → k < length (with_line n.line.line ops) →
      version_at (table_versions table program) m.machine.top.function (group_place table program m + k) ≡ slice_get (with_line n.line.line ops) k
  op_at table sized k ops e within =
      op_within program m stands n table sized k (omega (arith, within, length-with_line n.line.line ops, ap length e, length-group_of table (version_place table program m.machine.top.function n.code n.shared) m.machine.top.place (class_next program m n) n.line.mid sized))
      ∙ ap (λ o. slice_get (with_line n.line.line o) k) e

  lead_op : (k : ℕ) (heard : List ℕ) (ops : List VersionOp) → group_next leading program m n ≡ ops → k < length (with_line n.line.line ops) → side_op Lead program (lead_side program m k heard) ≡ slice_get (with_line n.line.line ops) k
  lead_op k heard ops e within = op_at leading leading_sized k ops e within

  trail_op : (k : ℕ) (ops : List VersionOp) → group_next trailing program m n ≡ ops → k < length (with_line n.line.line ops) → side_op Trail program (trail_side program m k) ≡ slice_get (with_line n.line.line ops) k
  trail_op k ops e within = op_at trailing trailing_sized k ops e within

  -- the group behind one of so many instructions
  after_group : (table : Table) → IsSized table → (group : List VersionOp) → group_next table program m n ≡ group → group_place table program (passed m) ≡ group_place table program m + length group
  after_group table sized group e =
      next_start program m stands n table
      ∙ ap (λ k. group_place table program m + k) (sym (length-group_of table (version_place table program m.machine.top.function n.code n.shared) m.machine.top.place (class_next program m n) n.line.mid sized) ∙ ap length e)

  -- an instruction that both sides perform
  module _ (next : Standing) (h : wants program m ≡ Runs next) (g : CopiedGroup program m next n) where
    copied_next : (table : Table) → IsSized table → group_next table program m n ≡ Copied n.line.mid ∷ [] → group_place table program m + 0 + 1 ≡ group_place table program next + 0
    copied_next table sized e =
        let at : group_place table program next ≡ group_place table program (passed m) = ap₂ (place_of table program) g.function g.place in
        omega (arith, at, after_group table sized (Copied n.line.mid ∷ []) e)

    lead_copied : side_op Lead program (lead_side program m 0 []) ≡ Some (record { line = n.line.line; op = Copied n.line.mid })
    lead_copied = lead_op 0 [] (Copied n.line.mid ∷ []) g.lead (omega arith)

    trail_copied : side_op Trail program (trail_side program m 0) ≡ Some (record { line = n.line.line; op = Copied n.line.mid })
    trail_copied = trail_op 0 (Copied n.line.mid ∷ []) g.trail (omega arith)

    lead_goes_by : (w : WorldState) → lead_next program (lead_side program m 0 []) w Plain ≡ gave (Went (lead_side program next 0 [])) [] w []
    unfolding lead_next
    lead_goes_by w =
        ap (λ o. lead_at program o (lead_side program m 0 []) w Plain) lead_copied
        ∙ ap (λ d. quiet w (performed d (lead_side program m 0 []))) (g.anywhere (group_place leading program m + 0))
        ∙ ap (λ p. quiet w (Went (record { at = put_at p next; heard = [] }))) (copied_next leading leading_sized g.lead)

    trail_goes_by : (w : WorldState) → trail_next program (trail_side program m 0) w Plain ≡ gave (Went (trail_side program next 0)) [] w []
    unfolding trail_next
    trail_goes_by w =
        ap (λ o. trail_at program o (trail_side program m 0) w Plain) trail_copied
        ∙ ap (λ d. quiet w (performed d (trail_side program m 0))) (g.anywhere (group_place trailing program m + 0))
        ∙ ap (λ p. quiet w (Went (record { at = put_at p next; heard = [] }))) (copied_next trailing trailing_sized g.trail)

  pub lead_goes : (next : Standing) (w : WorldState) → wants program m ≡ Runs next → lead_next program (lead_side program m 0 []) w Plain ≡ gave (Went (lead_side program next 0 [])) [] w []
  lead_goes next w h = lead_goes_by next h (group_runs program m stands n next h) w

  pub trail_goes : (next : Standing) (w : WorldState) → wants program m ≡ Runs next → trail_next program (trail_side program m 0) w Plain ≡ gave (Went (trail_side program next 0)) [] w []
  trail_goes next w h = trail_goes_by next h (group_runs program m stands n next h) w

  pub lead_runs_takes : (next : Standing) → wants program m ≡ Runs next → takes_at (side_op Lead program (lead_side program m 0 [])) ≡ false
  lead_runs_takes next h = ap takes_at (lead_copied next h (group_runs program m stands n next h))

  pub trail_runs_takes : (next : Standing) → wants program m ≡ Runs next → takes_at (side_op Trail program (trail_side program m 0)) ≡ false
  trail_runs_takes next h = ap takes_at (trail_copied next h (group_runs program m stands n next h))

  pub trail_runs_sends : (next : Standing) → wants program m ≡ Runs next → may_send_at (side_op Trail program (trail_side program m 0)) ≡ false
  trail_runs_sends next h = ap may_send_at (trail_copied next h (group_runs program m stands n next h))

  -- the sides stand at an instruction, and where they go on
  pub lead_runs_here : (next : Standing) → wants program m ≡ Runs next → IsPresent Lead program (lead_side program m 0 [])
  lead_runs_here next h = (_, lead_copied next h (group_runs program m stands n next h))

  pub trail_runs_here : (next : Standing) → wants program m ≡ Runs next → IsPresent Trail program (trail_side program m 0)
  trail_runs_here next h = (_, trail_copied next h (group_runs program m stands n next h))

  pub runs_function : (next : Standing) → wants program m ≡ Runs next → next.machine.top.function ≡ m.machine.top.function
  runs_function next h = (group_runs program m stands n next h).function

  pub lead_runs_place : (next : Standing) → wants program m ≡ Runs next → group_place leading program m + 0 + 1 ≡ group_place leading program next + 0
  lead_runs_place next h = let g = group_runs program m stands n next h in copied_next next h g leading leading_sized g.lead

  pub trail_runs_place : (next : Standing) → wants program m ≡ Runs next → group_place trailing program m + 0 + 1 ≡ group_place trailing program next + 0
  trail_runs_place next h = let g = group_runs program m stands n next h in copied_next next h g trailing trailing_sized g.trail

  -- an instruction that asks the world
  module _ (q : Request) (g : ExchangeGroup program m q n) where
    abbrev pub own_check : ℕ
    own_check = word_of CheckKind g.site.0 (register m.machine.top g.source)

    abbrev leads : List VersionOp
    leads = Ask g.site (One g.source) ∷ Await g.site (One g.source) ∷ Act g.site g.asks None None (One g.source) ∷ []

    abbrev trails : List VersionOp
    trails = Check g.site g.source ∷ Ack g.site (One g.source) ∷ g.tail

    pub ask_op : side_op Lead program (lead_side program m 0 []) ≡ Some (record { line = n.line.line; op = Ask g.site (One g.source) })
    ask_op = lead_op 0 [] leads g.lead (omega arith)

    pub await_op : (heard : List ℕ) → side_op Lead program (lead_side program m 1 heard) ≡ Some (record { line = n.line.line; op = Await g.site (One g.source) })
    await_op heard = lead_op 1 heard leads g.lead (omega arith)

    pub act_op : side_op Lead program (lead_side program m 2 []) ≡ Some (record { line = n.line.line; op = Act g.site g.asks None None (One g.source) })
    act_op = lead_op 2 [] leads g.lead (omega arith)

    pub check_op : side_op Trail program (trail_side program m 0) ≡ Some (record { line = n.line.line; op = Check g.site g.source })
    check_op = trail_op 0 trails g.trail (omega arith)

    pub ack_op : side_op Trail program (trail_side program m 1) ≡ Some (record { line = n.line.line; op = Ack g.site (One g.source) })
    ack_op = trail_op 1 trails g.trail (omega arith)

    pub lead_asks_by : (w : WorldState) → lead_next program (lead_side program m 0 []) w Plain ≡ gave (Went (lead_side program m 1 [])) (checks_of q) w []
    unfolding lead_next
    lead_asks_by w =
        ap (λ o. lead_at program o (lead_side program m 0 []) w Plain) ask_op
        ∙ ap (λ x. gave (Went (record { at = x; heard = [] })) (word_of CheckKind g.site.0 (register m.machine.top g.source) ∷ []) w []) (passed_within leading program m 0)
        ∙ ap (λ ws. gave (Went (lead_side program m 1 [])) ws w []) (sym g.checks)

    lead_hears_one : (w : WorldState) → lead_next program (lead_side program m 1 []) w (Got (word_of AckKind g.site.0 (register m.machine.top g.source))) ≡ gave (Went (lead_side program m 2 [])) [] w []
    unfolding lead_next
    lead_hears_one w =
        let own : ℕ = word_of AckKind g.site.0 (register m.machine.top g.source) in
        let s : SideState = lead_side program m 1 [] in
        ap (λ o. lead_at program o s w (Got own)) (await_op [])
        ∙ ap (λ b. quiet w (if b then Went (passed_on s) else Ended (Echo own own))) (eq-eqb own own refl)
        ∙ ap (λ x. gave (Went (record { at = x; heard = [] })) [] w []) (passed_within leading program m 1)

    pub lead_hears_by : (w : WorldState) (heard : List ℕ) (x : ℕ) → acks_of q ≡ heard ++ x ∷ [] → lead_next program (lead_side program m 1 heard) w (Got x) ≡ gave (Went (lead_side program m 2 [])) [] w []
    lead_hears_by w heard x h =
        let one = single (word_of AckKind g.site.0 (register m.machine.top g.source)) x heard [] (sym g.acks ∙ h) in
        ap₂ (λ hs y. lead_next program (lead_side program m 1 hs) w (Got y)) one.0 one.1 ∙ lead_hears_one w

    pub lead_acts_by : (w : WorldState) → lead_next program (lead_side program m 2 []) w Plain ≡ acts Plain q (ask w q) (lead_side program m 2 []) w
    unfolding lead_next
    lead_acts_by w =
        ap (λ o. lead_at program o (lead_side program m 2 []) w Plain) act_op
        ∙ ap (λ x. acts_by x Plain (lead_side program m 2 []) w) g.request

    pub lead_fails_by : (w : WorldState) (written : ℕ) → lead_next program (lead_side program m 2 []) w (Failed written) ≡ gave (Ended WriteFault) [] WorldOver (take written (ask w q).events)
    unfolding lead_next
    lead_fails_by w written =
        ap (λ o. lead_at program o (lead_side program m 2 []) w (Failed written)) act_op
        ∙ ap (λ x. acts_by x (Failed written) (lead_side program m 2 []) w) g.request

    -- both sides go on behind the group
    pub lead_behind : passed_on (lead_side program m 2 []) ≡ lead_side program (passed m) 0 []
    lead_behind =
        let e : group_place leading program m + 2 + 1 ≡ group_place leading program (passed m) + 0 = omega (arith, after_group leading leading_sized leads g.lead) in
        ap (λ p. record { at = put_at p m; heard = [] }) e

    pub trail_behind : g.tail ≡ [] → passed_on (trail_side program m 1) ≡ trail_side program (passed m) 0
    trail_behind none =
        let e : group_place trailing program m + 1 + 1 ≡ group_place trailing program (passed m) + 0 = omega (arith, after_group trailing trailing_sized trails g.trail, ap length none) in
        ap (λ p. record { at = put_at p m; heard = [] }) e

    pub trail_checks_one : (w : WorldState) → trail_next program (trail_side program m 0) w (Got (word_of CheckKind g.site.0 (register m.machine.top g.source))) ≡ gave (Went (trail_side program m 1)) [] w []
    unfolding trail_next
    trail_checks_one w =
        let own : ℕ = word_of CheckKind g.site.0 (register m.machine.top g.source) in
        let s : SideState = trail_side program m 0 in
        ap (λ o. trail_at program o s w (Got own)) check_op
        ∙ ap (λ b. quiet w (if b then Went (passed_on s) else Ended (Mismatch own own))) (eq-eqb own own refl)
        ∙ ap (λ x. gave (Went (record { at = x; heard = [] })) [] w []) (passed_within trailing program m 0)

    pub trail_closed_by : (w : WorldState) → trail_next program (trail_side program m 0) w Closed ≡ gave (Ended PeerEnded) [] w []
    unfolding trail_next
    trail_closed_by w = ap (λ o. trail_at program o (trail_side program m 0) w Closed) check_op

    pub trail_acks_by : (w : WorldState) → trail_next program (trail_side program m 1) w Plain ≡ gave (Went (passed_on (trail_side program m 1))) (acks_of q) w []
    unfolding trail_next
    trail_acks_by w =
        ap (λ o. trail_at program o (trail_side program m 1) w Plain) ack_op
        ∙ ap (λ ws. gave (Went (passed_on (trail_side program m 1))) ws w []) (sym g.acks)

    pub end_op : g.tail ≡ End g.source ∷ [] → side_op Trail program (trail_side program m 2) ≡ Some (record { line = n.line.line; op = End g.source })
    end_op tail = trail_op 2 (Check g.site g.source ∷ Ack g.site (One g.source) ∷ End g.source ∷ []) (g.trail ∙ ap (λ t. Check g.site g.source ∷ Ack g.site (One g.source) ∷ t) tail) (omega arith)

    pub trail_ends_by : (w : WorldState) (r : Response) (end : SourceEnd) → resume program m r ≡ Over end → trail_next program (trail_side program m 2) w Plain ≡ gave (Ended (end_as end)) [] w []
    unfolding trail_next
    trail_ends_by w r end over =
        let o = g.over r end over in
        ap (λ op. trail_at program op (trail_side program m 2) w Plain) (end_op o.0)
        ∙ ap (λ e. gave (Ended e) [] w []) o.1
