-- The group of instructions that stands for one instruction of middle code, on either side. This is
-- the one place that looks at the instructions one by one.
use Rattle.std.proofs.Common.{◌≡◌, ℕ, zero, suc, ◌+◌, ◌-◌, ◌<◌, ◌%◌, true, false, List, [], ◌∷◌, length, Option, Some, None, slice_get, option_and_then, take, refl, sym, ap, ap₂, ◌∙◌, subst, arith}
use Rattle.srmt_base.specs.declared.limits.Limits.{Limits}
use Rattle.srmt_base.specs.declared.request_kind.RequestKind.{RequestKind}
use Rattle.srmt_base.specs.declared.request_kind.RequestKind.TheVariants.{Put as AsksPut, Exit as AsksExit}
use Rattle.srmt_base.specs.declared.trap.Trap.{Trap}
use Rattle.srmt_base.specs.declared.trap.SourceEnd.{SourceEnd}
use Rattle.srmt_base.specs.declared.trap.SourceEnd.TheVariants.{Exit as SourceExit}
use Rattle.srmt_base.specs.declared.word.Kind.TheVariants.{Check as CheckKind, Ack as AckKind}
use Rattle.srmt_base.specs.declared.word.Site.{Site}
use Rattle.srmt_base.specs.Convert.{convert_of}
use Rattle.srmt_base.specs.Word.{word_of}
use Rattle.verdicts.specs.declared.thread_end.ThreadEnd.TheVariants.{Exit as ExitEnd}
use Rattle.mid_code.specs.declared.class.Class.{Class}
use Rattle.mid_code.specs.declared.class.Shared.{Shared}
use Rattle.mid_code.specs.declared.mid.Mid.{Mid}
use Rattle.mid_code.specs.declared.mid.Mid.TheVariants.{Const, Conv, Put, Exit}
use Rattle.mid_code.specs.declared.program.MidFunction.{MidFunction}
use Rattle.mid_code.specs.declared.program.MidLine.{MidLine}
use Rattle.mid_code.specs.declared.version.Operands.TheVariants.{One}
use Rattle.mid_code.specs.declared.version.VersionOp.{VersionOp}
use Rattle.mid_code.specs.declared.version.VersionOp.TheVariants.{Copied, Ask, Await, Act, Check, Ack, End}
use Rattle.mid_code.specs.Program.{function_at, line_at}
use Rattle.mid_code.specs.Classes.{SharedProgram, site_of, sharing_of, site_count, class_of, classes_of, all_sharings}
use Rattle.mid_code.specs.Machine.{register, moved_to, given, local_of, with_local, act, act_at, does}
use Rattle.mid_code.specs.Pairs.{IsOfFirstForm, HasSites}
use Rattle.mid_code.specs.Versions.{Table, leading, trailing, size_of, place_in, group_of, versions_of, version_at}
use Rattle.mid_code.specs.Ways.{is_final}
use Rattle.mid_code.proofs.Flowing.{followed}
use Rattle.mid_code.proofs.Keeping.{keeps}
use Rattle.mid_code.proofs.Naming.{function_kept}
use Rattle.mid_code.proofs.StartFits.{with_main}
use Rattle.mid_code.proofs.Values.{one_within}
use Rattle.mid_code.proofs.VersionGroups.{IsSized, IsProtected, first_site, lines_at, sharings_in, classes_in, class_at, class_at-found, classes_found, sharings_at, version_place, place_in-next, fetch}
use Rattle.word_stream.specs.declared.request.Request.{Request}
use Rattle.word_stream.specs.declared.request.Request.TheVariants.{Put as PutAsked, Exit as ExitAsked}
use Rattle.word_stream.specs.declared.request.Response.{Response}
use Rattle.word_stream.specs.Exchange.{request_site, operands_of, is_guarded, checks_of, acks_of}
use Rattle.world.specs.Standing.{Standing, started_own, started_standing, standing_at, passed_on as passed}
use Rattle.world.specs.Requests.{asked_as, request_of_top, Wants, Runs, Dies, Requests, Lost, wants_by, wants_alone, wants, Back, Over, resumed, resume}
use Rattle.world.proofs.Plain.{is_main, is_protected, plain_line, class_of_line}
use Rattle.machine.specs.Side.{SideState, Went, Ended}
use Rattle.machine.specs.Steps.{passed_on}
use Rattle.machine.specs.Leading.{act_request, answered}
use Rattle.pair_core.specs.Laws.{end_as}

-- the run has an instruction of a protected function of a pair's program next
pub record Stands (program : SharedProgram) (m : Standing) : Type 0 where
  pub sites : HasSites program
  pub code : MidFunction
  pub shared : Shared
  pub is : IsProtected program m.machine.top.function code shared
  pub place : m.machine.top.place < length code.code

-- the classes of a function's instructions
abbrev pub classes_row : SharedProgram → ℕ → Option (List Class)
classes_row program zero = None
classes_row program (suc before) = slice_get (classes_of program) before

row_found : (program : SharedProgram) (function : ℕ) (f : MidFunction) (s : Shared) → IsProtected program function f s → classes_row program function ≡ Some (classes_in program function f s)
row_found program zero f s is = absurd (omega (arith, is.some))
row_found program (suc before) f s is =
    let less : suc before - 1 ≡ before = omega arith in
    classes_found 1 (all_sharings program) before (sharings_in program f s) (sym (ap (slice_get (all_sharings program)) less) ∙ sharings_at program (suc before) f s is)

-- where the group of an instruction begins in its version
abbrev pub group_start : Table → ℕ → Option (List Class) → Option MidFunction → ℕ
group_start table place None f = 0
group_start table place (Some cs) None = 0
group_start table place (Some cs) (Some f) = place_in table cs f.code place

abbrev pub place_of : Table → SharedProgram → ℕ → ℕ → ℕ
place_of table program function place = group_start table place (classes_row program function) (function_at program.program function)

abbrev pub group_place : Table → SharedProgram → Standing → ℕ
group_place table program m = place_of table program m.machine.top.function m.machine.top.place

-- the run at another place
abbrev pub put_at : ℕ → Standing → Standing
put_at place m = standing_at (moved_to place m.machine.top) m

-- the run at the k-th instruction of the group that stands for its instruction
abbrev pub within_group : Table → SharedProgram → Standing → ℕ → Standing
within_group table program m k = put_at (group_place table program m + k) m

-- the sides there
abbrev pub lead_side : SharedProgram → Standing → ℕ → List ℕ → SideState
lead_side program m k heard = record { at = within_group leading program m k; heard = heard }

abbrev pub trail_side : SharedProgram → Standing → ℕ → SideState
trail_side program m k = record { at = within_group trailing program m k; heard = [] }

-- the next instruction
pub record Next (program : SharedProgram) (m : Standing) : Type 0 where
  pub line : MidLine
  pub at : line_at program.program m.machine.top.function m.machine.top.place ≡ Some line
  pub code : MidFunction
  pub shared : Shared
  pub is : IsProtected program m.machine.top.function code shared
  pub here : slice_get code.code m.machine.top.place ≡ Some line
  pub plain : IsOfFirstForm line.mid
  -- another follows it, unless it is the last
  pub inner : is_final line.mid ≡ false → m.machine.top.place + 1 < length code.code

pub next_line : (program : SharedProgram) (m : Standing) → Stands program m → Next program m
next_line program m stands =
    let one = one_within stands.code.code m.machine.top.place stands.place in
    let rules = keeps program.program m.machine.top.function m.machine.top.place stands.code one.0 stands.sites.valid stands.is.found one.1 in
    record {
      line = one.0;
      at = ap (λ o. option_and_then (λ f. slice_get f.code m.machine.top.place) o) stands.is.found ∙ one.1;
      code = stands.code;
      shared = stands.shared;
      is = stands.is;
      here = one.1;
      plain = plain_line program stands.sites m.machine.top.function stands.code m.machine.top.place one.0 stands.is.found stands.is.protected one.1;
      inner = λ more. followed program.program m.machine.top.function stands.code m.machine.top.place one.0.mid rules more stands.place;
    }

-- the number of its site, if it has one, and its class
abbrev pub site_number : (program : SharedProgram) (m : Standing) → Next program m → ℕ
site_number program m n = first_site program m.machine.top.function + site_count (take m.machine.top.place (sharings_in program n.code n.shared))

abbrev pub class_next : (program : SharedProgram) (m : Standing) → Next program m → Class
class_next program m n = class_at program m.machine.top.function n.code n.shared m.machine.top.place n.line.mid

-- the group that stands for it
abbrev pub group_next : (table : Table) (program : SharedProgram) (m : Standing) → Next program m → List VersionOp
group_next table program m n = group_of table (version_place table program m.machine.top.function n.code n.shared) m.machine.top.place (class_next program m n) n.line.mid

abbrev pub size_next : (table : Table) (program : SharedProgram) (m : Standing) → Next program m → ℕ
size_next table program m n = size_of table (class_next program m n) n.line.mid

module _ (program : SharedProgram) (m : Standing) (stands : Stands program m) (n : Next program m) where
  starts_at : (table : Table) (place : ℕ) → place_of table program m.machine.top.function place ≡ version_place table program m.machine.top.function n.code n.shared place
  starts_at table place =
      ap (λ o. group_start table place o (function_at program.program m.machine.top.function)) (row_found program m.machine.top.function n.code n.shared n.is)
      ∙ ap (group_start table place (Some (classes_in program m.machine.top.function n.code n.shared))) n.is.found

  -- an instruction of the group
  pub op_within : (table : Table) → IsSized table → (k : ℕ) → k < size_next table program m n →
      version_at (versions_of table program) m.machine.top.function (group_place table program m + k)
      ≡ slice_get (lines_at table (version_place table program m.machine.top.function n.code n.shared) m.machine.top.place (class_next program m n) n.line) k
  op_within table sized k within =
      ap (λ p. version_at (versions_of table program) m.machine.top.function (p + k)) (starts_at table m.machine.top.place)
      ∙ fetch table program m.machine.top.function n.code n.shared m.machine.top.place n.line k sized n.is n.here within

  -- the next group begins where this one ends
  pub next_start : (table : Table) → place_of table program m.machine.top.function (m.machine.top.place + 1) ≡ group_place table program m + size_next table program m n
  next_start table =
      let next = place_in-next table (classes_in program m.machine.top.function n.code n.shared) n.code.code m.machine.top.place (class_next program m n) n.line
      (class_at-found program m.machine.top.function n.code n.shared m.machine.top.place n.line n.here) n.here in
      starts_at table (m.machine.top.place + 1) ∙ next ∙ ap (λ p. p + size_next table program m n) (sym (starts_at table m.machine.top.place))

-- the next instruction of the run at its k-th place, as what passing it leads to
pub passed_within : (table : Table) (program : SharedProgram) (m : Standing) (k : ℕ) → passed (within_group table program m k) ≡ within_group table program m (suc k)
passed_within table program m k =
    let e : group_place table program m + k + 1 ≡ group_place table program m + suc k = omega arith in
    ap (λ p. put_at p m) e

-- what an instruction that both sides perform is in each version, and what it does there
pub record CopiedGroup (program : SharedProgram) (m next : Standing) (n : Next program m) : Type 0 where
  pub lead : group_next leading program m n ≡ Copied n.line.mid ∷ []
  pub trail : group_next trailing program m n ≡ Copied n.line.mid ∷ []
  pub function : next.machine.top.function ≡ m.machine.top.function
  pub place : next.machine.top.place ≡ m.machine.top.place + 1
  pub goes_on : is_final n.line.mid ≡ false
  pub anywhere : (place : ℕ) → wants_alone program (act program.program n.line.mid n.line.line (local_of program.program (put_at place m).machine)) (put_at place m) ≡ Runs (put_at (place + 1) next)

-- the same by the instruction alone
record CopiedMid (program : SharedProgram) (number : ℕ) (shared : Shared) (m next : Standing) (l : MidLine) : Type 0 where
  lead : (moved : ℕ → ℕ) → group_of leading moved m.machine.top.place (class_of number (sharing_of program.program.main_functions shared m.machine.top.place l.mid)) l.mid ≡ Copied l.mid ∷ []
  trail : (moved : ℕ → ℕ) → group_of trailing moved m.machine.top.place (class_of number (sharing_of program.program.main_functions shared m.machine.top.place l.mid)) l.mid ≡ Copied l.mid ∷ []
  function : next.machine.top.function ≡ m.machine.top.function
  place : next.machine.top.place ≡ m.machine.top.place + 1
  goes_on : is_final l.mid ≡ false
  anywhere : (place : ℕ) → wants_alone program (act program.program l.mid l.line (local_of program.program (put_at place m).machine)) (put_at place m) ≡ Runs (put_at (place + 1) next)

-- what an instruction that asks the world is in each version, with its request
pub record ExchangeGroup (program : SharedProgram) (m : Standing) (q : Request) (n : Next program m) : Type 0 where
  pub site : Site
  pub source : ℕ
  pub asks : RequestKind
  pub tail : List VersionOp
  pub lead : group_next leading program m n ≡ Ask site (One source) ∷ Await site (One source) ∷ Act site asks None None (One source) ∷ []
  pub trail : group_next trailing program m n ≡ Check site source ∷ Ack site (One source) ∷ tail
  pub request : act_request asks site (register m.machine.top source ∷ []) ≡ Some q
  pub checks : checks_of q ≡ word_of CheckKind site.0 (register m.machine.top source) ∷ []
  pub acks : acks_of q ≡ word_of AckKind site.0 (register m.machine.top source) ∷ []
  pub guarded : is_guarded q ≡ true
  -- the run goes on behind the group, or ends by what the register holds
  pub back : (r : Response) (next : Standing) → resume program m r ≡ Back next → (next ≡ passed m) × (tail ≡ []) × ((s : SideState) → answered q r s ≡ Went (passed_on s)) × (is_final n.line.mid ≡ false)
  pub over : (r : Response) (end : SourceEnd) → resume program m r ≡ Over end → (tail ≡ End source ∷ []) × (ExitEnd (register m.machine.top source % 256) ≡ end_as end) × ((s : SideState) → answered q r s ≡ Ended (end_as end))

-- the same by the instruction alone: `asked` is what it asks
record ExchangeMid (program : SharedProgram) (number : ℕ) (shared : Shared) (m : Standing) (q : Request) (asked : Option Request) (mid : Mid) : Type 0 where
  site : Site
  source : ℕ
  asks : RequestKind
  tail : List VersionOp
  lead : (moved : ℕ → ℕ) → group_of leading moved m.machine.top.place (class_of number (sharing_of program.program.main_functions shared m.machine.top.place mid)) mid ≡ Ask site (One source) ∷ Await site (One source) ∷ Act site asks None None (One source) ∷ []
  trail : (moved : ℕ → ℕ) → group_of trailing moved m.machine.top.place (class_of number (sharing_of program.program.main_functions shared m.machine.top.place mid)) mid ≡ Check site source ∷ Ack site (One source) ∷ tail
  request : act_request asks site (register m.machine.top source ∷ []) ≡ Some q
  checks : checks_of q ≡ word_of CheckKind site.0 (register m.machine.top source) ∷ []
  acks : acks_of q ≡ word_of AckKind site.0 (register m.machine.top source) ∷ []
  guarded : is_guarded q ≡ true
  back : (r : Response) (next : Standing) → resumed asked m r ≡ Back next → (next ≡ passed m) × (tail ≡ []) × ((s : SideState) → answered q r s ≡ Went (passed_on s)) × (is_final mid ≡ false)
  over : (r : Response) (end : SourceEnd) → resumed asked m r ≡ Over end → (tail ≡ End source ∷ []) × (ExitEnd (register m.machine.top source % 256) ≡ end_as end) × ((s : SideState) → answered q r s ≡ Ended (end_as end))

module _ (program : SharedProgram) (number : ℕ) (shared : Shared) (m : Standing) where
  abbrev asked_for : MidLine → Option Request
  asked_for l = asked_as (Some (class_of number (sharing_of program.program.main_functions shared m.machine.top.place l.mid))) (Some l) m.machine.top

  abbrev wanted_for : MidLine → Wants
  wanted_for l = wants_by program (asked_for l) (act program.program l.mid l.line (local_of program.program m.machine)) m

  copied_mid : (next : Standing) (mid : Mid) (line : ℕ) → IsOfFirstForm mid → wanted_for (record { line = line; mid = mid }) ≡ Runs next → CopiedMid program number shared m next (record { line = line; mid = mid })
  copied_mid next (Const target value) line plain h =
      let l = local_of program.program m.machine in
      let e : record m { machine = with_local program.program (record l { at = given target value l.at }) m.machine } ≡ next = cc in
      record {
        lead = λ moved. refl;
        trail = λ moved. refl;
        function = ap (λ x. x.machine.top.function) (sym e);
        place = ap (λ x. x.machine.top.place) (sym e);
        goes_on = refl;
        anywhere = λ place. ap (λ x. Runs (put_at (place + 1) x)) e;
      }
  copied_mid next (Conv from to target source) line plain h =
      let l = local_of program.program m.machine in
      let e : record m { machine = with_local program.program (record l { at = given target (convert_of from to (register l.at source)) l.at }) m.machine } ≡ next = cc in
      record {
        lead = λ moved. refl;
        trail = λ moved. refl;
        function = ap (λ x. x.machine.top.function) (sym e);
        place = ap (λ x. x.machine.top.place) (sym e);
        goes_on = refl;
        anywhere = λ place. ap (λ x. Runs (put_at (place + 1) x)) e;
      }
  copied_mid next (Put source) line plain h = absurd (cc)
  copied_mid next (Exit source) line plain h = absurd (cc)
  copied_mid next _ line plain h = absurd plain

  -- no instruction stops the run by itself
  no_trap : (mid : Mid) (line : ℕ) (words : List ℕ) (trap : Trap) (at : ℕ) → IsOfFirstForm mid → wanted_for (record { line = line; mid = mid }) ≡ Dies words trap at → ⊥
  no_trap (Const target value) line words trap at plain h = cc
  no_trap (Conv from to target source) line words trap at plain h = cc
  no_trap (Put source) line words trap at plain h = cc
  no_trap (Exit source) line words trap at plain h = cc
  no_trap _ line words trap at plain h = plain

  no_loss : (mid : Mid) (line : ℕ) (words : List ℕ) → IsOfFirstForm mid → wanted_for (record { line = line; mid = mid }) ≡ Lost words → ⊥
  no_loss (Const target value) line words plain h = cc
  no_loss (Conv from to target source) line words plain h = cc
  no_loss (Put source) line words plain h = cc
  no_loss (Exit source) line words plain h = cc
  no_loss _ line words plain h = plain

  exchange_mid : (q : Request) (mid : Mid) (line : ℕ) → IsOfFirstForm mid → wanted_for (record { line = line; mid = mid }) ≡ Requests q → ExchangeMid program number shared m q (asked_for (record { line = line; mid = mid })) mid
  unfolding request_site operands_of is_guarded
  exchange_mid q (Const target value) line plain h = absurd (cc)
  exchange_mid q (Conv from to target source) line plain h = absurd (cc)
  exchange_mid q (Put source) line plain h =
      let e : PutAsked (site_of number) (register m.machine.top source) ≡ q = cc in
      record {
        site = site_of number;
        source = source;
        asks = AsksPut;
        tail = [];
        lead = λ moved. refl;
        trail = λ moved. refl;
        request = ap Some e;
        checks = ap checks_of (sym e);
        acks = ap acks_of (sym e);
        guarded = ap is_guarded (sym e);
        back = λ r next back. ((let f : passed m ≡ next = cc in sym f), refl, (λ s. ap (λ x. answered x r s) (sym e)), refl);
        over = λ r end over. absurd (cc);
      }
  exchange_mid q (Exit source) line plain h =
      let e : ExitAsked (site_of number) (register m.machine.top source) ≡ q = cc in
      record {
        site = site_of number;
        source = source;
        asks = AsksExit;
        tail = End source ∷ [];
        lead = λ moved. refl;
        trail = λ moved. refl;
        request = ap Some e;
        checks = ap checks_of (sym e);
        acks = ap acks_of (sym e);
        guarded = ap is_guarded (sym e);
        back = λ r next back. absurd (cc);
        over = λ r end over. let f : SourceExit (register m.machine.top source % 256) ≡ end = cc in (refl, ap end_as f, λ s. ap (λ x. answered x r s) (sym e) ∙ ap (λ x. Ended (end_as x)) f);
      }
  exchange_mid q _ line plain h = absurd plain

module _ (program : SharedProgram) (m : Standing) (stands : Stands program m) (n : Next program m) where
  asks_next : request_of_top program m.machine.top ≡ asked_for program (site_number program m n) n.shared m n.line
  asks_next =
      ap₂ (λ c l. asked_as c l m.machine.top) (class_of_line program m.machine.top.function n.code n.shared m.machine.top.place n.line n.is n.here) n.at

  -- what the run wants, by its instruction
  wants_next : wants program m ≡ wanted_for program (site_number program m n) n.shared m n.line
  unfolding wants does
  wants_next = ap₂ (λ asked l. wants_by program asked (act_at program.program l (local_of program.program m.machine)) m) asks_next n.at

  pub group_runs : (next : Standing) → wants program m ≡ Runs next → CopiedGroup program m next n
  group_runs next h =
      let g = copied_mid program (site_number program m n) n.shared m next n.line.mid n.line.line n.plain (sym wants_next ∙ h) in
      record { lead = g.lead _; trail = g.trail _; function = g.function; place = g.place; goes_on = g.goes_on; anywhere = g.anywhere }

  pub never_dies : (words : List ℕ) (trap : Trap) (line : ℕ) → wants program m ≡ Dies words trap line → ⊥
  never_dies words trap line h = no_trap program (site_number program m n) n.shared m n.line.mid n.line.line words trap line n.plain (sym wants_next ∙ h)

  pub never_lost : (words : List ℕ) → wants program m ≡ Lost words → ⊥
  never_lost words h = no_loss program (site_number program m n) n.shared m n.line.mid n.line.line words n.plain (sym wants_next ∙ h)

  resumes_next : (r : Response) → resume program m r ≡ resumed (asked_for program (site_number program m n) n.shared m n.line) m r
  unfolding resume
  resumes_next r = ap (λ asked. resumed asked m r) asks_next

  pub group_asks : (q : Request) → wants program m ≡ Requests q → ExchangeGroup program m q n
  group_asks q h =
      let g = exchange_mid program (site_number program m n) n.shared m q n.line.mid n.line.line n.plain (sym wants_next ∙ h) in
      record {
        site = g.site;
        source = g.source;
        asks = g.asks;
        tail = g.tail;
        lead = g.lead _;
        trail = g.trail _;
        request = g.request;
        checks = g.checks;
        acks = g.acks;
        guarded = g.guarded;
        back = λ r next back. g.back r next (sym (resumes_next r) ∙ back);
        over = λ r end over. g.over r end (sym (resumes_next r) ∙ over);
      }

  -- the run after the instruction stands at the next one
  stands_next : (next : Standing) → next.machine.top.function ≡ m.machine.top.function → next.machine.top.place ≡ m.machine.top.place + 1 → is_final n.line.mid ≡ false → Stands program next
  stands_next next function place goes_on = record {
    sites = stands.sites;
    code = n.code;
    shared = n.shared;
    is = subst (λ f. IsProtected program f n.code n.shared) (sym function) n.is;
    place = subst (λ p. p < length n.code.code) (sym place) (n.inner goes_on);
  }

  pub stands_runs : (next : Standing) → wants program m ≡ Runs next → Stands program next
  stands_runs next h = let g = group_runs next h in stands_next next g.function g.place g.goes_on

  pub stands_back : (q : Request) (r : Response) (next : Standing) → wants program m ≡ Requests q → resume program m r ≡ Back next → Stands program next
  stands_back q r next h back =
      let g = (group_asks q h).back r next back in
      subst (Stands program) (sym g.0) (stands_next (passed m) refl refl g.3)

pub stands_started : (program : SharedProgram) (limits : Limits) → HasSites program → Stands program (started_standing program.program limits)
stands_started program limits sites =
    let mid = program.program in
    let main = is_main mid sites.valid in
    let is = is_protected program sites mid.main main.function main.found main.of_main_file in
    subst (λ f. Stands program (record { machine = with_main mid limits f; own = started_own mid limits })) (sym main.found)
    (record { sites = sites; code = main.function; shared = is.0; is = is.1; place = omega (arith, (function_kept mid mid.main main.function sites.valid main.found).long) })
