-- What a run wants is what its next step of the meaning does.
use Rattle.std.proofs.Common.{◌≡◌, ℕ, ◌≤◌, List, [], Option, Some, None, take, refl, sym, subst}
use Rattle.std.specs.Prelude.{IsTrue}
use Rattle.srmt_base.specs.declared.event.Event.{Event}
use Rattle.srmt_base.specs.declared.trap.SourceEnd.TheVariants.{Trap as TrapEnd}
use Rattle.srmt_base.specs.declared.limits.Limits.{Limits}
use Rattle.srmt_base.specs.declared.word.Site.{Site}
use Rattle.mid_code.specs.declared.access.Access.TheVariants.{Puts, Exits}
use Rattle.mid_code.specs.declared.class.Class.{Class}
use Rattle.mid_code.specs.declared.class.Class.TheVariants.{Repeatable, NonRepeatable, FailStop}
use Rattle.mid_code.specs.declared.class.Shared.{Shared}
use Rattle.mid_code.specs.declared.mid.Mid.{Mid}
use Rattle.mid_code.specs.declared.mid.Mid.TheVariants.{Const, Conv, Put as PutMid, Exit as ExitMid}
use Rattle.mid_code.specs.declared.program.MidLine.{MidLine}
use Rattle.mid_code.specs.Machine.{Does, Reaches, Lost as Nowhere, register, local_of, act, act_at, does}
use Rattle.mid_code.specs.Program.{function_at, line_at}
use Rattle.mid_code.specs.Classes.{SharedProgram, sharing_of, class_of}
use Rattle.mid_code.specs.Pairs.{IsOfFirstForm, HasSites}
use Rattle.mid_code.specs.Meaning.{State, Step, On, Ends, Stuck, step_by, step}
use Rattle.mid_code.proofs.StartFits.{main_function}
use Rattle.word_stream.specs.declared.request.Request.{Request}
use Rattle.word_stream.specs.declared.request.Request.TheVariants.{Put, Exit}
use Rattle.word_stream.specs.declared.request.Response.{Response}
use Rattle.world.specs.World.{WorldState, Lives, Over as NoMore, is_live, ask}
use Rattle.world.specs.Standing.{Standing, started_standing}
use Rattle.world.specs.Requests.{class_in, asked_as, request_of_top, Wants, Runs, Dies, Requests, Lost, wants_by, wants, Resumed, Back, Over, resumed, resume}
use Rattle.world.proofs.Plain.{is_main, protected_line, class_of_line}

-- a run of the meaning whose machine is that of a standing
abbrev pub with_standing : Standing → State → State
with_standing at s = record s { machine = at.machine }

-- the step that ends with the taking of a response
abbrev pub step_after : State → Resumed → List Event → Step
step_after s (Back at) events = On (with_standing at s) events
step_after s (Over end) events = Ends end events

-- a run that goes on has a world that answers
abbrev pub AnswersOn : Resumed → WorldState → Type 0
AnswersOn (Back at) world = IsTrue (is_live world)
AnswersOn (Over end) world = Unit {0}

-- a step does what is wanted; a request is answered alike by every world that answers
abbrev pub Tells : State → Step → (Response → Resumed) → Wants → Type 0
Tells s stepped take (Runs next) = stepped ≡ On (with_standing next s) []
Tells s stepped take (Dies words trap line) = stepped ≡ Ends (TrapEnd trap line) []
Tells s stepped take (Requests request) = (world : WorldState) → IsTrue (is_live world) →
    (stepped ≡ step_after s (take (ask world request).response) (ask world request).events) × AnswersOn (take (ask world request).response) (ask world request).world
Tells s stepped take (Lost words) = stepped ≡ Stuck

-- a run that stands in a protected function, and stays in one
abbrev pub Stays : SharedProgram → Standing → Type 0
Stays program at = at.machine.top.function ≤ program.program.main_functions

abbrev pub StayOn : SharedProgram → Wants → Type 0
StayOn program (Runs next) = Stays program next
StayOn program (Dies words trap line) = Unit {0}
StayOn program (Requests request) = Unit {0}
StayOn program (Lost words) = Unit {0}

abbrev pub StayBack : SharedProgram → Resumed → Type 0
StayBack program (Back next) = Stays program next
StayBack program (Over end) = Unit {0}

-- what is known of the next instruction of a run, by what it asks and does
record Known (program : SharedProgram) (at : Standing) (s : State) (asked : Option Request) (d : Does) : Type 0 where
  pub tells : Tells s (step_by program.program d s) (resumed asked at) (wants_by program asked d at)
  pub on : StayOn program (wants_by program asked d at)
  pub back : (response : Response) → StayBack program (resumed asked at response)

module _ (program : SharedProgram) (at : Standing) (s : State) (within : Stays program at) where
  abbrev here : State
  here = with_standing at s

  -- one case for each request
  tells_put : (site : Site) (value line : ℕ) → Tells here (step_by program.program (Reaches (Puts value) line) here) (resumed (Some (Put site value)) at) (Requests (Put site value))
  unfolding ask
  tells_put site value line (Lives inside) live = (refl, refl)
  tells_put site value line NoMore live = absurd (cc)

  tells_exit : (site : Site) (value line : ℕ) → Tells here (step_by program.program (Reaches (Exits value) line) here) (resumed (Some (Exit site value)) at) (Requests (Exit site value))
  unfolding ask
  tells_exit site value line (Lives inside) live = (refl, tt)
  tells_exit site value line NoMore live = absurd (cc)

  -- one case for each instruction
  known_mid : (n place line : ℕ) (shared : Shared) (mid : Mid) → IsOfFirstForm mid →
      Known program at here (asked_as (Some (class_of n (sharing_of program.program.main_functions shared place mid))) (Some (record { line = line; mid = mid })) at.machine.top) (act program.program mid line (local_of program.program at.machine))
  known_mid n place line shared (Const target value) plain = record { tells = refl; on = within; back = λ response. within }
  known_mid n place line shared (Conv from to target source) plain = record { tells = refl; on = within; back = λ response. within }
  known_mid n place line shared (PutMid source) plain = record { tells = tells_put _ (register at.machine.top source) line; on = tt; back = λ response. within }
  known_mid n place line shared (ExitMid source) plain = record { tells = tells_exit _ (register at.machine.top source) line; on = tt; back = λ response. tt }
  known_mid n place line shared _ plain = absurd plain

  -- where there is no instruction, there is no way on
  none_asked : (c : Option Class) → asked_as c None at.machine.top ≡ None
  none_asked None = refl
  none_asked (Some Repeatable) = refl
  none_asked (Some (NonRepeatable site)) = refl
  none_asked (Some (FailStop site)) = refl

  known_none : (c : Option Class) → Known program at here (asked_as c None at.machine.top) Nowhere
  known_none c = subst (λ asked. Known program at here asked Nowhere) (sym (none_asked c)) (record { tells = refl; on = tt; back = λ response. within })

  known_line : (sites : HasSites program) (l : Option MidLine) → line_at program.program at.machine.top.function at.machine.top.place ≡ l →
      Known program at here (asked_as (class_in program at.machine.top.function at.machine.top.place) l at.machine.top) (act_at program.program l (local_of program.program at.machine))
  known_line sites None found = known_none (class_in program at.machine.top.function at.machine.top.place)
  known_line sites (Some l) found =
      let n = protected_line program sites at.machine.top.function at.machine.top.place l within found in
      let class = class_of_line program at.machine.top.function n.code n.shared at.machine.top.place l n.is n.here in
      subst (λ c. Known program at here (asked_as c (Some l) at.machine.top) (act program.program l.mid l.line (local_of program.program at.machine))) (sym class)
      (known_mid _ at.machine.top.place l.line n.shared l.mid n.plain)

  known : HasSites program → Known program at here (request_of_top program at.machine.top) (does program.program (local_of program.program at.machine))
  unfolding does
  known sites = known_line sites (line_at program.program at.machine.top.function at.machine.top.place) refl

  pub tells : HasSites program → Tells here (step program.program here) (resume program at) (wants program at)
  unfolding wants resume
  tells sites = (known sites).tells

  pub stays_on : HasSites program → StayOn program (wants program at)
  unfolding wants
  stays_on sites = (known sites).on

  pub stays_back : HasSites program → (response : Response) → StayBack program (resume program at response)
  unfolding resume
  stays_back sites = (known sites).back

pub starts_within : (program : SharedProgram) (limits : Limits) → HasSites program → Stays program (started_standing program.program limits)
starts_within program limits sites =
    subst (λ f. f ≤ program.program.main_functions) (sym (main_function program.program (function_at program.program program.program.main))) (is_main program.program sites.valid).of_main_file
