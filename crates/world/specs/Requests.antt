-- What a run of the protected functions wants of the world at its next instruction.
use Rattle.std.specs.Prelude.{ℕ, zero, suc, ◌%◌, List, [], Option, Some, None, slice_get, option_and_then}
use Rattle.srmt_base.specs.declared.trap.Trap.{Trap}
use Rattle.srmt_base.specs.declared.trap.SourceEnd.{SourceEnd}
use Rattle.srmt_base.specs.declared.trap.SourceEnd.TheVariants.{Exit as ExitEnd}
use Rattle.srmt_base.specs.declared.word.Site.{Site}
use Rattle.mid_code.specs.declared.class.Class.{Class}
use Rattle.mid_code.specs.declared.class.Class.TheVariants.{Repeatable, NonRepeatable, FailStop}
use Rattle.mid_code.specs.declared.mid.Mid.{Mid}
use Rattle.mid_code.specs.declared.mid.Mid.TheVariants.{Const, Move, Arith, Conv, PtrAdd, PtrDiff, PtrCmp, GlobAddr, FunAddr, Load, Store, VLoad, VStore, Open, Close, Jump, JumpZ, JumpN, Turn, Call, CallPtr, Return, Put as PutMid, Get, Exit as ExitMid}
use Rattle.mid_code.specs.declared.program.MidLine.{MidLine}
use Rattle.mid_code.specs.Program.{line_at}
use Rattle.mid_code.specs.Classes.{SharedProgram, classes_of}
use Rattle.mid_code.specs.Machine.{Activation, Machine, Does, Goes, Calls, Leaves, Traps, Reaches, Lost as Nowhere, Entry, Entered, Refused, NoFunction, register, local_of, with_local, waiting, enter, returned, does}
use Rattle.word_stream.specs.declared.request.Request.{Request}
use Rattle.word_stream.specs.declared.request.Request.TheVariants.{Put, Exit}
use Rattle.word_stream.specs.declared.request.Response.{Response}
use Rattle.world.specs.Standing.{Standing, passed_on}

-- the class of the instruction at a place of a protected function; the first function is 1
abbrev pub class_in : SharedProgram → ℕ → ℕ → Option Class
class_in program zero place = None
class_in program (suc before) place = option_and_then (λ cs. slice_get cs place) (slice_get (classes_of program) before)

-- what an instruction asks that one thread performs alone, by its registers: one case for each. A pair
-- has programs of the first form alone yet, and none of the others asks anything
abbrev pub asked_by : Site → Mid → Activation → Option Request
asked_by site (Const target value) a = None
asked_by site (Move target source) a = None
asked_by site (Arith op ty target left right) a = None
asked_by site (Conv from to target source) a = None
asked_by site (PtrAdd target pointer index ty negated scale) a = None
asked_by site (PtrDiff target left right scale) a = None
asked_by site (PtrCmp op target left right) a = None
asked_by site (GlobAddr target object) a = None
asked_by site (FunAddr target function) a = None
asked_by site (Load target pointer) a = None
asked_by site (Store pointer source) a = None
asked_by site (VLoad target pointer) a = None
asked_by site (VStore pointer source) a = None
asked_by site (Open target cells) a = None
asked_by site (Close place) a = None
asked_by site (Jump place) a = None
asked_by site (JumpZ source place) a = None
asked_by site (JumpN source place) a = None
asked_by site Turn a = None
asked_by site (Call target function args) a = None
asked_by site (CallPtr target callee ty args) a = None
asked_by site (Return source) a = None
asked_by site (PutMid source) a = Some (Put site (register a source))
asked_by site (Get target) a = None
asked_by site (ExitMid source) a = Some (Exit site (register a source))

abbrev pub asked_at : Site → Option MidLine → Activation → Option Request
asked_at site None a = None
asked_at site (Some l) a = asked_by site l.mid a

abbrev pub asked_as : Option Class → Option MidLine → Activation → Option Request
asked_as None line a = None
asked_as (Some Repeatable) line a = None
asked_as (Some (NonRepeatable site)) line a = asked_at site line a
asked_as (Some (FailStop site)) line a = asked_at site line a

-- what the next instruction asks of the world, by the instruction and its registers alone
abbrev pub request_of_top : SharedProgram → Activation → Option Request
request_of_top program a = asked_as (class_in program a.function a.place) (line_at program.program a.function a.place) a

unfoldable pub request_at : SharedProgram → Standing → Option Request
request_at program at = request_of_top program at.machine.top

-- what the next instruction comes to
pub data Wants : Type 0 where
  -- it needs nothing of the world, and the run goes on from here
  Runs : (next : Standing) → Wants
  -- it stops the run, at this line, once these words were sent
  Dies : (words : List ℕ) (trap : Trap) (line : ℕ) → Wants
  -- it asks the world
  Requests : (request : Request) → Wants
  -- there is no way on, once these words were sent
  Lost : (words : List ℕ) → Wants

-- a protected function is entered or left
abbrev pub wants_entry : Entry → Standing → Wants
wants_entry (Entered machine) at = Runs (record at { machine = machine })
wants_entry (Refused trap line) at = Dies [] trap line
wants_entry NoFunction at = Lost []

abbrev pub wants_return : Option Machine → Standing → Wants
wants_return (Some machine) at = Runs (record at { machine = machine })
wants_return None at = Lost []

-- what an instruction wants that asks nothing. None of the first form reaches memory
abbrev pub wants_alone : SharedProgram → Does → Standing → Wants
wants_alone program (Goes local) at = Runs (record at { machine = with_local program.program local at.machine })
wants_alone program (Calls function args target) at = wants_entry (enter program.program function args target (waiting at.machine) at.machine.budgets) at
wants_alone program (Leaves value) at = wants_return (returned program.program value at.machine) at
wants_alone program (Traps trap line) at = Dies [] trap line
wants_alone program (Reaches access line) at = Lost []
wants_alone program Nowhere at = Lost []

abbrev pub wants_by : SharedProgram → Option Request → Does → Standing → Wants
wants_by program (Some request) d at = Requests request
wants_by program None d at = wants_alone program d at

unfoldable pub wants : SharedProgram → Standing → Wants
wants program at = wants_by program (request_of_top program at.machine.top) (does program.program (local_of program.program at.machine)) at

-- how a run goes on once the world has answered
pub data Resumed : Type 0 where
  Back : (at : Standing) → Resumed
  Over : (end : SourceEnd) → Resumed

-- one case for each request; a run that asks nothing stays
abbrev pub resumed : Option Request → Standing → Response → Resumed
resumed None at response = Back at
resumed (Some (Put site value)) at response = Back (passed_on at)
resumed (Some (Exit site value)) at response = Over (ExitEnd (value % 256))

unfoldable pub resume : SharedProgram → Standing → Response → Resumed
resume program at response = resumed (request_of_top program at.machine.top) at response
