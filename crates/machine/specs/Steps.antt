-- What the steps of both sides share.
use Rattle.std.specs.Prelude.{ℕ, Bool, true, false, List, [], Option, Some, None, map}
use Rattle.srmt_base.specs.declared.side.Side.{Side}
use Rattle.verdicts.specs.declared.thread_end.ThreadEnd.TheVariants.{Trap}
use Rattle.mid_code.specs.declared.mid.Mid.{Mid}
use Rattle.mid_code.specs.declared.version.VersionOp.{VersionOp}
use Rattle.mid_code.specs.declared.version.VersionOp.TheVariants.{Copied, SharedLoad, SharedStore, SharedOpen, SharedClose, Ask, Await, Act, Enter, Callback, Check, CheckZero, CheckStored, Ack, Take, TakeDone, CheckOpen, CheckClose, End}
use Rattle.mid_code.specs.declared.version.VersionLine.{VersionLine}
use Rattle.mid_code.specs.Classes.{SharedProgram}
use Rattle.mid_code.specs.Machine.{register, local_of, act}
use Rattle.mid_code.specs.Versions.{version_at}
pub use Rattle.frames.specs.Copied.{versions_of}
use Rattle.world.specs.World.{WorldState}
use Rattle.world.specs.Standing.{passed_on as passes}
use Rattle.world.specs.Requests.{Wants, Runs, Dies, Requests, Lost, wants_alone}
use Rattle.machine.specs.Side.{SideState, Outcome, Went, Ended, StepGives}

-- the instruction at which a side stands
abbrev pub side_op : Side → SharedProgram → SideState → Option VersionLine
side_op side program s = version_at (versions_of side program) s.at.machine.top.function s.at.machine.top.place

-- whether a step takes a word
abbrev pub takes : VersionOp → Bool
takes (Copied mid) = false
takes (SharedLoad site target pointer) = false
takes (SharedStore site pointer source) = false
takes (SharedOpen site target cells) = false
takes (SharedClose site) = false
takes (Ask site operands) = false
takes (Await site operands) = true
takes (Act site request target function operands) = false
takes (Enter callee ty target place args) = false
takes (Callback function) = false
takes (Check site source) = true
takes (CheckZero site) = true
takes (CheckStored site source) = true
takes (Ack site operands) = false
takes (Take site target) = true
takes (TakeDone site) = true
takes (CheckOpen site target cells) = true
takes (CheckClose site) = true
takes (End source) = false

-- whether a step may send words
abbrev pub may_send : VersionOp → Bool
may_send (Copied mid) = false
may_send (SharedLoad site target pointer) = true
may_send (SharedStore site pointer source) = true
may_send (SharedOpen site target cells) = true
may_send (SharedClose site) = true
may_send (Ask site operands) = true
may_send (Await site operands) = false
may_send (Act site request target function operands) = true
may_send (Enter callee ty target place args) = false
may_send (Callback function) = false
may_send (Check site source) = false
may_send (CheckZero site) = false
may_send (CheckStored site source) = false
may_send (Ack site operands) = true
may_send (Take site target) = false
may_send (TakeDone site) = false
may_send (CheckOpen site target cells) = false
may_send (CheckClose site) = false
may_send (End source) = false

abbrev pub takes_at : Option VersionLine → Bool
takes_at None = false
takes_at (Some l) = takes l.op

abbrev pub may_send_at : Option VersionLine → Bool
may_send_at None = false
may_send_at (Some l) = may_send l.op

-- for how many words a step that may send wants room, and how many it sends at most
abbrev pub step_room : ℕ
step_room = 18

-- what a register holds, and what the operands of an exchange hold
abbrev pub holds : SideState → ℕ → ℕ
holds s r = register s.at.machine.top r

abbrev pub operands : SideState → List ℕ → List ℕ
operands s args = map (holds s) args

-- the side has passed its instruction
abbrev pub passed_on : SideState → SideState
passed_on s = record { at = passes s.at; heard = [] }

-- an instruction that both sides perform, by what it wants; none of them asks or is lost
abbrev pub performed : Wants → SideState → Outcome
performed (Runs next) s = Went (record { at = next; heard = [] })
performed (Dies words trap line) s = Ended (Trap trap line)
performed (Requests request) s = Went s
performed (Lost words) s = Went s

-- what an instruction that both sides perform wants where the side stands
abbrev pub wanted : SharedProgram → Mid → ℕ → SideState → Wants
wanted program mid line s = wants_alone program (act program.program mid line (local_of program.program s.at.machine)) s.at

-- a step that reaches neither the other side nor the world
abbrev pub quiet : WorldState → Outcome → StepGives
quiet w outcome = record { outcome = outcome; sent = []; world = w; events = [] }

-- a step that sends words, and goes on
abbrev pub sends : WorldState → SideState → List ℕ → StepGives
sends w s words = record { outcome = Went (passed_on s); sent = words; world = w; events = [] }

-- a row of a table for an instruction that stands in no version of this side, or in none of a program of the first form
abbrev pub stays : WorldState → SideState → StepGives
stays w s = quiet w (Went s)
