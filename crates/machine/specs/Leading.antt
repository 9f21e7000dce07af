-- One step of the leading side.
use Rattle.std.specs.Prelude.{ℕ, Bool, true, false, List, [], ◌∷◌, ◌++◌, Option, Some, None, length, take, slice_index, nat_lt, ◌==◌, ◌%◌, if◌then◌else◌}
use Rattle.srmt_base.specs.declared.side.Side.TheVariants.{Lead}
use Rattle.srmt_base.specs.declared.word.Site.{Site}
use Rattle.srmt_base.specs.declared.request_kind.RequestKind.{RequestKind}
use Rattle.mid_code.specs.declared.version.VersionOp.{VersionOp}
use Rattle.mid_code.specs.declared.version.VersionOp.TheVariants.{Copied, SharedLoad, SharedStore, SharedOpen, SharedClose, Ask, Await, Act, Enter, Callback, Check, CheckZero, CheckStored, Ack, Take, TakeDone, CheckOpen, CheckClose, End}
use Rattle.mid_code.specs.declared.version.VersionLine.{VersionLine}
use Rattle.mid_code.specs.Classes.{SharedProgram}
use Rattle.mid_code.specs.Versions.{operands_list}
use Rattle.word_stream.specs.declared.request.Request.{Request}
use Rattle.word_stream.specs.declared.request.Request.TheVariants.{Put, Exit}
use Rattle.word_stream.specs.declared.request.Response.{Response}
use Rattle.word_stream.specs.Reading.{request_of}
use Rattle.word_stream.specs.Exchange.{check_words, ack_words, response_words}
use Rattle.world.specs.World.{WorldState, Over, Asked, ask}
use Rattle.verdicts.specs.declared.thread_end.ThreadEnd.TheVariants.{Exit as ExitEnd, Echo, PeerEnded, WriteFault}
use Rattle.machine.specs.Side.{SideState, Meet, Plain, Got, Closed, Failed, Outcome, Went, Ended, StepGives}
use Rattle.machine.specs.Steps.{side_op, operands, passed_on, wanted, performed, quiet, sends, stays}

-- the acknowledgements are compared in order with the side's own, and the first that differs in
-- kind, site or value ends it
abbrev pub compared : List ℕ → List ℕ → SideState → Outcome
compared [] own s = Went (passed_on s)
compared (word ∷ words) [] s = Went (passed_on s)
compared (word ∷ words) (mine ∷ own) s = (if word == mine then compared words own s else Ended (Echo word mine))

-- more acknowledgements are to come, or all are there
abbrev pub heard_by : Bool → List ℕ → List ℕ → SideState → Outcome
heard_by true words own s = Went (record s { heard = words })
heard_by false words own s = compared words own s

-- an AWAIT, by what it meets; its own acknowledgements are those of the registers as they are now
abbrev pub awaits : Meet → List ℕ → SideState → Outcome
awaits (Got word) own s = let words = s.heard ++ word ∷ [] in heard_by (nat_lt (length words) (length own)) words own s
awaits Closed own s = Ended PeerEnded
awaits Plain own s = Went s
awaits (Failed written) own s = Went s

-- how the side goes on after the world has answered
abbrev pub answered : Request → Response → SideState → Outcome
answered (Put site value) response s = Went (passed_on s)
answered (Exit site value) response s = Ended (ExitEnd (value % 256))

-- an ACT, by what it meets
abbrev pub acts : Meet → Request → Asked → SideState → WorldState → StepGives
acts (Failed written) request asked s w = record { outcome = Ended WriteFault; sent = []; world = Over; events = take written asked.events }
acts Plain request asked s w = record {
  outcome = answered request asked.response s;
  sent = response_words request asked.response;
  world = asked.world;
  events = asked.events;
}
acts (Got word) request asked s w = stays w s
acts Closed request asked s w = stays w s

-- the request that an ACT makes of its operands; a kind that nothing asks yet stands in no version
abbrev pub acts_by : Option Request → Meet → SideState → WorldState → StepGives
acts_by None meet s w = stays w s
acts_by (Some request) meet s w = acts meet request (ask w request) s w

abbrev pub act_request : RequestKind → Site → List ℕ → Option Request
act_request request site values = request_of request site (slice_index values 0)

-- what an instruction of the leading version does, one case for each
abbrev pub lead_op : SharedProgram → VersionOp → ℕ → SideState → WorldState → Meet → StepGives
lead_op program (Copied mid) line s w meet = quiet w (performed (wanted program mid line s) s)
lead_op program (SharedLoad site target pointer) line s w meet = stays w s
lead_op program (SharedStore site pointer source) line s w meet = stays w s
lead_op program (SharedOpen site target cells) line s w meet = stays w s
lead_op program (SharedClose site) line s w meet = stays w s
lead_op program (Ask site args) line s w meet = sends w s (check_words site.0 (operands s (operands_list args)))
lead_op program (Await site args) line s w meet = quiet w (awaits meet (ack_words site.0 (operands s (operands_list args))) s)
lead_op program (Act site request target function args) line s w meet = acts_by (act_request request site (operands s (operands_list args))) meet s w
lead_op program (Enter callee ty target place args) line s w meet = stays w s
lead_op program (Callback function) line s w meet = stays w s
lead_op program (Check site source) line s w meet = stays w s
lead_op program (CheckZero site) line s w meet = stays w s
lead_op program (CheckStored site source) line s w meet = stays w s
lead_op program (Ack site args) line s w meet = stays w s
lead_op program (Take site target) line s w meet = stays w s
lead_op program (TakeDone site) line s w meet = stays w s
lead_op program (CheckOpen site target cells) line s w meet = stays w s
lead_op program (CheckClose site) line s w meet = stays w s
lead_op program (End source) line s w meet = stays w s

abbrev pub lead_at : SharedProgram → Option VersionLine → SideState → WorldState → Meet → StepGives
lead_at program None s w meet = stays w s
lead_at program (Some l) s w meet = lead_op program l.op l.line s w meet

-- one step of the leading side, with the world as it is and what the step meets
unfoldable pub lead_next : SharedProgram → SideState → WorldState → Meet → StepGives
lead_next program s w meet = lead_at program (side_op Lead program s) s w meet
