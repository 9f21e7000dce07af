-- One step of the trailing side.
use Rattle.std.specs.Prelude.{ℕ, Option, Some, None, ◌==◌, ◌%◌, if◌then◌else◌}
use Rattle.srmt_base.specs.declared.side.Side.TheVariants.{Trail}
use Rattle.srmt_base.specs.declared.word.Kind.TheVariants.{Check as CheckKind}
use Rattle.srmt_base.specs.Word.{word_of}
use Rattle.mid_code.specs.declared.version.VersionOp.{VersionOp}
use Rattle.mid_code.specs.declared.version.VersionOp.TheVariants.{Copied, SharedLoad, SharedStore, SharedOpen, SharedClose, Ask, Await, Act, Enter, Callback, Check, CheckZero, CheckStored, Ack, Take, TakeDone, CheckOpen, CheckClose, End}
use Rattle.mid_code.specs.declared.version.VersionLine.{VersionLine}
use Rattle.mid_code.specs.Classes.{SharedProgram}
use Rattle.mid_code.specs.Versions.{operands_list}
use Rattle.word_stream.specs.Exchange.{ack_words}
use Rattle.world.specs.World.{WorldState}
use Rattle.verdicts.specs.declared.thread_end.ThreadEnd.TheVariants.{Exit as ExitEnd, Mismatch, PeerEnded}
use Rattle.machine.specs.Side.{SideState, Meet, Plain, Got, Closed, Failed, Outcome, Went, Ended, StepGives}
use Rattle.machine.specs.Steps.{side_op, holds, operands, passed_on, wanted, performed, quiet, sends, stays}

-- a CHECK, by what it meets: a word that differs from the side's own in kind, site or value ends it
abbrev pub checks : Meet → ℕ → SideState → Outcome
checks (Got word) own s = (if word == own then Went (passed_on s) else Ended (Mismatch word own))
checks Closed own s = Ended PeerEnded
checks Plain own s = Went s
checks (Failed written) own s = Went s

-- what an instruction of the trailing version does, one case for each
abbrev pub trail_op : SharedProgram → VersionOp → ℕ → SideState → WorldState → Meet → StepGives
trail_op program (Copied mid) line s w meet = quiet w (performed (wanted program mid line s) s)
trail_op program (SharedLoad site target pointer) line s w meet = stays w s
trail_op program (SharedStore site pointer source) line s w meet = stays w s
trail_op program (SharedOpen site target cells) line s w meet = stays w s
trail_op program (SharedClose site) line s w meet = stays w s
trail_op program (Ask site args) line s w meet = stays w s
trail_op program (Await site args) line s w meet = stays w s
trail_op program (Act site request target function args) line s w meet = stays w s
trail_op program (Enter callee ty target place args) line s w meet = stays w s
trail_op program (Callback function) line s w meet = stays w s
trail_op program (Check site source) line s w meet = quiet w (checks meet (word_of CheckKind site.0 (holds s source)) s)
trail_op program (CheckZero site) line s w meet = stays w s
trail_op program (CheckStored site source) line s w meet = stays w s
trail_op program (Ack site args) line s w meet = sends w s (ack_words site.0 (operands s (operands_list args)))
trail_op program (Take site target) line s w meet = stays w s
trail_op program (TakeDone site) line s w meet = stays w s
trail_op program (CheckOpen site target cells) line s w meet = stays w s
trail_op program (CheckClose site) line s w meet = stays w s
trail_op program (End source) line s w meet = quiet w (Ended (ExitEnd (holds s source % 256)))

abbrev pub trail_at : SharedProgram → Option VersionLine → SideState → WorldState → Meet → StepGives
trail_at program None s w meet = stays w s
trail_at program (Some l) s w meet = trail_op program l.op l.line s w meet

-- one step of the trailing side, with what it meets; the world is the leading side's, and stays
unfoldable pub trail_next : SharedProgram → SideState → WorldState → Meet → StepGives
trail_next program s w meet = trail_at program (side_op Trail program s) s w meet
