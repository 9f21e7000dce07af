-- Where an instruction leads: one case for each instruction.
pub use Rattle.mid_code.specs.declared.way.Way.{Way}
pub use Rattle.mid_code.specs.declared.way.Way.TheVariants.{Next, Counts, Begins, Ends, Jumps, Branches, Returns, Stops}
use Rattle.mid_code.specs.declared.mid.Mid.{Mid}
use Rattle.mid_code.specs.declared.mid.Mid.TheVariants.{Const, Move, Arith, Conv, PtrAdd, PtrDiff, PtrCmp, GlobAddr, FunAddr, Load, Store, VLoad, VStore, Open, Close, Jump, JumpZ, JumpN, Turn, Call, CallPtr, Return, Put, Get, Exit}
use Rattle.std.specs.Prelude.{Bool, true, false}

abbrev pub way_of : Mid → Way
way_of (Const target value) = Next
way_of (Move target source) = Next
way_of (Arith op ty target left right) = Next
way_of (Conv from to target source) = Next
way_of (PtrAdd target pointer index ty negated scale) = Next
way_of (PtrDiff target left right scale) = Next
way_of (PtrCmp op target left right) = Next
way_of (GlobAddr target object) = Next
way_of (FunAddr target function) = Next
way_of (Load target pointer) = Next
way_of (Store pointer source) = Next
way_of (VLoad target pointer) = Next
way_of (VStore pointer source) = Next
way_of (Open target cells) = Begins
way_of (Close place) = Ends place
way_of (Jump place) = Jumps place
way_of (JumpZ source place) = Branches place
way_of (JumpN source place) = Branches place
way_of Turn = Counts
way_of (Call target function args) = Next
way_of (CallPtr target callee ty args) = Next
way_of (Return source) = Returns
way_of (Put source) = Next
way_of (Get target) = Next
way_of (Exit source) = Stops

-- nothing follows it in its function
abbrev pub is_final_way : Way → Bool
is_final_way Next = false
is_final_way Counts = false
is_final_way Begins = false
is_final_way (Ends place) = false
is_final_way (Jumps place) = true
is_final_way (Branches place) = false
is_final_way Returns = true
is_final_way Stops = true

abbrev pub is_final : Mid → Bool
is_final mid = is_final_way (way_of mid)

-- it counts a turn
abbrev pub is_counting : Way → Bool
is_counting Next = false
is_counting Counts = true
is_counting Begins = false
is_counting (Ends place) = false
is_counting (Jumps place) = false
is_counting (Branches place) = false
is_counting Returns = false
is_counting Stops = false

abbrev pub counts_turn : Mid → Bool
counts_turn mid = is_counting (way_of mid)

-- it begins an object
abbrev pub is_beginning : Way → Bool
is_beginning Next = false
is_beginning Counts = false
is_beginning Begins = true
is_beginning (Ends place) = false
is_beginning (Jumps place) = false
is_beginning (Branches place) = false
is_beginning Returns = false
is_beginning Stops = false

abbrev pub begins_object : Mid → Bool
begins_object mid = is_beginning (way_of mid)
