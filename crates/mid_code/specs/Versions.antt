-- The versions of the protected functions that the two threads run.
--
-- Each instruction of middle code becomes a group of version instructions. What both threads perform is copied, with
-- its places moved. Otherwise the leading thread performs it, and the trailing thread compares the operands, and takes
-- the answer.
use Rattle.std.specs.Prelude.{ℕ, zero, suc, ◌+◌, List, [], ◌∷◌, ◌++◌, length, Option, Some, None, slice_get, option_and_then}
use Rattle.srmt_base.specs.declared.word.Site.{Site}
use Rattle.srmt_base.specs.declared.request_kind.RequestKind.{RequestKind}
use Rattle.srmt_base.specs.declared.request_kind.RequestKind.TheVariants.{VLoad as AsksVLoad, VStore as AsksVStore, Put as AsksPut, Get as AsksGet, Exit as AsksExit, Call as AsksCall}
use Rattle.mid_code.specs.declared.class.Class.{Class}
use Rattle.mid_code.specs.declared.class.Class.TheVariants.{Repeatable, NonRepeatable, FailStop}
use Rattle.mid_code.specs.declared.mid.Mid.{Mid}
use Rattle.mid_code.specs.declared.mid.Mid.TheVariants.{Const, Move, Arith, Conv, PtrAdd, PtrDiff, PtrCmp, GlobAddr, FunAddr, Load, Store, VLoad, VStore, Open, Close, Jump, JumpZ, JumpN, Turn, Call, CallPtr, Return, Put, Get, Exit}
use Rattle.mid_code.specs.declared.program.MidLine.{MidLine}
use Rattle.mid_code.specs.declared.program.MidFunction.{MidFunction}
pub use Rattle.mid_code.specs.declared.version.Operands.{Operands}
use Rattle.mid_code.specs.declared.version.Operands.TheVariants.{Nothing, One, Two, Passed, Called}
use Rattle.mid_code.specs.declared.version.VersionOp.{VersionOp}
use Rattle.mid_code.specs.declared.version.VersionOp.TheVariants.{Copied, SharedLoad, SharedStore, SharedOpen, SharedClose, Ask, Await, Act, Enter, Check, CheckZero, CheckStored, Ack, Take, TakeDone, CheckOpen, CheckClose, End}
use Rattle.mid_code.specs.declared.version.VersionLine.{VersionLine}
use Rattle.mid_code.specs.declared.version.Version.{Version}
use Rattle.mid_code.specs.Registers.{registers_list}
use Rattle.mid_code.specs.Classes.{SharedProgram, protected_functions, classes_of}

abbrev pub operands_list : Operands → List ℕ
operands_list Nothing = []
operands_list (One first) = first ∷ []
operands_list (Two first second) = first ∷ second ∷ []
operands_list (Passed args) = registers_list args
operands_list (Called callee args) = callee ∷ registers_list args

-- an instruction with its places moved
abbrev pub moved_mid : (ℕ → ℕ) → Mid → Mid
moved_mid moved (Const target value) = Const target value
moved_mid moved (Move target source) = Move target source
moved_mid moved (Arith op ty target left right) = Arith op ty target left right
moved_mid moved (Conv from to target source) = Conv from to target source
moved_mid moved (PtrAdd target pointer index ty negated scale) = PtrAdd target pointer index ty negated scale
moved_mid moved (PtrDiff target left right scale) = PtrDiff target left right scale
moved_mid moved (PtrCmp op target left right) = PtrCmp op target left right
moved_mid moved (GlobAddr target object) = GlobAddr target object
moved_mid moved (FunAddr target function) = FunAddr target function
moved_mid moved (Load target pointer) = Load target pointer
moved_mid moved (Store pointer source) = Store pointer source
moved_mid moved (VLoad target pointer) = VLoad target pointer
moved_mid moved (VStore pointer source) = VStore pointer source
moved_mid moved (Open target cells) = Open target cells
moved_mid moved (Close place) = Close (moved place)
moved_mid moved (Jump place) = Jump (moved place)
moved_mid moved (JumpZ source place) = JumpZ source (moved place)
moved_mid moved (JumpN source place) = JumpN source (moved place)
moved_mid moved Turn = Turn
moved_mid moved (Call target function args) = Call target function args
moved_mid moved (CallPtr target callee ty args) = CallPtr target callee ty args
moved_mid moved (Return source) = Return source
moved_mid moved (Put source) = Put source
moved_mid moved (Get target) = Get target
moved_mid moved (Exit source) = Exit source

-- the instructions of a fail-stop exchange in the leading thread
abbrev pub asked : Site → RequestKind → Option ℕ → Option ℕ → Operands → List VersionOp
asked site request target function operands = Ask site operands ∷ Await site operands ∷ Act site request target function operands ∷ []

-- a comparison for each operand, or one of 0 where there is none
abbrev pub checks : Site → List ℕ → List VersionOp
checks site [] = CheckZero site ∷ []
checks site (r ∷ []) = Check site r ∷ []
checks site (r ∷ s ∷ rs) = Check site r ∷ checks site (s ∷ rs)

-- the comparisons of a fail-stop exchange, and their acknowledgement
abbrev pub checked : Site → Operands → List VersionOp
checked site operands = checks site (operands_list operands) ++ Ack site operands ∷ []

-- what takes the place of an instruction that has a site in the leading thread's version, where a call goes on at
-- the place `behind`. One that has none is copied
module _ (behind : ℕ) (site : Site) where
  abbrev pub leading_exchange : Mid → List VersionOp
  leading_exchange (Const target value) = Copied (Const target value) ∷ []
  leading_exchange (Move target source) = Copied (Move target source) ∷ []
  leading_exchange (Arith op ty target left right) = Copied (Arith op ty target left right) ∷ []
  leading_exchange (Conv from to target source) = Copied (Conv from to target source) ∷ []
  leading_exchange (PtrAdd target pointer index ty negated scale) = Copied (PtrAdd target pointer index ty negated scale) ∷ []
  leading_exchange (PtrDiff target left right scale) = Copied (PtrDiff target left right scale) ∷ []
  leading_exchange (PtrCmp op target left right) = Copied (PtrCmp op target left right) ∷ []
  leading_exchange (GlobAddr target object) = Copied (GlobAddr target object) ∷ []
  leading_exchange (FunAddr target function) = Copied (FunAddr target function) ∷ []
  leading_exchange (Load target pointer) = SharedLoad site target pointer ∷ []
  leading_exchange (Store pointer source) = SharedStore site pointer source ∷ []
  leading_exchange (VLoad target pointer) = asked site AsksVLoad (Some target) None (One pointer)
  leading_exchange (VStore pointer source) = asked site AsksVStore None None (Two pointer source)
  leading_exchange (Open target cells) = SharedOpen site target cells ∷ []
  leading_exchange (Close place) = SharedClose site ∷ []
  leading_exchange (Jump place) = Copied (Jump place) ∷ []
  leading_exchange (JumpZ source place) = Copied (JumpZ source place) ∷ []
  leading_exchange (JumpN source place) = Copied (JumpN source place) ∷ []
  leading_exchange Turn = Copied Turn ∷ []
  leading_exchange (Call target function args) = asked site AsksCall (Some target) (Some function) (Passed args)
  leading_exchange (CallPtr target callee ty args) = Enter callee ty target behind args ∷ asked site AsksCall (Some target) None (Called callee args)
  leading_exchange (Return source) = Copied (Return source) ∷ []
  leading_exchange (Put source) = asked site AsksPut None None (One source)
  leading_exchange (Get target) = asked site AsksGet (Some target) None Nothing
  leading_exchange (Exit source) = asked site AsksExit None None (One source)

  -- and in the trailing thread's
  abbrev pub trailing_exchange : Mid → List VersionOp
  trailing_exchange (Const target value) = Copied (Const target value) ∷ []
  trailing_exchange (Move target source) = Copied (Move target source) ∷ []
  trailing_exchange (Arith op ty target left right) = Copied (Arith op ty target left right) ∷ []
  trailing_exchange (Conv from to target source) = Copied (Conv from to target source) ∷ []
  trailing_exchange (PtrAdd target pointer index ty negated scale) = Copied (PtrAdd target pointer index ty negated scale) ∷ []
  trailing_exchange (PtrDiff target left right scale) = Copied (PtrDiff target left right scale) ∷ []
  trailing_exchange (PtrCmp op target left right) = Copied (PtrCmp op target left right) ∷ []
  trailing_exchange (GlobAddr target object) = Copied (GlobAddr target object) ∷ []
  trailing_exchange (FunAddr target function) = Copied (FunAddr target function) ∷ []
  trailing_exchange (Load target pointer) = Check site pointer ∷ Take site (Some target) ∷ []
  trailing_exchange (Store pointer source) = Check site pointer ∷ CheckStored site source ∷ []
  trailing_exchange (VLoad target pointer) = checked site (One pointer) ++ Take site (Some target) ∷ []
  trailing_exchange (VStore pointer source) = checked site (Two pointer source) ++ TakeDone site ∷ []
  trailing_exchange (Open target cells) = CheckOpen site target cells ∷ []
  trailing_exchange (Close place) = CheckClose site ∷ []
  trailing_exchange (Jump place) = Copied (Jump place) ∷ []
  trailing_exchange (JumpZ source place) = Copied (JumpZ source place) ∷ []
  trailing_exchange (JumpN source place) = Copied (JumpN source place) ∷ []
  trailing_exchange Turn = Copied Turn ∷ []
  trailing_exchange (Call target function args) = checked site (Passed args) ++ Take site (Some target) ∷ []
  trailing_exchange (CallPtr target callee ty args) = Enter callee ty target behind args ∷ checked site (Called callee args) ++ Take site (Some target) ∷ []
  trailing_exchange (Return source) = Copied (Return source) ∷ []
  trailing_exchange (Put source) = checked site (One source)
  trailing_exchange (Get target) = checked site Nothing ++ Take site (Some target) ∷ []
  trailing_exchange (Exit source) = checked site (One source) ++ End source ∷ []

-- how many version instructions such a group has
abbrev pub leading_exchange_size : Mid → ℕ
leading_exchange_size (Const target value) = 1
leading_exchange_size (Move target source) = 1
leading_exchange_size (Arith op ty target left right) = 1
leading_exchange_size (Conv from to target source) = 1
leading_exchange_size (PtrAdd target pointer index ty negated scale) = 1
leading_exchange_size (PtrDiff target left right scale) = 1
leading_exchange_size (PtrCmp op target left right) = 1
leading_exchange_size (GlobAddr target object) = 1
leading_exchange_size (FunAddr target function) = 1
leading_exchange_size (Load target pointer) = 1
leading_exchange_size (Store pointer source) = 1
leading_exchange_size (VLoad target pointer) = 3
leading_exchange_size (VStore pointer source) = 3
leading_exchange_size (Open target cells) = 1
leading_exchange_size (Close place) = 1
leading_exchange_size (Jump place) = 1
leading_exchange_size (JumpZ source place) = 1
leading_exchange_size (JumpN source place) = 1
leading_exchange_size Turn = 1
leading_exchange_size (Call target function args) = 3
leading_exchange_size (CallPtr target callee ty args) = 4
leading_exchange_size (Return source) = 1
leading_exchange_size (Put source) = 3
leading_exchange_size (Get target) = 3
leading_exchange_size (Exit source) = 3

abbrev pub check_count : List ℕ → ℕ
check_count [] = 1
check_count (r ∷ rs) = suc (length rs)

abbrev pub trailing_exchange_size : Mid → ℕ
trailing_exchange_size (Const target value) = 1
trailing_exchange_size (Move target source) = 1
trailing_exchange_size (Arith op ty target left right) = 1
trailing_exchange_size (Conv from to target source) = 1
trailing_exchange_size (PtrAdd target pointer index ty negated scale) = 1
trailing_exchange_size (PtrDiff target left right scale) = 1
trailing_exchange_size (PtrCmp op target left right) = 1
trailing_exchange_size (GlobAddr target object) = 1
trailing_exchange_size (FunAddr target function) = 1
trailing_exchange_size (Load target pointer) = 2
trailing_exchange_size (Store pointer source) = 2
trailing_exchange_size (VLoad target pointer) = 3
trailing_exchange_size (VStore pointer source) = 4
trailing_exchange_size (Open target cells) = 1
trailing_exchange_size (Close place) = 1
trailing_exchange_size (Jump place) = 1
trailing_exchange_size (JumpZ source place) = 1
trailing_exchange_size (JumpN source place) = 1
trailing_exchange_size Turn = 1
trailing_exchange_size (Call target function args) = check_count (registers_list args) + 2
trailing_exchange_size (CallPtr target callee ty args) = length (registers_list args) + 4
trailing_exchange_size (Return source) = 1
trailing_exchange_size (Put source) = 2
trailing_exchange_size (Get target) = 3
trailing_exchange_size (Exit source) = 3

-- a table of versions: the groups of instructions with a site, and their sizes
pub record Table : Type 0 where
  pub group : ℕ → Site → Mid → List VersionOp
  pub size : Mid → ℕ

abbrev pub leading : Table
leading = record { group = leading_exchange; size = leading_exchange_size }

abbrev pub trailing : Table
trailing = record { group = trailing_exchange; size = trailing_exchange_size }

-- each instruction of a group has the line of its middle instruction
abbrev pub with_line : ℕ → List VersionOp → List VersionLine
with_line line [] = []
with_line line (op ∷ ops) = record { line = line; op = op } ∷ with_line line ops

module _ (table : Table) where
  -- how many version instructions take the place of an instruction of a class: it does not depend on places
  abbrev pub size_of : Class → Mid → ℕ
  size_of Repeatable mid = 1
  size_of (NonRepeatable site) mid = table.size mid
  size_of (FailStop site) mid = table.size mid

  -- the place in a version of a place of the code: the sum of the sizes before it
  abbrev pub place_in : List Class → List MidLine → ℕ → ℕ
  place_in cs ls zero = 0
  place_in [] ls (suc place) = 0
  place_in (c ∷ cs) [] (suc place) = 0
  place_in (c ∷ cs) (l ∷ ls) (suc place) = size_of c l.mid + place_in cs ls place

  -- the group of the instruction at a place, where places are moved so
  abbrev pub group_of : (ℕ → ℕ) → ℕ → Class → Mid → List VersionOp
  group_of moved place Repeatable mid = Copied (moved_mid moved mid) ∷ []
  group_of moved place (NonRepeatable site) mid = table.group (moved (place + 1)) site mid
  group_of moved place (FailStop site) mid = table.group (moved (place + 1)) site mid

  -- the groups of a function's instructions, one after another
  abbrev pub groups_from : (ℕ → ℕ) → ℕ → List Class → List MidLine → List VersionLine
  groups_from moved place [] ls = []
  groups_from moved place (c ∷ cs) [] = []
  groups_from moved place (c ∷ cs) (l ∷ ls) = with_line l.line (group_of moved place c l.mid) ++ groups_from moved (place + 1) cs ls

  -- a function's version
  abbrev pub version_of : List Class → MidFunction → Version
  version_of cs f = record { code = groups_from (place_in cs f.code) 0 cs f.code }

  abbrev pub versions_from : List (List Class) → List MidFunction → List Version
  versions_from [] fs = []
  versions_from (cs ∷ rest) [] = []
  versions_from (cs ∷ rest) (f ∷ fs) = version_of cs f ∷ versions_from rest fs

  abbrev pub versions_of : SharedProgram → List Version
  versions_of p = versions_from (classes_of p) (protected_functions p.program)

abbrev pub leading_size : Class → Mid → ℕ
leading_size = size_of leading

abbrev pub trailing_size : Class → Mid → ℕ
trailing_size = size_of trailing

abbrev pub leading_versions : SharedProgram → List Version
leading_versions p = versions_of leading p

abbrev pub trailing_versions : SharedProgram → List Version
trailing_versions p = versions_of trailing p

-- the instruction at a place of a function's version; the first function is 1
abbrev pub version_at : List Version → ℕ → ℕ → Option VersionLine
version_at versions zero place = None
version_at versions (suc before) place = option_and_then (λ v. slice_get v.code place) (slice_get versions before)
