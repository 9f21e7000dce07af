-- How the two threads share the instructions, and the sites of those that one thread performs alone.
use Rattle.std.specs.Prelude.{ℕ, ◌+◌, ◌-◌, nat_lt, Bool, true, false, if◌then◌else◌, List, [], ◌∷◌, take, slice_get, sum_by, unwrap_or}
use Rattle.srmt_base.specs.declared.word.Site.{Site}
use Rattle.mid_code.specs.declared.class.Class.{Class}
use Rattle.mid_code.specs.declared.class.Class.TheVariants.{Repeatable, NonRepeatable, FailStop}
use Rattle.mid_code.specs.declared.class.Shared.{Shared}
use Rattle.mid_code.specs.declared.mid.Mid.{Mid}
use Rattle.mid_code.specs.declared.mid.Mid.TheVariants.{Const, Move, Arith, Conv, PtrAdd, PtrDiff, PtrCmp, GlobAddr, FunAddr, Load, Store, VLoad, VStore, Open, Close, Jump, JumpZ, JumpN, Turn, Call, CallPtr, Return, Put, Get, Exit}
use Rattle.mid_code.specs.declared.program.MidLine.{MidLine}
use Rattle.mid_code.specs.declared.program.MidFunction.{MidFunction}
use Rattle.mid_code.specs.declared.program.MidProgram.{MidProgram}

-- a site as a value of the code
abbrev pub site_of : ℕ → Site
site_of n = record { 0 = n }

-- how the two threads share an instruction, but for its site
pub data Sharing : Type 0 where
  -- both perform it
  Both : Sharing
  -- the leading thread performs it alone
  Alone : Sharing
  -- the same, after the trailing thread has echoed its operands
  Echoed : Sharing

-- a register, or the object begun at a place, is shared
abbrev pub is_marked : List Bool → ℕ → Bool
is_marked marks k = unwrap_or (slice_get marks k) false

-- an access to memory, or to an object, that each thread keeps for itself is performed by both
abbrev pub alone_if : Bool → Sharing
alone_if true = Alone
alone_if false = Both

-- a function of the binary file is not protected
abbrev pub echoed_if : Bool → Sharing
echoed_if true = Echoed
echoed_if false = Both

-- how the instruction at a place is shared, in a program with so many functions of the main file, which come first
abbrev pub sharing_of : ℕ → Shared → ℕ → Mid → Sharing
sharing_of mains shared place (Const target value) = Both
sharing_of mains shared place (Move target source) = Both
sharing_of mains shared place (Arith op ty target left right) = Both
sharing_of mains shared place (Conv from to target source) = Both
sharing_of mains shared place (PtrAdd target pointer index ty negated scale) = Both
sharing_of mains shared place (PtrDiff target left right scale) = Both
sharing_of mains shared place (PtrCmp op target left right) = Both
sharing_of mains shared place (GlobAddr target object) = Both
sharing_of mains shared place (FunAddr target function) = Both
sharing_of mains shared place (Load target pointer) = alone_if (is_marked shared.registers pointer)
sharing_of mains shared place (Store pointer source) = alone_if (is_marked shared.registers pointer)
sharing_of mains shared place (VLoad target pointer) = Echoed
sharing_of mains shared place (VStore pointer source) = Echoed
sharing_of mains shared place (Open target cells) = alone_if (is_marked shared.places place)
sharing_of mains shared place (Close begun) = alone_if (is_marked shared.places begun)
sharing_of mains shared place (Jump target) = Both
sharing_of mains shared place (JumpZ source target) = Both
sharing_of mains shared place (JumpN source target) = Both
sharing_of mains shared place Turn = Both
sharing_of mains shared place (Call target function args) = echoed_if (nat_lt mains function)
sharing_of mains shared place (CallPtr target callee ty args) = Echoed
sharing_of mains shared place (Return source) = Both
sharing_of mains shared place (Put source) = Echoed
sharing_of mains shared place (Get target) = Echoed
sharing_of mains shared place (Exit source) = Echoed

-- the same of each instruction of a function, from a place on
abbrev pub sharings : ℕ → Shared → ℕ → List MidLine → List Sharing
sharings mains shared place [] = []
sharings mains shared place (l ∷ ls) = sharing_of mains shared place l.mid ∷ sharings mains shared (place + 1) ls

-- how many sites an instruction takes: one, unless both threads perform it
abbrev pub sites_of : Sharing → ℕ
sites_of Both = 0
sites_of Alone = 1
sites_of Echoed = 1

abbrev pub site_count : List Sharing → ℕ
site_count [] = 0
site_count (s ∷ ss) = sites_of s + site_count ss

-- the class of an instruction; it takes this site if it takes one
abbrev pub class_of : ℕ → Sharing → Class
class_of site Both = Repeatable
class_of site Alone = NonRepeatable (site_of site)
class_of site Echoed = FailStop (site_of site)

-- the sites are numbered in order: by function, and then by place
abbrev pub classes_from : ℕ → List Sharing → List Class
classes_from site [] = []
classes_from site (s ∷ ss) = class_of site s ∷ classes_from (site + sites_of s) ss

abbrev pub all_classes_from : ℕ → List (List Sharing) → List (List Class)
all_classes_from site [] = []
all_classes_from site (f ∷ fs) = classes_from site f ∷ all_classes_from (site + site_count f) fs

-- a program, and what is shared of each function of its main file
pub record SharedProgram : Type 0 where
  pub program : MidProgram
  pub shared : List Shared

abbrev pub shared_program : MidProgram → List Shared → SharedProgram
shared_program program shared = record { program = program; shared = shared }

-- the functions of the main file
abbrev pub protected_functions : MidProgram → List MidFunction
protected_functions program = take program.main_functions program.functions

abbrev pub sharings_of : ℕ → List Shared → List MidFunction → List (List Sharing)
sharings_of mains [] fs = []
sharings_of mains (s ∷ ss) [] = []
sharings_of mains (s ∷ ss) (f ∷ fs) = sharings mains s 0 f.code ∷ sharings_of mains ss fs

abbrev pub all_sharings : SharedProgram → List (List Sharing)
all_sharings p = sharings_of p.program.main_functions p.shared (protected_functions p.program)

-- the classes of their instructions; the first site is 1
abbrev pub classes_of : SharedProgram → List (List Class)
classes_of p = all_classes_from 1 (all_sharings p)

-- how many sites the instructions of a program have
abbrev pub instruction_sites : SharedProgram → ℕ
instruction_sites p = sum_by site_count (all_sharings p)

-- each function of the main file but `main` can be called by the binary file. It then runs in a wrapper, whose last
-- instruction hands over its result, and has a site: these come after all others, by function
abbrev pub wrapper_count : MidProgram → ℕ
wrapper_count program = program.main_functions - 1

abbrev pub all_sites : SharedProgram → ℕ
all_sites p = instruction_sites p + wrapper_count p.program

-- how many functions of the main file other than `main` have a number below one
abbrev pub wrappers_before : MidProgram → ℕ → ℕ
wrappers_before program function = if nat_lt program.main function then function - 2 else function - 1

abbrev pub wrapper_site : SharedProgram → ℕ → ℕ
wrapper_site p function = 1 + instruction_sites p + wrappers_before p.program function
