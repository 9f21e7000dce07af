-- Which sets of registers and objects can be shared while each thread keeps all others for itself.
--
-- A set is closed where no pointer to a shared object is in a register outside it, and no pointer to an object outside
-- it reaches memory, another function or the outside. The least closed set is the best, and the set of all is one.
use Rattle.std.specs.Prelude.{◌≡◌, ℕ, ◌<◌, true, List, [], ◌∷◌, Some, map, length, slice_get}
use Rattle.mid_code.specs.declared.class.Shared.{Shared}
use Rattle.mid_code.specs.declared.mid.Mid.{Mid}
use Rattle.mid_code.specs.declared.mid.Mid.TheVariants.{Const, Move, Arith, Conv, PtrAdd, PtrDiff, PtrCmp, GlobAddr, FunAddr, Load, Store, VLoad, VStore, Open, Close, Jump, JumpZ, JumpN, Turn, Call, CallPtr, Return, Put, Get, Exit}
use Rattle.mid_code.specs.declared.program.RegisterKind.TheVariants.{Address}
use Rattle.mid_code.specs.declared.program.FunType.{FunType}
use Rattle.mid_code.specs.declared.program.MidLine.{MidLine}
use Rattle.mid_code.specs.declared.program.MidFunction.{MidFunction}
use Rattle.mid_code.specs.declared.program.MidProgram.{MidProgram}
use Rattle.mid_code.specs.Registers.{registers_list}
use Rattle.mid_code.specs.Rules.{same_kind}
use Rattle.mid_code.specs.Ways.{begins_object}
use Rattle.mid_code.specs.Classes.{is_marked, SharedProgram, protected_functions}

module _ (function : MidFunction) (shared : Shared) where
  -- a register is in the set, if it is an `Address`
  abbrev pub IsShared : ℕ → Type 0
  IsShared register = slice_get function.kinds register ≡ Some Address → is_marked shared.registers register ≡ true

  abbrev pub AreShared : List ℕ → Type 0
  AreShared [] = Unit {0}
  AreShared (r ∷ rs) = IsShared r × AreShared rs

  -- both registers are in the set, or neither
  abbrev pub AreAlike : ℕ → ℕ → Type 0
  AreAlike left right = is_marked shared.registers left ≡ is_marked shared.registers right

  -- what the instruction at a place asks of the set
  abbrev pub KeepsShared : ℕ → Mid → Type 0
  KeepsShared place (Const target value) = Unit {0}
  KeepsShared place (Move target source) = AreAlike target source
  KeepsShared place (Arith op ty target left right) = Unit {0}
  KeepsShared place (Conv from to target source) = Unit {0}
  KeepsShared place (PtrAdd target pointer index ty negated scale) = AreAlike target pointer
  KeepsShared place (PtrDiff target left right scale) = AreAlike left right
  KeepsShared place (PtrCmp op target left right) = AreAlike left right
  KeepsShared place (GlobAddr target object) = IsShared target
  KeepsShared place (FunAddr target callee) = Unit {0}
  KeepsShared place (Load target pointer) = IsShared target
  KeepsShared place (Store pointer source) = IsShared source
  KeepsShared place (VLoad target pointer) = IsShared target × IsShared pointer
  KeepsShared place (VStore pointer source) = IsShared pointer × IsShared source
  KeepsShared place (Open target cells) = is_marked shared.places place ≡ is_marked shared.registers target
  KeepsShared place (Close begun) = Unit {0}
  KeepsShared place (Jump target) = Unit {0}
  KeepsShared place (JumpZ source target) = Unit {0}
  KeepsShared place (JumpN source target) = Unit {0}
  KeepsShared place Turn = Unit {0}
  KeepsShared place (Call target callee args) = IsShared target × AreShared (registers_list args)
  KeepsShared place (CallPtr target callee ty args) = IsShared target × AreShared (registers_list args)
  KeepsShared place (Return source) = IsShared source
  KeepsShared place (Put source) = Unit {0}
  KeepsShared place (Get target) = Unit {0}
  KeepsShared place (Exit source) = Unit {0}

  -- a mark stands at an `Address` alone, or at an `Open`
  pub record IsClosed (parameters : ℕ) : Type 0 where
    pub registers : length shared.registers ≡ length function.kinds
    pub places : length shared.places ≡ length function.code
    pub addresses : (register : ℕ) → is_marked shared.registers register ≡ true → slice_get function.kinds register ≡ Some Address
    pub opens : (place : ℕ) (l : MidLine) → slice_get function.code place ≡ Some l → is_marked shared.places place ≡ true
        → begins_object l.mid ≡ true
    -- the parameters are the first registers
    pub params : (register : ℕ) → register < parameters → IsShared register
    pub each : (place : ℕ) (l : MidLine) → slice_get function.code place ≡ Some l → KeepsShared place l.mid

-- the sets of a program's functions are closed, each for the parameters of its type
pub record AreClosed (p : SharedProgram) : Type 0 where
  pub count : length p.shared ≡ length (protected_functions p.program)
  pub each : (index : ℕ) (f : MidFunction) (s : Shared) (type : FunType)
      → slice_get (protected_functions p.program) index ≡ Some f → slice_get p.shared index ≡ Some s
      → slice_get p.program.types f.ty ≡ Some type → IsClosed f s (length type.params)

-- all is shared: each `Address`, and each `Open`
abbrev pub all_of : MidFunction → Shared
all_of function = record { registers = map (same_kind Address) function.kinds; places = map (λ l. begins_object l.mid) function.code }

abbrev pub everything_shared : MidProgram → SharedProgram
everything_shared program = record { program = program; shared = map all_of (protected_functions program) }
