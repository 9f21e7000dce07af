-- What a valid program is, in plain words.
use Rattle.std.specs.Prelude.{◌≡◌, ◌≢◌, ℕ, ◌+◌, ◌-◌, ◌<◌, ◌≤◌, ◌^◌, true, false, List, [], ◌∷◌, length, Some, All, slice_get, slice_index, sum_by}
use Rattle.srmt_base.specs.declared.statics.Static.{Static}
use Rattle.srmt_base.specs.Arith.{is_comparison}
use Rattle.mid_code.specs.declared.mid.Mid.{Mid}
use Rattle.mid_code.specs.declared.mid.Mid.TheVariants.{Const, Move, Arith, Conv, PtrAdd, PtrDiff, PtrCmp, GlobAddr, FunAddr, Load, Store, VLoad, VStore, Open, Close, Jump, JumpZ, JumpN, Turn, Call, CallPtr, Return, Put, Get, Exit}
use Rattle.mid_code.specs.declared.program.FunType.{FunType}
use Rattle.mid_code.specs.declared.program.RegisterKind.{RegisterKind}
use Rattle.mid_code.specs.declared.program.RegisterKind.TheVariants.{Number, Address}
use Rattle.mid_code.specs.declared.program.MidLine.{MidLine}
use Rattle.mid_code.specs.declared.program.MidFunction.{MidFunction}
use Rattle.mid_code.specs.declared.program.MidProgram.{MidProgram}
use Rattle.mid_code.specs.Program.{function_at}
use Rattle.mid_code.specs.Registers.{registers_list}
use Rattle.mid_code.specs.Fields.{Field, Writes, Reads, Passes, Value, Operator, Comparison, AnyType, ArithmeticType, Negated, Scale, Cells, StaticObject, Callable, TypeNumber, Beginning, Target, Wanted, Any, Kind, Like, fields}
use Rattle.mid_code.specs.Ways.{Way, Next, Counts, Begins, Ends, Jumps, Branches, Returns, Stops, way_of, is_final}
use Rattle.mid_code.specs.Flow.{found_at, is_target, open_behind}
use Rattle.mid_code.specs.Rules.{is_static, is_callable, is_turn, has_arithmetic}

-- a register has the kind that is wanted
abbrev pub HasKind : List RegisterKind → ℕ → Wanted → Type 0
HasKind kinds register Any = Unit {0}
HasKind kinds register (Kind kind) = slice_get kinds register ≡ Some kind
HasKind kinds register (Like other) = (kind : RegisterKind) → slice_get kinds other ≡ Some kind → slice_get kinds register ≡ Some kind

-- a register is there, and has the kind that is wanted
pub record IsRegister (kinds : List RegisterKind) (register : ℕ) (wanted : Wanted) : Type 0 where
  pub there : register < length kinds
  pub kind : HasKind kinds register wanted

-- a number of 44 bits; an address can be made of 0 alone
pub record IsConstant (kinds : List RegisterKind) (value register : ℕ) : Type 0 where
  pub small : value < 2 ^ 44
  pub null : slice_get kinds register ≡ Some Address → value ≡ 0

-- a place of the code, ahead, or that of a `Turn`
pub record IsTarget (code : List MidLine) (place target : ℕ) : Type 0 where
  pub within : target < length code
  pub back : target ≤ place → is_turn (slice_get code target) ≡ true

-- what each field of an instruction names is there
module _ (program : MidProgram) (function : MidFunction) (place : ℕ) where
  abbrev pub KeepsField : Field → Type 0
  KeepsField (Writes register wanted) = IsRegister function.kinds register wanted
  KeepsField (Reads register wanted) = IsRegister function.kinds register wanted
  KeepsField (Passes args) = All (λ register. register < length function.kinds) (registers_list args)
  KeepsField (Value value register) = IsConstant function.kinds value register
  KeepsField (Operator op) = Unit {0}
  KeepsField (Comparison op) = is_comparison op ≡ true
  KeepsField (AnyType ty) = Unit {0}
  KeepsField (ArithmeticType ty) = has_arithmetic ty ≡ true
  KeepsField (Negated negated) = Unit {0}
  KeepsField (Scale scale) = 1 ≤ scale
  KeepsField (Cells cells) = 1 ≤ cells
  KeepsField (StaticObject object) = is_static program object ≡ true
  KeepsField (Callable number) = is_callable program number ≡ true
  KeepsField (TypeNumber ty) = ty < length program.types
  KeepsField (Beginning begun) = begun < length function.code
  KeepsField (Target target) = IsTarget function.code place target

  abbrev pub KeepsFields : List Field → Type 0
  KeepsFields [] = Unit {0}
  KeepsFields (field ∷ rest) = KeepsField field × KeepsFields rest

-- registers have these kinds, one after another
pub record HaveKinds (kinds : List RegisterKind) (registers : List ℕ) (wanted : List RegisterKind) : Type 0 where
  pub count : length registers ≡ length wanted
  pub each : (k register : ℕ) (kind : RegisterKind) → slice_get registers k ≡ Some register → slice_get wanted k ≡ Some kind
      → slice_get kinds register ≡ Some kind

-- a call of a function of a type: its arguments have the kinds of the parameters, and its target has that of the result
pub record FitsType (kinds : List RegisterKind) (target : ℕ) (args : List ℕ) (type : FunType) : Type 0 where
  pub result : slice_get kinds target ≡ Some type.result
  pub passed : HaveKinds kinds args type.params

module _ (program : MidProgram) (number : ℕ) (function : MidFunction) (type : FunType) where
  -- calls fit the type of what they call, and returns fit the function's own; `main` does not return
  abbrev pub FitsTypes : Mid → Type 0
  FitsTypes (Const target value) = Unit {0}
  FitsTypes (Move target source) = Unit {0}
  FitsTypes (Arith op ty target left right) = Unit {0}
  FitsTypes (Conv from to target source) = Unit {0}
  FitsTypes (PtrAdd target pointer index ty negated scale) = Unit {0}
  FitsTypes (PtrDiff target left right scale) = Unit {0}
  FitsTypes (PtrCmp op target left right) = Unit {0}
  FitsTypes (GlobAddr target object) = Unit {0}
  FitsTypes (FunAddr target callee) = Unit {0}
  FitsTypes (Load target pointer) = Unit {0}
  FitsTypes (Store pointer source) = Unit {0}
  FitsTypes (VLoad target pointer) = Unit {0}
  FitsTypes (VStore pointer source) = Unit {0}
  FitsTypes (Open target cells) = Unit {0}
  FitsTypes (Close place) = Unit {0}
  FitsTypes (Jump place) = Unit {0}
  FitsTypes (JumpZ source place) = Unit {0}
  FitsTypes (JumpN source place) = Unit {0}
  FitsTypes Turn = Unit {0}
  FitsTypes (Call target callee args) =
      (called : MidFunction) (of : FunType) → function_at program callee ≡ Some called → slice_get program.types called.ty ≡ Some of
      → FitsType function.kinds target (registers_list args) of
  FitsTypes (CallPtr target callee ty args) =
      (of : FunType) → slice_get program.types ty ≡ Some of → FitsType function.kinds target (registers_list args) of
  FitsTypes (Return source) = (number ≢ program.main) × (slice_get function.kinds source ≡ Some type.result)
  FitsTypes (Put source) = Unit {0}
  FitsTypes (Get target) = Unit {0}
  FitsTypes (Exit source) = Unit {0}

-- the newest open object is the one that is to end, and none is open at a return
abbrev pub EndsNewest : Way → List ℕ → Type 0
EndsNewest Next opened = Unit {0}
EndsNewest Counts opened = Unit {0}
EndsNewest Begins opened = Unit {0}
EndsNewest (Ends begun) opened = (rest : List ℕ) × (opened ≡ begun ∷ rest)
EndsNewest (Jumps target) opened = Unit {0}
EndsNewest (Branches target) opened = Unit {0}
EndsNewest Returns opened = opened ≡ []
EndsNewest Stops opened = Unit {0}

-- objects nest: whatever way leads to a place, the same objects are open there
pub record Nests (code : List MidLine) (place : ℕ) (mid : Mid) (opened : List ℕ) : Type 0 where
  pub ends : EndsNewest (way_of mid) opened
  pub same : (target : ℕ) → is_target place mid target ≡ true → target < length code → found_at code target ≡ Some (open_behind place mid opened)

-- an instruction at its place: what it names is there, another follows it unless it is final, types fit, objects nest
pub record IsInstruction (program : MidProgram) (number : ℕ) (function : MidFunction) (type : FunType) (place : ℕ) (mid : Mid) : Type 0 where
  pub fields : KeepsFields program function place (fields mid)
  pub followed : is_final mid ≡ false → place + 1 < length function.code
  pub types : FitsTypes program number function type mid
  pub nests : (opened : List ℕ) → found_at function.code place ≡ Some opened → Nests function.code place mid opened

pub record IsFunction (program : MidProgram) (number : ℕ) (function : MidFunction) : Type 0 where
  pub registers : (1 ≤ length function.kinds) × (length function.kinds ≤ 1024)
  pub code : (1 ≤ length function.code) × (length function.code ≤ 65535)
  pub type : FunType
  pub typed : slice_get program.types function.ty ≡ Some type
  -- its first registers are its parameters
  pub params : (register : ℕ) (kind : RegisterKind) → slice_get type.params register ≡ Some kind → slice_get function.kinds register ≡ Some kind
  -- `main` has none, and a number as its result (C11 5.1.2.2.1)
  pub main : number ≡ program.main → (length type.params ≡ 0) × (type.result ≡ Number)
  pub each : (place : ℕ) (l : MidLine) → slice_get function.code place ≡ Some l → IsInstruction program number function type place l.mid

-- an object of static storage duration: its values go into its first cells, and the last of them is not 0
pub record IsStaticObject (object : Static) : Type 0 where
  pub cells : 1 ≤ object.cells
  pub room : length object.values ≤ object.cells
  pub small : All (λ value. value < 2 ^ 44) object.values
  pub last : 0 < length object.values → slice_index object.values (length object.values - 1) ≢ 0

pub record AreStaticObjects (objects : List Static) : Type 0 where
  pub each : All IsStaticObject objects
  pub few : sum_by (λ object. object.cells) objects ≤ 1048576

pub record IsWellFormed (program : MidProgram) : Type 0 where
  pub types : length program.types ≤ 65535
  pub parameters : All (λ type. length type.params ≤ 16) program.types
  -- the functions of the main file, `main` among them, and those of the binary file
  pub main_functions : (program.main_functions ≤ length program.functions) × (program.main_functions ≤ 4096)
  pub binary_functions : length program.functions - program.main_functions ≤ 4096
  pub main : (1 ≤ program.main) × (program.main ≤ program.main_functions)
  pub main_statics : AreStaticObjects program.main_statics
  pub binary_statics : AreStaticObjects program.binary_statics
  pub functions : (number : ℕ) (function : MidFunction) → function_at program number ≡ Some function → IsFunction program number function
