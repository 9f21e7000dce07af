-- Functions and programs: what each is lowered to, or why it is refused.
use Rattle.std.specs.Prelude.{◌≡◌, ℕ, suc, nat_lt, ◌==◌, Bool, true, false, if◌then◌else◌, List, [], ◌∷◌, ◌++◌, length, map, replicate, Result, Ok, Err}
use Rattle.srmt_base.specs.declared.part.Part.{Part}
use Rattle.srmt_base.specs.declared.part.Part.TheVariants.{Protected, Binary}
use Rattle.srmt_base.specs.declared.statics.Static.{Static as StartingObject}
use Rattle.mid_code.specs.declared.mid.Mid.{Mid}
use Rattle.mid_code.specs.declared.mid.Mid.TheVariants as mid
use Rattle.mid_code.specs.declared.program.FunType.{FunType}
use Rattle.mid_code.specs.declared.program.MidProgram.{MidProgram}
use Rattle.mid_code.specs.declared.program.MidFunction.{MidFunction}
use Rattle.mid_code.specs.declared.program.MidLine.{MidLine}
use Rattle.mid_code.specs.declared.program.RegisterKind.{RegisterKind}
use Rattle.mid_code.specs.Registers.{registers_list}
use Rattle.c_types.specs.Types.{CType, parameters_of, result_of}
use Rattle.c_typed.specs.Statements.{LocalRow, Function, Program}
use Rattle.source_meaning.specs.Calls.{numbers_below}
use Rattle.source_meaning.specs.Start.{objects_at_start}
use Rattle.source_meaning.specs.Statements.{locals_of}
use Rattle.lower.specs.Emitting.{Instruction, plain, calls, calls_through, Line, Code, Around, Allotted, Made, Making, ◌>>=◌, ◌>>◌, pure, emits, emits_code, wrapped, either, new, temporary, kind_of, settles, with_type, type_number}
use Rattle.lower.specs.SoFar.{most_instructions}
use Rattle.lower.specs.Expressions.{Inside, row_at, number_of, zero_for}
use Rattle.lower.specs.Statements.{closes, living, opens, all_begin, in_block, lowers_items}
use Rattle.lower.specs.declared.refusal.LowerRefusal.{LowerRefusal}
use Rattle.lower.specs.declared.refusal.LowerRefusal.TheVariants.{TooManyRegisters, TooLong}

-- ---- a function

-- the places of the objects that parameters in memory begin, from a place on, the newest first: each is followed by a Store
abbrev pub parameters_at : List LocalRow → ℕ → List ℕ → List ℕ
parameters_at rows start [] = []
parameters_at rows start (n ∷ rest) =
    if (row_at rows n).is_placed then parameters_at rows (suc (suc start)) rest ++ start ∷ [] else parameters_at rows start rest

abbrev pub with_parameters : List LocalRow → List ℕ → Code → Code
with_parameters rows parameters c around start =
    let begun = parameters_at rows start parameters in
    c (record around { in_loop = begun ++ around.in_loop; in_function = begun ++ around.in_function }) start

-- ---- the end of a function

-- the objects that live end, and 0 is returned
abbrev pub leaves_at : ℕ → CType → Making (Unit {0})
leaves_at line result = do
  emits_code (λ around start. closes line around.in_function)
  r ← zero_for result 0 line
  emits line (mid.Return r)

abbrev pub exits_at : ℕ → Making (Unit {0})
exits_at line = do
  r ← temporary 0 line
  emits line (mid.Const r 0)
  emits line (mid.Exit r)

-- ---- its parts

module _ (i : Inside) where
  -- the arguments stand in the first registers
  abbrev pub argument_stands : ℕ → Making (Unit {0})
  argument_stands n = do
    r ← new (kind_of (row_at i.rows n).type.type) (row_at i.rows n).line
    settles n r

  abbrev pub arguments_stand : List ℕ → Making (Unit {0})
  arguments_stand [] = pure tt
  arguments_stand (n ∷ rest) = argument_stands n >> arguments_stand rest

  -- a parameter in memory is an object that takes its argument
  abbrev pub parameter_opens : LocalRow → ℕ → Making (Unit {0})
  parameter_opens row n = do
    r ← opens row.line n 1
    emits row.line (mid.Store r n)

  abbrev pub parameter_begins : ℕ → Making (Unit {0})
  parameter_begins n = either (row_at i.rows n).is_placed (parameter_opens (row_at i.rows n) n) (pure tt)

  abbrev pub parameters_begin : List ℕ → Making (Unit {0})
  parameters_begin [] = pure tt
  parameters_begin (n ∷ rest) = parameter_begins n >> parameters_begin rest

  -- `main`: it is left by `exit`, which ends no object
  abbrev pub main_body : Function → Making (Unit {0})
  main_body f = begun >> exits_at f.end
    where
      begun : Making (Unit {0})
      begun = wrapped (living i.rows (locals_of f.body)) (all_begin i (locals_of f.body) >> lowers_items i f.body)

  abbrev pub body_of : Function → Making (Unit {0})
  body_of f =
      either i.is_main (main_body f) (in_block i (locals_of f.body) f.end (lowers_items i f.body) >> leaves_at f.end (result_of f.type))

  -- parameters live as long as the function
  abbrev pub with_body : Function → Making (Unit {0})
  with_body f = wrapped (with_parameters i.rows (numbers_below f.parameters)) (parameters_begin (numbers_below f.parameters) >> body_of f)

  abbrev pub function_code : Function → Making (Unit {0})
  function_code f = arguments_stand (numbers_below f.parameters) >> with_body f

-- what a function is lowered to
pub record Lowered : Type 0 where
  pub type : ℕ
  pub kinds : List RegisterKind
  pub line : ℕ
  pub code : List Line

abbrev pub inside_of : Program → Part → Function → Inside
inside_of program part f = record { program = program; part = part; rows = f.locals; is_main = f.entity == program.main }

abbrev pub nowhere : Around
nowhere = record { break_at = 0; continue_at = 0; in_loop = []; in_function = [] }

abbrev pub all_types : List CType → List Function → List CType
all_types types [] = types
all_types types (f ∷ rest) = all_types (with_type f.type types) rest

-- the number of its type, and its code
abbrev pub typed_code : Inside → Function → Making ℕ
typed_code i f = do
  n ← type_number f.type
  function_code i f
  pure n

abbrev pub nothing_allotted : ℕ → List CType → Allotted
nothing_allotted locals types = record { kinds = []; temporaries = []; homes = replicate locals 0; types = types }

abbrev pub if_short : Function → ℕ → Allotted → List Line → Bool → Result (Lowered × List CType) LowerRefusal
if_short f type after code true = Err (TooLong f.line)
if_short f type after code false = Ok (record { type = type; kinds = after.kinds; line = f.line; code = code }, after.types)

-- too many registers come before too much code
abbrev pub finished : Function → Result (Made ℕ) ℕ → Result (Lowered × List CType) LowerRefusal
finished f (Err line) = Err (TooManyRegisters line)
finished f (Ok m) = let code = m.code nowhere 0 in if_short f m.given m.after code (nat_lt most_instructions (length code))

abbrev pub lowered_function : Program → Part → Function → List CType → Result (Lowered × List CType) LowerRefusal
lowered_function program part f types = finished f (typed_code (inside_of program part f) f (nothing_allotted (length f.locals) types))

-- functions in order: the first that is refused decides
abbrev pub and_others : Result (Lowered × List CType) LowerRefusal → (List CType → Result (List Lowered × List CType) LowerRefusal)
    → Result (List Lowered × List CType) LowerRefusal
and_others (Err refusal) others = Err refusal
and_others (Ok found) others = before_others found.0 (others found.1)
  where
    before_others : Lowered → Result (List Lowered × List CType) LowerRefusal → Result (List Lowered × List CType) LowerRefusal
    before_others f (Ok rest) = Ok (f ∷ rest.0, rest.1)
    before_others f (Err refusal) = Err refusal

abbrev pub lowered_functions : Program → Part → List Function → List CType → Result (List Lowered × List CType) LowerRefusal
lowered_functions program part [] types = Ok ([], types)
lowered_functions program part (f ∷ rest) types =
    and_others (lowered_function program part f types) (lowered_functions program part rest)

-- ---- a program

-- what the objects of a part start with: the last of the values is not 0
abbrev pub without_zeros : List ℕ → List ℕ
without_zeros [] = []
without_zeros (v ∷ vs) = before (without_zeros vs)
  where
    before : List ℕ → List ℕ
    before [] = if v == 0 then [] else v ∷ []
    before (u ∷ us) = v ∷ u ∷ us

abbrev pub shortened : StartingObject → StartingObject
shortened s = record { cells = s.cells; read_only = s.read_only; values = without_zeros s.values }

abbrev pub type_of_function : CType → FunType
type_of_function t = record { params = map kind_of (parameters_of t); result = kind_of (result_of t) }

pub record LoweredProgram : Type 0 where
  pub types : List FunType
  pub main_functions : ℕ
  pub main : ℕ
  pub main_statics : List StartingObject
  pub binary_statics : List StartingObject
  pub functions : List Lowered

-- the types of functions: those of the functions in order, each once; calls may need others
abbrev pub types_of_program : Program → List CType
types_of_program program = all_types (all_types [] program.main_file.functions) program.binary_file.functions

abbrev pub program_of : Program → List Lowered → List Lowered → List CType → LoweredProgram
program_of program first others types = record {
  types = map type_of_function types;
  main_functions = length program.main_file.functions;
  main = number_of program program.main;
  main_statics = map shortened (objects_at_start program Protected);
  binary_statics = map shortened (objects_at_start program Binary);
  functions = first ++ others;
}

abbrev pub with_others : Program → List Lowered → Result (List Lowered × List CType) LowerRefusal → Result LoweredProgram LowerRefusal
with_others program first (Err refusal) = Err refusal
with_others program first (Ok others) = Ok (program_of program first others.0 others.1)

abbrev pub with_first : Program → Result (List Lowered × List CType) LowerRefusal → Result LoweredProgram LowerRefusal
with_first program (Err refusal) = Err refusal
with_first program (Ok first) = with_others program first.0 (lowered_functions program Binary program.binary_file.functions first.1)

-- the main file first, then the binary file
unfoldable pub lowered : Program → Result LoweredProgram LowerRefusal
lowered program = with_first program (lowered_functions program Protected program.main_file.functions (types_of_program program))

-- ---- middle code that is what was lowered

abbrev pub IsInstruction : Instruction → Mid → Type 0
IsInstruction (plain m) n = n ≡ m
IsInstruction (calls target function arguments) (mid.Call d f args) = (d ≡ target) × (f ≡ function) × (registers_list args ≡ arguments)
IsInstruction (calls target function arguments) other = ⊥
IsInstruction (calls_through target callee type arguments) (mid.CallPtr d c y args) =
    (d ≡ target) × (c ≡ callee) × (y ≡ type) × (registers_list args ≡ arguments)
IsInstruction (calls_through target callee type arguments) other = ⊥

abbrev pub IsLine : Line → MidLine → Type 0
IsLine l m = (m.line ≡ l.line) × IsInstruction l.instruction m.mid

abbrev pub Each : {A B : Type 0} → (A → B → Type 0) → List A → List B → Type 0
Each R [] [] = Unit {0}
Each R [] (y ∷ ys) = ⊥
Each R (x ∷ xs) [] = ⊥
Each R (x ∷ xs) (y ∷ ys) = R x y × Each R xs ys

pub record IsFunction (l : Lowered) (f : MidFunction) : Type 0 where
  pub type : f.ty ≡ l.type
  pub kinds : f.kinds ≡ l.kinds
  pub line : f.line ≡ l.line
  pub code : Each IsLine l.code f.code

pub record IsProgram (l : LoweredProgram) (p : MidProgram) : Type 0 where
  pub types : p.types ≡ l.types
  pub main_functions : p.main_functions ≡ l.main_functions
  pub main : p.main ≡ l.main
  pub main_statics : p.main_statics ≡ l.main_statics
  pub binary_statics : p.binary_statics ≡ l.binary_statics
  pub functions : Each IsFunction l.functions p.functions
