-- The typed tree of statements, declarations, functions and programs (C11 6.7 to 6.9).
use Rattle.std.specs.Prelude.{ℕ, zero, suc, ◌==◌, Bool as Test, if◌then◌else◌, List, [], ◌∷◌, length, Option, Some, None}
use Rattle.c_types.specs.Types.{CType, Qualified}
use Rattle.c_typed.specs.Typed.{Value}
use Rattle.c_typed.specs.declared.program.StartCell.{StartCell}
use Rattle.c_typed.specs.declared.program.TextObject.{TextObject}
use Rattle.c_typed.specs.declared.program.Numbered.{Numbered}
use Rattle.c_typed.specs.declared.program.Numbered.TheVariants as numbered

-- a cell of an array with the value that it is given
pub record Cell : Type 0 where
  pub index : ℕ
  pub value : Value

-- what a local is initialized with: a scalar by its value, an array by its given cells
pub data Initializer : Type 0 where
  scalar : (value : Value) → Initializer
  cells : (given : List Cell) → Initializer

-- a local that a declaration declares, by its number in the function's table
pub record LocalItem : Type 0 where
  pub number : ℕ
  pub initializer : Option Initializer

-- what a `for` does first (C11 6.8.5.3): an expression, or a declaration, whose locals live as long as the loop
pub data ForStart : Type 0 where
  starts : (first : Option Value) → ForStart
  declares : (locals : List LocalItem) → ForStart

mutual
  pub data Stmt : Type 0 where
    -- the lines of `{` and `}`
    block : (line : ℕ) (items : Items) (end : ℕ) → Stmt
    empty : (line : ℕ) → Stmt
    expression : (line : ℕ) (value : Value) → Stmt
    if_only : (line : ℕ) (test : Value) (first : Stmt) → Stmt
    if_else : (line : ℕ) (test : Value) (first second : Stmt) → Stmt
    while : (line : ℕ) (test : Value) (body : Stmt) → Stmt
    do_while : (line : ℕ) (body : Stmt) (test : Value) → Stmt
    for : (line : ℕ) (start : ForStart) (test step : Option Value) (body : Stmt) → Stmt
    continue : (line : ℕ) → Stmt
    break : (line : ℕ) → Stmt
    return : (line : ℕ) (value : Option Value) → Stmt

  -- the parts of a block: its locals are those that its declarations declare
  pub data Items : Type 0 where
    no_items : Items
    declaration : (locals : List LocalItem) (rest : Items) → Items
    statement : (first : Stmt) (rest : Items) → Items

-- a row of a function's table of locals: the line of its name, or of its first token where it has none, the line of
-- its declarator's first token, its type, and whether it stands in memory
pub record LocalRow : Type 0 where
  pub line : ℕ
  pub first : ℕ
  pub type : Qualified
  pub is_placed : Test

-- a definition of a function (C11 6.9.1): its number among the entities, the line of its name, its type, how many of
-- its locals are parameters, which stand first, and the lines of its body's `{` and `}`
pub record Function : Type 0 where
  pub entity : ℕ
  pub line : ℕ
  pub type : CType
  pub parameters : ℕ
  pub locals : List LocalRow
  pub begin : ℕ
  pub body : Items
  pub end : ℕ

-- a static object: its number among the entities, the line of its first declaration's name in its file, its type, and
-- its given cells; the others start with 0 (C11 6.7.9p10)
pub record Static : Type 0 where
  pub entity : ℕ
  pub line : ℕ
  pub type : Qualified
  pub cells : List StartCell

-- a file: its functions in the order of their definitions, its static objects in the order of their first
-- declarations, its texts in the order of their appearance
pub record TypedFile : Type 0 where
  pub functions : List Function
  pub statics : List Static
  pub texts : List TextObject

-- the place of an entity among functions, counted from a number
abbrev pub function_from : ℕ → ℕ → List Function → Option ℕ
function_from entity n [] = None
function_from entity n (f ∷ rest) = if entity == f.entity then Some n else function_from entity (suc n) rest

abbrev pub static_from : ℕ → ℕ → List Static → Option ℕ
static_from entity n [] = None
static_from entity n (s ∷ rest) = if entity == s.entity then Some n else static_from entity (suc n) rest

abbrev pub or_function : Option ℕ → Numbered → Numbered
or_function None other = other
or_function (Some n) other = numbered.Function n

abbrev pub or_object : Option ℕ → Numbered → Numbered
or_object None other = other
or_object (Some n) other = numbered.Object n

-- the first object number of the binary part
abbrev pub first_binary_object : ℕ
first_binary_object = 134217728

-- what an entity is in the end: functions are numbered from 1, those of the main file first, and objects in each part
-- in the order of their first declarations
abbrev pub numbered_in : TypedFile → TypedFile → ℕ → Numbered
numbered_in main binary entity =
    or_function (function_from entity 1 main.functions)
    (or_function (function_from entity (suc (length main.functions)) binary.functions)
    (or_object (static_from entity 1 main.statics)
    (or_object (static_from entity first_binary_object binary.statics) numbered.Nowhere)))

-- what each entity is, from one on
abbrev pub numbers_from : TypedFile → TypedFile → ℕ → ℕ → List Numbered
numbers_from main binary entity zero = []
numbers_from main binary entity (suc others) = numbered_in main binary entity ∷ numbers_from main binary (suc entity) others

-- a program: both files, what each entity is, and which is `main`
pub record Program : Type 0 where
  pub main_file : TypedFile
  pub binary_file : TypedFile
  pub entities : List Numbered
  pub main : ℕ
