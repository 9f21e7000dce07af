-- That every node of a typed program has a type of the language.
use Rattle.std.specs.Prelude.{List, Option, Some, None, IsTrue}
use Rattle.c_types.specs.Types.{is_function}
use Rattle.c_typed.specs.Statements.{Initializer, scalar, cells, LocalItem, ForStart, starts, declares, Stmt, block, empty, expression, if_only, if_else, while, do_while, for, continue, break, return, Items, no_items, declaration, statement, Function, TypedFile, Program}
use Rattle.typing_rules.specs.Laws.{Each}
use Rattle.typing_rules.specs.LanguageTypes.{IsOfLanguage, IsObjectType, HasTypes}

abbrev pub IfThere : {A : Type 0} → (A → Type 0) → Option A → Type 0
IfThere P None = Unit {0}
IfThere P (Some x) = P x

abbrev pub InitializerHasTypes : Initializer → Type 0
InitializerHasTypes (scalar v) = HasTypes v
InitializerHasTypes (cells given) = Each (λ c. HasTypes c.value) given

abbrev pub LocalsHaveTypes : List LocalItem → Type 0
LocalsHaveTypes locals = Each (λ l. IfThere InitializerHasTypes l.initializer) locals

abbrev pub ForStartHasTypes : ForStart → Type 0
ForStartHasTypes (starts first) = IfThere HasTypes first
ForStartHasTypes (declares locals) = LocalsHaveTypes locals

unfoldable mutual
  pub StmtHasTypes : Stmt → Type 0
  StmtHasTypes (block line items end) = ItemsHaveTypes items
  StmtHasTypes (empty line) = Unit {0}
  StmtHasTypes (expression line v) = HasTypes v
  StmtHasTypes (if_only line test s) = HasTypes test × StmtHasTypes s
  StmtHasTypes (if_else line test s u) = HasTypes test × StmtHasTypes s × StmtHasTypes u
  StmtHasTypes (while line test s) = HasTypes test × StmtHasTypes s
  StmtHasTypes (do_while line s test) = StmtHasTypes s × HasTypes test
  StmtHasTypes (for line start test step s) =
      ForStartHasTypes start × IfThere HasTypes test × IfThere HasTypes step × StmtHasTypes s
  StmtHasTypes (continue line) = Unit {0}
  StmtHasTypes (break line) = Unit {0}
  StmtHasTypes (return line v) = IfThere HasTypes v

  pub ItemsHaveTypes : Items → Type 0
  ItemsHaveTypes no_items = Unit {0}
  ItemsHaveTypes (declaration locals rest) = LocalsHaveTypes locals × ItemsHaveTypes rest
  ItemsHaveTypes (statement s rest) = StmtHasTypes s × ItemsHaveTypes rest

-- a function's own type, those of its locals, and those in its body
pub record FunctionHasTypes (f : Function) : Type 0 where
  pub is_one : IsTrue (is_function f.type)
  pub of_language : IsOfLanguage f.type
  pub locals : Each (λ l. IsObjectType l.type.type) f.locals
  pub body : ItemsHaveTypes f.body

-- a file's functions, and its static objects
pub record FileHasTypes (file : TypedFile) : Type 0 where
  pub functions : Each FunctionHasTypes file.functions
  pub statics : Each (λ s. IsObjectType s.type.type) file.statics

abbrev pub HasTypesOfLanguage : Program → Type 0
HasTypesOfLanguage program = FileHasTypes program.main_file × FileHasTypes program.binary_file
