-- What holds of every typed program.
use Rattle.std.specs.Prelude.{◌≡◌, ℕ, ◌<◌, ◌≤◌, List, [], ◌∷◌, length, IsTrue}
use Rattle.c_types.specs.Types.{cells_of, is_function, parameters_of}
use Rattle.c_typed.specs.declared.program.StartCell.{StartCell}
use Rattle.c_typed.specs.Statements.{Function, TypedFile, Program}
use Rattle.typing_rules.specs.Limits.{most_parameters}

-- each element of a list is such
abbrev pub Each : {A : Type 0} → (A → Type 0) → List A → Type 0
Each P [] = Unit {0}
Each P (x ∷ xs) = P x × Each P xs

-- cells are among so many
abbrev pub AreWithin : ℕ → List StartCell → Type 0
AreWithin cells given = Each (λ c. c.index < cells) given

-- what each static object starts with fits its cells
abbrev pub StaticsFit : TypedFile → Type 0
StaticsFit file = Each (λ s. AreWithin (cells_of s.type.type) s.cells) file.statics

abbrev pub ContentsFit : Program → Type 0
ContentsFit program = StaticsFit program.main_file × StaticsFit program.binary_file

-- a function has the type of a function, with as many parameters as it has, at most so many as may be
pub record HasFunctionType (f : Function) : Type 0 where
  pub is_one : IsTrue (is_function f.type)
  pub as_many : length (parameters_of f.type) ≡ f.parameters
  pub at_most : f.parameters ≤ most_parameters

abbrev pub FunctionsFit : Program → Type 0
FunctionsFit program = Each HasFunctionType program.main_file.functions × Each HasFunctionType program.binary_file.functions
