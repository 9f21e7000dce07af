-- What files and programs of the code stand for, in a table of types and in all that have more.
use Rattle.std.specs.Prelude.{◌≡◌, ◌⊎◌, ℕ, List, map, Option, Some, None, Result, Ok, Err, ⊤}
use Rattle.c_types.specs.declared.type_ref.Row.{Row}
use Rattle.c_types.specs.Table.{type_at, Extends}
use Rattle.c_typed.specs.declared.program.Function as code_function
use Rattle.c_typed.specs.declared.program.Static as code_static
use Rattle.c_typed.specs.declared.program.TypedFile as code_file
use Rattle.c_typed.specs.declared.program.TypedProgram as code_program
use Rattle.c_typed.specs.Statements.{Function, Static, TypedFile, Program}
use Rattle.c_typed.specs.StatementViews.{function_view, static_view, file_view, program_view}
use Rattle.typing_rules.specs.declared.refusal.TypeRefusal.{TypeRefusal}
use Rattle.typing_rules.specs.declared.refusal.TypeRefusal.TheVariants.{Memory}
use Rattle.c_typing.specs.declared.program.Checked.{Checked}
use Rattle.c_program.specs.Whole.{IsFile}

pub record IsFunction (rows : List Row) (x : code_function.Function) (f : Function) : Type 0 where
  pub always : (later : List Row) → Extends rows later → function_view (type_at later) x ≡ f

pub record AreFunctions (rows : List Row) (xs : List code_function.Function) (fs : List Function) : Type 0 where
  pub always : (later : List Row) → Extends rows later → map (function_view (type_at later)) xs ≡ fs

-- these are the functions so far, whatever else is told
abbrev pub MoreFunctions : List code_function.Function → List Row → ⊤ → List Function → Type 0
MoreFunctions xs rows done fs = AreFunctions rows xs fs

-- a program whose table of types is still apart
pub record IsProgram (rows : List Row) (x : Checked) (p : Program) : Type 0 where
  pub main_file : IsFile rows x.main_file p.main_file
  pub binary_file : IsFile rows x.binary_file p.binary_file
  pub entities : x.entities ≡ p.entities
  pub main : x.main ≡ p.main

-- the program that is answered, or the refusal; want of memory may come instead
abbrev pub Checks : Result code_program.TypedProgram TypeRefusal → Result Program TypeRefusal → Type 0
Checks (Ok p) answer = answer ≡ Ok (program_view p)
Checks (Err refusal) answer = (answer ≡ Err refusal) ⊎ (refusal ≡ Memory)

-- a program that has a typing is found; want of memory may come instead
abbrev pub Finds : Result code_program.TypedProgram TypeRefusal → Program → Type 0
Finds (Ok p) program = program_view p ≡ program
Finds (Err refusal) program = refusal ≡ Memory
