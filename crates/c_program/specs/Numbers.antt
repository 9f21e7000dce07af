-- What entities are in the end, in a table that is filled by one file behind the other.
use Rattle.std.specs.Prelude.{ℕ, suc, ◌==◌, if◌then◌else◌, List, [], ◌∷◌}
use Rattle.c_typed.specs.declared.program.Numbered.{Numbered}
use Rattle.c_typed.specs.declared.program.Numbered.TheVariants.{Function, Object, Nowhere}
use Rattle.c_typed.specs.Statements as typed
use Rattle.c_typed.specs.Statements.{or_function, or_object, function_from, static_from}

-- what an entity is by what is said of it first
abbrev pub or_numbered : Numbered → Numbered → Numbered
or_numbered Nowhere other = other
or_numbered (Function n) other = Function n
or_numbered (Object n) other = Object n

-- of all entities one alone is something
abbrev pub alone : ℕ → Numbered → ℕ → Numbered
alone entity is other = if other == entity then is else Nowhere

-- what functions that are numbered from one on say of an entity
abbrev pub by_functions : ℕ → List typed.Function → ℕ → Numbered
by_functions first functions entity = or_function (function_from entity first functions) Nowhere

abbrev pub by_statics : ℕ → List typed.Static → ℕ → Numbered
by_statics first statics entity = or_object (static_from entity first statics) Nowhere

-- a table whose places, counted from one on, are also what is said of them behind what they are
abbrev pub filled : (ℕ → Numbered) → ℕ → List Numbered → List Numbered
filled said n [] = []
filled said n (x ∷ rest) = or_numbered x (said n) ∷ filled said (suc n) rest
