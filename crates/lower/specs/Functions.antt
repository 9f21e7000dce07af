-- What lowering functions gives, and that it is what was to be lowered.
use Rattle.std.specs.Prelude.{◌≡◌, ◌⊎◌, ℕ, List, [], ◌++◌, map, replicate, Some, Result, Ok, Err}
use Rattle.mid_code.specs.declared.program.MidFunction.{MidFunction}
use Rattle.mid_code.specs.declared.program.MidProgram.{MidProgram}
use Rattle.c_types.specs.declared.type_ref.TypeRef.{TypeRef}
use Rattle.c_types.specs.declared.type_ref.Row.{Row}
use Rattle.c_types.specs.Types.{CType}
use Rattle.c_types.specs.Table.{type_at}
use Rattle.lower.specs.Drafts.{code_of}
use Rattle.lower.specs.declared.functions.Lowered.{Lowered as CodeLowered}
use Rattle.lower.specs.declared.refusal.LowerRefusal.{LowerRefusal}
use Rattle.lower.specs.declared.refusal.LowerRefusal.TheVariants.{Memory}
use Rattle.lower.specs.Programs.{Lowered, LoweredProgram, Each, IsFunction, IsProgram}
use Rattle.lower.specs.declared.body.Body.{Body}
use Rattle.lower.specs.SoFar.{Leads}
use Rattle.lower.specs.Emits.{AllStand}

-- references that stand for these types
pub record AreTypes (rows : List Row) (refs : List TypeRef) (types : List CType) : Type 0 where
  pub stand : AllStand rows refs
  pub are : map (type_at rows) refs ≡ types

-- the refusal itself, or want of memory
abbrev pub Tells : LowerRefusal → LowerRefusal → Type 0
Tells refusal told = (told ≡ refusal) ⊎ (told ≡ Memory)

abbrev pub GivesFunction : List Row → Result (Lowered × List CType) LowerRefusal → Result CodeLowered LowerRefusal → Type 0
GivesFunction rows (Ok found) (Ok x) = IsFunction found.0 x.function × AreTypes rows x.types.keys found.1
GivesFunction rows (Ok found) (Err told) = told ≡ Memory
GivesFunction rows (Err refusal) (Ok x) = ⊥
GivesFunction rows (Err refusal) (Err told) = Tells refusal told

-- functions that come behind those that are lowered
pub record AddsFunctions (found : List Lowered) (old new : List MidFunction) : Type 0 where
  pub more : List MidFunction
  pub is : new ≡ old ++ more
  pub each : Each IsFunction found more

abbrev pub GivesFunctions : {K : Type 0} → (K → List TypeRef) → List Row → List MidFunction → List MidFunction
    → Result (List Lowered × List CType) LowerRefusal → Result K LowerRefusal → Type 0
GivesFunctions keys rows old new (Ok found) (Ok known) = AddsFunctions found.0 old new × AreTypes rows (keys known) found.1
GivesFunctions keys rows old new (Ok found) (Err told) = told ≡ Memory
GivesFunctions keys rows old new (Err refusal) (Ok known) = ⊥
GivesFunctions keys rows old new (Err refusal) (Err told) = Tells refusal told

-- what a program is lowered to, or why it is refused
abbrev pub GivesProgram : Result LoweredProgram LowerRefusal → Result MidProgram LowerRefusal → Type 0
GivesProgram (Ok found) (Ok x) = IsProgram found x
GivesProgram (Ok found) (Err told) = told ≡ Memory
GivesProgram (Err refusal) (Ok x) = ⊥
GivesProgram (Err refusal) (Err told) = Tells refusal told

-- nothing is lowered yet of a function of so many locals
pub record Starts (locals : ℕ) (refs : List TypeRef) (body : Body) : Type 0 where
  pub kinds : body.out.allotted.kinds.items ≡ []
  pub temporaries : body.out.allotted.temporaries.items ≡ []
  pub homes : body.out.allotted.homes.items ≡ replicate locals 0
  pub types : body.out.allotted.types.keys ≡ refs
  pub code : (leads : List Leads) → code_of body.out.code leads ≡ Some []
  pub objects : body.objects.items ≡ []
  pub outside : body.outside.items ≡ []
