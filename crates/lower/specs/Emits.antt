-- What making code does to a function that is being lowered: registers are allotted, and its code grows.
use Rattle.std.specs.Prelude.{◌≡◌, ◌==◌, ℕ, List, [], ◌∷◌, map, All, Result, Ok, Err, ⊤}
use Rattle.mid_code.specs.declared.mid.Mid.{Mid}
use Rattle.c_types.specs.declared.type_ref.TypeRef.{TypeRef}
use Rattle.c_types.specs.Types.{CType}
use Rattle.c_types.specs.declared.type_ref.Row.{Row}
use Rattle.c_types.specs.Table.{type_at, Stands}
use Rattle.c_typed.specs.StatementViews.{row_view, program_view}
use Rattle.lower.specs.Drafts.{code_of}
use Rattle.lower.specs.declared.allotted.Allotted.{Allotted as CodeAllotted}
use Rattle.lower.specs.declared.emitter.Emitter.{Emitter}
use Rattle.lower.specs.declared.inside.Inside.{Inside as CodeInside}
use Rattle.lower.specs.declared.inside.Where.{Where as CodeWhere}
use Rattle.lower.specs.declared.inside.Where.TheVariants as code_where
use Rattle.lower.specs.declared.emitter.Located.{Located as CodeLocated}
use Rattle.lower.specs.declared.emitter.Located.TheVariants as code_located
use Rattle.lower.specs.declared.emitter.Change.{Change as CodeChange}
use Rattle.lower.specs.declared.refusal.LowerRefusal.{LowerRefusal}
use Rattle.lower.specs.declared.refusal.LowerRefusal.TheVariants.{TooManyRegisters, TooLong, Memory}
use Rattle.lower.specs.Emitting.{Code, Around, Allotted, Made, Making, emits_code}
use Rattle.lower.specs.Instructions.{told}
use Rattle.lower.specs.Expressions.{Inside, Where, in_register, in_memory, Located, held, stored, Change}
use Rattle.lower.specs.SoFar.{Leads, SoFar, grown}

-- ---- what the data of the code stand for

abbrev pub emits_mid : ℕ → Mid → Making (Unit {0})
emits_mid line m = emits_code (λ around start. told line m ∷ [])

-- the rows of the types of the program
abbrev pub rows_of : CodeInside → List Row
rows_of at = at.program.now.types

abbrev pub types_of : CodeInside → TypeRef → CType
types_of at = type_at (rows_of at)

abbrev pub inside_view : CodeInside → Inside
inside_view at =
    record {
      program = program_view at.program.now;
      part = at.part;
      rows = map (row_view (types_of at)) at.function.now.locals;
      is_main = at.function.now.entity == at.program.now.main;
    }

abbrev pub where_view : CodeWhere → Where
where_view (code_where.Register number) = in_register number
where_view (code_where.Memory is_volatile line) = in_memory is_volatile line

abbrev pub located_view : CodeLocated → Located
located_view (code_located.Held home) = held home
located_view (code_located.Stored is_volatile line address) = stored is_volatile line address

abbrev pub change_view : CodeChange → Change
change_view c = record { old = c.old; changed = c.changed }

abbrev pub itself : ℕ → ℕ
itself r = r

abbrev pub nothing : ⊤ → Unit {0}
nothing x = tt

-- ---- what is allotted

-- each of the references stands for its type, whatever rows are added
abbrev pub AllStand : List Row → List TypeRef → Type 0
AllStand rows refs = All (λ r. Stands rows r (type_at rows r)) refs

abbrev pub allotted_view : List Row → CodeAllotted → Allotted
allotted_view rows a =
    record { kinds = a.kinds.items; temporaries = a.temporaries.items; homes = a.homes.items; types = map (type_at rows) a.types.keys }

-- registers and types alone are allotted, and no code is made
abbrev pub Settles : {A : Type 0} → List Row → Result (Made A) ℕ → A → CodeAllotted → Type 0
Settles rows (Err line) a new = ⊥
Settles rows (Ok m) a new =
    (m.given ≡ a) × (m.after ≡ allotted_view rows new) × ((around : Around) (start : ℕ) → m.code around start ≡ []) × AllStand rows new.types.keys

-- the same of what is allotted alone
abbrev pub AllotsAs : {A B : Type 0} → (B → A) → List Row → CodeAllotted → CodeAllotted → Result B LowerRefusal → Making A → Type 0
AllotsAs view rows old new (Ok x) m = AllStand rows old.types.keys → Settles rows (m (allotted_view rows old)) (view x) new
AllotsAs view rows old new (Err (TooManyRegisters line)) m = AllStand rows old.types.keys → m (allotted_view rows old) ≡ Err line
AllotsAs view rows old new (Err (TooLong line)) m = ⊥
AllotsAs view rows old new (Err Memory) m = ⊤

pub record Allots {A B : Type 0} (view : B → A) (rows : List Row) (old new : CodeAllotted) (result : Result B LowerRefusal) (m : Making A) : Type 0 where
  pub is : AllotsAs view rows old new result m

-- ---- what is emitted

-- the code of a value does not depend on what stands around
abbrev pub Grows : Code → SoFar → SoFar → Type 0
Grows c old new = (leads : List Leads) (around : Around) → new leads ≡ grown around c (old leads)

abbrev pub Makes : {A : Type 0} → List Row → Result (Made A) ℕ → A → Emitter → Emitter → Type 0
Makes rows (Err line) a old new = ⊥
Makes rows (Ok m) a old new =
    (m.given ≡ a) × (m.after ≡ allotted_view rows new.allotted) × Grows m.code (code_of old.code) (code_of new.code) × AllStand rows new.allotted.types.keys

-- this making is done, or there are too many registers at the line, or want of memory
abbrev pub EmitsAs : {A B : Type 0} → (B → A) → List Row → Emitter → Emitter → Result B LowerRefusal → Making A → Type 0
EmitsAs view rows old new (Ok x) m = AllStand rows old.allotted.types.keys → Makes rows (m (allotted_view rows old.allotted)) (view x) old new
EmitsAs view rows old new (Err (TooManyRegisters line)) m = AllStand rows old.allotted.types.keys → m (allotted_view rows old.allotted) ≡ Err line
EmitsAs view rows old new (Err (TooLong line)) m = ⊥
EmitsAs view rows old new (Err Memory) m = ⊤

pub record Emits {A B : Type 0} (view : B → A) (rows : List Row) (old new : Emitter) (result : Result B LowerRefusal) (m : Making A) : Type 0 where
  pub is : EmitsAs view rows old new result m
