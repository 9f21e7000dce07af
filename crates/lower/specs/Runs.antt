-- What lowering a statement does to a function that is being lowered: where `break` and `continue` lead depends on the
-- loops that are open, and which objects end depends on those that live.
use Rattle.std.specs.Prelude.{◌≡◌, ℕ, List, ◌++◌, length, reverse, Some, None, Result, Ok, Err, ⊤}
use Rattle.c_types.specs.declared.type_ref.Row.{Row}
use Rattle.lower.specs.Drafts.{code_of}
use Rattle.lower.specs.declared.body.Body.{Body}
use Rattle.lower.specs.declared.refusal.LowerRefusal.{LowerRefusal}
use Rattle.lower.specs.declared.refusal.LowerRefusal.TheVariants.{TooManyRegisters, TooLong, Memory}
use Rattle.lower.specs.Emitting.{Code, Around, Made, Making}
use Rattle.lower.specs.SoFar.{Leads, leads_of, Lines, grown}
use Rattle.lower.specs.Emits.{allotted_view, AllStand, Grows}

-- what stands around: the objects that live are listed the newest first
abbrev pub around_of : Body → List Leads → Around
around_of b leads = record {
  break_at = (leads_of leads).break_at;
  continue_at = (leads_of leads).continue_at;
  in_loop = reverse b.objects.items;
  in_function = reverse b.objects.items ++ reverse b.outside.items;
}

-- the same objects live
pub record SameObjects (old new : Body) : Type 0 where
  pub objects : new.objects.items ≡ old.objects.items
  pub outside : new.outside.items ≡ old.outside.items

abbrev pub GrowsAround : Code → Body → Body → Type 0
GrowsAround c old new = (leads : List Leads) → code_of new.out.code leads ≡ grown (around_of old leads) c (code_of old.out.code leads)

abbrev pub MakesAround : {A : Type 0} → List Row → Result (Made A) ℕ → A → Body → Body → Type 0
MakesAround rows (Err line) a old new = ⊥
MakesAround rows (Ok m) a old new =
    (m.given ≡ a) × (m.after ≡ allotted_view rows new.out.allotted) × SameObjects old new × GrowsAround m.code old new
    × AllStand rows new.out.allotted.types.keys

-- this making is done with the objects that live, which stay, or there are too many registers at the line, or want of memory
abbrev pub RunsAs : {A B : Type 0} → (B → A) → List Row → Body → Body → Result B LowerRefusal → Making A → Type 0
RunsAs view rows old new (Ok x) m = AllStand rows old.out.allotted.types.keys → MakesAround rows (m (allotted_view rows old.out.allotted)) (view x) old new
RunsAs view rows old new (Err (TooManyRegisters line)) m = AllStand rows old.out.allotted.types.keys → m (allotted_view rows old.out.allotted) ≡ Err line
RunsAs view rows old new (Err (TooLong line)) m = ⊥
RunsAs view rows old new (Err Memory) m = ⊤

pub record Runs {A B : Type 0} (view : B → A) (rows : List Row) (old new : Body) (result : Result B LowerRefusal) (m : Making A) : Type 0 where
  pub is : RunsAs view rows old new result m

-- ---- objects that begin

-- these objects began where the code so far ended, those that locals begin one by one
abbrev pub BeganAt : (ℕ → List ℕ) → List ℕ → Lines → Lines → Type 0
BeganAt begun opened None after = ⊤
BeganAt begun opened (Some ls) None = ⊤
BeganAt begun opened (Some ls) (Some after) = reverse opened ≡ begun (length ls)

-- what lives more
pub record MoreObjects (begun : ℕ → List ℕ) (old new : Body) : Type 0 where
  pub opened : List ℕ
  pub objects : new.objects.items ≡ old.objects.items ++ opened
  pub outside : new.outside.items ≡ old.outside.items
  pub began : (leads : List Leads) → BeganAt begun opened (code_of old.out.code leads) (code_of new.out.code leads)

abbrev pub Opens : {A : Type 0} → List Row → (ℕ → List ℕ) → Result (Made A) ℕ → A → Body → Body → Type 0
Opens rows begun (Err line) a old new = ⊥
Opens rows begun (Ok m) a old new =
    (m.given ≡ a) × (m.after ≡ allotted_view rows new.out.allotted) × MoreObjects begun old new × Grows m.code (code_of old.out.code) (code_of new.out.code)
    × AllStand rows new.out.allotted.types.keys

-- objects begin, which live from then on: where the code starts, `begun` lists the places that begin them, the newest first
abbrev pub BeginsAs : {A B : Type 0} → (B → A) → List Row → (ℕ → List ℕ) → Body → Body → Result B LowerRefusal → Making A → Type 0
BeginsAs view rows begun old new (Ok x) m =
    AllStand rows old.out.allotted.types.keys → Opens rows begun (m (allotted_view rows old.out.allotted)) (view x) old new
BeginsAs view rows begun old new (Err (TooManyRegisters line)) m =
    AllStand rows old.out.allotted.types.keys → m (allotted_view rows old.out.allotted) ≡ Err line
BeginsAs view rows begun old new (Err (TooLong line)) m = ⊥
BeginsAs view rows begun old new (Err Memory) m = ⊤

pub record Begins {A B : Type 0} (view : B → A) (rows : List Row) (begun : ℕ → List ℕ) (old new : Body) (result : Result B LowerRefusal)
    (m : Making A) : Type 0 where
  pub is : BeginsAs view rows begun old new result m
