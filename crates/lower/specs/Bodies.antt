-- Objects that end, and loops that begin and end.
use Rattle.std.specs.Prelude.{◌≡◌, ℕ, ◌-◌, List, [], ◌∷◌, ◌++◌, length, take, drop, reverse, Option, Some, None, Result, Ok, Err, ⊤}
use Rattle.std.specs.declared.alloc.Global.{Global}
use Rattle.std.specs.declared.vec.Vec.{Vec}
use Rattle.lower.specs.Drafts.{code_of}
use Rattle.lower.specs.declared.body.Body.{Body}
use Rattle.lower.specs.declared.emitter.Emitter.{Emitter}
use Rattle.lower.specs.declared.refusal.LowerRefusal.{LowerRefusal}
use Rattle.lower.specs.declared.refusal.LowerRefusal.TheVariants.{Memory}
use Rattle.mid_code.specs.declared.mid.Mid.TheVariants as mid
use Rattle.lower.specs.Jumps.{Waiting, LandsHere}
use Rattle.lower.specs.Statements.{closes}
use Rattle.lower.specs.SoFar.{Leads, added, IsHere}

-- ---- objects that end

-- the objects end that began at these places
pub record Closing (line : ℕ) (opened : List ℕ) (old new : Emitter) : Type 0 where
  pub allotted : new.allotted ≡ old.allotted
  pub grown : (leads : List Leads) → code_of new.code leads ≡ added (closes line opened) (code_of old.code leads)

abbrev pub Closes : ℕ → List ℕ → Emitter → Emitter → Result ⊤ LowerRefusal → Type 0
Closes line opened old new (Ok x) = Closing line opened old new
Closes line opened old new (Err e) = e ≡ Memory

-- all but the oldest of the innermost loop end, down to so many
pub record ClosingDown (line stay : ℕ) (old new : Body) : Type 0 where
  pub closing : Closing line (reverse (drop stay old.objects.items)) old.out new.out
  pub objects : new.objects.items ≡ take stay old.objects.items
  pub outside : new.outside.items ≡ old.outside.items

abbrev pub ClosesDownTo : ℕ → ℕ → Body → Body → Result ⊤ LowerRefusal → Type 0
ClosesDownTo line stay old new (Ok x) = ClosingDown line stay old new
ClosesDownTo line stay old new (Err e) = e ≡ Memory

-- ---- loops

-- a loop begins, and hands out the objects that lived around it
pub record EntersLoop (old new : Body) (objects : Vec ℕ Global) : Type 0 where
  pub allotted : new.out.allotted ≡ old.out.allotted
  pub code : (l : Leads) (leads : List Leads) → code_of new.out.code (l ∷ leads) ≡ code_of old.out.code leads
  pub objects_then : objects.items ≡ old.objects.items
  pub none : new.objects.items ≡ []
  pub outside : new.outside.items ≡ old.outside.items ++ old.objects.items

-- it ends, and these objects live again
pub record LeavesLoop (objects : List ℕ) (continue_at : ℕ) (old new : Body) : Type 0 where
  pub allotted : new.out.allotted ≡ old.out.allotted
  pub break_at : ℕ
  pub here : (leads : List Leads) → IsHere break_at (code_of old.out.code leads)
  pub code : (leads : List Leads) → code_of new.out.code leads ≡ code_of old.out.code (record { break_at = break_at; continue_at = continue_at } ∷ leads)
  pub objects_now : new.objects.items ≡ objects
  pub outside : new.outside.items ≡ take (length old.outside.items - length objects) old.outside.items

-- a loop is left where its condition, in this register, is 0
abbrev pub LeavesUnless : ℕ → Option ℕ → Emitter → Emitter → Result (Option ℕ) LowerRefusal → Type 0
LeavesUnless line None old new (Ok None) = new ≡ old
LeavesUnless line None old new (Ok (Some at)) = ⊥
LeavesUnless line (Some r) old new (Ok None) = ⊥
LeavesUnless line (Some r) old new (Ok (Some at)) = Waiting line (mid.JumpZ r) old new at
LeavesUnless line test old new (Err e) = e ≡ Memory

pub record Landing (at : ℕ) (old new : Emitter) : Type 0 where
  pub allotted : new.allotted ≡ old.allotted
  pub lands : LandsHere at (code_of old.code) (code_of new.code)

abbrev pub LandsIf : Option ℕ → Emitter → Emitter → Type 0
LandsIf None old new = new ≡ old
LandsIf (Some at) old new = Landing at old new
