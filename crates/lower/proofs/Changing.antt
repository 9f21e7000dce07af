-- What a change of an integer makes behind its place: at the type and with the temporaries that its parts found.
use Rattle.std.proofs.Common.{◌≡◌, ℕ, suc, Bool, true, false, if◌then◌else◌, List, Result, sym, ◌∙◌, ap, subst}
use Rattle.c_types.specs.declared.type_ref.Row.{Row}
use Rattle.srmt_base.specs.declared.op.Op.{Op}
use Rattle.srmt_base.specs.declared.ty.Ty.{Ty}
use Rattle.c_typed.specs.Typed.{Value}
use Rattle.lower.specs.declared.emitter.Emitter.{Emitter}
use Rattle.lower.specs.declared.emitter.Change.{Change as CodeChange}
use Rattle.lower.specs.declared.refusal.LowerRefusal.{LowerRefusal}
use Rattle.lower.specs.Expressions.{Inside, Located, Change, widened, integer_changed, value_of}
use Rattle.lower.specs.Emits.{Emits, itself, change_view}

-- the first temporary that is free behind what changes
pub free-after : (is_after : Bool) (n m k free : ℕ) → is_after ≡ true → n ≡ suc k → m ≡ suc n → free ≡ m → free ≡ (if is_after then suc (suc k) else suc k)
free-after is_after n m k free is next more found = found ∙ more ∙ ap suc next ∙ ap (λ b. if b then suc (suc k) else suc k) (sym is)

pub free-before : (is_after : Bool) (n k free : ℕ) → is_after ≡ false → n ≡ suc k → free ≡ n → free ≡ (if is_after then suc (suc k) else suc k)
free-before is_after n k free is next found = found ∙ next ∙ ap (λ b. if b then suc (suc k) else suc k) (sym is)

module _ {rows : List Row} {old new : Emitter} where
  pub widened-at : {r : Result CodeChange LowerRefusal} (first : ℕ) (from from' to : Ty) (c : Change) → from ≡ from'
      → Emits change_view rows old new r (widened first from to c) → Emits change_view rows old new r (widened first from' to c)
  widened-at {r} first from from' to c is h = subst (λ t. Emits change_view rows old new r (widened first t to c)) is h

  pub value-at : {r : Result ℕ LowerRefusal} (i : Inside) (e : Value) (free free' : ℕ) → free ≡ free'
      → Emits itself rows old new r (value_of i e free) → Emits itself rows old new r (value_of i e free')
  value-at {r} i e free free' is h = subst (λ n. Emits itself rows old new r (value_of i e n)) is h

  pub changed-at : {r : Result ℕ LowerRefusal} (is_after : Bool) (op : Op) (ty t t' : Ty) (at line : ℕ) (l : Located) (c : Change) (y : ℕ) → t ≡ t'
      → Emits itself rows old new r (integer_changed is_after op ty t at line l c y)
      → Emits itself rows old new r (integer_changed is_after op ty t' at line l c y)
  changed-at {r} is_after op ty t t' at line l c y is h = subst (λ u. Emits itself rows old new r (integer_changed is_after op ty u at line l c y)) is h
