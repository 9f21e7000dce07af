-- The element that an index names, and what `*` gives.
use Rattle.std.proofs.Common.{◌≡◌, ℕ, Bool as Test, true, false, List, Result, Ok, Err, refl, sym, ap, true≢false}
use Rattle.c_types.specs.declared.form.BinaryForm.{BinaryForm}
use Rattle.c_types.specs.declared.form.BinaryForm.TheVariants as form
use Rattle.c_types.specs.declared.type_ref.Row.{Row}
use Rattle.c_types.specs.declared.type_ref.QualifiedRef.{QualifiedRef}
use Rattle.c_types.specs.declared.type_ref.TypeRef.{TypeRef}
use Rattle.c_types.specs.Types.{CType, Qualified}
use Rattle.c_types.specs.Rules.{Ruled, element_of}
use Rattle.c_types.specs.Table.{Stands, StandsFor, IndirectionIs, CalleeIs}
use Rattle.c_typed.specs.Typed.{place, element}
use Rattle.typing_rules.specs.Terms as terms
use Rattle.c_values.specs.Stand.{is_pointer_first}

pub pointer-is-first : (line at : ℕ) (f : BinaryForm) (v w : terms.Written) → is_pointer_first f ≡ true
    → place line (element_of (terms.written_type v) (terms.written_type w)) (element at true v.value (terms.promoted_value w)) ≡ terms.element_place line at f v w
pointer-is-first line at (form.Integers ty) v w e = absurd (true≢false (sym e))
pointer-is-first line at (form.Shift ty) v w e = absurd (true≢false (sym e))
pointer-is-first line at form.PointerAndInteger v w e = refl
pointer-is-first line at form.IntegerAndPointer v w e = absurd (true≢false (sym e))
pointer-is-first line at form.Pointers v w e = absurd (true≢false (sym e))
pointer-is-first line at form.PointerAndNull v w e = absurd (true≢false (sym e))
pointer-is-first line at form.NullAndPointer v w e = absurd (true≢false (sym e))

pub integer-is-first : (line at : ℕ) (f : BinaryForm) (v w : terms.Written) → is_pointer_first f ≡ false
    → place line (element_of (terms.written_type v) (terms.written_type w)) (element at false (terms.promoted_value v) w.value) ≡ terms.element_place line at f v w
integer-is-first line at (form.Integers ty) v w e = refl
integer-is-first line at (form.Shift ty) v w e = refl
integer-is-first line at form.PointerAndInteger v w e = absurd (true≢false e)
integer-is-first line at form.IntegerAndPointer v w e = refl
integer-is-first line at form.Pointers v w e = refl
integer-is-first line at form.PointerAndNull v w e = refl
integer-is-first line at form.NullAndPointer v w e = refl

pub indirection-refused : (rows : List Row) (n : ℕ) (r : Ruled Qualified) → IndirectionIs rows (Err n) r → Err n ≡ r
indirection-refused rows n (Ok q) h = absurd h
indirection-refused rows n (Err m) h = ap Err h

-- what a pointer points to
pub record Pointed (rows : List Row) (x : QualifiedRef) (r : Ruled Qualified) : Type 0 where
  pub to : Qualified
  pub is : Ok to ≡ r
  pub stands : StandsFor rows x to

pub indirection-allowed : (rows : List Row) (x : QualifiedRef) (r : Ruled Qualified) → IndirectionIs rows (Ok x) r → Pointed rows x r
indirection-allowed rows x (Ok q) h = record { to = q; is = refl; stands = h }
indirection-allowed rows x (Err m) h = absurd h

pub callee-refused : (rows : List Row) (n : ℕ) (r : Ruled CType) → CalleeIs rows (Err n) r → Err n ≡ r
callee-refused rows n (Ok t) h = absurd h
callee-refused rows n (Err m) h = ap Err h

-- the function to which a pointer points
pub record Called (rows : List Row) (x : TypeRef) (r : Ruled CType) : Type 0 where
  pub to : CType
  pub is : Ok to ≡ r
  pub stands : Stands rows x to

pub callee-allowed : (rows : List Row) (x : TypeRef) (r : Ruled CType) → CalleeIs rows (Ok x) r → Called rows x r
callee-allowed rows x (Ok t) h = record { to = t; is = refl; stands = h }
callee-allowed rows x (Err m) h = absurd h
