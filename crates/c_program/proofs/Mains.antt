-- The search for `main`.
use Rattle.std.proofs.Common.{◌≡◌, ℕ, suc, ◌+◌, ◌<◌, ◌≤◌, Bool as Test, true, false, if◌then◌else◌, List, ◌∷◌, length, drop, drop-cons, drop_of_length-le, add-one, Some, None, Ok, Err, refl, sym, ap, ◌∙◌, subst, inl}
use Rattle.std.proofs.lemmas.Option.{slice_get-get_or}
use Rattle.srmt_base.specs.declared.ty.Ty.TheVariants.{Int}
use Rattle.c_types.specs.declared.type_ref.QualifiedRef.{QualifiedRef}
use Rattle.c_types.specs.declared.type_ref.Shape.{Shape}
use Rattle.c_types.specs.declared.type_ref.Shape.TheVariants as shape
use Rattle.c_types.specs.Types.{CType, same_type, returning, plain, integer}
use Rattle.c_types.specs.Table.{shape_type}
use Rattle.c_types.proofs.Grown.{Extends-refl}
use Rattle.typing_rules.specs.declared.refusal.TypeRefusal.TheVariants.{NoMain}
use Rattle.typing_rules.specs.Known as known
use Rattle.typing_rules.specs.Known.{entity_at, no_entity, or_entity}
use Rattle.typing_rules.specs.UnitRules.{begins_program, main_from}
use Rattle.typing_rules.specs.Checking.{given}
use Rattle.c_known.specs.declared.known.Known.{Known}
use Rattle.c_known.specs.Views.{Knows}
use Rattle.c_known.specs.Gives.{GivesAt, Gives, IsSame}
use Rattle.c_program.specs.Whole.{main_found}

-- no other type is that of a function without parameters
pub no-returning : (types : List CType) (s : Shape) → ((x : QualifiedRef) → s ≡ shape.Returning x → ⊥) → false ≡ same_type (shape_type types s) (returning plain (integer Int))
unfolding same_type
no-returning types shape.Void h = refl
no-returning types (shape.Integer ty) h = refl
no-returning types (shape.Pointer q) h = refl
no-returning types (shape.Array q length size) h = refl
no-returning types (shape.Returning q) h = absurd (h q refl)
no-returning types (shape.Taking p rest) h = refl

module _ (es : List known.Entity) (n : ℕ) (within : n < length es) where
  split : drop n es ≡ entity_at es n ∷ drop (suc n) es
  split = drop-cons es n no_entity within ∙ ap (λ e. e ∷ drop (suc n) es) (sym (ap or_entity (slice_get-get_or es n no_entity within)))

  chosen : (t : Test) → begins_program (entity_at es n) ≡ t → main_from n (drop n es) ≡ (if t then Some n else main_from (suc n) (drop (suc n) es))
  chosen t e = ap (main_from n) split ∙ ap (λ b. if b then Some n else main_from (suc n) (drop (suc n) es)) e

  -- the program begins with another one
  pub main-past : begins_program (entity_at es n) ≡ false → main_from n (drop n es) ≡ main_from (n + 1) (drop (n + 1) es)
  main-past e = chosen false e ∙ ap (λ m. main_from m (drop m es)) (sym (add-one n))

  pub main-here : begins_program (entity_at es n) ≡ true → main_from n (drop n es) ≡ Some n
  main-here e = chosen true e

pub main-end : (es : List known.Entity) (n : ℕ) → length es ≤ n → main_from n (drop n es) ≡ None
main-end es n past = ap (main_from n) (drop_of_length-le es past)

module _ (s : Known) where
  pub main-is : (n : ℕ) → ((k : known.Known) → Knows s k → main_from 0 k.entities ≡ Some n) → Gives IsSame s s (Ok n) main_found
  main-is n found = record {
    at = λ k h. subst (λ o. GivesAt IsSame s s (Ok n) (given o NoMain k)) (sym (found k h)) (record { grown = Extends-refl s.types; means = refl; knows = h });
  }

  pub main-nowhere : ((k : known.Known) → Knows s k → main_from 0 k.entities ≡ None) → Gives {X = ℕ} IsSame s s (Err NoMain) main_found
  main-nowhere none = record {
    at = λ k h. subst (λ o. GivesAt {X = ℕ} IsSame s s (Err NoMain) (given o NoMain k)) (sym (none k h)) (inl refl);
  }
