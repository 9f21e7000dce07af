-- Types of the code by their shapes, and the types that initializers complete.
use Rattle.std.proofs.Common.{◌≡◌, ℕ, suc, ◌+◌, ◌-◌, ◌^◌, min, nat_le, true, false, List, [], ◌∷◌, map, length, Option, Some, None, Result, Ok, Err, refl, sym, ap, subst, ◌∙◌, inl, add-one, option_map}
use Rattle.c_types.specs.declared.type_ref.Row.{Row}
use Rattle.c_types.specs.declared.type_ref.TypeRef.{TypeRef}
use Rattle.c_types.specs.declared.type_ref.QualifiedRef.{QualifiedRef}
use Rattle.c_types.specs.declared.type_ref.Shape.{Shape}
use Rattle.c_types.specs.declared.type_ref.Shape.TheVariants as shape
use Rattle.c_types.specs.declared.size.Size.{Size}
use Rattle.c_types.specs.Types.{CType, array, cells_of}
use Rattle.c_types.specs.Table.{type_at, types_of, shape_type, IsShapedBelow, Stands}
use Rattle.c_types.proofs.Grown.{Extends-refl, Stands-below}
use Rattle.typing_rules.specs.declared.refusal.TypeRefusal.{TypeRefusal}
use Rattle.typing_rules.specs.declared.refusal.TypeRefusal.TheVariants.{TooLarge}
use Rattle.typing_rules.specs.declared.refusal.Size.TheVariants.{Cells}
use Rattle.typing_rules.specs.Limits.{most_cells}
use Rattle.typing_rules.specs.SourceUnits.{Initial}
use Rattle.typing_rules.specs.SourceViews.{initials_from}
use Rattle.typing_rules.specs.DeclarationRules.{initials_count, completed}
use Rattle.typing_rules.specs.Checking.{needs, ◌>>◌, pure}
use Rattle.c_values.specs.Answers.{Answers}
use Rattle.c_known.specs.declared.known.Known.{Known}
use Rattle.c_known.specs.Gives.{Gives}
use Rattle.c_declarations.specs.Cells.{counted, type_sized}
use Rattle.c_declarations.proofs.Counted.{counted-on}

-- a reference stands for an array, and that of its element for its element's type
pub record IsArrayOf (rows : List Row) (t : CType) (element : QualifiedRef) (n : Option ℕ) : Type 0 where
  pub is : t ≡ array element.qualifiers (type_at rows element.target) n
  pub stands : Stands rows element.target (type_at rows element.target)

pub type-shaped : (rows : List Row) (r : TypeRef) (t : CType) (s u : Shape) → Stands rows r t → type_at rows r ≡ shape_type (types_of rows) s → s ≡ u
    → t ≡ shape_type (types_of rows) u
type-shaped rows r t s u h made is = sym (h.always rows (Extends-refl rows)) ∙ made ∙ ap (shape_type (types_of rows)) is

pub array-shaped : (rows : List Row) (r : TypeRef) (t : CType) (s : Shape) (element : QualifiedRef) (n : Option ℕ) (size : Size) → Stands rows r t
    → type_at rows r ≡ shape_type (types_of rows) s → IsShapedBelow (types_of rows) (length rows) s → s ≡ shape.Array element n size → IsArrayOf rows t element n
array-shaped rows r t s element n size h made below is = record {
  is = type-shaped rows r t s (shape.Array element n size) h made is;
  stands = Stands-below rows element.target (subst (IsShapedBelow (types_of rows) (length rows)) is below).0;
}

-- ---- sizes

pub small-answers : (M : TypeRef → CType → Type 0) (at : ℕ) (r : TypeRef) (t : CType) → nat_le (cells_of t) most_cells ≡ true → M r t
    → Answers M (Ok r) (type_sized at t)
small-answers M at r t e means = subst (λ b. Answers M (Ok r) (needs b (TooLarge at Cells) >> pure t)) (sym e) (λ k. (means, refl))

pub large-answers : (M : TypeRef → CType → Type 0) (at : ℕ) (t : CType) → nat_le (cells_of t) most_cells ≡ false
    → Answers {X = TypeRef} {A = CType} M (Err (TooLarge at Cells)) (type_sized at t)
large-answers M at t e = subst (λ b. Answers {X = TypeRef} {A = CType} M (Err (TooLarge at Cells)) (needs b (TooLarge at Cells) >> pure t)) (sym e) (λ k. inl refl)

-- a type that is complete without its initializer
pub kept-type : (s : Known) (r : Result TypeRef TypeRefusal) (at : ℕ) (t u : CType) (x : Initial) → t ≡ u → completed u x ≡ u → Gives Stands s s r (type_sized at t)
    → Gives Stands s s r (type_sized at (completed t x))
kept-type s r at t u x is same g = subst (λ y. Gives Stands s s r (type_sized at y)) (is ∙ sym same ∙ sym (ap (λ y. completed y x) is)) g

-- ---- the length that is given

-- something is there, and what stands for it
pub record IsThere (f : ℕ → ℕ) (m : ℕ) (o : Option ℕ) : Type 0 where
  pub number : ℕ
  pub is : o ≡ Some number
  pub stands : m ≡ f number

pub none-there : (f : ℕ → ℕ) (o : Option ℕ) → None ≡ option_map f o → o ≡ None
none-there f None e = refl
none-there f (Some n) e = cc

pub is-there : (f : ℕ → ℕ) (m : ℕ) (o : Option ℕ) → Some m ≡ option_map f o → IsThere f m o
is-there f m None e = cc
is-there f m (Some n) e = record { number = n; is = refl; stands = cc }

-- the length by a text
pub text-counted : (n m k : ℕ) → n ≡ counted m → k ≡ min (n + 1) (2 ^ 32 - 1) → k ≡ counted (suc m)
text-counted n m k e is = is ∙ counted-on n m 1 e ∙ ap counted (add-one m)

-- the length by a list
pub list-counted : {A : Type 0} (f : A → Initial) (xs : List A) → length xs ≡ initials_count (initials_from (map f xs))
list-counted f [] = refl
list-counted f (x ∷ xs) = ap suc (list-counted f xs)
