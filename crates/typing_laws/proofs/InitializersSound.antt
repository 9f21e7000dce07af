-- What objects are initialized with has types of the language.
use Rattle.std.proofs.Common.{ℕ, suc, ◌≤◌, Bool as Test, List, [], ◌∷◌, refl, Option, Some, None, arith}
use Rattle.std.specs.Prelude.{◌+◌, IsTrue, IsFalse}
use Rattle.std.proofs.Math.Nat.{le-mul_of_pos_right}
use Rattle.srmt_base.specs.declared.ty.Ty.{Ty}
use Rattle.srmt_base.specs.declared.ty.Ty.TheVariants.{Bool, Char, SChar, UChar, Short, UShort, Int, UInt}
use Rattle.srmt_base.specs.Convert.{convert_of}
use Rattle.c_types.specs.Types.{CType, void, integer, pointer, array, returning, taking, Qualified, is_void, is_function, is_complete, cells_of, cells_of_integer, ty_of}
use Rattle.c_types.specs.declared.qualifiers.Qualifiers.{Qualifiers}
use Rattle.c_typed.specs.Statements.{Cell}
use Rattle.typing_rules.specs.Source.{Expr}
use Rattle.typing_rules.specs.SourceUnits.{Initial, single, braced, Initials, no_initials, first_initial}
use Rattle.typing_rules.specs.Known.{Known}
use Rattle.typing_rules.specs.Terms.{number_value}
use Rattle.typing_rules.specs.Limits.{most_cells}
use Rattle.typing_rules.specs.DeclarationRules.{TextAt, text_for, text_cells, text_length, byte_cells, length_given, completed, Initialized}
use Rattle.typing_rules.specs.TypingDeclarations.{IsScalar, IsTextGiven, AreSingleCells, AreCellsGiven, AreItemsGiven, IsInitialized}
use Rattle.typing_rules.specs.Laws.{Each}
use Rattle.typing_rules.specs.LanguageTypes.{IsOfLanguage, IsLengthOfLanguage, IsObjectType, HasTypes}
use Rattle.typing_laws.specs.LanguagePrograms.{IfThere}
use Rattle.typing_laws.specs.HasItems.{InitialHasItems}
use Rattle.typing_rules.proofs.Keeping.{each_append}
use Rattle.typing_rules.proofs.Sound.{Sound, sound_is, sound_such_as, sound_given, sound_never, sound_bind, sound_either}
use Rattle.typing_rules.proofs.LanguageNodesMade.{integer_is, converted_has, converted_by_has}
use Rattle.typing_laws.proofs.BlocksSound.{Block, sound_value_of}

abbrev pub CellHasTypes : Cell → Type 0
CellHasTypes c = HasTypes c.value

sound_scalar : (is_static : Test) (type : CType) (index : ℕ) (e : Expr) → IsOfLanguage type
    → Sound Block (Each CellHasTypes) (IsScalar is_static type index e)
sound_scalar is_static type index e l =
    sound_bind (sound_value_of e) (λ a p. sound_bind sound_such_as (λ form u. sound_bind sound_given (λ u' q.
    sound_is (converted_by_has form type a l p, tt))))

bytes_have : (line : ℕ) (ty : Ty) (n : ℕ) (bytes : List ℕ) → Each CellHasTypes (byte_cells line ty n bytes)
unfolding HasTypes
bytes_have line ty n [] = tt
bytes_have line ty n (byte ∷ rest) = (
  converted_has ty (record { first = line; value = number_value line Char (convert_of Char Char byte) }) (integer_is Char, tt),
  bytes_have line ty (suc n) rest,
)

sound_text_given : {I : Known → Type 0} (element : CType) (n : Option ℕ) (index : ℕ) (t : Option TextAt)
    → Sound I (Each CellHasTypes) (IsTextGiven element n index t)
sound_text_given element n index None = sound_never
sound_text_given element n index (Some t) = sound_bind sound_given (λ u p. sound_is (bytes_have t.line (ty_of element) index (text_cells n t.bytes)))

sound_single : (is_static : Test) (type : CType) (index : ℕ) (e : Expr) → IsOfLanguage type
    → Sound Block (Each CellHasTypes) (AreSingleCells is_static type index e)
sound_single is_static (array q t n) index e l = sound_text_given t n index (text_for t e)
sound_single is_static (returning q t) index e l = sound_never
sound_single is_static (taking p t) index e l = sound_never
sound_single is_static void index e l = sound_scalar is_static void index e l
sound_single is_static (integer ty) index e l = sound_scalar is_static (integer ty) index e l
sound_single is_static (pointer q t) index e l = sound_scalar is_static (pointer q t) index e l

mutual
  unfolding AreCellsGiven IsOfLanguage

  pub sound_cells : (is_static : Test) (type : CType) (index : ℕ) (x : Initial) → IsOfLanguage type
      → Sound Block (Each CellHasTypes) (AreCellsGiven is_static type index x)
  sound_cells is_static type index (single e) l = sound_single is_static type index e l
  sound_cells is_static (array q t n) index (braced line items) l = sound_items is_static t n 0 index items l.1
  sound_cells is_static (returning q t) index (braced line items) l = sound_never
  sound_cells is_static (taking p t) index (braced line items) l = sound_never
  sound_cells is_static void index (braced line items) l = sound_never
  sound_cells is_static (integer ty) index (braced line items) l = sound_never
  sound_cells is_static (pointer q t) index (braced line items) l = sound_never

  sound_items : (is_static : Test) (t : CType) (n : Option ℕ) (i index : ℕ) (items : Initials) → IsOfLanguage t
      → Sound Block (Each CellHasTypes) (AreItemsGiven is_static t n i index items)
  sound_items is_static t n i index no_initials l = sound_is tt
  sound_items is_static t n i index (first_initial x rest) l =
      sound_either sound_never (sound_bind (sound_cells is_static t index x l) (λ first p.
      sound_bind (sound_items is_static t n (suc i) (index + cells_of t) rest l) (λ others q.
      sound_is (each_append CellHasTypes first others p q))))

-- ---- the type that an initializer completes

integer_has_cells : (ty : Ty) → 1 ≤ cells_of_integer ty
integer_has_cells Bool = omega arith
integer_has_cells Char = omega arith
integer_has_cells SChar = omega arith
integer_has_cells UChar = omega arith
integer_has_cells Short = omega arith
integer_has_cells UShort = omega arith
integer_has_cells Int = omega arith
integer_has_cells UInt = omega arith

complete_has_cells : (t : CType) → IsTrue (is_complete t) → IsOfLanguage t → 1 ≤ cells_of t
unfolding IsOfLanguage
complete_has_cells void h l = absurd cc
complete_has_cells (integer ty) h l = integer_has_cells ty
complete_has_cells (pointer q t) h l = omega arith
complete_has_cells (array q t None) h l = absurd cc
complete_has_cells (array q t (Some n)) h l = omega (arith, l.2.0, le-mul_of_pos_right n (complete_has_cells t l.0 l.1))
complete_has_cells (returning q t) h l = absurd cc
complete_has_cells (taking p t) h l = absurd cc

abbrev IsOneOrMore : ℕ → Type 0
IsOneOrMore n = 1 ≤ n

text_is_one : (t : Option TextAt) → IfThere IsOneOrMore (text_length t)
text_is_one None = tt
text_is_one (Some t) = omega arith

given_is_one : (t : CType) (x : Initial) → InitialHasItems x → IfThere IsOneOrMore (length_given t x)
given_is_one t (single e) h = text_is_one (text_for t e)
given_is_one t (braced line items) h = h

length_is : (q : Qualifiers) (t : CType) (n : Option ℕ) → 1 ≤ cells_of t → IfThere IsOneOrMore n → cells_of (array q t n) ≤ most_cells
    → IsLengthOfLanguage n
length_is q t None c h f = tt
length_is q t (Some n) c h f = (h, omega (arith, f, le-mul_of_pos_right n c))

-- where the type is not complete, the initializer has items
abbrev pub IsGivenItems : CType → Initial → Type 0
IsGivenItems type x = IsFalse (is_complete type) → InitialHasItems x

abbrev pub IsGivenIf : CType → Option Initial → Type 0
IsGivenIf type x = IsFalse (is_complete type) → IfThere InitialHasItems x

completed_is : (type : CType) (x : Initial) → IsGivenItems type x → cells_of (completed type x) ≤ most_cells → IsOfLanguage type
    → IsOfLanguage (completed type x)
unfolding IsOfLanguage
completed_is (array q t None) x h f l =
    (l.0, l.1, length_is q t (length_given t x) (complete_has_cells t l.0 l.1) (given_is_one t x (h refl)) f, f)
completed_is (array q t (Some n)) x h f l = l
completed_is void x h f l = l
completed_is (integer ty) x h f l = l
completed_is (pointer q t) x h f l = l
completed_is (returning q t) x h f l = l
completed_is (taking p t) x h f l = l

completed_is_there : (t : CType) (x : Initial) → IsFalse (is_void t) → IsFalse (is_void (completed t x))
completed_is_there void x h = h
completed_is_there (integer ty) x h = refl
completed_is_there (pointer q t) x h = refl
completed_is_there (array q t None) x h = refl
completed_is_there (array q t (Some n)) x h = refl
completed_is_there (returning q t) x h = refl
completed_is_there (taking p t) x h = refl

completed_is_no_function : (t : CType) (x : Initial) → IsFalse (is_function t) → IsFalse (is_function (completed t x))
completed_is_no_function void x h = refl
completed_is_no_function (integer ty) x h = refl
completed_is_no_function (pointer q t) x h = refl
completed_is_no_function (array q t None) x h = refl
completed_is_no_function (array q t (Some n)) x h = refl
completed_is_no_function (returning q t) x h = h
completed_is_no_function (taking p t) x h = h

completed_is_object : (type : CType) (x : Initial) → IsGivenItems type x → cells_of (completed type x) ≤ most_cells → IsObjectType type
    → IsObjectType (completed type x)
completed_is_object type x h f o = record {
  is_there = completed_is_there type x o.is_there;
  is_object = completed_is_no_function type x o.is_object;
  of_language = completed_is type x h f o.of_language;
}

pub record InitializedHas (done : Initialized) : Type 0 where
  pub is_object : IsObjectType done.type.type
  pub cells : Each CellHasTypes done.given

pub sound_initialized : (is_static : Test) (type : Qualified) (x : Initial) → IsGivenItems type.type x → IsObjectType type.type
    → Sound Block InitializedHas (IsInitialized is_static type x)
sound_initialized is_static type x h o =
    sound_bind (sound_cells is_static type.type 0 x o.of_language) (λ given p. sound_bind sound_given (λ u f.
    sound_is (record { is_object = completed_is_object type.type x h f o; cells = p })))
