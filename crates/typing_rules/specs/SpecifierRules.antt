-- Declaration specifiers (C11 6.7.1 to 6.7.3).
use Rattle.std.specs.Prelude.{ℕ, suc, ◌+◌, ◌==◌, nat_le, Bool as Test, true, false, ◌&&◌, ◌||◌, if◌then◌else◌, List, [], ◌∷◌, Option, Some, None, Ok, Err}
use Rattle.srmt_base.specs.declared.ty.Ty.TheVariants as ty
use Rattle.c_types.specs.declared.qualifiers.Qualifiers.{Qualifiers}
use Rattle.c_types.specs.Types.{CType, void, integer, Qualified}
use Rattle.c_types.specs.Rules.{Ruled}
use Rattle.c_tree.specs.declared.specifier.SpecifierWord.{SpecifierWord}
use Rattle.c_tree.specs.declared.specifier.SpecifierWord.TheVariants.{Static, Extern, Const, Volatile, Void, Bool, Char, Short, Int, Signed, Unsigned}

-- where a declaration stands: at file scope a storage word may be among its specifiers
pub data Storage : Type 0 where
  no_word static_word extern_word : Storage

-- what the specifiers of a declaration say
pub record Specified : Type 0 where
  pub storage : Storage
  pub type : Qualified

abbrev pub word_code : SpecifierWord → ℕ
word_code Static = 0
word_code Extern = 1
word_code Const = 2
word_code Volatile = 3
word_code Void = 4
word_code Bool = 5
word_code Char = 6
word_code Short = 7
word_code Int = 8
word_code Signed = 9
word_code Unsigned = 10

abbrev pub same_word : SpecifierWord → SpecifierWord → Test
same_word a b = word_code a == word_code b

-- how often a word stands among others
abbrev pub count_of : SpecifierWord → List SpecifierWord → ℕ
count_of w [] = 0
count_of w (x ∷ rest) = if same_word w x then suc (count_of w rest) else count_of w rest

abbrev pub stands_in : SpecifierWord → List SpecifierWord → Test
stands_in w [] = false
stands_in w (x ∷ rest) = same_word w x || stands_in w rest

-- the words that name a type
abbrev pub type_words : List SpecifierWord
type_words = Void ∷ Bool ∷ Char ∷ Short ∷ Int ∷ Signed ∷ Unsigned ∷ []

abbrev pub same_counts : List SpecifierWord → List SpecifierWord → List SpecifierWord → Test
same_counts [] a b = true
same_counts (w ∷ ws) a b = (count_of w a == count_of w b) && same_counts ws a b

-- the words that name a type are these, in any order
abbrev pub name_alike : List SpecifierWord → List SpecifierWord → Test
name_alike a b = same_counts type_words a b

pub record Naming : Type 0 where
  pub words : List SpecifierWord
  pub type : CType

abbrev pub names : List SpecifierWord → CType → Naming
names words type = record { words = words; type = type }

-- C11 6.7.2p2, without the types that are left out
abbrev pub namings : List Naming
namings =
    names (Void ∷ []) void ∷
    names (Bool ∷ []) (integer ty.Bool) ∷
    names (Char ∷ []) (integer ty.Char) ∷
    names (Signed ∷ Char ∷ []) (integer ty.SChar) ∷
    names (Unsigned ∷ Char ∷ []) (integer ty.UChar) ∷
    names (Short ∷ []) (integer ty.Short) ∷
    names (Signed ∷ Short ∷ []) (integer ty.Short) ∷
    names (Short ∷ Int ∷ []) (integer ty.Short) ∷
    names (Signed ∷ Short ∷ Int ∷ []) (integer ty.Short) ∷
    names (Unsigned ∷ Short ∷ []) (integer ty.UShort) ∷
    names (Unsigned ∷ Short ∷ Int ∷ []) (integer ty.UShort) ∷
    names (Int ∷ []) (integer ty.Int) ∷
    names (Signed ∷ []) (integer ty.Int) ∷
    names (Signed ∷ Int ∷ []) (integer ty.Int) ∷
    names (Unsigned ∷ []) (integer ty.UInt) ∷
    names (Unsigned ∷ Int ∷ []) (integer ty.UInt) ∷
    []

abbrev pub named_by : List SpecifierWord → List Naming → Option CType
named_by words [] = None
named_by words (n ∷ rest) = if name_alike n.words words then Some n.type else named_by words rest

abbrev pub qualifiers_in : List SpecifierWord → Qualifiers
qualifiers_in words = record { is_const = stands_in Const words; is_volatile = stands_in Volatile words }

abbrev pub storage_in : List SpecifierWord → Storage
storage_in words = if stands_in Static words then static_word else if stands_in Extern words then extern_word else no_word

-- at most one storage word, and none where none may stand (C11 6.7.1p2, 6.7.6.3p2)
abbrev pub storage_fits : Test → List SpecifierWord → Test
storage_fits true words = nat_le (count_of Static words + count_of Extern words) 1
storage_fits false words = nat_le (count_of Static words + count_of Extern words) 0

abbrev pub specified_as : Option CType → List SpecifierWord → Ruled Specified
specified_as None words = Err 21
specified_as (Some t) words = Ok (record { storage = storage_in words; type = record { qualifiers = qualifiers_in words; type = t } })

-- what specifiers say, where a storage word may stand among them or not
abbrev pub specified_by : Test → List SpecifierWord → Ruled Specified
specified_by may_store words = if storage_fits may_store words then specified_as (named_by words namings) words else Err 21
