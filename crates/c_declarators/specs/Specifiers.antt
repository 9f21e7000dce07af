-- What specifiers of the code stand for.
use Rattle.std.specs.Prelude.{◌≡◌, if◌then◌else◌, List, [], ◌∷◌, Option, Some, None, Ok, Err}
use Rattle.c_tree.specs.declared.specifier.SpecifierWord.{SpecifierWord}
use Rattle.c_types.specs.declared.type_ref.TypeRef.{TypeRef}
use Rattle.c_types.specs.Types.{CType}
use Rattle.c_types.specs.declared.type_ref.Row.{Row}
use Rattle.c_types.specs.Rules.{Ruled}
use Rattle.c_types.specs.Table.{Stands, StandsFor}
use Rattle.typing_rules.specs.SpecifierRules as rule
use Rattle.c_declarators.specs.declared.words.Naming.{Naming}
use Rattle.c_declarators.specs.declared.specifier.Storage.{Storage}
use Rattle.c_declarators.specs.declared.specifier.Storage.TheVariants.{NoWord, Static, Extern}
use Rattle.c_declarators.specs.declared.specifier.SpecifiedType.{SpecifiedType}

abbrev pub storage_view : Storage → rule.Storage
storage_view NoWord = rule.no_word
storage_view Static = rule.static_word
storage_view Extern = rule.extern_word

pub record MeansSpecified (rows : List Row) (x : SpecifiedType) (s : rule.Specified) : Type 0 where
  pub storage : storage_view x.storage ≡ s.storage
  pub type : StandsFor rows x.ty s.type

-- the type of the first naming that words are
abbrev pub named_ref : List SpecifierWord → List Naming → Option TypeRef
named_ref words [] = None
named_ref words (n ∷ rest) = if rule.name_alike n.words.now words then Some n.ty else named_ref words rest

-- a type is named, or none is
abbrev pub Names : List Row → Option TypeRef → Option CType → Type 0
Names rows None None = Unit {0}
Names rows None (Some t) = ⊥
Names rows (Some r) None = ⊥
Names rows (Some r) (Some t) = Stands rows r t

-- what specifiers say, or that they may not stand so
abbrev pub Says : List Row → Option SpecifiedType → Ruled rule.Specified → Type 0
Says rows None (Ok s) = ⊥
Says rows None (Err n) = n ≡ 21
Says rows (Some x) (Ok s) = MeansSpecified rows x s
Says rows (Some x) (Err n) = ⊥
