-- That what expressions are has types of the language, and that what is known has.
use Rattle.std.specs.Prelude.{ℕ, zero, suc, List, [], ◌∷◌, map, IsTrue, IsFalse}
use Rattle.c_types.specs.Types.{CType, void, is_void, is_function}
use Rattle.typing_rules.specs.Known as known
use Rattle.typing_rules.specs.Known.{Known, Meaning, Scope}
use Rattle.typing_rules.specs.Terms.{Term, object, result, designator, Designated, entity, predeclared, through}
use Rattle.typing_rules.specs.DeclaratorRules.{parameter_type}
use Rattle.typing_rules.specs.Laws.{Each}
use Rattle.typing_rules.specs.LanguageTypes.{IsOfLanguage, IsObjectType, HasTypes, PlaceHasTypes}

-- ---- expressions, before an array or a function decays

abbrev pub DesignatedHas : Designated → Type 0
DesignatedHas (entity n main) = Unit {0}
DesignatedHas (predeclared p) = Unit {0}
DesignatedHas (through v) = HasTypes v

-- a function designator (C11 6.3.2.1p4)
pub record IsDesignator (d : Designated) (type : CType) : Type 0 where
  pub is_function : IsTrue (is_function type)
  pub of_language : IsOfLanguage type
  pub has : DesignatedHas d

abbrev pub TermHas : Term → Type 0
TermHas (object p) = PlaceHasTypes p
TermHas (result v) = HasTypes v
TermHas (designator line d type) = IsDesignator d type

-- ---- what names mean

-- the type of a local, by its number; `void` for one that is not there
abbrev pub type_at : List CType → ℕ → CType
type_at [] n = void
type_at (t ∷ ts) zero = t
type_at (t ∷ ts) (suc n) = type_at ts n

-- where locals have these types, a name means one of them, of an object type, or something with a type of the language
abbrev pub IsMeaning : List CType → Meaning → Type 0
IsMeaning ts (known.local n) = IsObjectType (type_at ts n)
IsMeaning ts (known.linked n type) = IsFalse (is_void type.type) × IsOfLanguage type.type
IsMeaning ts (known.predeclared p) = Unit {0}
IsMeaning ts (known.constant n) = Unit {0}

abbrev pub IsScope : List CType → Scope → Type 0
IsScope ts scope = Each (λ d. IsMeaning ts d.1) scope

-- what each name means at a place of a program has a type of the language
pub record KnowsTypes (k : Known) : Type 0 where
  pub scopes : Each (IsScope (map parameter_type k.locals)) k.scopes
  pub file_scope : IsScope (map parameter_type k.locals) k.file_scope
