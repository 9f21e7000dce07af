-- The typing relation on declaration specifiers and declarators (C11 6.7.1, 6.7.2, 6.7.6).
use Rattle.std.specs.Prelude.{◌≡◌, ℕ, ◌≤◌, ◌<◌, Bool as Test, true, false, List, [], ◌∷◌, map, length, drop, take, Option, Some, None, IsTrue, IsFalse}
use Rattle.c_types.specs.Types.{CType, Qualified, unqualified, is_void, is_integer, is_array, is_function, is_complete, pointer_to, array_of, function_of, adjusted}
use Rattle.c_tree.specs.declared.specifier.SpecifierWord.{SpecifierWord}
use Rattle.c_typed.specs.declared.constant.Constant.TheVariants.{Value as Number}
use Rattle.c_typed.specs.Typed.{Value, type_of}
use Rattle.c_typed.specs.Constants.{constant_of}
use Rattle.typing_rules.specs.Source.{Named, Specifiers, Declarator, Parameters}
use Rattle.typing_rules.specs.Known as known
use Rattle.typing_rules.specs.Known.{Known, Meaning, Local, innermost, found_in}
use Rattle.typing_rules.specs.Limits.{most_parameters, most_cells}
use Rattle.typing_rules.specs.SpecifierRules.{Specified, storage_fits, storage_in, qualifiers_in, named_by, namings}
use Rattle.typing_rules.specs.DeclaratorRules.{Derivation, to_pointer, to_array, to_function, name_of, is_empty_list, fits_cells, parameter_type, parameter_local}
use Rattle.typing_rules.specs.Holding.{Typing, ◌>>=◌, ◌>>◌, Is, Such, Holds, Asks, Makes, Either}

-- specifiers name one type, and have storage words only where these may stand (C11 6.7.1p2, 6.7.2p2)
abbrev pub Says : Test → List SpecifierWord → Specified → Type 0
Says may_store words s =
    IsTrue (storage_fits may_store words) ×
    ((t : CType) × (named_by words namings ≡ Some t) × (s ≡ record
    { storage = storage_in words; type = record { qualifiers = qualifiers_in words; type = t } }))

abbrev pub AreSpecified : Test → Specifiers → Typing Specified
AreSpecified may_store s = Such (Says may_store s.words)

-- the length of an array is an integer constant expression, greater than 0 (C11 6.7.6.2p1)
abbrev pub IsLength : Value → ℕ → Type 0
IsLength v n = IsTrue (is_integer (type_of v)) × (constant_of v ≡ Number n) × (0 < n) × (n ≤ most_cells)

-- ---- derived types

-- a pointer to anything but `void`; an array of a complete object type; a function whose result is no array and no
-- function (C11 6.7.6.2p1, 6.7.6.3p1)
abbrev pub DerivesType : Test → Derivation → Qualified → Qualified → Type 0
DerivesType is_adjusted (to_pointer q) t u = IsFalse (is_void t.type) × (u ≡ record { qualifiers = q; type = pointer_to t })
DerivesType is_adjusted (to_array n) t u =
    IsTrue (is_complete t.type) × IsTrue (fits_cells is_adjusted (array_of t n)) × (u ≡ unqualified (array_of t n))
DerivesType is_adjusted (to_function ps) t u =
    IsFalse (is_array t.type) × IsFalse (is_function t.type) × (length ps ≤ most_parameters) × (u ≡ unqualified (function_of (map parameter_type ps) t))

-- the type that a declarator gives: what it derives last is next to the type of the specifiers
abbrev pub IsDerived : Test → Qualified → List Derivation → Qualified → Type 0
IsDerived is_adjusted base [] u = u ≡ base
IsDerived is_adjusted base (d ∷ ds) u = (t : Qualified) × IsDerived false base ds t × DerivesType is_adjusted d t u

-- the type of a parameter is no `void`, and is adjusted (C11 6.7.6.3p4, p7, p8)
abbrev pub IsParameterType : Qualified → List Derivation → Qualified → Type 0
IsParameterType base ds u = (t : Qualified) × IsDerived true base ds t × IsFalse (is_void t.type) × (u ≡ adjusted t)

-- ---- names and parameters

-- a name is declared once in a scope (C11 6.7p3)
abbrev pub IsDeclared : Named → Meaning → Typing (Unit {0})
IsDeclared name m = do
  Holds (λ k. found_in name.bytes (innermost k.scopes) ≡ None)
  Makes (known.meaning name.bytes m)

abbrev pub IsNamedLocal : Option Named → ℕ → Typing (Unit {0})
IsNamedLocal None n = Is tt
IsNamedLocal (Some name) n = IsDeclared name (known.local n)

abbrev pub IsParameter : Specifiers → Qualified → Declarator → List Derivation → Typing (Unit {0})
IsParameter s base d ds = do
  type ← Such (IsParameterType base ds)
  n ← Asks (λ k. length k.locals)
  IsNamedLocal (name_of d) n
  Makes (known.with_local (parameter_local d s.line type))

-- a list of parameters has a scope of its own (C11 6.2.1p4)
abbrev pub IsParameterList : Parameters → Typing (Unit {0}) → Typing (List Local)
IsParameterList ps Each = Either (is_empty_list ps) (Is []) (do
  before ← Asks (λ k. length k.locals)
  Makes known.opened
  Each
  found ← Asks (λ k. drop before k.locals)
  Makes (λ k. known.closed (known.with_locals (take before k.locals) k))
  Is found)
