-- Which types are those of the language (C11 6.2.5, within the subset and the limits), and that every node of a typed
-- tree has such a type.
use Rattle.std.specs.Prelude.{ℕ, suc, ◌≤◌, length, Option, Some, None, IsTrue, IsFalse}
use Rattle.c_types.specs.Types.{CType, void, integer, pointer, array, returning, taking, is_void, is_scalar, is_array, is_function, is_complete, parameters_of, cells_of}
use Rattle.c_typed.specs.Typed as t
use Rattle.c_typed.specs.Typed.{Place, place, PlaceNode, Value, value, ValueNode, Values, no_values, first_value}
use Rattle.typing_rules.specs.Limits.{most_parameters, most_cells}

-- a length that is there is one of 1 to 65,535 elements; it may be missing
abbrev pub IsLengthOfLanguage : Option ℕ → Type 0
IsLengthOfLanguage None = Unit {0}
IsLengthOfLanguage (Some n) = (1 ≤ n) × (n ≤ most_cells)

-- The types of the language. No pointer is one to `void`. The elements of an array are complete objects (C11 6.2.5p20,
-- 6.7.6.2p1), so that only an outermost length may be missing, and all its cells are within the limit. What a function
-- returns is neither an array nor a function (C11 6.7.6.3p1); its parameters are at most 16 scalars, as they are after
-- their adjustment (C11 6.7.6.3p4, p7, p8).
unfoldable pub IsOfLanguage : CType → Type 0
IsOfLanguage void = Unit {0}
IsOfLanguage (integer ty) = Unit {0}
IsOfLanguage (pointer q t) = IsFalse (is_void t) × IsOfLanguage t
IsOfLanguage (array q t n) = IsTrue (is_complete t) × IsOfLanguage t × IsLengthOfLanguage n × (cells_of (array q t n) ≤ most_cells)
IsOfLanguage (returning q t) = IsFalse (is_array t) × IsFalse (is_function t) × IsOfLanguage t
IsOfLanguage (taking p t) =
    IsTrue (is_scalar p) × IsOfLanguage p × IsTrue (is_function t) × IsOfLanguage t × (suc (length (parameters_of t)) ≤ most_parameters)

-- a type of an object (C11 6.2.5p1), perhaps of an array without a length
pub record IsObjectType (t : CType) : Type 0 where
  pub is_there : IsFalse (is_void t)
  pub is_object : IsFalse (is_function t)
  pub of_language : IsOfLanguage t

-- every node has a type of the language; a place has one of an object (C11 6.3.2.1p1)
unfoldable mutual
  pub HasTypes : Value → Type 0
  HasTypes (value line type node) = IsOfLanguage type × NodeHasTypes node

  pub PlaceHasTypes : Place → Type 0
  PlaceHasTypes (place line type node) = IsObjectType type.type × PlaceNodeHasTypes node

  pub PlaceNodeHasTypes : PlaceNode → Type 0
  PlaceNodeHasTypes (t.local n) = Unit {0}
  PlaceNodeHasTypes (t.static n) = Unit {0}
  PlaceNodeHasTypes (t.text n) = Unit {0}
  PlaceNodeHasTypes (t.pointed v) = HasTypes v
  PlaceNodeHasTypes (t.element at pointer_first a b) = HasTypes a × HasTypes b

  pub NodeHasTypes : ValueNode → Type 0
  NodeHasTypes (t.constant n) = Unit {0}
  NodeHasTypes t.null = Unit {0}
  NodeHasTypes (t.read p) = PlaceHasTypes p
  NodeHasTypes (t.first_element p) = PlaceHasTypes p
  NodeHasTypes (t.address p) = PlaceHasTypes p
  NodeHasTypes (t.function n) = Unit {0}
  NodeHasTypes (t.minus e) = HasTypes e
  NodeHasTypes (t.complement e) = HasTypes e
  NodeHasTypes (t.negation e) = HasTypes e
  NodeHasTypes (t.arithmetic op at a b) = HasTypes a × HasTypes b
  NodeHasTypes (t.sum at is_less pointer_first a b) = HasTypes a × HasTypes b
  NodeHasTypes (t.difference at a b) = HasTypes a × HasTypes b
  NodeHasTypes (t.comparison op at a b) = HasTypes a × HasTypes b
  NodeHasTypes (t.conjunction a b) = HasTypes a × HasTypes b
  NodeHasTypes (t.disjunction a b) = HasTypes a × HasTypes b
  NodeHasTypes (t.choice e a b) = HasTypes e × HasTypes a × HasTypes b
  NodeHasTypes (t.sequence dropped last) = AllHaveTypes dropped × HasTypes last
  NodeHasTypes (t.assignment p e) = PlaceHasTypes p × HasTypes e
  NodeHasTypes (t.update is_after p first op at ty e) = PlaceHasTypes p × HasTypes e
  NodeHasTypes (t.move is_after p is_less at e) = PlaceHasTypes p × HasTypes e
  NodeHasTypes (t.conversion first e) = HasTypes e
  NodeHasTypes (t.to_bool first e) = HasTypes e
  NodeHasTypes (t.requalified e) = HasTypes e
  NodeHasTypes (t.discarded e) = HasTypes e
  NodeHasTypes (t.call at n es) = AllHaveTypes es
  NodeHasTypes (t.call_through at e es) = HasTypes e × AllHaveTypes es
  NodeHasTypes (t.putchar at e) = HasTypes e
  NodeHasTypes (t.getchar at) = Unit {0}
  NodeHasTypes (t.exit at e) = HasTypes e

  pub AllHaveTypes : Values → Type 0
  AllHaveTypes no_values = Unit {0}
  AllHaveTypes (first_value e es) = HasTypes e × AllHaveTypes es
