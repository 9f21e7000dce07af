-- What a declarator makes of the type of its specifiers (C11 6.7.6).
use Rattle.std.specs.Prelude.{ℕ, nat_le, nat_lt, Bool as Test, true, false, not, ◌&&◌, ◌||◌, if◌then◌else◌, List, [], ◌∷◌, map, length, Option, Some, None, option_map, Result, Ok, Err}
use Rattle.c_types.specs.declared.qualifiers.Qualifiers.{Qualifiers}
use Rattle.c_types.specs.Types.{CType, Qualified, unqualified, is_void, is_integer, is_array, is_function, is_complete, pointer_to, array_of, function_of, cells_of, adjusted}
use Rattle.c_types.specs.Rules.{Ruled}
use Rattle.c_tree.specs.declared.specifier.SpecifierWord.{SpecifierWord}
use Rattle.c_tree.specs.declared.specifier.SpecifierWord.TheVariants.{Void}
use Rattle.c_typed.specs.declared.constant.Constant.{Constant}
use Rattle.c_typed.specs.declared.constant.Constant.TheVariants.{NoForm, Traps, Value as Number}
use Rattle.c_typed.specs.Typed.{Value, type_of}
use Rattle.c_typed.specs.Constants.{constant_of}
use Rattle.typing_rules.specs.declared.refusal.TypeRefusal.{TypeRefusal}
use Rattle.typing_rules.specs.declared.refusal.TypeRefusal.TheVariants.{Mismatch, TooLarge}
use Rattle.typing_rules.specs.declared.refusal.Size.TheVariants.{Params, Cells}
use Rattle.typing_rules.specs.Source.{Named, Declarator, declarator, Parts, no_parts, pointer_part, array_part, unsized_part, function_part, Parameters, no_parameters, first_parameter}
use Rattle.typing_rules.specs.Known.{Local}
use Rattle.typing_rules.specs.Limits.{most_parameters, most_cells}
use Rattle.typing_rules.specs.SpecifierRules.{same_word}

-- a part of a declarator, with the length of an array or the parameters of a function
pub data Derivation : Type 0 where
  to_pointer : (qualifiers : Qualifiers) → Derivation
  to_array : (length : Option ℕ) → Derivation
  to_function : (parameters : List Local) → Derivation

-- the lines of a declarator: that of rules 14 and 22, and that of rule 15 and of what is too large. Both are that of
-- the name. Without one the first is that of the first `(` or else of the specifiers, and the second that of the first
-- `[` or else the same.
pub record Lines : Type 0 where
  pub rules : ℕ
  pub lengths : ℕ

abbrev pub first_bracket : Parts → ℕ → ℕ
first_bracket no_parts other = other
first_bracket (pointer_part q rest) other = first_bracket rest other
first_bracket (array_part line length rest) other = line
first_bracket (unsized_part line rest) other = line
first_bracket (function_part line ps rest) other = first_bracket rest other

abbrev pub first_parenthesis : Parts → ℕ → ℕ
first_parenthesis no_parts other = other
first_parenthesis (pointer_part q rest) other = first_parenthesis rest other
first_parenthesis (array_part line length rest) other = first_parenthesis rest other
first_parenthesis (unsized_part line rest) other = first_parenthesis rest other
first_parenthesis (function_part line ps rest) other = line

abbrev pub lines_at : Option Named → Parts → ℕ → Lines
lines_at (Some name) parts specifiers = record { rules = name.line; lengths = name.line }
lines_at None parts specifiers =
    let other = first_parenthesis parts specifiers in record { rules = other; lengths = first_bracket parts other }

-- the lines of a declarator behind specifiers on a line
abbrev pub lines_of : Declarator → ℕ → Lines
lines_of (declarator line name parts) specifiers = lines_at name parts specifiers

abbrev pub name_of : Declarator → Option Named
name_of (declarator line name parts) = name

abbrev pub first_of_declarator : Declarator → ℕ
first_of_declarator (declarator line name parts) = line

abbrev pub is_bare : Declarator → Test
is_bare (declarator line None no_parts) = true
is_bare (declarator line None (pointer_part q rest)) = false
is_bare (declarator line None (array_part at length rest)) = false
is_bare (declarator line None (unsized_part at rest)) = false
is_bare (declarator line None (function_part at ps rest)) = false
is_bare (declarator line (Some name) parts) = false

abbrev pub is_void_word : List SpecifierWord → Test
is_void_word [] = false
is_void_word (w ∷ []) = same_word w Void
is_void_word (w ∷ x ∷ rest) = false

-- a list of parameters that is empty: nothing, or `void` alone (C11 6.7.6.3p10, p14)
abbrev pub is_empty_list : Parameters → Test
is_empty_list no_parameters = true
is_empty_list (first_parameter s d no_parameters) = is_void_word s.words && is_bare d
is_empty_list (first_parameter s d (first_parameter t e rest)) = false

-- ---- lengths

abbrev pub constant_length : Constant → Ruled ℕ
constant_length NoForm = Err 15
constant_length Traps = Err 15
constant_length (Number n) = if nat_lt 0 n && nat_le n most_cells then Ok n else Err 15

-- the length of an array (C11 6.7.6.2p1)
abbrev pub length_of : Value → Ruled ℕ
length_of v =
    if is_void (type_of v) then Err 14
    else if is_integer (type_of v) then constant_length (constant_of v)
    else Err 15

-- ---- derived types

abbrev pub pointed_to : Lines → Qualifiers → Qualified → Result Qualified TypeRefusal
pointed_to at q t =
    if is_void t.type then Err (Mismatch at.rules 14) else Ok (record { qualifiers = q; type = pointer_to t })

-- a written array type has few enough cells, unless it is a parameter's that becomes a pointer
abbrev pub fits_cells : Test → CType → Test
fits_cells is_adjusted t = is_adjusted || nat_le (cells_of t) most_cells

abbrev pub arrayed : Lines → Test → Option ℕ → Qualified → Result Qualified TypeRefusal
arrayed at is_adjusted n t =
    if is_function t.type then Err (Mismatch at.rules 22)
    else if is_void t.type then Err (Mismatch at.rules 14)
    else if not (is_complete t.type) then Err (Mismatch at.lengths 15)
    else if fits_cells is_adjusted (array_of t n) then Ok (unqualified (array_of t n))
    else Err (TooLarge at.lengths Cells)

abbrev pub parameter_type : Local → CType
parameter_type p = p.type.type

abbrev pub returned : Lines → List Local → Qualified → Result Qualified TypeRefusal
returned at ps t =
    if is_array t.type || is_function t.type then Err (Mismatch at.rules 22)
    else if nat_le (length ps) most_parameters then Ok (unqualified (function_of (map parameter_type ps) t))
    else Err (TooLarge at.lengths Params)

abbrev pub derived_by : Lines → Test → Derivation → Qualified → Result Qualified TypeRefusal
derived_by at is_adjusted (to_pointer q) t = pointed_to at q t
derived_by at is_adjusted (to_array n) t = arrayed at is_adjusted n t
derived_by at is_adjusted (to_function ps) t = returned at ps t

abbrev pub derived_from : Result Qualified TypeRefusal → Lines → Test → Derivation → Result Qualified TypeRefusal
derived_from (Err refusal) at is_adjusted d = Err refusal
derived_from (Ok t) at is_adjusted d = derived_by at is_adjusted d t

-- the type that a declarator gives, from the specifiers' type outward to the name
abbrev pub derived : Lines → Test → Qualified → List Derivation → Result Qualified TypeRefusal
derived at is_adjusted base [] = Ok base
derived at is_adjusted base (d ∷ ds) = derived_from (derived at false base ds) at is_adjusted d

-- ---- parameters

-- a parameter's own type after its adjustment; it is no void
abbrev pub parameter_of : Lines → Result Qualified TypeRefusal → Result Qualified TypeRefusal
parameter_of at (Err refusal) = Err refusal
parameter_of at (Ok t) = if is_void t.type then Err (Mismatch at.rules 14) else Ok (adjusted t)

-- the line of a name, or another where there is none
abbrev pub line_or : ℕ → Option Named → ℕ
line_or other None = other
line_or other (Some name) = name.line

-- a parameter as a local: without a name it has the line of its first specifier
abbrev pub parameter_local : Declarator → ℕ → Qualified → Local
parameter_local d specifiers type =
    record {
      name = option_map (λ n. n.bytes) (name_of d);
      line = line_or specifiers (name_of d);
      first = first_of_declarator d;
      type = type;
      is_addressed = false;
    }

-- ---- locals

abbrev pub new_local : Named → ℕ → Qualified → Local
new_local name first type = record { name = Some name.bytes; line = name.line; first = first; type = type; is_addressed = false }

-- the name of a declarator that declares something; it is always there in a declaration
abbrev pub no_name : Named
no_name = record { line = 0; bytes = [] }

abbrev pub or_no_name : Option Named → Named
or_no_name None = no_name
or_no_name (Some name) = name
