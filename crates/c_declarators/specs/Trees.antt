-- The declarators of the tree as they are told, with the lines of a file.
use Rattle.std.specs.Prelude.{◌≡◌, ℕ, Bool as Test, true, false, List, map, Option, option_map, unwrap_or}
use Rattle.c_tree.specs.declared.name.Name.{Name}
use Rattle.c_tree.specs.declared.expression.Declarator as tree_declarator
use Rattle.c_tree.specs.declared.expression.Parameter as tree_parameter
use Rattle.typing_rules.specs.Source.{Declarator, Parameters, Parts, no_parts, pointer_part, array_part, unsized_part, function_part}
use Rattle.typing_rules.specs.SourceViews.{named_view, suffix_view, all_parts, pointers_from, declarator_view, declarator_of, declarator_or, parameter_view, ParameterView, parameters_from}
use Rattle.typing_rules.specs.DeclaratorRules.{name_of, first_bracket, first_parenthesis}
use Rattle.c_entities.specs.declared.entity.File.{File}
use Rattle.c_known.specs.Views.{line_in}
use Rattle.c_declarators.specs.declared.mark.Mark.{Mark}
use Rattle.c_declarators.specs.declared.mark.Mark.TheVariants.{Bracket, Parenthesis}

abbrev pub declarator_in : File → tree_declarator.Declarator → Declarator
declarator_in file d = declarator_of (declarator_view (line_in file) d)

-- one that may be missing, behind specifiers on a line
abbrev pub declarator_if : File → ℕ → Option tree_declarator.Declarator → Declarator
declarator_if file line d = declarator_or (line_in file line) (option_map (declarator_view (line_in file)) d)

abbrev pub parameter_in : File → tree_parameter.Parameter → ParameterView
parameter_in file p = parameter_view (line_in file) p

abbrev pub parameters_in : File → List tree_parameter.Parameter → Parameters
parameters_in file ps = parameters_from (map (parameter_in file) ps)

-- what stands behind the middle of a declarator, in front of other parts
abbrev pub behind : (ℕ → ℕ) → tree_declarator.Declarator → Parts → Parts
behind shift x rest = all_parts (map (suffix_view shift) x.suffixes) (pointers_from x.pointers rest)

-- the parts of a declarator in front of others, and alone
abbrev pub parts_before : File → tree_declarator.Declarator → Parts → Parts
parts_before file d = (declarator_view (line_in file) d).parts

abbrev pub parts_in : File → tree_declarator.Declarator → Parts
parts_in file d = parts_before file d no_parts

abbrev pub are_none : Parts → Test
are_none no_parts = true
are_none (pointer_part q rest) = false
are_none (array_part line length rest) = false
are_none (unsized_part line rest) = false
are_none (function_part line ps rest) = false

-- a declarator's name, in whatever file
abbrev pub IsNameOf : tree_declarator.Declarator → Option Name → Type 0
IsNameOf d name = (file : File) → option_map (named_view (line_in file)) name ≡ name_of (declarator_in file d)

abbrev pub IsNameIf : Option tree_declarator.Declarator → Option Name → Type 0
IsNameIf d name = (file : File) (line : ℕ) → option_map (named_view (line_in file)) name ≡ name_of (declarator_if file line d)

-- ---- tokens whose line stands for a declarator without a name

abbrev pub first_line : Mark → Parts → ℕ → ℕ
first_line Bracket parts other = first_bracket parts other
first_line Parenthesis parts other = first_parenthesis parts other

-- the line of the first such token of parts in front of others, if they have one
abbrev pub IsFirst : Mark → Option ℕ → (Parts → Parts) → Type 0
IsFirst mark line before = (rest : Parts) (other : ℕ) → first_line mark (before rest) other ≡ unwrap_or line (first_line mark rest other)
