-- What checking makes of lists of expressions and of parameters, of declarators and of names of types.
use Rattle.std.proofs.Common.{◌≡◌, ℕ, true, false, List, [], ◌∷◌, ◌++◌, map, Some, None, refl, sym, ◌∙◌, ap}
use Rattle.std.specs.Prelude.{option_map}
use Rattle.c_types.specs.declared.type_ref.Row.{Row}
use Rattle.c_types.specs.Table.{Extends}
use Rattle.c_tree.specs.declared.expression.Suffix.TheVariants as ts
use Rattle.c_tree.specs.declared.expression.Suffix as tree_suffix
use Rattle.c_tree.specs.declared.expression.Parameter as tree_parameter
use Rattle.c_tree.specs.declared.expression.Parameter.{out-Parameter, roll-out-Parameter}
use Rattle.c_tree.specs.declared.expression.TypeName as tree_type_name
use Rattle.c_tree.specs.declared.expression.TypeName.{out-TypeName, roll-out-TypeName}
use Rattle.c_tree.specs.declared.expression.Expr as tree_expr
use Rattle.typing_rules.specs.Source.{Expr, Exprs, no_exprs, first_expr, Parts, no_parts, pointer_part, unsized_part, array_part, function_part, Parameters, no_parameters, first_parameter, type_name}
use Rattle.typing_rules.specs.SourceViews.{expr_view, exprs_from, suffix_view, declarator_view, declarator_of, declarator_or, DeclaratorView, parameter_view, ParameterView, parameters_from, type_name_view, specifiers_view, all_parts}
use Rattle.typing_rules.specs.DeclaratorRules.{Derivation, to_pointer, to_array, to_function, Lines, lines_of, length_of, derived, is_empty_list}
use Rattle.typing_rules.specs.Checking.{◌>>=◌, pure, ruled_by, from_result, choose}
use Rattle.typing_rules.specs.OrderedParts.{specified, parameter, parameter_list}
use Rattle.typing_rules.specs.Ordered.{term_of, all_of, type_named, derivations_of, parts_of, parameters_of}
use Rattle.typing_rules.specs.OrderedDeclarations.{value_of}
use Rattle.typing_rules.proofs.SourceViewLaws.{view_type_name, view_parameter, view_unsized, view_sized, view_function}
use Rattle.c_values.specs.declared.typed.Written.{Written}
use Rattle.c_values.specs.Stand.{MeansWritten}
use Rattle.c_values.specs.Answers.{AreWritten}
use Rattle.typing_rules.specs.Terms as terms
use Rattle.c_declarators.specs.declared.derivation.Derivation as code
use Rattle.c_declarators.specs.declared.derivation.Derivation.TheVariants.{Pointer, Array, Function}
use Rattle.typing_rules.specs.DeclaratorRules as rule
use Rattle.c_types.proofs.Grown.{Extends-trans}
use Rattle.c_declarators.specs.Derivations.{MeansDerivation, AreDerivations}
use Rattle.c_terms.specs.Fronts.{before_exprs, before_parameters}
use Rattle.c_terms.specs.Kinds.{list_begun}
use Rattle.c_known.specs.Locals.{list_ended}
use Rattle.c_terms.proofs.Paths.{all-later}
use Rattle.c_terms.proofs.FrontLaws.{IsByItem}

-- ---- expressions

pub all-end : all_of no_exprs ≡ pure []
unfolding term_of
all-end = refl

pub all-first : (x : Expr) (rest : Exprs) → all_of (first_expr x rest) ≡ (value_of x >>= (λ a. all_of rest >>= (λ ws. pure (a ∷ ws))))
unfolding term_of
all-first x rest = refl

pub exprs-are : (es : List Expr) → exprs_from es ≡ before_exprs es no_exprs
exprs-are [] = refl
exprs-are (e ∷ es) = ap (first_expr e) (exprs-are es)

pub exprs-join : (xs ys : List Expr) (rest : Exprs) → before_exprs (xs ++ ys) rest ≡ before_exprs xs (before_exprs ys rest)
exprs-join [] ys rest = refl
exprs-join (x ∷ xs) ys rest = ap (first_expr x) (exprs-join xs ys rest)

all-join : (rows : List Row) (xs ys : List Written) (ds es : List terms.Written) → AreWritten rows xs ds → AreWritten rows ys es → AreWritten rows (xs ++ ys) (ds ++ es)
all-join rows [] ys [] es a b = b
all-join rows [] ys (d ∷ ds) es a b = absurd a
all-join rows (x ∷ xs) ys [] es a b = absurd a
all-join rows (x ∷ xs) ys (d ∷ ds) es a b = (a.0, all-join rows xs ys ds es a.1 b)

pub written-items : IsByItem AreWritten MeansWritten
written-items = record {
  none = λ rows. tt;
  one = λ rows x a m. (m, tt);
  join = all-join;
  later = λ old new xs ds more h. all-later xs ds more h;
}

-- ---- parts of declarators

one-later : (old new : List Row) (x : code.Derivation) (d : Derivation) → Extends old new → MeansDerivation old x d → MeansDerivation new x d
one-later old new (Pointer q) (rule.to_pointer r) more h = h
one-later old new (Pointer q) (rule.to_array m) more h = h
one-later old new (Pointer q) (rule.to_function ls) more h = h
one-later old new (Array n) (rule.to_pointer r) more h = h
one-later old new (Array n) (rule.to_array m) more h = h
one-later old new (Array n) (rule.to_function ls) more h = h
one-later old new (Function ps) (rule.to_pointer r) more h = h
one-later old new (Function ps) (rule.to_array m) more h = h
one-later old new (Function ps) (rule.to_function ls) more h = record { always = λ later l. h.always later (Extends-trans more l) }

pub parts-later : (old new : List Row) (xs : List code.Derivation) (ds : List Derivation) → Extends old new → AreDerivations old xs ds → AreDerivations new xs ds
parts-later old new [] [] more h = h
parts-later old new [] (d ∷ ds) more h = h
parts-later old new (x ∷ xs) [] more h = h
parts-later old new (x ∷ xs) (d ∷ ds) more h = (one-later old new x d more h.0, parts-later old new xs ds more h.1)

parts-join : (rows : List Row) (xs ys : List code.Derivation) (ds es : List Derivation)
    → AreDerivations rows xs ds → AreDerivations rows ys es → AreDerivations rows (xs ++ ys) (ds ++ es)
parts-join rows [] ys [] es a b = b
parts-join rows [] ys (d ∷ ds) es a b = absurd a
parts-join rows (x ∷ xs) ys [] es a b = absurd a
parts-join rows (x ∷ xs) ys (d ∷ ds) es a b = (a.0, parts-join rows xs ys ds es a.1 b)

pub part-items : IsByItem AreDerivations MeansDerivation
part-items = record { none = λ rows. tt; one = λ rows x a m. (m, tt); join = parts-join; later = parts-later }

pub parts-end : (lines : Lines) → parts_of lines no_parts ≡ pure []
unfolding term_of
parts-end lines = refl

pub suffixes-join : (fs gs : List (Parts → Parts)) (rest : Parts) → all_parts (fs ++ gs) rest ≡ all_parts fs (all_parts gs rest)
suffixes-join [] gs rest = refl
suffixes-join (f ∷ fs) gs rest = ap f (suffixes-join fs gs rest)

-- ---- parameters

pub parameters-end : parameters_of no_parameters ≡ pure tt
unfolding term_of
parameters-end = refl

pub parameters-are : (ps : List ParameterView) → parameters_from ps ≡ before_parameters ps no_parameters
parameters-are [] = refl
parameters-are (p ∷ ps) = ap (first_parameter p.specifiers p.declarator) (parameters-are ps)

pub parameters-join : (xs ys : List ParameterView) (rest : Parameters) → before_parameters (xs ++ ys) rest ≡ before_parameters xs (before_parameters ys rest)
parameters-join [] ys rest = refl
parameters-join (x ∷ xs) ys rest = ap (first_parameter x.specifiers x.declarator) (parameters-join xs ys rest)

-- a parameter, and those behind it
pub parameter-first : (x : ParameterView) (rest : Parameters)
    → parameters_of (first_parameter x.specifiers x.declarator rest)
    ≡ (specified false x.specifiers >>= (λ base. derivations_of (lines_of x.declarator x.specifiers.line) x.declarator >>= (λ ds. parameter x.specifiers base.type x.declarator ds >>= (λ u. parameters_of rest))))
unfolding term_of
parameter-first x rest = refl

pub missing-parts : (lines : Lines) (line : ℕ) → derivations_of lines (declarator_or line None) ≡ pure []
unfolding term_of
missing-parts lines line = refl

pub whole-parts : (lines : Lines) (d : DeclaratorView) → derivations_of lines (declarator_of d) ≡ parts_of lines (d.parts no_parts)
unfolding term_of
whole-parts lines d = refl

unsized-at : (lines : Lines) (line : ℕ) (rest : Parts) → parts_of lines (unsized_part line rest) ≡ (parts_of lines rest >>= (λ ds. pure (to_array None ∷ ds)))
unfolding term_of
unsized-at lines line rest = refl

sized-at : (lines : Lines) (line : ℕ) (e : Expr) (rest : Parts) → parts_of lines (array_part line e rest)
    ≡ (value_of e >>= (λ a. ruled_by lines.lengths (length_of a.value) >>= (λ n. parts_of lines rest >>= (λ ds. pure (to_array (Some n) ∷ ds)))))
unfolding term_of
sized-at lines line e rest = refl

function-at : (lines : Lines) (line : ℕ) (list : Parameters) (rest : Parts) → parts_of lines (function_part line list rest)
    ≡ (parameter_list list (parameters_of list) >>= (λ found. parts_of lines rest >>= (λ ds. pure (to_function found ∷ ds))))
unfolding term_of
function-at lines line list rest = refl

pub type-named-at : (s : _) (d : _) → type_named (type_name s d)
    ≡ (specified false s >>= (λ base. derivations_of (lines_of d s.line) d >>= (λ ds. from_result (derived (lines_of d s.line) false base.type ds))))
unfolding term_of
type-named-at s d = refl

module _ (shift : ℕ → ℕ) where
  pub type-name-is : (t : tree_type_name.TypeName) → type_name_view shift t
      ≡ type_name (specifiers_view shift (out-TypeName t).line (out-TypeName t).specifiers)
      (declarator_or (shift (out-TypeName t).line) (option_map (declarator_view shift) (out-TypeName t).declarator))
  type-name-is t = ap (type_name_view shift) (sym (roll-out-TypeName t))
      ∙ view_type_name shift (out-TypeName t).line (out-TypeName t).specifiers (out-TypeName t).declarator

  pub parameter-is : (p : tree_parameter.Parameter) → parameter_view shift p ≡ record {
    specifiers = specifiers_view shift (out-Parameter p).line (out-Parameter p).specifiers;
    declarator = declarator_or (shift (out-Parameter p).line) (option_map (declarator_view shift) (out-Parameter p).declarator);
  }
  parameter-is p = ap (parameter_view shift) (sym (roll-out-Parameter p))
      ∙ view_parameter shift (out-Parameter p).line (out-Parameter p).specifiers (out-Parameter p).declarator

  pub unsized-is : (lines : Lines) (s : tree_suffix.Suffix) (line : ℕ) → s ≡ ts.Array line None → (rest : Parts)
      → parts_of lines (suffix_view shift s rest) ≡ (parts_of lines rest >>= (λ ds. pure (to_array None ∷ ds)))
  unsized-is lines s line is rest =
      ap (λ z. parts_of lines (suffix_view shift z rest)) is ∙ ap (parts_of lines) (view_unsized shift line rest) ∙ unsized-at lines (shift line) rest

  pub sized-is : (lines : Lines) (s : tree_suffix.Suffix) (line : ℕ) (x : tree_expr.Expr) → s ≡ ts.Array line (Some x) → (rest : Parts)
      → parts_of lines (suffix_view shift s rest)
      ≡ (value_of (expr_view shift x) >>= (λ a. ruled_by lines.lengths (length_of a.value) >>= (λ n. parts_of lines rest >>= (λ ds. pure (to_array (Some n) ∷ ds)))))
  sized-is lines s line x is rest =
      ap (λ z. parts_of lines (suffix_view shift z rest)) is ∙ ap (parts_of lines) (view_sized shift line x rest) ∙ sized-at lines (shift line) (expr_view shift x) rest

  pub function-is : (lines : Lines) (s : tree_suffix.Suffix) (line : ℕ) (ps : List tree_parameter.Parameter) → s ≡ ts.Function line ps → (rest : Parts)
      → parts_of lines (suffix_view shift s rest)
      ≡ (parameter_list (parameters_from (map (parameter_view shift) ps)) (parameters_of (parameters_from (map (parameter_view shift) ps)))
      >>= (λ found. parts_of lines rest >>= (λ ds. pure (to_function found ∷ ds))))
  function-is lines s line ps is rest =
      ap (λ z. parts_of lines (suffix_view shift z rest)) is ∙ ap (parts_of lines) (view_function shift line ps rest)
      ∙ function-at lines (shift line) (parameters_from (map (parameter_view shift) ps)) rest

-- ---- lists of parameters

pub full-list : (ps : Parameters) → is_empty_list ps ≡ false → parameter_list ps (parameters_of ps)
    ≡ (list_begun >>= (λ before. parameters_of ps >>= (λ u. list_ended before)))
full-list ps e = ap (λ b. choose b (pure []) (list_begun >>= (λ before. parameters_of ps >>= (λ u. list_ended before)))) e

pub empty-list : (ps : Parameters) → is_empty_list ps ≡ true → parameter_list ps (parameters_of ps) ≡ pure []
empty-list ps e = ap (λ b. choose b (pure []) (list_begun >>= (λ before. parameters_of ps >>= (λ u. list_ended before)))) e

pub pointer-at : (lines : Lines) (q : _) (rest : Parts) → parts_of lines (pointer_part q rest) ≡ (parts_of lines rest >>= (λ ds. pure (to_pointer q ∷ ds)))
unfolding term_of
pointer-at lines q rest = refl
