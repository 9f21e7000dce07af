-- In every typed program each function has the type of a function, with as many parameters as it has.
use Rattle.std.proofs.Common.{◌≡◌, ◌≤◌, Bool as Test, false, List, [], ◌∷◌, map, length, refl, ap, sym, subst, ◌∙◌, Option, Some, None}
use Rattle.std.proofs.lemmas.List.{length-map}
use Rattle.std.specs.Prelude.{IsTrue}
use Rattle.c_types.specs.Types.{CType, Qualified, is_function, parameters_of, function_of}
use Rattle.c_typed.specs.Statements as t
use Rattle.typing_rules.specs.SourceUnits.{Definition, function, declaration_of, Unit as SourceUnit}
use Rattle.typing_rules.specs.Known.{Known, Local}
use Rattle.typing_rules.specs.Limits.{most_parameters}
use Rattle.typing_rules.specs.DeclaratorRules.{Derivation, to_pointer, to_array, to_function, parameter_type}
use Rattle.typing_rules.specs.Declarators.{IsDerived}
use Rattle.typing_rules.specs.UnitRules.{own_parameters, nothing_known}
use Rattle.typing_rules.specs.TypingUnits.{IsFunctionDefined, AreExternals, IsFile, IsBinary, Types}
use Rattle.typing_rules.specs.Laws.{Each, HasFunctionType, FunctionsFit}
use Rattle.typing_rules.proofs.Exactness.{some_same}

function_is_one : (ps : List CType) (r : Qualified) → IsTrue (is_function (function_of ps r))
function_is_one [] r = refl
function_is_one (p ∷ ps) r = refl

parameters_again : (ps : List CType) (r : Qualified) → parameters_of (function_of ps r) ≡ ps
parameters_again [] r = refl
parameters_again (p ∷ ps) r = ap (λ qs. p ∷ qs) (parameters_again ps r)

pub record IsOfFunction (ps : List Local) (type : CType) : Type 0 where
  pub is_one : IsTrue (is_function type)
  pub as_many : length (parameters_of type) ≡ length ps
  pub at_most : length ps ≤ most_parameters

own_type : (is_adjusted : Test) (base : Qualified) (ds : List Derivation) (u : Qualified) (ps : List Local)
    → own_parameters ds ≡ Some ps → IsDerived is_adjusted base ds u → IsOfFunction ps u.type
own_type is_adjusted base [] u ps p h = absurd cc
own_type is_adjusted base (to_pointer q ∷ ds) u ps p h = absurd cc
own_type is_adjusted base (to_array n ∷ ds) u ps p h = absurd cc
own_type is_adjusted base (to_function qs ∷ ds) u ps p h =
    rw (← some_same qs ps p, h.2.3) (record {
      is_one = function_is_one (map parameter_type qs) h.0;
      as_many = ap length (parameters_again (map parameter_type qs) h.0) ∙ length-map qs parameter_type;
      at_most = h.2.2;
    })

function_fits : (d : Definition) (f : t.Function) (k l : Known) → IsFunctionDefined d f k l → HasFunctionType f
function_fits d f k l h =
    let typed = h.second.second in
    let o = own_type false h.of.type h.second.of typed.of typed.second.of typed.second.first.0 typed.first.0 in
    rw typed.second.second.second.second.second.second.second.0 (record { is_one = o.is_one; as_many = o.as_many; at_most = o.at_most })

externals_fit : (unit : SourceUnit) (fs : List t.Function) (k l : Known) → AreExternals unit fs k l → Each HasFunctionType fs
externals_fit [] fs k l h = rw h.0 tt
externals_fit (function d ∷ rest) fs k l h =
    rw h.second.second.0 (function_fits d h.of k h.between h.first, externals_fit rest h.second.of h.between h.second.between h.second.first)
externals_fit (declaration_of d ∷ rest) fs k l h = externals_fit rest fs h.second.between l h.second.second

file_fits : (unit : SourceUnit) (file : t.TypedFile) (k l : Known) → IsFile unit file k l → Each HasFunctionType file.functions
file_fits unit file k l h = rw h.second.0 (externals_fit unit h.of k h.between h.first)

binary_fits : (binary : Option SourceUnit) (file : t.TypedFile) (k l : Known) → IsBinary binary file k l → Each HasFunctionType file.functions
binary_fits None file k l h = rw h.0 tt
binary_fits (Some unit) file k l h = file_fits unit file h.between l h.second

pub functions_fit_of : (main : SourceUnit) (binary : Option SourceUnit) (program : t.Program) → Types main binary program → FunctionsFit program
unfolding Types
functions_fit_of main binary program h =
    let p = h.1 in
    subst FunctionsFit (sym p.second.second.second.second.second.second.0)
    (file_fits main p.of nothing_known p.between p.first, binary_fits binary p.second.of p.between p.second.between p.second.first)
