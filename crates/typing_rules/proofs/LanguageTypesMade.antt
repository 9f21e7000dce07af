-- Types that are made of types of the language are of the language.
use Rattle.std.proofs.Common.{◌≡◌, suc, ◌≤◌, List, [], ◌∷◌, length, refl, arith}
use Rattle.std.specs.Prelude.{IsTrue, IsFalse}
use Rattle.c_types.specs.declared.qualifiers.Qualifiers.{Qualifiers}
use Rattle.c_types.specs.Types.{CType, void, integer, pointer, array, returning, taking, Qualified, is_void, is_function, is_array, is_pointer, is_complete, is_scalar, target_of, decayed, result_of, parameters_of, function_of}
use Rattle.typing_rules.specs.Limits.{most_parameters}
use Rattle.typing_rules.specs.Laws.{Each}
use Rattle.typing_rules.specs.LanguageTypes.{IsOfLanguage, IsObjectType}

pub complete_is_there : (t : CType) → IsTrue (is_complete t) → IsFalse (is_void t)
complete_is_there void h = absurd cc
complete_is_there (integer ty) h = refl
complete_is_there (pointer q t) h = refl
complete_is_there (array q t n) h = refl
complete_is_there (returning q t) h = refl
complete_is_there (taking p t) h = refl

pub complete_is_object : (t : CType) → IsTrue (is_complete t) → IsFalse (is_function t)
complete_is_object void h = absurd cc
complete_is_object (integer ty) h = refl
complete_is_object (pointer q t) h = refl
complete_is_object (array q t n) h = refl
complete_is_object (returning q t) h = absurd cc
complete_is_object (taking p t) h = absurd cc

pub target_is : (t : CType) → IsOfLanguage t → IsOfLanguage (target_of t).type
unfolding IsOfLanguage
target_is void h = tt
target_is (integer ty) h = tt
target_is (pointer q t) h = h.1
target_is (array q t n) h = tt
target_is (returning q t) h = tt
target_is (taking p t) h = tt

-- what a pointer points to is no `void`
pub target_is_there : (t : CType) → IsTrue (is_pointer t) → IsOfLanguage t → IsFalse (is_void (target_of t).type)
unfolding IsOfLanguage
target_is_there void p h = absurd cc
target_is_there (integer ty) p h = absurd cc
target_is_there (pointer q t) p h = h.0
target_is_there (array q t n) p h = absurd cc
target_is_there (returning q t) p h = absurd cc
target_is_there (taking p t) q h = absurd cc

pub pointer_is : (q : Qualifiers) (t : CType) → IsFalse (is_void t) → IsOfLanguage t → IsOfLanguage (pointer q t)
unfolding IsOfLanguage
pointer_is q t h l = (h, l)

function_is_there : (t : CType) → IsTrue (is_function t) → IsFalse (is_void t)
function_is_there void h = absurd cc
function_is_there (integer ty) h = refl
function_is_there (pointer q t) h = refl
function_is_there (array q t n) h = refl
function_is_there (returning q t) h = refl
function_is_there (taking p t) h = refl

pub function_pointer_is : (q : Qualifiers) (t : CType) → IsTrue (is_function t) → IsOfLanguage t → IsOfLanguage (pointer q t)
function_pointer_is q t h l = pointer_is q t (function_is_there t h) l

pub decayed_is : (t : CType) → IsOfLanguage t → IsOfLanguage (decayed t)
unfolding IsOfLanguage
decayed_is void h = tt
decayed_is (integer ty) h = tt
decayed_is (pointer q t) h = h
decayed_is (array q t n) h = (complete_is_there t h.0, h.1)
decayed_is (returning q t) h = (refl, h)
decayed_is (taking p t) h = (refl, h)

-- a type after adjustment is scalar, but for `void`
pub decayed_is_scalar : (t : CType) → IsFalse (is_void t) → IsTrue (is_scalar (decayed t))
decayed_is_scalar void h = absurd cc
decayed_is_scalar (integer ty) h = refl
decayed_is_scalar (pointer q t) h = refl
decayed_is_scalar (array q t n) h = refl
decayed_is_scalar (returning q t) h = refl
decayed_is_scalar (taking p t) h = refl

pub scalar_is_object : (t : CType) → IsTrue (is_scalar t) → IsOfLanguage t → IsObjectType t
scalar_is_object void s h = absurd cc
scalar_is_object (integer ty) s h = record { is_there = refl; is_object = refl; of_language = h }
scalar_is_object (pointer q t) s h = record { is_there = refl; is_object = refl; of_language = h }
scalar_is_object (array q t n) s h = absurd cc
scalar_is_object (returning q t) s h = absurd cc
scalar_is_object (taking p t) s h = absurd cc

pub result_is : (t : CType) → IsOfLanguage t → IsOfLanguage (result_of t)
unfolding IsOfLanguage
result_is void h = tt
result_is (integer ty) h = tt
result_is (pointer q t) h = tt
result_is (array q t n) h = tt
result_is (returning q t) h = h.2
result_is (taking p t) h = result_is t h.3

pub parameters_are : (t : CType) → IsOfLanguage t → Each IsOfLanguage (parameters_of t)
unfolding IsOfLanguage
parameters_are void h = tt
parameters_are (integer ty) h = tt
parameters_are (pointer q t) h = tt
parameters_are (array q t n) h = tt
parameters_are (returning q t) h = tt
parameters_are (taking p t) h = (h.1, parameters_are t h.3)

-- a parameter's type
pub record IsParameter (t : CType) : Type 0 where
  pub is_scalar : IsTrue (is_scalar t)
  pub of_language : IsOfLanguage t

function_of_is_one : (ps : List CType) (r : Qualified) → IsTrue (is_function (function_of ps r))
function_of_is_one [] r = refl
function_of_is_one (p ∷ ps) r = refl

parameters_many : (ps : List CType) (r : Qualified) → length (parameters_of (function_of ps r)) ≡ length ps
parameters_many [] r = refl
parameters_many (p ∷ ps) r = λ i. suc (parameters_many ps r i)

pub function_of_is : (ps : List CType) (r : Qualified) → Each IsParameter ps → length ps ≤ most_parameters
    → IsFalse (is_array r.type) → IsFalse (is_function r.type) → IsOfLanguage r.type → IsOfLanguage (function_of ps r)
unfolding IsOfLanguage
function_of_is [] r h n a f l = (a, f, l)
function_of_is (p ∷ ps) r h n a f l = (
  h.0.is_scalar,
  h.0.of_language,
  function_of_is_one ps r,
  function_of_is ps r h.1 (omega (arith, n)) a f l,
  rw (parameters_many ps r) n,
)
