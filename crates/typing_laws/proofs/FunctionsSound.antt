-- The parameters with which the body of a function begins.
use Rattle.std.proofs.Common.{◌≡◌, ℕ, suc, List, [], ◌∷◌, ◌++◌, map, length, refl, ap, sym, subst, ◌∙◌, false, Option, Some, None}
use Rattle.std.proofs.lemmas.List.{append_assoc}
use Rattle.std.specs.Prelude.{IsTrue}
use Rattle.c_types.specs.Types.{CType, Qualified, is_function, function_of}
use Rattle.typing_rules.specs.Source.{Bytes}
use Rattle.typing_rules.specs.Known.{Local, Scope}
use Rattle.typing_rules.specs.DeclaratorRules.{Derivation, to_pointer, to_array, to_function, parameter_type}
use Rattle.typing_rules.specs.Declarators.{IsDerived}
use Rattle.typing_rules.specs.Holding.{Makes}
use Rattle.typing_rules.specs.UnitRules.{own_parameters, with_name, scope_of, function_opened, function_closed}
use Rattle.typing_rules.specs.Laws.{Each}
use Rattle.typing_rules.specs.LanguageTypes.{IsObjectType}
use Rattle.typing_rules.specs.LanguageTerms.{type_at, IsScope}
use Rattle.typing_rules.proofs.Exactness.{some_same}
use Rattle.typing_rules.proofs.Sound.{Sound, Any, sound_makes}
use Rattle.typing_rules.proofs.LanguageTypesMade.{IsParameter, scalar_is_object}
use Rattle.typing_rules.proofs.DerivedTypes.{IsDerivation}
use Rattle.typing_laws.proofs.BlocksSound.{Block}

abbrev pub IsOwn : Local → Type 0
IsOwn p = IsParameter (parameter_type p)

pub own_are : (ds : List Derivation) (ps : List Local) → own_parameters ds ≡ Some ps → Each IsDerivation ds → Each IsOwn ps
own_are [] ps e h = absurd cc
own_are (to_pointer q ∷ ds) ps e h = absurd cc
own_are (to_array n ∷ ds) ps e h = absurd cc
own_are (to_function qs ∷ ds) ps e h = subst (Each IsOwn) (some_same qs ps e) h.0

function_is_one : (ps : List CType) (r : Qualified) → IsTrue (is_function (function_of ps r))
function_is_one [] r = refl
function_is_one (p ∷ ps) r = refl

pub own_is_function : (base : Qualified) (ds : List Derivation) (u : Qualified) (ps : List Local) → own_parameters ds ≡ Some ps
    → IsDerived false base ds u → IsTrue (is_function u.type)
own_is_function base [] u ps e h = absurd cc
own_is_function base (to_pointer q ∷ ds) u ps e h = absurd cc
own_is_function base (to_array n ∷ ds) u ps e h = absurd cc
own_is_function base (to_function qs ∷ ds) u ps e h =
    subst (λ v. IsTrue (is_function v.type)) (sym h.2.3) (function_is_one (map parameter_type qs) h.0)

-- ---- the scope of parameters

type_behind : (ts : List CType) (t : CType) (us : List CType) → type_at (ts ++ t ∷ us) (length ts) ≡ t
type_behind [] t us = refl
type_behind (u ∷ ts) t us = type_behind ts t us

length_more : (ts : List CType) (t : CType) → length (ts ++ t ∷ []) ≡ suc (length ts)
length_more [] t = refl
length_more (u ∷ ts) t = ap suc (length_more ts t)

named_is : (ts : List CType) (name : Option Bytes) (n : ℕ) (scope : Scope) → IsObjectType (type_at ts n) → IsScope ts scope
    → IsScope ts (with_name name n scope)
named_is ts None n scope o h = h
named_is ts (Some bytes) n scope o h = (o, h)

scope_is : (before : List CType) (n : ℕ) (ps : List Local) → n ≡ length before → Each IsOwn ps
    → IsScope (before ++ map parameter_type ps) (scope_of n ps)
scope_is before n [] e h = tt
scope_is before n (p ∷ ps) e h =
    let t = parameter_type p in
    let rest = map parameter_type ps in
    named_is (before ++ t ∷ rest) p.name n (scope_of (suc n) ps)
    (subst IsObjectType (sym (ap (type_at (before ++ t ∷ rest)) e ∙ type_behind before t rest)) (scalar_is_object t h.0.is_scalar h.0.of_language))
    (subst (λ ts. IsScope ts (scope_of (suc n) ps)) (append_assoc before (t ∷ []) rest)
    (scope_is (before ++ t ∷ []) (suc n) ps (ap suc e ∙ sym (length_more before t)) h.1))

own_objects : (ps : List Local) → Each IsOwn ps → Each IsObjectType (map parameter_type ps)
own_objects [] h = tt
own_objects (p ∷ ps) h = (scalar_is_object (parameter_type p) h.0.is_scalar h.0.of_language, own_objects ps h.1)

pub sound_function_opened : (ps : List Local) → Each IsOwn ps → Sound Block Any (Makes (function_opened ps))
sound_function_opened ps h = sound_makes (λ k b. record {
  scopes = (scope_is [] 0 ps refl h, tt);
  file_scope = b.file_scope;
  locals = own_objects ps h;
  entities = b.entities;
})

pub sound_function_closed : Sound Block Any (Makes function_closed)
sound_function_closed = sound_makes (λ k b. record { scopes = tt; file_scope = b.file_scope; locals = tt; entities = b.entities })
