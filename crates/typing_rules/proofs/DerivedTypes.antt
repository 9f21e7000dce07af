-- What specifiers and declarators make is a type of the language.
use Rattle.std.proofs.Common.{Bool as Test, true, false, List, [], ◌∷◌, map, sym, subst, Option, Some, None}
use Rattle.std.proofs.lemmas.List.{length-map}
use Rattle.c_types.specs.Types.{CType, Qualified, decayed}
use Rattle.c_tree.specs.declared.specifier.SpecifierWord.{SpecifierWord}
use Rattle.typing_rules.specs.Source.{Specifiers}
use Rattle.typing_rules.specs.Known.{Known, Local}
use Rattle.typing_rules.specs.SpecifierRules.{Specified, Naming, named_by, namings, name_alike}
use Rattle.typing_rules.specs.DeclaratorRules.{Derivation, to_pointer, to_array, to_function, parameter_type}
use Rattle.typing_rules.specs.Declarators.{Says, AreSpecified, DerivesType, IsDerived, IsParameterType}
use Rattle.typing_rules.specs.Laws.{Each}
use Rattle.typing_rules.specs.LanguageTypes.{IsOfLanguage, IsLengthOfLanguage}
use Rattle.typing_rules.proofs.PartsExact.{at_most}
use Rattle.typing_rules.proofs.Sound.{Sound, sound_such}
use Rattle.typing_rules.proofs.LanguageTypesMade.{IsParameter, function_of_is, decayed_is, decayed_is_scalar, complete_is_there}
use Rattle.typing_rules.proofs.LanguageNodesMade.{if_has}

-- ---- specifiers

abbrev IsLanguageIf : Option CType → Type 0
IsLanguageIf None = Unit {0}
IsLanguageIf (Some t) = IsOfLanguage t

named_is : (words : List SpecifierWord) (ns : List Naming) → Each (λ n. IsOfLanguage n.type) ns → IsLanguageIf (named_by words ns)
named_is words [] h = tt
named_is words (n ∷ rest) h =
    if_has IsLanguageIf (name_alike n.words words) (Some n.type) (named_by words rest) h.0 (named_is words rest h.1)

namings_are : Each (λ n. IsOfLanguage n.type) namings
unfolding IsOfLanguage
namings_are = (tt, (tt, (tt, (tt, (tt, (tt, (tt, (tt, (tt, (tt, (tt, (tt, (tt, (tt, (tt, (tt, tt))))))))))))))))

specified_is : (may_store : Test) (words : List SpecifierWord) (s : Specified) → Says may_store words s → IsOfLanguage s.type.type
specified_is may_store words s h =
    subst (λ u. IsOfLanguage u.type.type) (sym h.1.2) (subst IsLanguageIf h.1.1 (named_is words namings namings_are))

pub sound_specified : {I : Known → Type 0} (may_store : Test) (s : Specifiers) → Sound I (λ base. IsOfLanguage base.type.type) (AreSpecified may_store s)
sound_specified may_store s = sound_such (λ base h. specified_is may_store s.words base h)

-- ---- declarators

abbrev pub IsDerivation : Derivation → Type 0
IsDerivation (to_pointer q) = Unit {0}
IsDerivation (to_array n) = IsLengthOfLanguage n
IsDerivation (to_function ps) = Each (λ p. IsParameter (parameter_type p)) ps

each_mapped : (ps : List Local) → Each (λ p. IsParameter (parameter_type p)) ps → Each IsParameter (map parameter_type ps)
each_mapped [] h = tt
each_mapped (p ∷ ps) h = (h.0, each_mapped ps h.1)

derives_is : (d : Derivation) (t u : Qualified) → DerivesType false d t u → IsDerivation d → IsOfLanguage t.type → IsOfLanguage u.type
unfolding IsOfLanguage
derives_is (to_pointer q) t u h g l = subst (λ v. IsOfLanguage v.type) (sym h.1) (h.0, l)
derives_is (to_array n) t u h g l = subst (λ v. IsOfLanguage v.type) (sym h.2) (h.0, l, g, (at_most _ _).0 h.1)
derives_is (to_function ps) t u h g l =
    subst (λ v. IsOfLanguage v.type) (sym h.3)
    (function_of_is (map parameter_type ps) t (each_mapped ps g) (rw (length-map ps parameter_type) h.2) h.0 h.1 l)

pub derived_is : (base : Qualified) (ds : List Derivation) (u : Qualified) → IsDerived false base ds u → Each IsDerivation ds
    → IsOfLanguage base.type → IsOfLanguage u.type
derived_is base [] u h g l = subst (λ v. IsOfLanguage v.type) (sym h) l
derived_is base (d ∷ ds) u h g l = derives_is d h.0 u h.2 g.0 (derived_is base ds h.0 h.1 g.1 l)

adjusted_is : (d : Derivation) (t u : Qualified) → DerivesType true d t u → IsDerivation d → IsOfLanguage t.type → IsOfLanguage (decayed u.type)
unfolding IsOfLanguage
adjusted_is (to_pointer q) t u h g l = decayed_is u.type (derives_is (to_pointer q) t u h g l)
adjusted_is (to_array n) t u h g l = subst (λ v. IsOfLanguage (decayed v.type)) (sym h.2) (complete_is_there t.type h.0, l)
adjusted_is (to_function ps) t u h g l = decayed_is u.type (derives_is (to_function ps) t u h g l)

decayed_derived : (base : Qualified) (ds : List Derivation) (u : Qualified) → IsDerived true base ds u → Each IsDerivation ds
    → IsOfLanguage base.type → IsOfLanguage (decayed u.type)
decayed_derived base [] u h g l = decayed_is u.type (subst (λ v. IsOfLanguage v.type) (sym h) l)
decayed_derived base (d ∷ ds) u h g l = adjusted_is d h.0 u h.2 g.0 (derived_is base ds h.0 h.1 g.1 l)

pub parameter_is : (base : Qualified) (ds : List Derivation) (u : Qualified) → IsParameterType base ds u → Each IsDerivation ds
    → IsOfLanguage base.type → IsParameter u.type
parameter_is base ds u h g l =
    subst (λ v. IsParameter v.type) (sym h.3)
    (record { is_scalar = decayed_is_scalar h.0.type h.2; of_language = decayed_derived base ds h.0 h.1 g l })
