-- The type that a declarator gives an object is complete, but where it declares an array without a length.
use Rattle.std.proofs.Common.{◌≡◌, Bool as Test, true, false, List, [], ◌∷◌, map, refl, sym, subst, Option, Some, None}
use Rattle.std.specs.Prelude.{IsTrue, IsFalse}
use Rattle.c_types.specs.Types.{CType, void, integer, pointer, array, returning, taking, Qualified, is_void, is_array, is_function, is_complete, function_of}
use Rattle.c_tree.specs.declared.specifier.SpecifierWord.{SpecifierWord}
use Rattle.typing_rules.specs.Source.{Specifiers, Declarator, declarator, no_parts, pointer_part, array_part, unsized_part, function_part}
use Rattle.typing_rules.specs.Known.{Known}
use Rattle.typing_rules.specs.SpecifierRules.{Specified, Naming, named_by, namings, name_alike}
use Rattle.typing_rules.specs.DeclaratorRules.{Derivation, to_pointer, to_array, to_function, parameter_type}
use Rattle.typing_rules.specs.Declarators.{Says, AreSpecified, IsDerived}
use Rattle.typing_rules.specs.Holding.{Typing, Sequence, Such}
use Rattle.typing_rules.specs.Typing.{AreDerivations}
use Rattle.typing_rules.specs.Laws.{Each}
use Rattle.typing_rules.specs.LanguageTypes.{IsOfLanguage}
use Rattle.typing_rules.proofs.Sound.{Sound, sound_such, sound_bind}
use Rattle.typing_rules.proofs.LanguageNodesMade.{if_has}
use Rattle.typing_rules.proofs.DerivedTypes.{IsDerivation, sound_specified, derived_is}
use Rattle.typing_laws.specs.HasItems.{is_unsized}
use Rattle.typing_laws.proofs.BlocksSound.{Block, sound_derives}

-- ---- specifiers

abbrev IsNoArrayIf : Option CType → Type 0
IsNoArrayIf None = Unit {0}
IsNoArrayIf (Some t) = IsFalse (is_array t)

named_is_no_array : (words : List SpecifierWord) (ns : List Naming) → Each (λ n. IsFalse (is_array n.type)) ns → IsNoArrayIf (named_by words ns)
named_is_no_array words [] h = tt
named_is_no_array words (n ∷ rest) h =
    if_has IsNoArrayIf (name_alike n.words words) (Some n.type) (named_by words rest) h.0 (named_is_no_array words rest h.1)

namings_are_no_arrays : Each (λ n. IsFalse (is_array n.type)) namings
namings_are_no_arrays =
    (refl, (refl, (refl, (refl, (refl, (refl, (refl, (refl, (refl, (refl, (refl, (refl, (refl, (refl, (refl, (refl, tt))))))))))))))))

-- the type of specifiers
pub record IsBase (base : Qualified) : Type 0 where
  pub of_language : IsOfLanguage base.type
  pub is_no_array : IsFalse (is_array base.type)

says_base : (may_store : Test) (words : List SpecifierWord) (s : Specified) → Says may_store words s → IsFalse (is_array s.type.type)
says_base may_store words s h =
    subst (λ u. IsFalse (is_array u.type.type)) (sym h.1.2) (subst IsNoArrayIf h.1.1 (named_is_no_array words namings namings_are_no_arrays))

pub sound_base : (may_store : Test) (s : Specifiers) → Sound Block (λ base. IsBase base.type) (AreSpecified may_store s)
sound_base may_store s = record {
  sound = λ x k l h b.
      let p = (sound_specified {I = Block} may_store s).sound x k l h b in
      (record { of_language = p.0; is_no_array = says_base may_store s.words x h.0 }, p.1);
}

-- ---- derivations

abbrev begins_unsized : List Derivation → Test
begins_unsized [] = false
begins_unsized (to_pointer q ∷ ds) = false
begins_unsized (to_array None ∷ ds) = true
begins_unsized (to_array (Some n) ∷ ds) = false
begins_unsized (to_function ps ∷ ds) = false

begins_so : (d : Declarator) (ds : List Derivation) (k l : Known) → AreDerivations d ds k l → IsTrue (begins_unsized ds) → IsTrue (is_unsized d)
unfolding AreDerivations
begins_so (declarator line name no_parts) ds k l h b = subst (λ xs. IsTrue (begins_unsized xs)) h.0 b
begins_so (declarator line name (pointer_part q rest)) ds k l h b = subst (λ xs. IsTrue (begins_unsized xs)) h.second.0 b
begins_so (declarator line name (array_part at length rest)) ds k l h b = subst (λ xs. IsTrue (begins_unsized xs)) h.second.second.second.0 b
begins_so (declarator line name (unsized_part at rest)) ds k l h b = refl
begins_so (declarator line name (function_part at ps rest)) ds k l h b = subst (λ xs. IsTrue (begins_unsized xs)) h.second.second.0 b

-- a type of an object that is not complete
record IsOpen (t : CType) : Type 0 where
  is_there : IsFalse (is_void t)
  is_object : IsFalse (is_function t)
  is_open : IsFalse (is_complete t)

no_array_is_open : (t : CType) → IsFalse (is_array t) → IsOpen t → ⊥
no_array_is_open void a h = absurd (let e = h.is_there in cc)
no_array_is_open (integer ty) a h = absurd (let e = h.is_open in cc)
no_array_is_open (pointer q t) a h = absurd (let e = h.is_open in cc)
no_array_is_open (array q t n) a h = absurd cc
no_array_is_open (returning q t) a h = absurd (let e = h.is_object in cc)
no_array_is_open (taking p t) a h = absurd (let e = h.is_object in cc)

function_is_not_open : (ps : List CType) (r : Qualified) → IsFalse (is_function (function_of ps r)) → ⊥
function_is_not_open [] r h = absurd cc
function_is_not_open (p ∷ ps) r h = absurd cc

not_both : (a : Test) → a ≡ true → a ≡ false → ⊥
not_both a t f = absurd cc

open_begins : (base : Qualified) (ds : List Derivation) (u : Qualified) → IsFalse (is_array base.type) → IsDerived false base ds u → IsOpen u.type
    → IsTrue (begins_unsized ds)
open_begins base [] u a h o = absurd (no_array_is_open base.type a (subst (λ v. IsOpen v.type) h o))
open_begins base (to_pointer q ∷ ds) u a h o = absurd (not_both true refl (subst (λ v. IsOpen v.type) h.2.1 o).is_open)
open_begins base (to_array None ∷ ds) u a h o = refl
open_begins base (to_array (Some n) ∷ ds) u a h o = absurd (not_both true refl (subst (λ v. IsOpen v.type) h.2.2 o).is_open)
open_begins base (to_function ps ∷ ds) u a h o =
    absurd (function_is_not_open (map parameter_type ps) h.0 (subst (λ v. IsOpen v.type) h.2.3 o).is_object)

-- ---- the type of a declarator

pub record IsDeclaredBy (d : Declarator) (type : Qualified) : Type 0 where
  pub of_language : IsOfLanguage type.type
  pub is_open : IsFalse (is_void type.type) → IsFalse (is_function type.type) → IsFalse (is_complete type.type) → IsTrue (is_unsized d)

abbrev BeginsBy : Declarator → List Derivation → Type 0
BeginsBy d ds = Each IsDerivation ds × (IsTrue (begins_unsized ds) → IsTrue (is_unsized d))

sound_begins : (d : Declarator) → Sound Block (BeginsBy d) (AreDerivations d)
sound_begins d = record { sound = λ x k l h b. let p = (sound_derives d).sound x k l h b in ((p.0, begins_so d x k l h), p.1) }

-- what follows behind the type of a declarator
pub sound_type : {A : Type 0} {Q : A → Type 0} {T : Qualified → Typing A} (base : Qualified) (d : Declarator) → IsBase base
    → ((type : Qualified) → IsDeclaredBy d type → Sound Block Q (T type))
    → Sound Block Q (Sequence (AreDerivations d) (λ ds. Sequence (Such (IsDerived false base ds)) T))
sound_type base d b rest =
    sound_bind (sound_begins d) (λ ds p. sound_bind {P = IsDeclaredBy d} (sound_such (λ type h. record {
      of_language = derived_is base ds type h p.0 b.of_language;
      is_open = λ v f c. p.1 (open_begins base ds type b.is_no_array h (record { is_there = v; is_object = f; is_open = c }));
    })) rest)
