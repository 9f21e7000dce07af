-- What declarations in blocks are, and what they make known, has types of the language.
use Rattle.std.proofs.Common.{ℕ, Bool as Test, false, List, [], ◌∷◌, map, length, refl, ap, sym, subst, ◌∙◌, Option, Some, None, inl, inr}
use Rattle.std.specs.Prelude.{IsFalse, IsTrue}
use Rattle.c_types.specs.Types.{CType, void, integer, pointer, array, returning, taking, Qualified, is_void, is_function, is_array}
use Rattle.c_typed.specs.Statements.{Cell, LocalItem}
use Rattle.typing_rules.specs.Source.{Named}
use Rattle.typing_rules.specs.SourceUnits.{Initial, Item, Declaration}
use Rattle.typing_rules.specs.Known as known
use Rattle.typing_rules.specs.Known.{Known, Meaning, found_in, local_at, predeclared_scope}
use Rattle.typing_rules.specs.SpecifierRules.{no_word}
use Rattle.typing_rules.specs.DeclaratorRules.{name_of, first_of_declarator, new_local, or_no_name, parameter_type}
use Rattle.typing_rules.specs.DeclarationRules.{scalar_of, initializer_of}
use Rattle.typing_rules.specs.Holding.{Typing, Sequence, Asks, Makes, Either}
use Rattle.typing_rules.specs.Declarators.{IsDeclared}
use Rattle.typing_rules.specs.TypingDeclarations.{IsLinkedInBlock, IsFunctionMeaning, HasNoInitial, IsFunctionInBlock, IsLocalInitialized, IsObjectInBlock, IsItemInBlock, AreItemsInBlock, IsDeclaredInBlock}
use Rattle.typing_rules.specs.Laws.{Each}
use Rattle.typing_rules.specs.LanguageTypes.{IsOfLanguage, IsObjectType}
use Rattle.typing_rules.specs.LanguageTerms.{IsMeaning}
use Rattle.typing_rules.proofs.Keeping.{each_append}
use Rattle.typing_rules.proofs.Sound.{Sound, Any, sound_is, sound_given, sound_holds, sound_makes, sound_never, sound_bind}
use Rattle.typing_rules.proofs.LanguageNodesMade.{if_has}
use Rattle.typing_laws.specs.LanguagePrograms.{IfThere, InitializerHasTypes, LocalsHaveTypes}
use Rattle.typing_laws.specs.HasItems.{ItemHasItems, DeclarationHasItems}
use Rattle.typing_laws.proofs.BlocksSound.{IsThere, Block, meaning_known, local_known, local_set}
use Rattle.typing_laws.proofs.UnsizedSound.{IsBase, sound_base, sound_type}
use Rattle.typing_laws.proofs.LinkageSound.{sound_linked}
use Rattle.typing_laws.proofs.InitializersSound.{CellHasTypes, IsGivenIf, sound_initialized}

-- ---- functions

-- what a name of a function means, whatever the locals are
abbrev MeansFunction : Meaning → Type 0
MeansFunction m = (ts : List CType) → IsMeaning ts m

sound_linked_in_block : (name : Named) (type : Qualified) → IsThere type.type → Sound Block MeansFunction (IsLinkedInBlock name type)
sound_linked_in_block name type t = sound_bind (sound_linked name no_word type t) (λ l p. sound_is (λ ts. (p.is_there, p.of_language)))

sound_function_meaning : (name : Named) (type : Qualified) (m : Option Meaning) → IsThere type.type
    → Sound Block MeansFunction (IsFunctionMeaning name type m)
sound_function_meaning name type None t = sound_linked_in_block name type t
sound_function_meaning name type (Some (known.local n)) t = sound_linked_in_block name type t
sound_function_meaning name type (Some (known.linked n u)) t = sound_linked_in_block name type t
sound_function_meaning name type (Some (known.predeclared p)) t = sound_bind sound_given (λ u p. sound_is (λ ts. tt))
sound_function_meaning name type (Some (known.constant n)) t = sound_linked_in_block name type t

pub sound_no_initial : (x : Option Initial) → Sound Block Any (HasNoInitial x)
sound_no_initial None = sound_is tt
sound_no_initial (Some x) = sound_never

sound_function_in_block : (name : Named) (type : Qualified) (x : Option Initial) → IsThere type.type
    → Sound Block LocalsHaveTypes (IsFunctionInBlock name type x)
sound_function_in_block name type x t =
    sound_bind sound_holds (λ u p. sound_bind (sound_function_meaning name type (found_in name.bytes predeclared_scope) t) (λ m q.
    sound_bind (sound_makes (λ k b. meaning_known name.bytes m k (q (map parameter_type k.locals)) b)) (λ u' p'.
    sound_bind (sound_no_initial x) (λ u'' p''. sound_is tt))))

-- ---- objects

scalar_has : (given : List Cell) → Each CellHasTypes given → IfThere InitializerHasTypes (scalar_of given)
scalar_has [] h = tt
scalar_has (c ∷ rest) h = h.0

initializer_has : (type : CType) (given : List Cell) → Each CellHasTypes given → IfThere InitializerHasTypes (initializer_of type given)
initializer_has type given h = if_has (IfThere InitializerHasTypes) (is_array type) _ (scalar_of given) h (scalar_has given h)

sound_local_initialized : (n : ℕ) (type : Qualified) (x : Option Initial) → IsGivenIf type.type x → IsObjectType type.type
    → Sound Block (IfThere InitializerHasTypes) (IsLocalInitialized n type x)
sound_local_initialized n type None h o = sound_is tt
sound_local_initialized n type (Some x) h o =
    sound_bind (sound_initialized false type x h o) (λ done p.
    sound_bind (sound_makes (λ k b. local_set n (record (local_at k.locals n) { type = done.type }) k p.is_object b)) (λ u q.
    sound_is (initializer_has done.type.type done.given p.cells)))

-- a local's name is declared, and the local: only both together leave the locals and their names in step
sound_new_local : {A : Type 0} {Q : A → Type 0} {T : ℕ → Typing A} (name : Named) (first : ℕ) (type : Qualified) → IsObjectType type.type
    → ((n : ℕ) → Sound Block Q (T n))
    → Sound Block Q (Sequence (Asks (λ k. length k.locals)) (λ n. Sequence (IsDeclared name (known.local n))
    (λ u. Sequence (Makes (known.with_local (new_local name first type))) (λ u'. T n))))
sound_new_local name first type o rest = record {
  sound = λ x k l h b.
      let declared = h.second in
      let made = declared.second in
      let named = declared.first.second ∙ ap (known.meaning name.bytes (known.local h.of)) (declared.first.first.1 ∙ h.first.1) in
      let now = made.first ∙ ap (known.with_local (new_local name first type)) named in
      (rest h.of).sound x made.between l made.second
      (subst Block (sym now) (local_known name.bytes h.of (new_local name first type) k h.first.0 o b));
}

sound_object_in_block : (name : Named) (first : ℕ) (type : Qualified) (x : Option Initial) → (IsFalse (is_void type.type) → IsGivenIf type.type x)
    → IsOfLanguage type.type → IsFalse (is_function type.type) → Sound Block LocalsHaveTypes (IsObjectInBlock name first type x)
sound_object_in_block name first type x h l f =
    sound_bind sound_given (λ u v. sound_bind sound_given (λ u' c.
    let o : IsObjectType type.type = record { is_there = v; is_object = f; of_language = l } in
    sound_new_local name first type o (λ n. sound_bind (sound_local_initialized n type x (h v) o) (λ i p. sound_is (p, tt)))))

-- ---- declarations

-- one of two things, each where its test is so
pub sound_by_test : {A : Type 0} {Q : A → Type 0} {I : Known → Type 0} {S T : Typing A} (test : Test)
    → (IsTrue test → Sound I Q S) → (IsFalse test → Sound I Q T) → Sound I Q (Either test S T)
sound_by_test test s t =
    record { sound = λ x k l h i. elim h [ inl p ↦ (s p.0).sound x k l p.1 i | inr p ↦ (t p.0).sound x k l p.1 i ] }

function_is_no_void : (t : CType) → IsTrue (is_function t) → IsFalse (is_void t)
function_is_no_void void h = absurd cc
function_is_no_void (integer ty) h = refl
function_is_no_void (pointer q t) h = refl
function_is_no_void (array q t n) h = refl
function_is_no_void (returning q t) h = refl
function_is_no_void (taking p t) h = refl

pub function_is_there : (t : CType) → IsTrue (is_function t) → IsOfLanguage t → IsThere t
function_is_there t h l = record { is_there = function_is_no_void t h; of_language = l }

abbrev LocalHasTypes : LocalItem → Type 0
LocalHasTypes l = IfThere InitializerHasTypes l.initializer

sound_item_in_block : (base : Qualified) (x : Item) → ItemHasItems x → IsBase base → Sound Block LocalsHaveTypes (IsItemInBlock base x)
sound_item_in_block base x h b =
    sound_type base x.declarator b (λ type d. sound_by_test (is_function type.type)
    (λ f. sound_function_in_block (or_no_name (name_of x.declarator)) type x.initial (function_is_there type.type f d.of_language))
    (λ f. sound_object_in_block (or_no_name (name_of x.declarator)) (first_of_declarator x.declarator) type x.initial
    (λ v c. h (d.is_open v f c)) d.of_language f))

sound_items_in_block : (base : Qualified) (xs : List Item) → Each ItemHasItems xs → IsBase base
    → Sound Block LocalsHaveTypes (AreItemsInBlock base xs)
sound_items_in_block base [] h b = sound_is tt
sound_items_in_block base (x ∷ rest) h b =
    sound_bind (sound_item_in_block base x h.0 b) (λ first p. sound_bind (sound_items_in_block base rest h.1 b) (λ others q.
    sound_is (each_append LocalHasTypes first others p q)))

pub sound_declared_in_block : (d : Declaration) → DeclarationHasItems d → Sound Block LocalsHaveTypes (IsDeclaredInBlock d)
sound_declared_in_block d h = sound_bind (sound_base false d.specifiers) (λ base p. sound_items_in_block base.type d.items h p)
