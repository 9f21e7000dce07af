-- How the parts of a function's definition make it.
use Rattle.std.proofs.Common.{◌≡◌, ℕ, true, false, List, [], ◌∷◌, map, Result, Ok, Err, Option, Some, None, Vec, Global, refl, sym, ◌∙◌, ap, subst, inl}
use Rattle.std.specs.Result.{IsErrAnd}
use Rattle.c_types.specs.declared.type_ref.Row.{Row}
use Rattle.c_types.specs.declared.type_ref.QualifiedRef.{QualifiedRef}
use Rattle.c_types.specs.Types.{Qualified}
use Rattle.c_types.specs.Table.{Extends, StandsFor}
use Rattle.c_types.proofs.Grown.{Extends-trans}
use Rattle.c_tree.specs.declared.unit.FunctionDefinition.{FunctionDefinition}
use Rattle.c_tree.specs.declared.specifier.Specifier.{Specifier}
use Rattle.c_typed.specs.Statements as t
use Rattle.typing_rules.specs.declared.refusal.TypeRefusal.{TypeRefusal}
use Rattle.typing_rules.specs.Source.{Named}
use Rattle.typing_rules.specs.SourceUnits.{Definition}
use Rattle.typing_rules.specs.SourceViews.{specifiers_view, definition_view}
use Rattle.typing_rules.specs.Known as known
use Rattle.typing_rules.specs.SpecifierRules.{Storage, Specified}
use Rattle.typing_rules.specs.DeclaratorRules as rule
use Rattle.typing_rules.specs.Checking.{Checking, ◌>>=◌, given}
use Rattle.typing_rules.specs.Ordered.{derivations_of}
use Rattle.typing_rules.specs.OrderedParts.{specified}
use Rattle.typing_rules.specs.OrderedUnits.{function_defined}
use Rattle.c_values.specs.Answers.{Answers}
use Rattle.c_entities.specs.declared.entity.Storage as code_storage
use Rattle.c_entities.specs.Views.{storage_view}
use Rattle.c_known.specs.declared.known.Known.{Known}
use Rattle.c_known.specs.declared.local.Local as code_local
use Rattle.c_known.specs.Gives.{Standing, Gives}
use Rattle.c_known.specs.Standing.{MeanLocals}
use Rattle.c_known.proofs.Binding.{bind, answers-give}
use Rattle.c_declarators.specs.declared.derivation.Derivation as code
use Rattle.c_declarators.specs.declared.derivation.Derivation.TheVariants.{Pointer, Array, Function}
use Rattle.c_declarators.specs.declared.specifier.SpecifiedType.{SpecifiedType}
use Rattle.c_declarators.specs.Specifiers.{MeansSpecified, storage_view as word_view}
use Rattle.c_declarators.specs.Derivations.{MeansDerivation, AreDerivations, HasOwnAt}
use Rattle.c_terms.specs.Parts.{AreParts}
use Rattle.c_typing.specs.Functions.{defined_typed, defined_derived, defined_specified}
use Rattle.c_typing.proofs.Spine.{told-on}

pub locals-later : (old rows : List Row) → Extends old rows → (xs : List code_local.Local) (ls : List known.Local) → MeanLocals old xs ls → MeanLocals rows xs ls
locals-later old rows grown xs ls means = record { always = λ later more. means.always later (Extends-trans grown more) }

part-later : (old rows : List Row) → Extends old rows → (x : code.Derivation) (e : rule.Derivation) → MeansDerivation old x e → MeansDerivation rows x e
part-later old rows grown (Pointer q) (rule.to_pointer r) means = means
part-later old rows grown (Pointer q) (rule.to_array m) means = means
part-later old rows grown (Pointer q) (rule.to_function ls) means = means
part-later old rows grown (Array n) (rule.to_pointer r) means = means
part-later old rows grown (Array n) (rule.to_array m) means = means
part-later old rows grown (Array n) (rule.to_function ls) means = means
part-later old rows grown (Function ps) (rule.to_pointer r) means = means
part-later old rows grown (Function ps) (rule.to_array m) means = means
part-later old rows grown (Function ps) (rule.to_function ls) means = locals-later old rows grown ps.items ls means

pub parts-later : (old rows : List Row) → Extends old rows → (xs : List code.Derivation) (es : List rule.Derivation) → AreDerivations old xs es → AreDerivations rows xs es
parts-later old rows grown [] [] means = means
parts-later old rows grown [] (e ∷ es) means = means
parts-later old rows grown (x ∷ xs) [] means = means
parts-later old rows grown (x ∷ xs) (e ∷ es) means = (part-later old rows grown x e means.0, parts-later old rows grown xs es means.1)

-- the function's own parameters
pub own-some : {X B : Type 0} (M : Standing X B) (s new : Known) (r : Result X TypeRefusal) (ps : Vec code_local.Local Global) (o : Option (List known.Local)) (e : TypeRefusal) (f : List known.Local → Checking B)
    → HasOwnAt s.types (Some ps) o → ((ls : List known.Local) → MeanLocals s.types ps.items ls → Gives M s new r (f ls)) → Gives M s new r (given o e >>= f)
own-some M s new r ps None e f has rest = absurd has
own-some M s new r ps (Some ls) e f has rest = rest ls has

pub own-none : {X B : Type 0} (M : Standing X B) (s : Known) (o : Option (List known.Local)) (e : TypeRefusal) (f : List known.Local → Checking B)
    → HasOwnAt s.types None o → Gives {X = X} {A = B} M s s (Err e) (given o e >>= f)
own-none M s None e f has = record { at = λ k h. inl refl }
own-none M s (Some ls) e f has = absurd has

module _ {X : Type 0} (M : Standing X t.Function) (s mid new : Known) (r : Result X TypeRefusal) (storage : Storage) (u : Qualified) (d : Definition) (lines : rule.Lines)
    (same : lines ≡ rule.lines_of d.declarator d.specifiers.line) where
  abbrev name : Named
  name = rule.or_no_name (rule.name_of d.declarator)

  pub specified-by : (ds : Vec code.Derivation Global) → Gives AreParts s mid (Ok ds) (derivations_of lines d.declarator)
      → ((es : List rule.Derivation) → Extends s.types mid.types → AreParts mid.types ds es → Gives M mid new r (defined_derived name storage u lines d es))
      → Gives M s new r (defined_specified storage u d)
  specified-by ds parts rest =
      subst (λ l. Gives M s new r (derivations_of l d.declarator >>= defined_derived name storage u l d)) same
      (bind AreParts M s mid new ds r (derivations_of lines d.declarator) (defined_derived name storage u lines d) parts rest)

  pub specified-told : (e : TypeRefusal) → Gives {X = Vec code.Derivation Global} {A = List rule.Derivation} AreParts s mid (Err e) (derivations_of lines d.declarator) → IsErrAnd r (λ y. y ≡ e)
      → Gives M s new r (defined_specified storage u d)
  specified-told e parts h =
      subst (λ l. Gives M s new r (derivations_of l d.declarator >>= defined_derived name storage u l d)) same
      (told-on AreParts M s mid new e (derivations_of lines d.declarator) (defined_derived name storage u lines d) r parts h)

module _ {X : Type 0} (M : Standing X t.Function) (s new : Known) (r : Result X TypeRefusal) (shift : ℕ → ℕ) (d : FunctionDefinition) (words : List Specifier) (same : words ≡ d.specifiers) where
  pub defined-by : (base : SpecifiedType) (storage : code_storage.Storage) → storage_view storage ≡ word_view base.storage
      → Answers (MeansSpecified s.types) (Ok base) (specified true (specifiers_view shift d.line words))
      → ((u : Qualified) → StandsFor s.types base.ty u → Gives M s new r (defined_specified (storage_view storage) u (definition_view shift d)))
      → Gives M s new r (function_defined (definition_view shift d))
  defined-by base storage stored said rest =
      bind MeansSpecified M s s new base r (specified true (specifiers_view shift d.line d.specifiers))
      (λ b. defined_specified b.storage b.type (definition_view shift d))
      (answers-give MeansSpecified s (Ok base) (specified true (specifiers_view shift d.line d.specifiers))
      (subst (λ ws. Answers (MeansSpecified s.types) (Ok base) (specified true (specifiers_view shift d.line ws))) same said))
      (λ b grown means. subst (λ st. Gives M s new r (defined_specified st b.type (definition_view shift d))) (stored ∙ means.storage) (rest b.type means.type))

  pub defined-told : (e : TypeRefusal) → Answers {X = SpecifiedType} {A = Specified} (MeansSpecified s.types) (Err e) (specified true (specifiers_view shift d.line words)) → IsErrAnd r (λ y. y ≡ e)
      → Gives M s new r (function_defined (definition_view shift d))
  defined-told e said h =
      told-on MeansSpecified M s s new e (specified true (specifiers_view shift d.line d.specifiers))
      (λ b. defined_specified b.storage b.type (definition_view shift d)) r
      (answers-give MeansSpecified s (Err e) (specified true (specifiers_view shift d.line d.specifiers))
      (subst (λ ws. Answers {X = SpecifiedType} {A = Specified} (MeansSpecified s.types) (Err e) (specified true (specifiers_view shift d.line ws))) same said)) h

-- under the name of its declarator
pub typed-under : {X : Type 0} (M : Standing X t.Function) (s new : Known) (r : Result X TypeRefusal) (storage : Storage) (d : Definition) (es : List rule.Derivation) (u : Qualified) (n m : Named) → n ≡ m
    → Gives M s new r (defined_typed n storage d es u) → Gives M s new r (defined_typed m storage d es u)
typed-under M s new r storage d es u n m same g = subst (λ z. Gives M s new r (defined_typed z storage d es u)) same g
