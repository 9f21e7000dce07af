-- How the parts of an item of a declaration make what it declares.
use Rattle.std.proofs.Common.{arith, ◌≡◌, ◌<◌, ◌≤◌, get_or, drop_of_length-le, ℕ, true, map, zero, suc, ◌+◌, List, [], ◌∷◌, length, drop, slice_get, Result, Ok, Err, Option, Some, Vec, Global, refl, sym, ◌∙◌, ap, subst}
use Rattle.std.proofs.lemmas.Option.{slice_get_read}
use Rattle.c_types.proofs.Rows.{some_is, none_is_not}
use Rattle.std.specs.Prelude.{⊤}
use Rattle.std.specs.Result.{IsErrAnd}
use Rattle.c_types.specs.declared.type_ref.Row.{Row}
use Rattle.c_types.specs.Types.{Qualified}
use Rattle.c_types.specs.Table.{Extends, StandsFor}
use Rattle.typing_rules.specs.declared.refusal.TypeRefusal.{TypeRefusal}
use Rattle.typing_rules.specs.Source.{Named}
use Rattle.typing_rules.specs.SourceUnits.{Initial, Item}
use Rattle.typing_rules.specs.SpecifierRules.{Storage, Specified}
use Rattle.typing_rules.specs.SourceViews.{specifiers_view, item_view, declaration_view}
use Rattle.typing_rules.specs.OrderedParts.{specified}
use Rattle.c_tree.specs.declared.declaration.Declaration as tree_declaration
use Rattle.c_tree.specs.declared.declaration.Item as tree_item
use Rattle.c_tree.specs.declared.specifier.Specifier.{Specifier}
use Rattle.c_entities.specs.declared.entity.Storage as code_storage
use Rattle.c_entities.specs.Views.{storage_view}
use Rattle.c_values.specs.Answers.{Answers}
use Rattle.c_declarators.specs.declared.specifier.SpecifiedType.{SpecifiedType}
use Rattle.c_declarators.specs.Specifiers.{MeansSpecified, storage_view as word_view}
use Rattle.typing_rules.specs.DeclaratorRules.{Lines, Derivation, lines_of}
use Rattle.typing_rules.specs.Checking.{Checking, ◌>>=◌}
use Rattle.typing_rules.specs.Ordered.{derivations_of}
use Rattle.typing_rules.specs.OrderedUnits.{item_at_file, items_at_file}
use Rattle.c_known.specs.declared.known.Known.{Known}
use Rattle.c_known.specs.Gives.{Standing, Gives, IsDone}
use Rattle.c_known.proofs.Binding.{bind, answers-give, pure-gives}
use Rattle.c_declarators.specs.declared.derivation.Derivation as code
use Rattle.c_declarators.specs.Derivations.{AreDerivations}
use Rattle.c_terms.specs.Parts.{AreParts}
use Rattle.c_typing.specs.Steps.{declared_at_file, item_derived, declared_typed}
use Rattle.c_typing.proofs.Spine.{told-on}

module _ {X : Type 0} (M : Standing X (Unit {0})) (s mid new : Known) (r : Result X TypeRefusal) (storage : Storage) (t : Qualified) (at : ℕ) (x : Item) (lines : Lines)
    (same : lines ≡ lines_of x.declarator at) where
  pub item-by : (ds : Vec code.Derivation Global) → Gives AreParts s mid (Ok ds) (derivations_of lines x.declarator)
      → ((es : List Derivation) → Extends s.types mid.types → AreParts mid.types ds es → Gives M mid new r (item_derived storage t lines x es))
      → Gives M s new r (item_at_file storage t at x)
  item-by ds parts rest =
      subst (λ l. Gives M s new r (derivations_of l x.declarator >>= item_derived storage t l x)) same
      (bind AreParts M s mid new ds r (derivations_of lines x.declarator) (item_derived storage t lines x) parts rest)

  pub item-told : (e : TypeRefusal) → Gives {X = Vec code.Derivation Global} {A = List Derivation} AreParts s mid (Err e) (derivations_of lines x.declarator) → IsErrAnd r (λ y. y ≡ e)
      → Gives M s new r (item_at_file storage t at x)
  item-told e parts h =
      subst (λ l. Gives M s new r (derivations_of l x.declarator >>= item_derived storage t l x)) same
      (told-on AreParts M s mid new e (derivations_of lines x.declarator) (item_derived storage t lines x) r parts h)

-- what is declared under the name of a declarator
pub named-by : {X : Type 0} (M : Standing X (Unit {0})) (s new : Known) (r : Result X TypeRefusal) (storage : Storage) (t : Qualified) (x : Option Initial) (n m : Named) → n ≡ m
    → Gives M s new r (declared_typed n storage t x) → Gives M s new r (declared_typed m storage t x)
named-by M s new r storage t x n m same g = subst (λ z. Gives M s new r (declared_typed z storage t x)) same g

pub drop-cons : {A : Type 0} (xs : List A) (i : ℕ) (x : A) → slice_get xs i ≡ Some x → drop i xs ≡ x ∷ drop (i + 1) xs
drop-cons xs i x e = by xs i e ∙ ap (λ n. x ∷ drop n xs) (next i)
  where
    next : (n : ℕ) → suc n ≡ n + 1
    next n = omega arith

    by : (ys : List _) (n : ℕ) → slice_get ys n ≡ Some x → drop n ys ≡ x ∷ drop (suc n) ys
    by [] n f = none_is_not f
    by (y ∷ ys) zero f = ap (λ z. z ∷ ys) (some_is f)
    by (y ∷ ys) (suc n) f = by ys n f

pub drop-all : {A : Type 0} (xs : List A) → drop (length xs) xs ≡ []
drop-all [] = refl
drop-all (x ∷ xs) = drop-all xs

module _ {X : Type 0} (M : Standing X (Unit {0})) (s new : Known) (r : Result X TypeRefusal) (shift : ℕ → ℕ) (d : tree_declaration.Declaration) (words : List Specifier) (same : words ≡ d.specifiers) where
  -- what specifiers say, and the items behind them
  pub all-by : (base : SpecifiedType) (items : List tree_item.Item) (storage : code_storage.Storage) → items ≡ d.items → storage_view storage ≡ word_view base.storage
      → Answers (MeansSpecified s.types) (Ok base) (specified true (specifiers_view shift d.line words))
      → ((t : Qualified) → StandsFor s.types base.ty t → Gives M s new r (items_at_file (storage_view storage) t (shift d.line) (map (item_view shift) items)))
      → Gives M s new r (declared_at_file (declaration_view shift d))
  unfolding declaration_view
  all-by base items storage listed stored said rest =
      bind MeansSpecified M s s new base r (specified true (specifiers_view shift d.line d.specifiers))
      (λ b. items_at_file b.storage b.type (shift d.line) (map (item_view shift) d.items))
      (answers-give MeansSpecified s (Ok base) (specified true (specifiers_view shift d.line d.specifiers))
      (subst (λ ws. Answers (MeansSpecified s.types) (Ok base) (specified true (specifiers_view shift d.line ws))) same said))
      (λ b grown means. subst (λ st. Gives M s new r (items_at_file st b.type (shift d.line) (map (item_view shift) d.items))) (stored ∙ means.storage)
      (subst (λ xs. Gives M s new r (items_at_file (storage_view storage) b.type (shift d.line) (map (item_view shift) xs))) listed (rest b.type means.type)))

  pub all-told : (e : TypeRefusal) → Answers {X = SpecifiedType} {A = Specified} (MeansSpecified s.types) (Err e) (specified true (specifiers_view shift d.line words)) → IsErrAnd r (λ y. y ≡ e)
      → Gives M s new r (declared_at_file (declaration_view shift d))
  unfolding declaration_view
  all-told e said h =
      told-on MeansSpecified M s s new e (specified true (specifiers_view shift d.line d.specifiers))
      (λ b. items_at_file b.storage b.type (shift d.line) (map (item_view shift) d.items)) r
      (answers-give MeansSpecified s (Err e) (specified true (specifiers_view shift d.line d.specifiers))
      (subst (λ ws. Answers {X = SpecifiedType} {A = Specified} (MeansSpecified s.types) (Err e) (specified true (specifiers_view shift d.line ws))) same said)) h

pub drop-at : {A : Type 0} (xs : List A) (i : ℕ) (x : A) → i < length xs → x ≡ get_or xs i x → drop i xs ≡ x ∷ drop (i + 1) xs
drop-at xs i x within is = drop-cons xs i x (slice_get_read xs (length xs) i x refl within is)

module _ {X : Type 0} (M : Standing X (Unit {0})) (storage : Storage) (t : Qualified) (at : ℕ) (shift : ℕ → ℕ) (xs : List tree_item.Item) (i : ℕ) where
  -- an item, and those behind it
  pub items-step : (s mid new : Known) (r : Result X TypeRefusal) (x : tree_item.Item) → i < length xs → x ≡ get_or xs i x
      → Gives IsDone s mid (Ok tt) (item_at_file storage t at (item_view shift x))
      → (Extends s.types mid.types → Gives M mid new r (items_at_file storage t at (map (item_view shift) (drop (i + 1) xs))))
      → Gives M s new r (items_at_file storage t at (map (item_view shift) (drop i xs)))
  items-step s mid new r x within is item rest =
      subst (λ l. Gives M s new r (items_at_file storage t at (map (item_view shift) l))) (sym (drop-at xs i x within is))
      (bind IsDone M s mid new tt r (item_at_file storage t at (item_view shift x)) (λ done. items_at_file storage t at (map (item_view shift) (drop (i + 1) xs)))
      item (λ done grown means. rest grown))

  pub items-told : (s mid new : Known) (r : Result X TypeRefusal) (x : tree_item.Item) (e : TypeRefusal) → i < length xs → x ≡ get_or xs i x
      → Gives {X = ⊤} {A = Unit {0}} IsDone s mid (Err e) (item_at_file storage t at (item_view shift x)) → IsErrAnd r (λ y. y ≡ e)
      → Gives M s new r (items_at_file storage t at (map (item_view shift) (drop i xs)))
  items-told s mid new r x e within is item h =
      subst (λ l. Gives M s new r (items_at_file storage t at (map (item_view shift) l))) (sym (drop-at xs i x within is))
      (told-on IsDone M s mid new e (item_at_file storage t at (item_view shift x)) (λ done. items_at_file storage t at (map (item_view shift) (drop (i + 1) xs))) r item h)

pub items-end : (s : Known) (storage : Storage) (t : Qualified) (at : ℕ) (shift : ℕ → ℕ) (xs : List tree_item.Item) (i : ℕ) → length xs ≤ i
    → Gives IsDone s s (Ok tt) (items_at_file storage t at (map (item_view shift) (drop i xs)))
items-end s storage t at shift xs i past =
    subst (λ l. Gives IsDone s s (Ok tt) (items_at_file storage t at (map (item_view shift) l))) (sym (drop_of_length-le xs past)) (pure-gives IsDone s tt tt tt)

pub parts-slice : (rows : List Row) (ds : Vec code.Derivation Global) (ys : List code.Derivation) (es : List Derivation) → ys ≡ ds.items → AreParts rows ds es → AreDerivations rows ys es
parts-slice rows ds ys es same parts = subst (λ xs. AreDerivations rows xs es) (sym same) parts
