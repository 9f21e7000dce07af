-- The lists in braces of a declaration that the grammar derives have items.
use Rattle.std.proofs.Common.{◌≡◌, ℕ, suc, ◌≤◌, List, [], ◌∷◌, map, length, refl, ap, sym, subst, Option, Some, None}
use Rattle.std.specs.Prelude.{zero, option_map}
use Rattle.c_lexer.specs.declared.token.Token.{Token}
use Rattle.c_tree.specs.declared.declaration.Declaration.{Declaration}
use Rattle.c_tree.specs.declared.declaration.Item.{Item}
use Rattle.c_tree.specs.declared.declaration.Initializer.{Initializer}
use Rattle.c_tree.specs.declared.declaration.Initializer.TheVariants as i
use Rattle.c_expr.specs.Nodes.{Bytes}
use Rattle.c_expr.specs.Spelling.{Spelling}
use Rattle.c_parser.specs.Units.{IsInitializerLine, InitializerAt, IsGiven, IsItem, IsDeclaration}
use Rattle.c_parser.specs.StatementNodes.{declaration_node}
use Rattle.typing_rules.specs.SourceViews.{initials_from, initial_view, item_view, declaration_view}
use Rattle.typing_rules.specs.DeclarationRules.{initials_count}
use Rattle.typing_rules.specs.Laws.{Each}
use Rattle.typing_rules.proofs.SourceStatementViewLaws.{view_single, view_braced}
use Rattle.typing_laws.specs.LanguagePrograms.{IfThere}
use Rattle.typing_laws.specs.HasItems.{InitialHasItems, ItemHasItems, DeclarationHasItems}
use Rattle.parsed_laws.proofs.Spelled.{Spells, Any, spells_any, spells_is, spells_bind, spells_map, spells_or, spells_maybe, spells_listed, HasOne, spells_one}

if_there_mapped : {A B : Type 0} (P : B → Type 0) (f : A → B) (x : Option A) → IfThere (λ a. P (f a)) x → IfThere P (option_map f x)
if_there_mapped P f None h = tt
if_there_mapped P f (Some x) h = h

pub each_mapped : {A B : Type 0} (P : B → Type 0) (f : A → B) (xs : List A) → Each (λ a. P (f a)) xs → Each P (map f xs)
each_mapped P f [] h = tt
each_mapped P f (x ∷ xs) h = (h.0, each_mapped P f xs h.1)

module _ (shift : ℕ → ℕ) where
  count_is : (xs : List Initializer) → initials_count (initials_from (map (initial_view shift) xs)) ≡ length xs
  count_is [] = refl
  count_is (x ∷ xs) = ap suc (count_is xs)

  abbrev Has : Initializer → Type 0
  Has x = InitialHasItems (initial_view shift x)

  single_has : (e : _) → Has (i.Value e)
  single_has e = subst InitialHasItems (sym (view_single shift e)) tt

  braced_has : (line : ℕ) (xs : List Initializer) → HasOne xs → Has (i.List line xs)
  braced_has line xs h = subst InitialHasItems (sym (view_braced shift line xs)) (subst (λ n. 1 ≤ n) (sym (count_is xs)) h)

  line_has : {S : Spelling Initializer} (src : Bytes) → Spells Has (IsInitializerLine src S)
  line_has src = spells_or (spells_map {P = Any} i.Value spells_any (λ e u. single_has e))
      (spells_bind {P = Any} spells_any (λ t u. spells_bind spells_one (λ inner one. spells_bind {P = Any} spells_any (λ close u'.
      spells_is (braced_has t.line inner one)))))

  initializer_has : (src : Bytes) (depth : ℕ) (x : Initializer) (w : List Token) → InitializerAt src depth x w → Has x
  unfolding InitializerAt
  initializer_has src zero x w h = absurd h
  initializer_has src (suc depth) x w h = (line_has src).spelled x w h

  given_has : (src : Bytes) → Spells Has (IsGiven src)
  given_has src = spells_bind {P = Any} spells_any (λ t u. record { spelled = λ x w h. initializer_has src h.0 x w h.1 })

  abbrev HasItem : Item → Type 0
  HasItem x = ItemHasItems (item_view shift x)

  item_has : (src : Bytes) → Spells HasItem (IsItem src)
  item_has src = spells_bind {P = Any} spells_any (λ declarator u. spells_bind (spells_maybe (given_has src)) (λ given p.
      spells_is (λ unsized. if_there_mapped InitialHasItems (initial_view shift) given p)))

  abbrev pub HasDeclaration : Declaration → Type 0
  HasDeclaration d = DeclarationHasItems (declaration_view shift d)

  items_have : (d : Declaration) → Each HasItem d.items → HasDeclaration d
  unfolding declaration_view
  items_have d h = each_mapped ItemHasItems (item_view shift) d.items h

  pub declaration_has : (src : Bytes) → Spells HasDeclaration (IsDeclaration src)
  declaration_has src = spells_bind {P = Any} spells_any (λ ss u. spells_bind (spells_listed (item_has src)) (λ items p.
      spells_bind {P = Any} spells_any (λ t u'. spells_is (items_have (declaration_node ss items) p))))
