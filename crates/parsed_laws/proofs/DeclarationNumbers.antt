-- The numbers of a declaration that the grammar derives are those of its tokens.
use Rattle.std.proofs.Common.{ℕ, zero, suc, List, [], ◌∷◌, map, sym, subst, Option, Some, None}
use Rattle.std.specs.Prelude.{option_map}
use Rattle.c_tree.specs.declared.expression.Expr.{Expr}
use Rattle.c_tree.specs.declared.expression.Declarator.{Declarator}
use Rattle.c_tree.specs.declared.declaration.Declaration.{Declaration}
use Rattle.c_tree.specs.declared.declaration.Item.{Item}
use Rattle.c_tree.specs.declared.declaration.Initializer.{Initializer}
use Rattle.c_tree.specs.declared.declaration.Initializer.TheVariants as i
use Rattle.c_expr.specs.declared.start.Start.{Start}
use Rattle.c_expr.specs.declared.start.Naming.{Naming}
use Rattle.c_expr.specs.Nodes.{Bytes}
use Rattle.c_expr.specs.Spelling.{Spelling}
use Rattle.c_parser.specs.Units.{AnyExpr, AnyDeclarator, IsInitializerLine, InitializerAt, IsGiven, IsItem, IsDeclaration}
use Rattle.c_parser.specs.StatementNodes.{declaration_node}
use Rattle.typing_rules.specs.Source.{no_parts}
use Rattle.typing_rules.specs.SourceViews.{declarator_of, declarator_view, initials_from, initial_view, item_view, declaration_view}
use Rattle.typing_rules.specs.Laws.{Each}
use Rattle.typing_rules.proofs.SourceStatementViewLaws.{view_single, view_braced}
use Rattle.typing_laws.specs.LanguagePrograms.{IfThere}
use Rattle.running_laws.specs.HasNumbers.{ExprHasNumbers, DeclaratorHasNumbers, InitialHasNumbers, InitialsHaveNumbers, ItemHasNumbers, DeclarationHasNumbers}
use Rattle.parsed_laws.proofs.Fitting.{Fits, fits_is, fits_bind, fits_then, fits_map, fits_or, fits_maybe, fits_listed}
use Rattle.parsed_laws.proofs.ExpressionNumbers.{HasExpr, HasDeclarator, expr_fits, declarator_fits}
use Rattle.parsed_laws.proofs.DeclarationsHave.{each_mapped}

module _ (shift : ℕ → ℕ) where
  pub any_expr_fits : (src : Bytes) (start : Start) → Fits (HasExpr shift) (AnyExpr src start)
  any_expr_fits src start = record { fits = λ x w k h. (expr_fits shift src h.0 start).fits x w k h.1 }

  pub any_declarator_fits : (src : Bytes) (naming : Naming) → Fits (HasDeclarator shift) (AnyDeclarator src naming)
  any_declarator_fits src naming = record { fits = λ x w k h. (declarator_fits shift src h.0 naming).fits x w k h.1 }

  abbrev Has : Initializer → Type 0
  Has x = InitialHasNumbers (initial_view shift x)

  initials_have : (xs : List Initializer) → Each Has xs → InitialsHaveNumbers (initials_from (map (initial_view shift) xs))
  unfolding InitialHasNumbers
  initials_have [] h = tt
  initials_have (x ∷ xs) h = (h.0, initials_have xs h.1)

  single_has : (x : Expr) → HasExpr shift x → Has (i.Value x)
  unfolding InitialHasNumbers
  single_has x h = subst InitialHasNumbers (sym (view_single shift x)) h

  braced_has : (line : ℕ) (xs : List Initializer) → Each Has xs → Has (i.List line xs)
  unfolding InitialHasNumbers
  braced_has line xs h = subst InitialHasNumbers (sym (view_braced shift line xs)) (initials_have xs h)

  line_fits : {S : Spelling Initializer} (src : Bytes) → Fits Has S → Fits Has (IsInitializerLine src S)
  line_fits src inner =
      fits_or (fits_map i.Value (any_expr_fits src _) (λ x h. single_has x h))
      (fits_then (λ o. fits_bind (fits_listed inner) (λ xs h. fits_then (λ c. fits_is (braced_has o.line xs h)))))

  initializer_fits : (src : Bytes) (depth : ℕ) → Fits Has (InitializerAt src depth)
  unfolding InitializerAt
  initializer_fits src zero = record { fits = λ x w k h. absurd h }
  initializer_fits src (suc depth) = record { fits = λ x w k h. (line_fits src (initializer_fits src depth)).fits x w k h }

  given_fits : (src : Bytes) → Fits Has (IsGiven src)
  given_fits src = fits_then (λ o. record { fits = λ x w k h. (initializer_fits src h.0).fits x w k h.1 })

  abbrev HasItem : Item → Type 0
  HasItem x = ItemHasNumbers (item_view shift x)

  given_mapped : (x : Option Initializer) → IfThere Has x → IfThere InitialHasNumbers (option_map (initial_view shift) x)
  given_mapped None h = tt
  given_mapped (Some x) h = h

  -- a declarator with nothing behind its parts
  pub whole_has : (x : Declarator) → HasDeclarator shift x → DeclaratorHasNumbers (declarator_of (declarator_view shift x))
  unfolding ExprHasNumbers
  whole_has x h = h no_parts tt

  item_fits : (src : Bytes) → Fits HasItem (IsItem src)
  item_fits src =
      fits_bind (any_declarator_fits src _) (λ declarator h. fits_bind (fits_maybe (given_fits src)) (λ given k.
      fits_is (whole_has declarator h, given_mapped given k)))

  abbrev pub HasDeclaration : Declaration → Type 0
  HasDeclaration d = DeclarationHasNumbers (declaration_view shift d)

  items_have : (d : Declaration) → Each HasItem d.items → HasDeclaration d
  unfolding declaration_view
  items_have d h = each_mapped ItemHasNumbers (item_view shift) d.items h

  pub declaration_fits : (src : Bytes) → Fits HasDeclaration (IsDeclaration src)
  declaration_fits src =
      fits_then (λ ss. fits_bind (fits_listed (item_fits src)) (λ items h. fits_then (λ c. fits_is (items_have (declaration_node ss items) h))))
