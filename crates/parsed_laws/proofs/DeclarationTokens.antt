-- A declaration that the grammar derives has no more tokens than those that spell it.
use Rattle.std.proofs.Common.{◌≡◌, ℕ, zero, suc, ◌+◌, ◌≤◌, List, [], ◌∷◌, map, ap, Option, Some, None, arith}
use Rattle.c_tree.specs.declared.expression.Expr.{Expr}
use Rattle.c_tree.specs.declared.declaration.Declaration.{Declaration}
use Rattle.c_tree.specs.declared.declaration.Item.{Item}
use Rattle.c_tree.specs.declared.declaration.Initializer.{Initializer}
use Rattle.c_tree.specs.declared.declaration.Initializer.TheVariants as i
use Rattle.c_expr.specs.declared.start.Start.{Start}
use Rattle.c_expr.specs.declared.start.Naming.TheVariants as n
use Rattle.c_expr.specs.Nodes.{Bytes}
use Rattle.c_expr.specs.Spelling.{Spelling}
use Rattle.c_parser.specs.Units.{AnyExpr, AnyDeclarator, IsInitializerLine, InitializerAt, IsGiven, IsItem, IsDeclaration}
use Rattle.c_parser.specs.StatementNodes.{declaration_node}
use Rattle.typing_rules.specs.SourceViews.{initials_from, initial_view, item_view, declaration_view}
use Rattle.typing_rules.proofs.SourceStatementViewLaws.{view_single, view_braced}
use Rattle.event_laws.specs.TokensOf.{tokens_of_initial, tokens_of_initials, tokens_of_item, tokens_of_declared, tokens_of_declaration}
use Rattle.parsed_laws.proofs.Counting.{Takes, takes_is, takes_bind, takes_then, takes_token, takes_map, takes_or, takes_maybe, AskedIf, Together, takes_listed}
use Rattle.parsed_laws.proofs.ExpressionTokens.{tokens, HasExpr, expr_takes, HasOne, declarator_takes}

pub any_declarator_takes : (src : Bytes) → Takes HasOne (AnyDeclarator src n.Named)
any_declarator_takes src = record { takes = λ x w h. (declarator_takes src h.0).takes x w h.1 }

module _ (shift : ℕ → ℕ) where
  pub any_expr_takes : (src : Bytes) (start : Start) → Takes (HasExpr shift) (AnyExpr src start)
  any_expr_takes src start = record { takes = λ x w h. (expr_takes shift src h.0 start).takes x w h.1 }

  -- ---- initializers

  abbrev initial_tokens : Initializer → ℕ
  initial_tokens x = tokens_of_initial (initial_view shift x)

  abbrev Has : Initializer → ℕ → Type 0
  Has x k = initial_tokens x ≤ k

  initial_more : (x : Initializer) (k : ℕ) → Has x k → Has x (1 + k)
  initial_more x k h = omega (arith, h)

  initials_together : (xs : List Initializer) (k : ℕ) → Together Has xs k → tokens_of_initials (initials_from (map (initial_view shift) xs)) ≤ k
  unfolding tokens_of_initial
  initials_together [] k h = omega arith
  initials_together (x ∷ xs) k h = omega (arith, h.2, initials_together xs h.1 h.3, h.4)

  single_is : (x : Expr) → initial_tokens (i.Value x) ≡ tokens shift x
  unfolding tokens_of_initial
  single_is x = ap tokens_of_initial (view_single shift x)

  braced_is : (line : ℕ) (xs : List Initializer) → initial_tokens (i.List line xs) ≡ tokens_of_initials (initials_from (map (initial_view shift) xs))
  unfolding tokens_of_initial
  braced_is line xs = ap tokens_of_initial (view_braced shift line xs)

  takes_line : {S : Spelling Initializer} (src : Bytes) → Takes Has S → Takes Has (IsInitializerLine src S)
  takes_line src inner =
      takes_or (takes_map i.Value (any_expr_takes src _) (λ x m h. omega (arith, h, single_is x)))
      (takes_token (λ o. takes_bind (takes_listed initial_more inner) (λ xs m h. takes_token (λ c.
      takes_is (omega (arith, initials_together xs m h, braced_is o.line xs))))))

  initializer_takes : (src : Bytes) (depth : ℕ) → Takes Has (InitializerAt src depth)
  unfolding InitializerAt
  initializer_takes src zero = record { takes = λ x w h. absurd h }
  initializer_takes src (suc depth) = record { takes = λ x w h. (takes_line src (initializer_takes src depth)).takes x w h }

  takes_given : (src : Bytes) → Takes Has (IsGiven src)
  takes_given src = takes_token (λ o. record { takes = λ x w h. initial_more x _ ((initializer_takes src h.0).takes x w h.1) })

  -- ---- declarations

  abbrev HasItem : Item → ℕ → Type 0
  HasItem x k = tokens_of_item (item_view shift x) ≤ k

  item_more : (x : Item) (k : ℕ) → HasItem x k → HasItem x (1 + k)
  item_more x k h = omega (arith, h)

  takes_item : (src : Bytes) → Takes HasItem (IsItem src)
  takes_item src =
      takes_bind (any_declarator_takes src) (λ declarator m h. takes_bind (takes_maybe (takes_given src)) (λ given k q.
      takes_is (has declarator m given k h q)))
    where
      has : (declarator : _) (m : ℕ) (given : Option Initializer) (k : ℕ) → 1 ≤ m → AskedIf Has given k
          → HasItem (record { declarator = declarator; initializer = given }) (m + (k + 0))
      has declarator m None k h q = omega (arith, h)
      has declarator m (Some x) k h q = omega (arith, h, q)

  abbrev pub HasDeclaration : Declaration → ℕ → Type 0
  HasDeclaration d k = tokens_of_declaration (declaration_view shift d) ≤ k

  items_together : (xs : List Item) (k : ℕ) → Together HasItem xs k → tokens_of_declared (map (item_view shift) xs) ≤ k
  items_together [] k h = omega arith
  items_together (x ∷ xs) k h = omega (arith, h.2, items_together xs h.1 h.3, h.4)

  declaration_has : (d : Declaration) (k : ℕ) → Together HasItem d.items k → HasDeclaration d k
  unfolding declaration_view
  declaration_has d k h = items_together d.items k h

  pub declaration_takes : (src : Bytes) → Takes HasDeclaration (IsDeclaration src)
  declaration_takes src =
      takes_then (λ ss j. takes_bind (takes_listed item_more (takes_item src)) (λ items m h. takes_token (λ c.
      takes_is (omega (arith, declaration_has (declaration_node ss items) m h)))))
