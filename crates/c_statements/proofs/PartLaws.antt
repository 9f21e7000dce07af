-- The parts of a block, checked one after the other.
use Rattle.std.proofs.Common.{arith, ◌≡◌, ℕ, suc, ◌+◌, ◌<◌, length, get_or, take, drop, List, [], ◌∷◌, ◌++◌, map, Ok, Err, Bool as Test, true, Option, Some, None, refl, sym, ◌∙◌, ap, subst}
use Rattle.std.specs.Prelude.{option_map}
use Rattle.std.proofs.Math.Seq.{take-suc, drop-cons}
use Rattle.std.proofs.lemmas.List.{map-append, take-append-drop}
use Rattle.c_types.specs.Types.{CType}
use Rattle.c_typed.specs.Statements as t
use Rattle.c_typed.specs.StatementViews.{all_items, if_from}
use Rattle.c_tree.specs.declared.declaration.Declaration as tree_declaration
use Rattle.c_tree.specs.declared.expression.Expr as tree_expr
use Rattle.c_tree.specs.declared.statement.Stmt as tree_stmt
use Rattle.c_tree.specs.declared.statement.StmtNode as tree_node
use Rattle.c_tree.specs.declared.statement.StmtNode.TheVariants as sn
use Rattle.c_tree.specs.declared.statement.Block as tree_block
use Rattle.c_tree.specs.declared.statement.BlockItem as tree_item
use Rattle.c_tree.specs.declared.statement.BlockItem.{BlockItem-F}
use Rattle.c_tree.specs.declared.statement.BlockItem.TheVariants as bi
use Rattle.typing_rules.specs.Source.{Expr}
use Rattle.typing_rules.specs.SourceUnits as source
use Rattle.typing_rules.specs.SourceViews as views
use Rattle.typing_rules.specs.Checking.{Checked, Checking, and_then, ◌>>=◌, pure}
use Rattle.typing_rules.specs.OrderedDeclarations.{declared_in_block}
use Rattle.typing_rules.specs.OrderedStatements.{condition, condition_if, value_if, for_start, for_end, stmt_of, items_of}
use Rattle.typing_rules.proofs.SourceStatementViewLaws.{view_if_only, view_if_else, view_declaration, view_statement, view_items}
use Rattle.c_statements.specs.Steps.{Head, for_head, stmt_if, part_of, parts_of}

-- what comes after is one thing with what comes after that
pub assoc-at : {A B C : Type 0} (c : Checked A) (f : A → Checking B) (g : B → Checking C) → and_then (and_then c f) g ≡ and_then c (λ a. f a >>= g)
assoc-at (Ok p) f g = refl
assoc-at (Err e) f g = refl

pub assoc : {A B C : Type 0} (m : Checking A) (f : A → Checking B) (g : B → Checking C) → (m >>= f) >>= g ≡ m >>= (λ a. f a >>= g)
assoc m f g = λ i k. assoc-at (m k) f g i

right-at : {A : Type 0} (c : Checked A) → and_then c pure ≡ c
right-at (Ok p) = refl
right-at (Err e) = refl

pub right : {A : Type 0} (m : Checking A) → m >>= pure ≡ m
right m = λ i k. right-at (m k) i

pub same-after : {A B : Type 0} (m : Checking A) (f g : A → Checking B) → ((a : A) → f a ≡ g a) → m >>= f ≡ m >>= g
same-after m f g h = λ i. m >>= (λ a. h a i)

-- what comes behind the parentheses of a `for`
abbrev pub behind_head : CType → ℕ → source.ForStart → source.Stmt → Head → Checking t.Stmt
behind_head result line start s h = stmt_of result true s >>= (λ body. for_end start >>= (λ _. pure (t.for line h.start h.test h.step body)))

pub for-split : {B : Type 0} (line : ℕ) (start : source.ForStart) (e u : Option Expr) (behind : Head → Checking B)
    → for_head line start e u >>= behind ≡ for_start start >>= (λ first. condition_if line e >>= (λ test. value_if u >>= (λ step. behind (record { start = first; test = test; step = step }))))
for-split line start e u behind =
    assoc (for_start start) _ behind
    ∙ same-after (for_start start) _ _ (λ first. assoc (condition_if line e) _ behind ∙ same-after (condition_if line e) _ _ (λ test. assoc (value_if u) _ behind))

module _ (result : CType) (in_loop : Test) where
  -- a condition and one or two branches
  if-split : (line : ℕ) (e : Expr) (s : source.Stmt) (u : Option source.Stmt)
      → stmt_of result in_loop (views.if_from line e s u)
      ≡ condition line e >>= (λ test. stmt_of result in_loop s >>= (λ first. stmt_if result in_loop u >>= (λ second. pure (if_from line test first second))))
  unfolding stmt_of
  if-split line e s None = refl
  if-split line e s (Some u) =
      same-after (condition line e) _ _ (λ test. same-after (stmt_of result in_loop s) _ _
      (λ first. sym (assoc (stmt_of result in_loop u) (λ x. pure (Some x)) (λ second. pure (if_from line test first second)))))

  view-if : (shift : ℕ → ℕ) (line : ℕ) (e : tree_expr.Expr) (s : tree_stmt.Stmt) (u : Option tree_stmt.Stmt)
      → views.stmt_node_view shift (sn.If e s u) line ≡ views.if_from line (views.expr_view shift e) (views.stmt_view shift s) (option_map (views.stmt_view shift) u)
  view-if shift line e s None = view_if_only shift e s line
  view-if shift line e s (Some u) = view_if_else shift e s u line

  pub if-is : (shift : ℕ → ℕ) (line : ℕ) (n : tree_node.StmtNode) (e : tree_expr.Expr) (s : tree_stmt.Stmt) (u : Option tree_stmt.Stmt) → n ≡ sn.If e s u
      → stmt_of result in_loop (views.stmt_node_view shift n line)
      ≡ condition line (views.expr_view shift e) >>= (λ test. stmt_of result in_loop (views.stmt_view shift s) >>= (λ first. stmt_if result in_loop (option_map (views.stmt_view shift) u) >>= (λ second. pure (if_from line test first second))))
  if-is shift line n e s u is =
      ap (λ x. stmt_of result in_loop (views.stmt_node_view shift x line)) is ∙ ap (stmt_of result in_loop) (view-if shift line e s u)
      ∙ if-split line (views.expr_view shift e) (views.stmt_view shift s) (option_map (views.stmt_view shift) u)

  -- the parts of two lists, one after the other
  pub parts_of-append : (fs gs : List (source.Items → source.Items))
      → parts_of result in_loop (fs ++ gs) ≡ parts_of result in_loop fs >>= (λ xs. parts_of result in_loop gs >>= (λ ys. pure (xs ++ ys)))
  parts_of-append [] gs = sym (right (parts_of result in_loop gs))
  parts_of-append (f ∷ fs) gs =
      same-after (part_of result in_loop (f source.no_items)) _ _
      (λ x. ap (λ m. m >>= (λ others. pure (x ∷ others))) (parts_of-append fs gs)
      ∙ assoc (parts_of result in_loop fs) _ _
      ∙ same-after (parts_of result in_loop fs) _ _ (λ xs. assoc (parts_of result in_loop gs) _ _)
      ∙ sym (assoc (parts_of result in_loop fs) _ _))
      ∙ sym (assoc (part_of result in_loop (f source.no_items)) _ _)

  pub parts_of-snoc : (fs : List (source.Items → source.Items)) (f : source.Items → source.Items)
      → parts_of result in_loop (fs ++ f ∷ []) ≡ parts_of result in_loop fs >>= (λ xs. part_of result in_loop (f source.no_items) >>= (λ x. pure (xs ++ x ∷ [])))
  parts_of-snoc fs f =
      parts_of-append fs (f ∷ [])
      ∙ same-after (parts_of result in_loop fs) _ _ (λ xs. assoc (part_of result in_loop (f source.no_items)) _ _)

  -- one more part of a list
  pub parts-next : {X : Type 0} (v : X → source.Items → source.Items) (xs : List X) (i : ℕ) (x : X) → i < length xs → x ≡ get_or xs i x
      → parts_of result in_loop (map v (take (i + 1) xs))
      ≡ parts_of result in_loop (map v (take i xs)) >>= (λ fs. part_of result in_loop (v x source.no_items) >>= (λ g. pure (fs ++ g ∷ [])))
  parts-next v xs i x within is =
      let next : i + 1 ≡ suc i = omega arith in
      ap (λ n. parts_of result in_loop (map v (take n xs))) next
      ∙ ap (λ l. parts_of result in_loop (map v l)) (take-suc xs i x within)
      ∙ ap (λ y. parts_of result in_loop (map v (take i xs ++ y ∷ []))) (sym is)
      ∙ ap (parts_of result in_loop) (map-append v (take i xs) (x ∷ []))
      ∙ parts_of-snoc (map v (take i xs)) (v x)

  -- the parts before one, this one, and those behind it
  pub parts-at : {X : Type 0} (v : X → source.Items → source.Items) (xs : List X) (i : ℕ) (x : X) → i < length xs → x ≡ get_or xs i x
      → parts_of result in_loop (map v xs)
      ≡ parts_of result in_loop (map v (take i xs)) >>= (λ fs. (part_of result in_loop (v x source.no_items) >>= (λ g. parts_of result in_loop (map v (drop (suc i) xs)) >>= (λ gs. pure (g ∷ gs)))) >>= (λ gs. pure (fs ++ gs)))
  parts-at v xs i x within is =
      ap (λ l. parts_of result in_loop (map v l))
      (sym (take-append-drop i xs) ∙ ap (λ l. take i xs ++ l) (drop-cons xs i x within) ∙ ap (λ y. take i xs ++ y ∷ drop (suc i) xs) (sym is))
      ∙ ap (parts_of result in_loop) (map-append v (take i xs) (x ∷ drop (suc i) xs))
      ∙ parts_of-append (map v (take i xs)) (v x ∷ map v (drop (suc i) xs))

  -- a part that is a declaration, or a statement
  pub part-declaration : (shift : ℕ → ℕ) (x : tree_item.BlockItem) (d : tree_declaration.Declaration) → x ≡ bi.Declaration d
      → part_of result in_loop (views.block_item_view shift x source.no_items) ≡ declared_in_block (views.declaration_view shift d) >>= (λ l. pure (t.declaration l))
  part-declaration shift x d is =
      ap (λ y. part_of result in_loop (views.block_item_view shift y source.no_items)) is ∙ ap (part_of result in_loop) (view_declaration shift d source.no_items)

  pub part-statement : (shift : ℕ → ℕ) (x : tree_item.BlockItem) (s : tree_stmt.Stmt) → x ≡ bi.Statement s
      → part_of result in_loop (views.block_item_view shift x source.no_items) ≡ stmt_of result in_loop (views.stmt_view shift s) >>= (λ l. pure (t.statement l))
  part-statement shift x s is =
      ap (λ y. part_of result in_loop (views.block_item_view shift y source.no_items)) is ∙ ap (part_of result in_loop) (view_statement shift s source.no_items)

  -- the first part and those behind it
  items-made : (shift : ℕ → ℕ) (y : BlockItem-F (source.Items → source.Items) (ℕ → source.Stmt) views.BlockView source.Stmt) (rest : source.Items)
      → items_of result in_loop (views.block_item_from shift y rest)
      ≡ part_of result in_loop (views.block_item_from shift y source.no_items) >>= (λ f. items_of result in_loop rest >>= (λ others. pure (f others)))
  unfolding items_of
  items-made shift (BlockItem-F.Declaration d) rest =
      sym (assoc (declared_in_block (views.declaration_view shift d)) (λ l. pure (t.declaration l)) (λ f. items_of result in_loop rest >>= (λ others. pure (f others))))
  items-made shift (BlockItem-F.Statement s) rest =
      sym (assoc (stmt_of result in_loop s) (λ l. pure (t.statement l)) (λ f. items_of result in_loop rest >>= (λ others. pure (f others))))

  items-first : (shift : ℕ → ℕ) (x : tree_item.BlockItem) (rest : source.Items)
      → items_of result in_loop (views.block_item_view shift x rest)
      ≡ part_of result in_loop (views.block_item_view shift x source.no_items) >>= (λ f. items_of result in_loop rest >>= (λ others. pure (f others)))
  unfolding views.block_item_view
  items-first shift x rest =
      subst (λ (g : source.Items → source.Items). items_of result in_loop (g rest) ≡ part_of result in_loop (g source.no_items) >>= (λ f. items_of result in_loop rest >>= (λ others. pure (f others))))
      (sym (tree_item.fold_out-BlockItem (source.Items → source.Items) (ℕ → source.Stmt) views.BlockView source.Stmt (views.block_item_from shift) (views.stmt_node_from shift) (views.block_view_from shift) (views.stmt_from shift) x))
      (items-made shift _ rest)

  -- a block's parts are its items
  pub items-parts : (shift : ℕ → ℕ) (xs : List tree_item.BlockItem)
      → items_of result in_loop (views.all_items (map (views.block_item_view shift) xs))
      ≡ parts_of result in_loop (map (views.block_item_view shift) xs) >>= (λ fs. pure (all_items fs))
  unfolding items_of
  items-parts shift [] = refl
  items-parts shift (x ∷ xs) =
      items-first shift x (views.all_items (map (views.block_item_view shift) xs))
      ∙ same-after (part_of result in_loop (views.block_item_view shift x source.no_items)) _ _
      (λ f. ap (λ m. m >>= (λ others. pure (f others))) (items-parts shift xs)
      ∙ assoc (parts_of result in_loop (map (views.block_item_view shift) xs)) _ _
      ∙ sym (assoc (parts_of result in_loop (map (views.block_item_view shift) xs)) _ _))
      ∙ sym (assoc (part_of result in_loop (views.block_item_view shift x source.no_items)) _ _)

-- a block of the tree, with its lines
pub block-view : (shift : ℕ → ℕ) (b : tree_block.Block)
    → views.block_view shift b ≡ record { line = shift b.line; items = views.all_items (map (views.block_item_view shift) b.items); end = shift b.end }
block-view shift b =
    ap (views.block_view shift) (tree_block.rolls-Block' (record { line = b.line; items = b.items; end = b.end })) ∙ view_items shift b.line b.items b.end

-- the items of a block of the tree
pub block-law : (result : CType) (in_loop : Test) (shift : ℕ → ℕ) (b : tree_block.Block)
    → items_of result in_loop (views.block_view shift b).items ≡ parts_of result in_loop (map (views.block_item_view shift) b.items) >>= (λ fs. pure (all_items fs))
block-law result in_loop shift b =
    ap (λ (v : views.BlockView). items_of result in_loop v.items) (block-view shift b) ∙ items-parts result in_loop shift b.items
