-- What a statement of the code is lowered to: the row of its node.
use Rattle.std.proofs.Common.{◌≡◌, ℕ, List, map, Option, Some, None, refl, sym, ◌∙◌, ap}
use Rattle.std.specs.Prelude.{option_map}
use Rattle.mid_code.specs.declared.mid.Mid.TheVariants as mid
use Rattle.c_types.specs.declared.type_ref.TypeRef.{TypeRef}
use Rattle.c_types.specs.Types.{CType}
use Rattle.c_typed.specs.declared.value.Value as v
use Rattle.c_typed.specs.declared.statement.Block as code_block
use Rattle.c_typed.specs.declared.statement.BlockItem as code_block_item
use Rattle.c_typed.specs.declared.statement.BlockItem.TheVariants as bi
use Rattle.c_typed.specs.declared.statement.ForHead.{ForHead}
use Rattle.c_typed.specs.declared.statement.ForStart.{ForStart as CodeForStart}
use Rattle.c_typed.specs.declared.statement.ForStart.TheVariants as fs
use Rattle.c_typed.specs.declared.statement.LocalItem.{LocalItem}
use Rattle.c_typed.specs.declared.statement.Stmt as code_stmt
use Rattle.c_typed.specs.declared.statement.StmtNode as code_stmt_node
use Rattle.c_typed.specs.declared.statement.StmtNode.TheVariants as sn
use Rattle.c_typed.specs.Statements as tree
use Rattle.c_typed.specs.Statements.{Stmt, Items}
use Rattle.c_typed.specs.Views.{value_view}
use Rattle.c_typed.specs.StatementViews.{BlockView, all_items, block_item_view, local_item_view, for_start_view, stmt_view, stmt_node_view, block_view}
use Rattle.c_typed.proofs.StatementViewLaws as view
use Rattle.source_meaning.specs.Statements.{locals_of}
use Rattle.lower.specs.Emitting.{Making, ◌>>=◌, ◌>>◌, pure, emits_code, wrapped, jumped, two_ways}
use Rattle.lower.specs.Expressions.{Inside, value_of}
use Rattle.lower.specs.Statements.{lowers, lowers_items, in_block, looped, do_looped, looped_with, done, all_initialize, value_or_zero, breaks, continues, returns}
use Rattle.lower.specs.Nodes.{for_of}

-- the parts of a block
pub block_parts : (types : TypeRef → CType) (b : code_block.Block)
    → block_view types b ≡ record { line = b.line; items = all_items (map (block_item_view types) b.items); end = b.end }
block_parts types b =
    ap (block_view types) (sym (code_block.rolls-Block' (record { line = b.line; items = b.items; end = b.end })))
    ∙ view.view_items types b.line b.items b.end

-- what comes behind the test of an `if`
abbrev pub if_rest : Inside → (TypeRef → CType) → ℕ → code_stmt.Stmt → Option code_stmt.Stmt → ℕ → Making (Unit {0})
if_rest i types line a None r = wrapped (jumped line (mid.JumpZ r)) (lowers i (stmt_view types a))
if_rest i types line a (Some b) r = two_ways line (mid.JumpZ r) (lowers i (stmt_view types a)) (λ done. lowers i (stmt_view types b))

module _ (i : Inside) (types : TypeRef → CType) (x : code_stmt.Stmt) where
  by_node : (n : code_stmt_node.StmtNode) (m : ℕ → Stmt) → x.node ≡ n → ((line : ℕ) → stmt_node_view types n line ≡ m line)
      → lowers i (stmt_view types x) ≡ lowers i (m x.line)
  by_node n m is views = ap (lowers i) (view.view_stmt types x ∙ ap (λ k. stmt_node_view types k x.line) is ∙ views x.line)

  pub block-row : (b : code_block.Block) → x.node ≡ sn.Block b → lowers i (stmt_view types x)
      ≡ in_block i (locals_of (all_items (map (block_item_view types) b.items))) b.line (lowers_items i (all_items (map (block_item_view types) b.items)))
  unfolding lowers
  block-row b is =
      by_node (sn.Block b) (λ line. tree.block b.line (all_items (map (block_item_view types) b.items)) b.end) is
      (λ line. view.view_block types b line ∙ ap (λ (w : BlockView). tree.block w.line w.items w.end) (block_parts types b))

  pub empty-row : x.node ≡ sn.Empty → lowers i (stmt_view types x) ≡ pure tt
  unfolding lowers
  empty-row is = by_node sn.Empty tree.empty is (view.view_empty types)

  pub value-row : (e : v.Value) → x.node ≡ sn.Value e → lowers i (stmt_view types x) ≡ (value_of i (value_view types e) 0 >> pure tt)
  unfolding lowers
  value-row e is = by_node (sn.Value e) (λ line. tree.expression line (value_view types e)) is (view.view_value types e)

  pub if_only-row : (e : v.Value) (a : code_stmt.Stmt) → x.node ≡ sn.If e a None → lowers i (stmt_view types x)
      ≡ (value_of i (value_view types e) 0 >>= (λ r. wrapped (jumped x.line (mid.JumpZ r)) (lowers i (stmt_view types a))))
  unfolding lowers
  if_only-row e a is =
      by_node (sn.If e a None) (λ line. tree.if_only line (value_view types e) (stmt_view types a)) is (view.view_if_only types e a)

  pub if_else-row : (e : v.Value) (a b : code_stmt.Stmt) → x.node ≡ sn.If e a (Some b) → lowers i (stmt_view types x)
      ≡ (value_of i (value_view types e) 0 >>= (λ r. two_ways x.line (mid.JumpZ r) (lowers i (stmt_view types a)) (λ done. lowers i (stmt_view types b))))
  unfolding lowers
  if_else-row e a b is =
      by_node (sn.If e a (Some b)) (λ line. tree.if_else line (value_view types e) (stmt_view types a) (stmt_view types b)) is (view.view_if_else types e a b)

  pub if-row : (e : v.Value) (a : code_stmt.Stmt) (otherwise : Option code_stmt.Stmt) → x.node ≡ sn.If e a otherwise → lowers i (stmt_view types x)
      ≡ (value_of i (value_view types e) 0 >>= if_rest i types x.line a otherwise)
  if-row e a None is = if_only-row e a is
  if-row e a (Some b) is = if_else-row e a b is

  pub while-row : (e : v.Value) (a : code_stmt.Stmt) → x.node ≡ sn.While e a
      → lowers i (stmt_view types x) ≡ looped i x.line (Some (value_view types e)) (lowers i (stmt_view types a)) None
  unfolding lowers
  while-row e a is = by_node (sn.While e a) (λ line. tree.while line (value_view types e) (stmt_view types a)) is (view.view_while types e a)

  pub do-row : (a : code_stmt.Stmt) (e : v.Value) → x.node ≡ sn.Do a e
      → lowers i (stmt_view types x) ≡ do_looped i x.line (lowers i (stmt_view types a)) (value_view types e)
  unfolding lowers
  do-row a e is = by_node (sn.Do a e) (λ line. tree.do_while line (stmt_view types a) (value_view types e)) is (view.view_do types a e)

  pub for-row : (head : ForHead) (a : code_stmt.Stmt) → x.node ≡ sn.For head a
      → lowers i (stmt_view types x) ≡ lowers i (for_of types x.line head (stmt_view types a))
  for-row head a is = by_node (sn.For head a) (λ line. for_of types line head (stmt_view types a)) is (view.view_for types head a)

  pub continue-row : x.node ≡ sn.Continue → lowers i (stmt_view types x) ≡ emits_code (continues x.line)
  unfolding lowers
  continue-row is = by_node sn.Continue tree.continue is (view.view_continue types)

  pub break-row : x.node ≡ sn.Break → lowers i (stmt_view types x) ≡ emits_code (breaks x.line)
  unfolding lowers
  break-row is = by_node sn.Break tree.break is (view.view_break types)

  pub return-row : (e : Option v.Value) → x.node ≡ sn.Return e → lowers i (stmt_view types x)
      ≡ (value_or_zero i x.line (option_map (value_view types) e) >>= (λ r. emits_code (returns i x.line r)))
  unfolding lowers
  return-row e is = by_node (sn.Return e) (λ line. tree.return line (option_map (value_view types) e)) is (view.view_return types e)

-- ---- `for`

module _ (i : Inside) (types : TypeRef → CType) (line : ℕ) (head : ForHead) (a : Stmt) where
  by_start : (s : CodeForStart) → head.start ≡ s → lowers i (for_of types line head a)
      ≡ lowers i (tree.for line (for_start_view types s) (option_map (value_view types) head.test) (option_map (value_view types) head.step) a)
  by_start s is = ap (λ z. lowers i (tree.for line (for_start_view types z) (option_map (value_view types) head.test)
      (option_map (value_view types) head.step) a)) is

  pub first-row : (first : Option v.Value) → head.start ≡ fs.Value first → lowers i (for_of types line head a)
      ≡ (done i (option_map (value_view types) first)
      >> looped i line (option_map (value_view types) head.test) (lowers i a) (option_map (value_view types) head.step))
  unfolding lowers
  first-row first is = by_start (fs.Value first) is

  pub locals-row : (locals : List LocalItem) → head.start ≡ fs.Locals locals → lowers i (for_of types line head a)
      ≡ looped_with i (map (local_item_view types) locals) line (option_map (value_view types) head.test) (lowers i a)
      (option_map (value_view types) head.step)
  unfolding lowers
  locals-row locals is = by_start (fs.Locals locals) is

-- ---- the parts of a block

module _ (i : Inside) (types : TypeRef → CType) (rest : Items) where
  pub statement-row : (x : code_block_item.BlockItem) (s : code_stmt.Stmt) → x ≡ bi.Statement s
      → lowers_items i (block_item_view types x rest) ≡ (lowers i (stmt_view types s) >> lowers_items i rest)
  unfolding lowers
  statement-row x s is = ap (λ z. lowers_items i (block_item_view types z rest)) is ∙ ap (lowers_items i) (view.view_statement types s rest)

  pub declaration-row : (x : code_block_item.BlockItem) (locals : List LocalItem) → x ≡ bi.Declaration locals
      → lowers_items i (block_item_view types x rest) ≡ (all_initialize i (map (local_item_view types) locals) >> lowers_items i rest)
  unfolding lowers
  declaration-row x locals is = ap (λ z. lowers_items i (block_item_view types z rest)) is ∙ ap (lowers_items i) (view.view_declaration types locals rest)

pub no_items-row : (i : Inside) → lowers_items i tree.no_items ≡ pure tt
unfolding lowers
no_items-row i = refl
