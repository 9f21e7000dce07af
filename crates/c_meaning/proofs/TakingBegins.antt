-- The locals that begin before a statement, as the code finds them.
use Rattle.std.proofs.Common.{◌≡◌, ℕ, List, [], map, Option, Some, None, refl, sym, ap, ◌∙◌, ◌⊎◌, inl, inr}
use Rattle.std.specs.Prelude.{option_map}
use Rattle.srmt_base.specs.declared.event.Event.{Event}
use Rattle.c_types.specs.declared.type_ref.TypeRef.{TypeRef}
use Rattle.c_types.specs.Types.{CType}
use Rattle.c_typed.specs.declared.statement.Block as code_block
use Rattle.c_typed.specs.declared.statement.BlockItem as code_block_item
use Rattle.c_typed.specs.declared.statement.ForHead.{ForHead}
use Rattle.c_typed.specs.declared.statement.ForStart.TheVariants as for_start
use Rattle.c_typed.specs.declared.statement.LocalItem.{LocalItem as CodeLocal}
use Rattle.c_typed.specs.declared.statement.Stmt as code_stmt
use Rattle.c_typed.specs.declared.statement.StmtNode as code_stmt_node
use Rattle.c_typed.specs.declared.statement.StmtNode.TheVariants as sn
use Rattle.c_typed.specs.declared.value.Value as v
use Rattle.c_typed.specs.StatementViews.{BlockView, stmt_view, stmt_node_view, block_view, local_item_view, for_start_view}
use Rattle.c_typed.specs.Statements as code
use Rattle.c_typed.specs.Statements.{Stmt}
use Rattle.c_typed.specs.Views.{value_view}
use Rattle.c_typed.proofs.StatementViewLaws as law
use Rattle.source_meaning.specs.Places.{all_begin}
use Rattle.source_meaning.specs.Statements.{locals_of, numbers_of}
use Rattle.source_meaning.specs.World.{Gives}
use Rattle.c_meaning.specs.declared.setting.At.{At}
use Rattle.c_meaning.specs.declared.store.Stored.{Stored}
use Rattle.c_meaning.specs.Plans.{begun_first}
use Rattle.c_meaning.specs.Runs.{types_of, setting_of, world_of}
use Rattle.c_meaning.specs.TaskViews.{items_view}
use Rattle.c_meaning.proofs.TakingViews.{stmt_is}

module _ (types : TypeRef → CType) (x : code_stmt.Stmt) where
  abbrev Holds : code_stmt_node.StmtNode → Type 0
  Holds n = x.node ≡ n

  block_is : (b : code_block.Block) → block_view types b ≡ record { line = b.line; items = items_view types b.items; end = b.end }
  block_is b =
      ap (block_view types) (sym (code_block.rolls-Block' (record { line = b.line; items = b.items; end = b.end })))
      ∙ law.view_items types b.line b.items b.end

  pub block_begun : (b : code_block.Block) (items : List code_block_item.BlockItem) → Holds (sn.Block b) → items ≡ b.items
      → begun_first (stmt_view types x) ≡ locals_of (items_view types items)
  block_begun b items is same =
      ap begun_first (stmt_is types x (sn.Block b) _ is (law.view_block types b x.line))
      ∙ ap (λ (k : BlockView). locals_of k.items) (block_is b)
      ∙ ap (λ k. locals_of (items_view types k)) (sym same)

  pub for_begun : (h : ForHead) (a : code_stmt.Stmt) (xs locals : List CodeLocal) → Holds (sn.For h a) → h.start ≡ for_start.Locals xs → locals ≡ xs
      → begun_first (stmt_view types x) ≡ numbers_of (map (local_item_view types) locals)
  for_begun h a xs locals is start same =
      ap begun_first (stmt_is types x (sn.For h a) _ is (law.view_for types h a x.line))
      ∙ ap (λ s. begun_first (code.for x.line (for_start_view types s) (option_map (value_view types) h.test) (option_map (value_view types) h.step) (stmt_view types a))) start
      ∙ ap (λ k. numbers_of (map (local_item_view types) k)) (sym same)

  pub value_begun : (h : ForHead) (a : code_stmt.Stmt) (e : Option v.Value) → Holds (sn.For h a) → h.start ≡ for_start.Value e
      → begun_first (stmt_view types x) ≡ []
  value_begun h a e is start =
      ap begun_first (stmt_is types x (sn.For h a) _ is (law.view_for types h a x.line))
      ∙ ap (λ s. begun_first (code.for x.line (for_start_view types s) (option_map (value_view types) h.test) (option_map (value_view types) h.step) (stmt_view types a))) start

  none : (n : code_stmt_node.StmtNode) (m : Stmt) → Holds n → stmt_node_view types n x.line ≡ m → begun_first m ≡ [] → begun_first (stmt_view types x) ≡ []
  none n m is views empty = ap begun_first (stmt_is types x n m is views) ∙ empty

  pub empty-row : Holds sn.Empty ⊎ (((e : v.Value) × Holds (sn.Value e))
      ⊎ ((e : v.Value) × (a : code_stmt.Stmt) × (b : Option code_stmt.Stmt) × Holds (sn.If e a b))) → begun_first (stmt_view types x) ≡ []
  empty-row (inl is) = none sn.Empty _ is (law.view_empty types x.line) refl
  empty-row (inr (inl (e, is))) = none (sn.Value e) _ is (law.view_value types e x.line) refl
  empty-row (inr (inr (e, a, None, is))) = none (sn.If e a None) _ is (law.view_if_only types e a x.line) refl
  empty-row (inr (inr (e, a, Some u, is))) = none (sn.If e a (Some u)) _ is (law.view_if_else types e a u x.line) refl

  pub while-row : ((e : v.Value) × (a : code_stmt.Stmt) × Holds (sn.While e a)) ⊎ ((a : code_stmt.Stmt) × (e : v.Value) × Holds (sn.Do a e))
      → begun_first (stmt_view types x) ≡ []
  while-row (inl (e, a, is)) = none (sn.While e a) _ is (law.view_while types e a x.line) refl
  while-row (inr (a, e, is)) = none (sn.Do a e) _ is (law.view_do types a e x.line) refl

  pub jump-row : Holds sn.Continue ⊎ (Holds sn.Break ⊎ ((e : Option v.Value) × Holds (sn.Return e))) → begun_first (stmt_view types x) ≡ []
  jump-row (inl is) = none sn.Continue _ is (law.view_continue types x.line) refl
  jump-row (inr (inl is)) = none sn.Break _ is (law.view_break types x.line) refl
  jump-row (inr (inr (e, is))) = none (sn.Return e) _ is (law.view_return types e x.line) refl

-- no local begins
pub nothing_begins : (at : At) (x : code_stmt.Stmt) (w : Stored) → begun_first (stmt_view (types_of at.program.now) x) ≡ [] → (bound : ℕ) (es : List Event)
    → all_begin (setting_of bound at) (begun_first (stmt_view (types_of at.program.now) x)) (world_of w es) ≡ Gives tt (world_of w es)
nothing_begins at x w none bound es = ap (λ ns. all_begin (setting_of bound at) ns (world_of w es)) none
