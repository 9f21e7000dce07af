-- What the steps owe for the nodes on which they do nothing, and how the others look, a row of the code's matches at a time.
use Rattle.std.proofs.Common.{◌≡◌, ℕ, Bool as Test, List, Option, Some, None, refl, sym, subst, ◌⊎◌, inl, inr}
use Rattle.srmt_base.specs.declared.op.Op.{Op}
use Rattle.srmt_base.specs.declared.part.Part.{Part}
use Rattle.srmt_base.specs.Budgets.{turn_of}
use Rattle.c_types.specs.declared.type_ref.TypeRef.{TypeRef}
use Rattle.c_types.specs.Types.{CType}
use Rattle.c_typed.specs.declared.statement.Block as code_block
use Rattle.c_typed.specs.declared.statement.ForHead.{ForHead}
use Rattle.c_typed.specs.declared.statement.Stmt as code_stmt
use Rattle.c_typed.specs.declared.statement.StmtNode as code_stmt_node
use Rattle.c_typed.specs.declared.statement.StmtNode.TheVariants as sn
use Rattle.c_typed.specs.declared.value.IntegerChange.{IntegerChange}
use Rattle.c_typed.specs.declared.value.PointerChange.{PointerChange}
use Rattle.c_typed.specs.declared.value.Place as p
use Rattle.c_typed.specs.declared.value.PlaceNode.TheVariants as pn
use Rattle.c_typed.specs.declared.value.Value as v
use Rattle.c_typed.specs.declared.value.ValueNode as code_node
use Rattle.c_typed.specs.declared.value.ValueNode.TheVariants as vn
use Rattle.c_typed.specs.StatementViews.{stmt_view, stmt_node_view}
use Rattle.c_typed.specs.Statements as code
use Rattle.c_typed.specs.Statements.{Stmt}
use Rattle.c_typed.specs.Typed.{ValueNode}
use Rattle.c_typed.specs.Views.{value_view, value_node_view, place_view}
use Rattle.c_typed.proofs.StatementViewLaws as stmt_law
use Rattle.c_typed.proofs.ViewLaws as view
use Rattle.source_meaning.specs.Statements.{normal}
use Rattle.source_meaning.specs.World.{spends}
use Rattle.c_meaning.specs.declared.run.Did.TheVariants as did
use Rattle.c_meaning.specs.declared.run.Run.{Run}
use Rattle.c_meaning.specs.declared.setting.At.{At}
use Rattle.c_meaning.specs.Owes.{CanTake, Takes}
use Rattle.c_meaning.specs.Pending.{does, decide, point}
use Rattle.c_meaning.specs.Plans.{jump_of}
use Rattle.c_meaning.specs.Runs.{types_of}
use Rattle.c_meaning.proofs.StatementPlans.{first_turn}
use Rattle.c_meaning.proofs.TakingSteps.{IsUndecided, IsNoLoop}
use Rattle.c_meaning.proofs.TakingValues.{undecided}
use Rattle.c_meaning.proofs.TakingViews.{value_is, stmt_is, no_element}

-- values that are no `&&`, `||` or `?:`
module _ (at : At) (old : Run) (x : v.Value) (can : CanTake at old (does (decide (value_view (types_of at.program.now) x)))) where
  abbrev types : TypeRef → CType
  types = types_of at.program.now

  abbrev Has : code_node.ValueNode → Type 0
  Has n = x.node ≡ n

  abbrev Rests : Type 0
  Rests = Takes at old (does (decide (value_view types x))) old did.Went

  none : (n : code_node.ValueNode) (m : ValueNode) → Has n → value_node_view types n ≡ m → IsUndecided m → Rests
  none n m is views other = undecided at old (value_view types x) x.line (types x.ty) m (value_is types x n m is views) other can

  pub constant-row : ((n : ℕ) × Has (vn.Constant n)) ⊎ (Has vn.Null ⊎ ((q : p.Place) × Has (vn.Read q))) → Rests
  constant-row (inl (n, is)) = none (vn.Constant n) _ is (view.view_constant types n) tt
  constant-row (inr (inl is)) = none vn.Null _ is (view.view_null types) tt
  constant-row (inr (inr (q, is))) = none (vn.Read q) _ is (view.view_read types q) tt

  pub address-row : ((q : p.Place) × Has (vn.FirstElement q)) ⊎ (((q : p.Place) × Has (vn.Address q)) ⊎ ((n : ℕ) × Has (vn.Function n))) → Rests
  address-row (inl (q, is)) = none (vn.FirstElement q) _ is (view.view_first_element types q) tt
  address-row (inr (inl (q, is))) = none (vn.Address q) _ is (view.view_address types q) tt
  address-row (inr (inr (n, is))) = none (vn.Function n) _ is (view.view_function types n) tt

  pub minus-row : ((e : v.Value) × Has (vn.Minus e)) ⊎ (((e : v.Value) × Has (vn.Complement e)) ⊎ ((e : v.Value) × Has (vn.Negation e))) → Rests
  minus-row (inl (e, is)) = none (vn.Minus e) _ is (view.view_minus types e) tt
  minus-row (inr (inl (e, is))) = none (vn.Complement e) _ is (view.view_complement types e) tt
  minus-row (inr (inr (e, is))) = none (vn.Negation e) _ is (view.view_negation types e) tt

  pub arithmetic-row : ((op : Op) × (line : ℕ) × (a : v.Value) × (b : v.Value) × Has (vn.Arithmetic op line a b))
      ⊎ (((line : ℕ) × (is_less : Test) × (first : Test) × (a : v.Value) × (b : v.Value) × Has (vn.Sum line is_less first a b))
      ⊎ ((line : ℕ) × (a : v.Value) × (b : v.Value) × Has (vn.Difference line a b))) → Rests
  arithmetic-row (inl (op, line, a, b, is)) = none (vn.Arithmetic op line a b) _ is (view.view_arithmetic types op line a b) tt
  arithmetic-row (inr (inl (line, is_less, first, a, b, is))) = none (vn.Sum line is_less first a b) _ is (view.view_sum types line is_less first a b) tt
  arithmetic-row (inr (inr (line, a, b, is))) = none (vn.Difference line a b) _ is (view.view_difference types line a b) tt

  pub comparison-row : ((op : Op) × (line : ℕ) × (a : v.Value) × (b : v.Value) × Has (vn.Comparison op line a b))
      ⊎ ((es : List v.Value) × (e : v.Value) × Has (vn.Sequence es e)) → Rests
  comparison-row (inl (op, line, a, b, is)) = none (vn.Comparison op line a b) _ is (view.view_comparison types op line a b) tt
  comparison-row (inr (es, e, is)) = none (vn.Sequence es e) _ is (view.view_sequence types es e) tt

  pub assignment-row : ((q : p.Place) × (e : v.Value) × Has (vn.Assignment q e)) ⊎ (((c : IntegerChange) × (q : p.Place) × (e : v.Value) × Has (vn.Update c q e))
      ⊎ ((c : PointerChange) × (q : p.Place) × (e : v.Value) × Has (vn.Move c q e))) → Rests
  assignment-row (inl (q, e, is)) = none (vn.Assignment q e) _ is (view.view_assignment types q e) tt
  assignment-row (inr (inl (c, q, e, is))) = none (vn.Update c q e) _ is (view.view_update types c q e) tt
  assignment-row (inr (inr (c, q, e, is))) = none (vn.Move c q e) _ is (view.view_move types c q e) tt

  pub conversion-row : ((first : ℕ) × (e : v.Value) × Has (vn.Conversion first e)) ⊎ ((first : ℕ) × (e : v.Value) × Has (vn.ToBool first e)) → Rests
  conversion-row (inl (first, e, is)) = none (vn.Conversion first e) _ is (view.view_conversion types first e) tt
  conversion-row (inr (first, e, is)) = none (vn.ToBool first e) _ is (view.view_to_bool types first e) tt

  pub requalified-row : ((e : v.Value) × Has (vn.Requalified e)) ⊎ ((e : v.Value) × Has (vn.Discarded e)) → Rests
  requalified-row (inl (e, is)) = none (vn.Requalified e) _ is (view.view_requalified types e) tt
  requalified-row (inr (e, is)) = none (vn.Discarded e) _ is (view.view_discarded types e) tt

  pub call-row : ((line : ℕ) × (n : ℕ) × (es : List v.Value) × Has (vn.Call line n es))
      ⊎ ((line : ℕ) × (e : v.Value) × (es : List v.Value) × Has (vn.CallThrough line e es)) → Rests
  call-row (inl (line, n, es, is)) = none (vn.Call line n es) _ is (view.view_call types line n es) tt
  call-row (inr (line, e, es, is)) = none (vn.CallThrough line e es) _ is (view.view_call_through types line e es) tt

  pub putchar-row : ((line : ℕ) × (e : v.Value) × Has (vn.Putchar line e)) ⊎ (((line : ℕ) × Has (vn.Getchar line))
      ⊎ ((line : ℕ) × (e : v.Value) × Has (vn.Exit line e))) → Rests
  putchar-row (inl (line, e, is)) = none (vn.Putchar line e) _ is (view.view_putchar types line e) tt
  putchar-row (inr (inl (line, is))) = none (vn.Getchar line) _ is (view.view_getchar types line) tt
  putchar-row (inr (inr (line, e, is))) = none (vn.Exit line e) _ is (view.view_exit types line e) tt

-- places that are no elements
pub local-row : (at : At) (old : Run) (x : p.Place) → CanTake at old (does (point (place_view (types_of at.program.now) x)))
    → ((n : ℕ) × (x.node ≡ pn.Local n)) ⊎ (((n : ℕ) × (x.node ≡ pn.Static n)) ⊎ ((n : ℕ) × (x.node ≡ pn.Text n)))
    → Takes at old (does (point (place_view (types_of at.program.now) x))) old did.Went
local-row at old x can (inl (n, is)) = no_element at old x (pn.Local n) _ is (view.view_local (types_of at.program.now) n) tt can
local-row at old x can (inr (inl (n, is))) = no_element at old x (pn.Static n) _ is (view.view_static (types_of at.program.now) n) tt can
local-row at old x can (inr (inr (n, is))) = no_element at old x (pn.Text n) _ is (view.view_text (types_of at.program.now) n) tt can

module _ (types : TypeRef → CType) (x : code_stmt.Stmt) where
  abbrev Holds : code_stmt_node.StmtNode → Type 0
  Holds n = x.node ≡ n

  -- what the view of a statement has that its node has
  seen : (P : Stmt → Type 0) (n : code_stmt_node.StmtNode) (m : Stmt) → Holds n → stmt_node_view types n x.line ≡ m → P m → P (stmt_view types x)
  seen P n m is views has = subst P (sym (stmt_is types x n m is views)) has

  if_seen : (P : Stmt → Type 0) (e : v.Value) (a : code_stmt.Stmt) (b : Option code_stmt.Stmt) → Holds (sn.If e a b)
      → P (code.if_only x.line (value_view types e) (stmt_view types a))
      → ((u : code_stmt.Stmt) → P (code.if_else x.line (value_view types e) (stmt_view types a) (stmt_view types u))) → P (stmt_view types x)
  if_seen P e a None is one both = seen P (sn.If e a None) _ is (stmt_law.view_if_only types e a x.line) one
  if_seen P e a (Some u) is one both = seen P (sn.If e a (Some u)) _ is (stmt_law.view_if_else types e a u x.line) (both u)

  abbrev Normal : Stmt → Type 0
  Normal a = jump_of a ≡ normal

  pub block-begins : ((b : code_block.Block) × Holds (sn.Block b)) ⊎ (((h : ForHead) × (a : code_stmt.Stmt) × Holds (sn.For h a))
      ⊎ (Holds sn.Empty ⊎ ((e : v.Value) × Holds (sn.Value e)))) → Normal (stmt_view types x)
  block-begins (inl (b, is)) = seen Normal (sn.Block b) _ is (stmt_law.view_block types b x.line) refl
  block-begins (inr (inl (h, a, is))) = seen Normal (sn.For h a) _ is (stmt_law.view_for types h a x.line) refl
  block-begins (inr (inr (inl is))) = seen Normal sn.Empty _ is (stmt_law.view_empty types x.line) refl
  block-begins (inr (inr (inr (e, is)))) = seen Normal (sn.Value e) _ is (stmt_law.view_value types e x.line) refl

  pub if-begins : ((e : v.Value) × (a : code_stmt.Stmt) × (b : Option code_stmt.Stmt) × Holds (sn.If e a b))
      ⊎ (((e : v.Value) × (a : code_stmt.Stmt) × Holds (sn.While e a)) ⊎ ((a : code_stmt.Stmt) × (e : v.Value) × Holds (sn.Do a e)))
      → Normal (stmt_view types x)
  if-begins (inl (e, a, b, is)) = if_seen Normal e a b is refl (λ u. refl)
  if-begins (inr (inl (e, a, is))) = seen Normal (sn.While e a) _ is (stmt_law.view_while types e a x.line) refl
  if-begins (inr (inr (a, e, is))) = seen Normal (sn.Do a e) _ is (stmt_law.view_do types a e x.line) refl

  pub return-begins : (e : v.Value) → Holds (sn.Return (Some e)) → Normal (stmt_view types x)
  return-begins e is = seen Normal (sn.Return (Some e)) _ is (stmt_law.view_return types (Some e) x.line) refl

  -- statements that are no loops

  pub continue-rests : Holds sn.Continue ⊎ (Holds sn.Break ⊎ ((e : Option v.Value) × Holds (sn.Return e))) → IsNoLoop (stmt_view types x)
  continue-rests (inl is) = seen IsNoLoop sn.Continue _ is (stmt_law.view_continue types x.line) tt
  continue-rests (inr (inl is)) = seen IsNoLoop sn.Break _ is (stmt_law.view_break types x.line) tt
  continue-rests (inr (inr (e, is))) = seen IsNoLoop (sn.Return e) _ is (stmt_law.view_return types e x.line) tt

  pub block-rests : ((b : code_block.Block) × Holds (sn.Block b)) ⊎ (Holds sn.Empty ⊎ (((e : v.Value) × Holds (sn.Value e))
      ⊎ ((e : v.Value) × (a : code_stmt.Stmt) × (b : Option code_stmt.Stmt) × Holds (sn.If e a b)))) → IsNoLoop (stmt_view types x)
  block-rests (inl (b, is)) = seen IsNoLoop (sn.Block b) _ is (stmt_law.view_block types b x.line) tt
  block-rests (inr (inl is)) = seen IsNoLoop sn.Empty _ is (stmt_law.view_empty types x.line) tt
  block-rests (inr (inr (inl (e, is)))) = seen IsNoLoop (sn.Value e) _ is (stmt_law.view_value types e x.line) tt
  block-rests (inr (inr (inr (e, a, b, is)))) = if_seen IsNoLoop e a b is tt (λ u. tt)

  -- a loop takes its turn at its line

  abbrev Turns : Part → Stmt → Type 0
  Turns part a = first_turn part a ≡ spends x.line (turn_of part)

  pub loop-turns : (part : Part) → ((e : v.Value) × (a : code_stmt.Stmt) × Holds (sn.While e a))
      ⊎ (((a : code_stmt.Stmt) × (e : v.Value) × Holds (sn.Do a e)) ⊎ ((h : ForHead) × (a : code_stmt.Stmt) × Holds (sn.For h a)))
      → Turns part (stmt_view types x)
  loop-turns part (inl (e, a, is)) = seen (Turns part) (sn.While e a) _ is (stmt_law.view_while types e a x.line) refl
  loop-turns part (inr (inl (a, e, is))) = seen (Turns part) (sn.Do a e) _ is (stmt_law.view_do types a e x.line) refl
  loop-turns part (inr (inr (h, a, is))) = seen (Turns part) (sn.For h a) _ is (stmt_law.view_for types h a x.line) refl
