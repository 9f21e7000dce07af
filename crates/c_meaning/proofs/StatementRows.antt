-- What the code puts in the place of a statement is its plan, a row of the code's matches at a time.
use Rattle.std.proofs.Common.{◌≡◌, ℕ, ◌==◌, true, false, if◌then◌else◌, List, [], ◌∷◌, ◌++◌, map, Option, Some, None, Result, Ok, append_assoc, refl, sym, ◌∙◌, ap, subst, ◌⊎◌, inl, inr}
use Rattle.std.specs.Prelude.{option_map}
use Rattle.std.proofs.lemmas.Result.{on_ok_weaker}
use Rattle.c_typed.specs.declared.value.Value as v
use Rattle.c_typed.specs.declared.statement.Block as code_block
use Rattle.c_typed.specs.declared.statement.BlockItem as code_block_item
use Rattle.c_typed.specs.declared.statement.BlockItem.TheVariants as bi
use Rattle.c_typed.specs.declared.statement.LocalItem.{LocalItem}
use Rattle.c_typed.specs.declared.statement.ForHead.{ForHead}
use Rattle.c_typed.specs.declared.statement.Stmt as code_stmt
use Rattle.c_typed.specs.declared.statement.StmtNode as code_stmt_node
use Rattle.c_typed.specs.declared.statement.StmtNode.TheVariants as sn
use Rattle.c_typed.specs.Typed.{Value}
use Rattle.c_typed.specs.Statements as tree
use Rattle.c_typed.specs.Statements.{ForStart, starts, declares, Stmt}
use Rattle.c_typed.specs.Views.{value_view}
use Rattle.c_typed.specs.StatementViews.{BlockView, local_item_view, for_start_view, stmt_view, stmt_node_view, block_view}
use Rattle.c_typed.proofs.StatementViewLaws as view
use Rattle.c_meaning.specs.declared.stack.Tasks.{Tasks}
use Rattle.c_meaning.specs.Pending.{Task, does, evaluate, forget, initialize_all, execute, execute_items, end_block, choose, at_top, tested, after_body, again, answer}
use Rattle.c_meaning.specs.Plans.{statement_plan, for_plan, items_plan, choice_plan, top_plan, tested_plan, round_plan}
use Rattle.c_meaning.specs.Puts.{Puts}
use Rattle.c_meaning.specs.Stack.{pending}
use Rattle.c_meaning.specs.TaskViews.{tasks_view, items_view}
use Rattle.c_meaning.proofs.PlanRows.{Types, Planned, replanned}

-- a block's parts
pub block_parts : (types : Types) (b : code_block.Block) → block_view types b ≡ record { line = b.line; items = items_view types b.items; end = b.end }
block_parts types b =
    ap (block_view types) (sym (code_block.rolls-Block' (record { line = b.line; items = b.items; end = b.end })))
    ∙ view.view_items types b.line b.items b.end

-- a `for` before its first round
for_start : (line : ℕ) (first : ForStart) (e step : Option Value) (a : Stmt)
    → for_plan first (at_top (tree.for line first e step a)) ≡ statement_plan (tree.for line first e step a)
for_start line (starts None) e step a = refl
for_start line (starts (Some first)) e step a = refl
for_start line (declares locals) e step a = refl

-- a branch whose test is known
first_of : (n : ℕ) (xs ys : List Task) → (n == 0) ≡ true → xs ≡ (if n == 0 then xs else ys)
first_of n xs ys h = sym (ap (λ b. if b then xs else ys) h)

second_of : (n : ℕ) (xs ys : List Task) → (n == 0) ≡ false → ys ≡ (if n == 0 then xs else ys)
second_of n xs ys h = sym (ap (λ b. if b then xs else ys) h)

abbrev for_with : Types → ℕ → ForHead → Option v.Value → Option v.Value → code_stmt.Stmt → Stmt
for_with types line head e step a =
    tree.for line (for_start_view types head.start) (option_map (value_view types) e) (option_map (value_view types) step) (stmt_view types a)

abbrev for_of : Types → ℕ → ForHead → code_stmt.Stmt → Stmt
for_of types line head a = for_with types line head head.test head.step a

-- neither a loop nor an `if`
abbrev pub IsPlain : Stmt → Type 0
IsPlain (tree.if_only line e a) = ⊥
IsPlain (tree.if_else line e a b) = ⊥
IsPlain (tree.while line e a) = ⊥
IsPlain (tree.do_while line a e) = ⊥
IsPlain (tree.for line first e step a) = ⊥
IsPlain other = Unit {0}

pub top_still : (a : Stmt) → IsPlain a → [] ≡ top_plan a
top_still (tree.if_only line e a) h = refl
top_still (tree.if_else line e a b) h = refl
top_still (tree.while line e a) h = absurd h
top_still (tree.do_while line a e) h = absurd h
top_still (tree.for line first e step a) h = absurd h
top_still other h = refl

pub tested_still : (n : ℕ) (a : Stmt) → IsPlain a → [] ≡ tested_plan a n
tested_still n (tree.while line e a) h = absurd h
tested_still n (tree.do_while line a e) h = absurd h
tested_still n (tree.for line first e step a) h = absurd h
tested_still n other h = refl

pub round_still : (a : Stmt) → IsPlain a → [] ≡ round_plan a
round_still (tree.while line e a) h = absurd h
round_still (tree.do_while line a e) h = absurd h
round_still (tree.for line first e step a) h = absurd h
round_still other h = refl

pub choice_still : (n : ℕ) (a : Stmt) → IsPlain a → [] ≡ choice_plan a n
choice_still n (tree.if_only line e a) h = absurd h
choice_still n (tree.if_else line e a b) h = absurd h
choice_still n other h = refl

module _ (x : code_stmt.Stmt) where
  abbrev Has : code_stmt_node.StmtNode → Type 0
  Has n = x.node ≡ n

  -- a statement whose node is known
  by_node : (types : Types) (n : code_stmt_node.StmtNode) (m : ℕ → Stmt) (plan other : Stmt → List Task) → Has n →
      ((line : ℕ) → stmt_node_view types n line ≡ m line)
      → ((line : ℕ) → plan (m line) ≡ other (m line)) → plan (stmt_view types x) ≡ other (stmt_view types x)
  by_node types n m plan other is views same =
      subst (λ a. plan a ≡ other a) (sym (view.view_stmt types x ∙ ap (λ k. stmt_node_view types k x.line) is ∙ views x.line)) (same x.line)

  -- nothing is put there
  by_nothing : (old : Tasks) (types : Types) (n : code_stmt_node.StmtNode) (m : ℕ → Stmt) (other : Stmt → List Task) → Has n
      → ((line : ℕ) → stmt_node_view types n line ≡ m line) → ((line : ℕ) → [] ≡ other (m line))
      → tasks_view types (pending old) ≡ other (stmt_view types x) ++ tasks_view types (pending old)
  by_nothing old types n m other is views same =
      ap (λ ts. ts ++ tasks_view types (pending old)) (by_node types n m (λ a. []) other is views same)

  pub empty-row : (old : Tasks) → (Has sn.Empty) ⊎ ((Has sn.Continue) ⊎ (Has sn.Break)) → Puts old old (λ types. statement_plan (stmt_view types x))
  empty-row old (inl is) types = by_nothing old types sn.Empty tree.empty statement_plan is (view.view_empty types) (λ line. refl)
  empty-row old (inr (inl is)) types = by_nothing old types sn.Continue tree.continue statement_plan is (view.view_continue types) (λ line. refl)
  empty-row old (inr (inr is)) types = by_nothing old types sn.Break tree.break statement_plan is (view.view_break types) (λ line. refl)

  pub no_value-row : (old : Tasks) → Has (sn.Return None) → Puts old old (λ types. statement_plan (stmt_view types x))
  no_value-row old is types =
      by_nothing old types (sn.Return None) (λ line. tree.return line None) statement_plan is (view.view_return types None) (λ line. refl)

  module _ {T E : Type 0} (r : Result T E) (old new : Tasks) where
    by : (n : code_stmt_node.StmtNode) (m : Types → ℕ → Stmt) (plan : Types → Stmt → List Task) (other : Stmt → List Task) → Has n
        → ((types : Types) (line : ℕ) → stmt_node_view types n line ≡ m types line) →
        ((types : Types) (line : ℕ) → plan types (m types line) ≡ other (m types line))
        → Planned r old new (λ types. plan types (stmt_view types x)) → Planned r old new (λ types. other (stmt_view types x))
    by n m plan other is views same =
        replanned r old new (λ types. plan types (stmt_view types x)) (λ types. other (stmt_view types x))
        (λ types. by_node types n (m types) (plan types) other is (views types) (same types))

    pub block-row : (b : code_block.Block) → Has (sn.Block b)
        → Planned r old new (λ types. execute_items (items_view types b.items) ∷ end_block (items_view types b.items) ∷ [])
        → Planned r old new (λ types. statement_plan (stmt_view types x))
    block-row b is =
        by (sn.Block b) (λ types line. tree.block b.line (items_view types b.items) b.end)
        (λ types a. execute_items (items_view types b.items) ∷ end_block (items_view types b.items) ∷ []) statement_plan is
        (λ types line. view.view_block types b line ∙ ap (λ (w : BlockView). tree.block w.line w.items w.end) (block_parts types b)) (λ types line. refl)

    pub value-row : (e : v.Value) → Has (sn.Value e) → Planned r old new (λ types. does (evaluate (value_view types e)) ∷ does forget ∷ [])
        → Planned r old new (λ types. statement_plan (stmt_view types x))
    value-row e is =
        by (sn.Value e) (λ types line. tree.expression line (value_view types e))
        (λ types a. does (evaluate (value_view types e)) ∷ does forget ∷ []) statement_plan is
        (λ types. view.view_value types e) (λ types line. refl)

    pub return-row : (e : v.Value) → Has (sn.Return (Some e)) → Planned r old new (λ types. does (evaluate (value_view types e)) ∷ answer ∷ [])
        → Planned r old new (λ types. statement_plan (stmt_view types x))
    return-row e is =
        by (sn.Return (Some e)) (λ types line. tree.return line (Some (value_view types e)))
        (λ types a. does (evaluate (value_view types e)) ∷ answer ∷ []) statement_plan is
        (λ types. view.view_return types (Some e)) (λ types line. refl)

    pub if-row : (e : v.Value) → ((a : code_stmt.Stmt) × (second : Option code_stmt.Stmt) × Has (sn.If e a second))
        → Planned r old new (λ types. does (evaluate (value_view types e)) ∷ choose (stmt_view types x) ∷ [])
        → Planned r old new (λ types. statement_plan (stmt_view types x))
    if-row e (a, None, is) =
        by (sn.If e a None) (λ types line. tree.if_only line (value_view types e) (stmt_view types a))
        (λ types whole. does (evaluate (value_view types e)) ∷ choose whole ∷ []) statement_plan is (λ types. view.view_if_only types e a) (λ types line. refl)
    if-row e (a, Some b, is) =
        by (sn.If e a (Some b)) (λ types line. tree.if_else line (value_view types e) (stmt_view types a) (stmt_view types b))
        (λ types whole. does (evaluate (value_view types e)) ∷ choose whole ∷ []) statement_plan is (λ types. view.view_if_else types e a b)
        (λ types line. refl)

    pub loop-row : ((e : v.Value) × (a : code_stmt.Stmt) × Has (sn.While e a)) ⊎ ((a : code_stmt.Stmt) × (e : v.Value) × Has (sn.Do a e))
        → Planned r old new (λ types. at_top (stmt_view types x) ∷ []) → Planned r old new (λ types. statement_plan (stmt_view types x))
    loop-row (inl (e, a, is)) =
        by (sn.While e a) (λ types line. tree.while line (value_view types e) (stmt_view types a)) (λ types whole. at_top whole ∷ []) statement_plan is
        (λ types. view.view_while types e a) (λ types line. refl)
    loop-row (inr (a, e, is)) =
        by (sn.Do a e) (λ types line. tree.do_while line (stmt_view types a) (value_view types e)) (λ types whole. at_top whole ∷ []) statement_plan is
        (λ types. view.view_do types a e) (λ types line. refl)

    pub for-row : (head : ForHead) → ((a : code_stmt.Stmt) × Has (sn.For head a))
        → Planned r old new (λ types. for_plan (for_start_view types head.start) (at_top (stmt_view types x)))
        → Planned r old new (λ types. statement_plan (stmt_view types x))
    for-row head (a, is) =
        by (sn.For head a)
        (λ types line. tree.for line (for_start_view types head.start) (option_map (value_view types) head.test) (option_map (value_view types) head.step)
        (stmt_view types a))
        (λ types whole. for_plan (for_start_view types head.start) (at_top whole)) statement_plan is (λ types. view.view_for types head a)
        (λ types line. for_start line (for_start_view types head.start) (option_map (value_view types) head.test) (option_map (value_view types) head.step)
        (stmt_view types a))

    -- ---- loops

    pub while-row : (other : Stmt → List Task) (f : Stmt → Task) (e : v.Value) →
        ((line : ℕ) (d : Value) (b : Stmt) → does (evaluate d) ∷ f (tree.while line d b) ∷ [] ≡ other (tree.while line d b))
        → ((a : code_stmt.Stmt) × Has (sn.While e a)) → Planned r old new (λ types. does (evaluate (value_view types e)) ∷ f (stmt_view types x) ∷ [])
        → Planned r old new (λ types. other (stmt_view types x))
    while-row other f e same (a, is) =
        by (sn.While e a) (λ types line. tree.while line (value_view types e) (stmt_view types a))
        (λ types whole. does (evaluate (value_view types e)) ∷ f whole ∷ []) other is
        (λ types. view.view_while types e a) (λ types line. same line (value_view types e) (stmt_view types a))

    pub do_body-row : (a : code_stmt.Stmt) → ((e : v.Value) × Has (sn.Do a e)) → Planned r old new
        (λ types. execute (stmt_view types a) ∷ after_body (stmt_view types x) ∷ [])
        → Planned r old new (λ types. top_plan (stmt_view types x))
    do_body-row a (e, is) =
        by (sn.Do a e) (λ types line. tree.do_while line (stmt_view types a) (value_view types e))
        (λ types whole. execute (stmt_view types a) ∷ after_body whole ∷ []) top_plan is
        (λ types. view.view_do types a e) (λ types line. refl)

    pub do_test-row : (e : v.Value) → ((a : code_stmt.Stmt) × Has (sn.Do a e)) → Planned r old new
        (λ types. does (evaluate (value_view types e)) ∷ again (stmt_view types x) ∷ [])
        → Planned r old new (λ types. round_plan (stmt_view types x))
    do_test-row e (a, is) =
        by (sn.Do a e) (λ types line. tree.do_while line (stmt_view types a) (value_view types e))
        (λ types whole. does (evaluate (value_view types e)) ∷ again whole ∷ []) round_plan is
        (λ types. view.view_do types a e) (λ types line. refl)

    pub while_round-row : ((e : v.Value) × (a : code_stmt.Stmt) × Has (sn.While e a)) → Planned r old new (λ types. at_top (stmt_view types x) ∷ [])
        → Planned r old new (λ types. round_plan (stmt_view types x))
    while_round-row (e, a, is) =
        by (sn.While e a) (λ types line. tree.while line (value_view types e) (stmt_view types a)) (λ types whole. at_top whole ∷ []) round_plan is
        (λ types. view.view_while types e a) (λ types line. refl)

    -- a `for`, whose parts are known
    for_by : (head : ForHead) (a : code_stmt.Stmt) (plan : Types → Stmt → List Task) (other : Stmt → List Task) → Has (sn.For head a)
        → ((types : Types) (line : ℕ) → plan types (for_of types line head a) ≡ other (for_of types line head a))
        → Planned r old new (λ types. plan types (stmt_view types x)) → Planned r old new (λ types. other (stmt_view types x))
    for_by head a plan other is same = by (sn.For head a) (λ types line. for_of types line head a) plan other is (λ types. view.view_for types head a) same

    pub for_untested-row : (head : ForHead) (a : code_stmt.Stmt) → Has (sn.For head a) → head.test ≡ None
        → Planned r old new (λ types. execute (stmt_view types a) ∷ after_body (stmt_view types x) ∷ []) → Planned r old new
        (λ types. top_plan (stmt_view types x))
    for_untested-row head a is none =
        for_by head a (λ types whole. execute (stmt_view types a) ∷ after_body whole ∷ []) top_plan is
        (λ types line.
        subst (λ (e : Option v.Value). execute (stmt_view types a) ∷ after_body (for_with types line head e head.step a) ∷ [] ≡ top_plan
        (for_with types line head e head.step a))
        (sym none) refl)

    pub for_tested-row : (head : ForHead) (a : code_stmt.Stmt) (e : v.Value) → Has (sn.For head a) → head.test ≡ Some e
        → Planned r old new (λ types. does (evaluate (value_view types e)) ∷ tested (stmt_view types x) ∷ []) → Planned r old new
        (λ types. top_plan (stmt_view types x))
    for_tested-row head a e is some =
        for_by head a (λ types whole. does (evaluate (value_view types e)) ∷ tested whole ∷ []) top_plan is
        (λ types line.
        subst (λ (d : Option v.Value). does (evaluate (value_view types e)) ∷ tested (for_with types line head d head.step a) ∷ [] ≡ top_plan
        (for_with types line head d head.step a))
        (sym some) refl)

    pub for_round-row : (head : ForHead) → ((a : code_stmt.Stmt) × Has (sn.For head a)) → head.step ≡ None
        → Planned r old new (λ types. at_top (stmt_view types x) ∷ []) → Planned r old new (λ types. round_plan (stmt_view types x))
    for_round-row head (a, is) none =
        for_by head a (λ types whole. at_top whole ∷ []) round_plan is
        (λ types line.
        subst (λ (d : Option v.Value). at_top (for_with types line head head.test d a) ∷ [] ≡ round_plan (for_with types line head head.test d a))
        (sym none) refl)

    pub for_step-row : (head : ForHead) (e : v.Value) → ((a : code_stmt.Stmt) × Has (sn.For head a)) → head.step ≡ Some e
        → Planned r old new (λ types. does (evaluate (value_view types e)) ∷ does forget ∷ at_top (stmt_view types x) ∷ []) → Planned r old new
        (λ types. round_plan (stmt_view types x))
    for_step-row head e (a, is) some =
        for_by head a (λ types whole. does (evaluate (value_view types e)) ∷ does forget ∷ at_top whole ∷ []) round_plan is
        (λ types line.
        subst (λ (d : Option v.Value). does (evaluate (value_view types e)) ∷ does forget ∷ at_top (for_with types line head head.test d a) ∷ [] ≡ round_plan
        (for_with types line head head.test d a))
        (sym some) refl)

    -- the body of a loop whose test is not 0
    pub body-row : (n : ℕ) (a : code_stmt.Stmt) → (n == 0) ≡ false
        → ((e : v.Value) × Has (sn.While e a)) ⊎ (((head : ForHead) × Has (sn.For head a)) ⊎ ((e : v.Value) × Has (sn.Do a e)))
        → Planned r old new (λ types. execute (stmt_view types a) ∷ after_body (stmt_view types x) ∷ []) → Planned r old new
        (λ types. tested_plan (stmt_view types x) n)
    body-row n a more (inl (e, is)) =
        by (sn.While e a) (λ types line. tree.while line (value_view types e) (stmt_view types a))
        (λ types whole. execute (stmt_view types a) ∷ after_body whole ∷ [])
        (λ whole. tested_plan whole n) is (λ types. view.view_while types e a) (λ types line. second_of n _ _ more)
    body-row n a more (inr (inl (head, is))) =
        for_by head a (λ types whole. execute (stmt_view types a) ∷ after_body whole ∷ []) (λ whole. tested_plan whole n) is
        (λ types line. second_of n _ _ more)
    body-row n a more (inr (inr (e, is))) =
        by (sn.Do a e) (λ types line. tree.do_while line (stmt_view types a) (value_view types e))
        (λ types whole. execute (stmt_view types a) ∷ after_body whole ∷ [])
        (λ whole. tested_plan whole n) is (λ types. view.view_do types a e) (λ types line. second_of n _ _ more)

    -- ---- the branches of an `if`

    pub first_branch-row : (n : ℕ) (a : code_stmt.Stmt) (second : Option code_stmt.Stmt) → (n == 0) ≡ false → ((e : v.Value) × Has (sn.If e a second))
        → Planned r old new (λ types. execute (stmt_view types a) ∷ []) → Planned r old new (λ types. choice_plan (stmt_view types x) n)
    first_branch-row n a None more (e, is) =
        by (sn.If e a None) (λ types line. tree.if_only line (value_view types e) (stmt_view types a)) (λ types whole. execute (stmt_view types a) ∷ [])
        (λ whole. choice_plan whole n) is (λ types. view.view_if_only types e a) (λ types line. second_of n _ _ more)
    first_branch-row n a (Some b) more (e, is) =
        by (sn.If e a (Some b)) (λ types line. tree.if_else line (value_view types e) (stmt_view types a) (stmt_view types b))
        (λ types whole. execute (stmt_view types a) ∷ [])
        (λ whole. choice_plan whole n) is (λ types. view.view_if_else types e a b) (λ types line. second_of n _ _ more)

    pub second_branch-row : (n : ℕ) (a b : code_stmt.Stmt) → (n == 0) ≡ true → ((e : v.Value) × Has (sn.If e a (Some b)))
        → Planned r old new (λ types. execute (stmt_view types b) ∷ []) → Planned r old new (λ types. choice_plan (stmt_view types x) n)
    second_branch-row n a b none (e, is) =
        by (sn.If e a (Some b)) (λ types line. tree.if_else line (value_view types e) (stmt_view types a) (stmt_view types b))
        (λ types whole. execute (stmt_view types b) ∷ [])
        (λ whole. choice_plan whole n) is (λ types. view.view_if_else types e a b) (λ types line. first_of n _ _ none)

  -- ---- nothing is done

  pub no_branch-row : (old : Tasks) (n : ℕ) (a : code_stmt.Stmt) → (n == 0) ≡ true → ((e : v.Value) × Has (sn.If e a None)) → Puts old old
      (λ types. choice_plan (stmt_view types x) n)
  no_branch-row old n a none (e, is) types =
      by_nothing old types (sn.If e a None) (λ line. tree.if_only line (value_view types e) (stmt_view types a)) (λ whole. choice_plan whole n) is
      (view.view_if_only types e a) (λ line. first_of n _ _ none)

  pub no_if-row : (old : Tasks) (n : ℕ) → ((e : v.Value) × (a : code_stmt.Stmt) × Has (sn.While e a)) ⊎
      (((a : code_stmt.Stmt) × (e : v.Value) × Has (sn.Do a e))
      ⊎ ((head : ForHead) × (a : code_stmt.Stmt) × Has (sn.For head a))) → Puts old old (λ types. choice_plan (stmt_view types x) n)
  no_if-row old n (inl (e, a, is)) types =
      by_nothing old types (sn.While e a) (λ line. tree.while line (value_view types e) (stmt_view types a)) (λ whole. choice_plan whole n) is
      (view.view_while types e a) (λ line. refl)
  no_if-row old n (inr (inl (a, e, is))) types =
      by_nothing old types (sn.Do a e) (λ line. tree.do_while line (stmt_view types a) (value_view types e)) (λ whole. choice_plan whole n) is
      (view.view_do types a e) (λ line. refl)
  no_if-row old n (inr (inr (head, a, is))) types =
      by_nothing old types (sn.For head a) (λ line. for_of types line head a) (λ whole. choice_plan whole n) is (view.view_for types head a) (λ line. refl)

  module _ (old : Tasks) (other : Stmt → List Task) (still : (a : Stmt) → IsPlain a → [] ≡ other a) where
    block-row-still : (types : Types) (b : code_block.Block) → Has (sn.Block b)
        → tasks_view types (pending old) ≡ other (stmt_view types x) ++ tasks_view types (pending old)
    block-row-still types b is =
        by_nothing old types (sn.Block b) (λ line. tree.block (block_view types b).line (block_view types b).items (block_view types b).end) other is
        (view.view_block types b)
        (λ line. still (tree.block (block_view types b).line (block_view types b).items (block_view types b).end) tt)

    pub plain-row : ((b : code_block.Block) × Has (sn.Block b)) ⊎ ((Has sn.Empty) ⊎ ((e : v.Value) × Has (sn.Value e))) → Puts old old
        (λ types. other (stmt_view types x))
    plain-row (inl (b, is)) types = block-row-still types b is
    plain-row (inr (inl is)) types = by_nothing old types sn.Empty tree.empty other is (view.view_empty types) (λ line. still (tree.empty line) tt)
    plain-row (inr (inr (e, is))) types =
        by_nothing old types (sn.Value e) (λ line. tree.expression line (value_view types e)) other is (view.view_value types e)
        (λ line. still (tree.expression line (value_view types e)) tt)

    pub jump-row : (Has sn.Continue) ⊎ ((Has sn.Break) ⊎ ((e : Option v.Value) × Has (sn.Return e))) → Puts old old (λ types. other (stmt_view types x))
    jump-row (inl is) types = by_nothing old types sn.Continue tree.continue other is (view.view_continue types) (λ line. still (tree.continue line) tt)
    jump-row (inr (inl is)) types = by_nothing old types sn.Break tree.break other is (view.view_break types) (λ line. still (tree.break line) tt)
    jump-row (inr (inr (e, is))) types =
        by_nothing old types (sn.Return e) (λ line. tree.return line (option_map (value_view types) e)) other is (view.view_return types e)
        (λ line. still (tree.return line (option_map (value_view types) e)) tt)

    module _ (only : (line : ℕ) (e : Value) (a : Stmt) → [] ≡ other (tree.if_only line e a))
        (both : (line : ℕ) (e : Value) (a b : Stmt) → [] ≡ other (tree.if_else line e a b)) where
      still_if : (types : Types) (e : v.Value) (a : code_stmt.Stmt) (second : Option code_stmt.Stmt) → Has (sn.If e a second)
          → tasks_view types (pending old) ≡ other (stmt_view types x) ++ tasks_view types (pending old)
      still_if types e a None is =
          by_nothing old types (sn.If e a None) (λ line. tree.if_only line (value_view types e) (stmt_view types a)) other is (view.view_if_only types e a)
          (λ line. only line (value_view types e) (stmt_view types a))
      still_if types e a (Some b) is =
          by_nothing old types (sn.If e a (Some b)) (λ line. tree.if_else line (value_view types e) (stmt_view types a) (stmt_view types b)) other is
          (view.view_if_else types e a b) (λ line. both line (value_view types e) (stmt_view types a) (stmt_view types b))

      pub plain_or_if-row : ((b : code_block.Block) × Has (sn.Block b)) ⊎ ((Has sn.Empty) ⊎ (((e : v.Value) × Has (sn.Value e))
          ⊎ ((e : v.Value) × (a : code_stmt.Stmt) × (second : Option code_stmt.Stmt) × Has (sn.If e a second)))) → Puts old old
          (λ types. other (stmt_view types x))
      plain_or_if-row (inl h) types = plain-row (inl h) types
      plain_or_if-row (inr (inl h)) types = plain-row (inr (inl h)) types
      plain_or_if-row (inr (inr (inl h))) types = plain-row (inr (inr h)) types
      plain_or_if-row (inr (inr (inr (e, a, second, is)))) types = still_if types e a second is

      pub if_or_jump-row : ((e : v.Value) × (a : code_stmt.Stmt) × (second : Option code_stmt.Stmt) × Has (sn.If e a second))
          ⊎ ((Has sn.Continue) ⊎ ((Has sn.Break) ⊎ ((e : Option v.Value) × Has (sn.Return e)))) → Puts old old (λ types. other (stmt_view types x))
      if_or_jump-row (inl (e, a, second, is)) types = still_if types e a second is
      if_or_jump-row (inr h) types = jump-row h types

-- a plan before another that was put there before it
pub planned_after : {T E : Type 0} (r : Result T E) (old mid new : Tasks) (plan more : Types → List Task) → Puts old mid plan → Planned r mid new more
    → Planned r old new (λ types. more types ++ plan types)
planned_after r old mid new plan more before =
    on_ok_weaker r (λ h types. h types ∙ ap (λ ts. more types ++ ts) (before types) ∙ sym
    (append_assoc (more types) (plan types) (tasks_view types (pending old))))

-- where a step cannot fail
abbrev pub done : Result (Unit {0}) (Unit {0})
done = Ok tt

-- ---- the items of a block

module _ (items : List code_block_item.BlockItem) (first : code_block_item.BlockItem) (rest : List code_block_item.BlockItem)
    (parts : items ≡ first ∷ rest) where
  module _ {T E : Type 0} (r : Result T E) (old new : Tasks) where
    pub declaration-row : (locals : List LocalItem) → first ≡ bi.Declaration locals
        → Planned r old new (λ types. does (initialize_all (map (local_item_view types) locals)) ∷ execute_items (items_view types rest) ∷ [])
        → Planned r old new (λ types. items_plan (items_view types items))
    declaration-row locals is =
        replanned r old new (λ types. does (initialize_all (map (local_item_view types) locals)) ∷ execute_items (items_view types rest) ∷ [])
        (λ types. items_plan (items_view types items))
        (λ types. sym (ap (λ xs. items_plan (items_view types xs)) (parts ∙ ap (λ k. k ∷ rest) is) ∙ ap items_plan
        (view.view_declaration types locals (items_view types rest))))

    pub statement-row : (a : code_stmt.Stmt) → first ≡ bi.Statement a
        → Planned r old new (λ types. execute (stmt_view types a) ∷ execute_items (items_view types rest) ∷ [])
        → Planned r old new (λ types. items_plan (items_view types items))
    statement-row a is =
        replanned r old new (λ types. execute (stmt_view types a) ∷ execute_items (items_view types rest) ∷ []) (λ types. items_plan (items_view types items))
        (λ types. sym (ap (λ xs. items_plan (items_view types xs)) (parts ∙ ap (λ k. k ∷ rest) is) ∙ ap items_plan
        (view.view_statement types a (items_view types rest))))
