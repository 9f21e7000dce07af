-- What the code puts in the place of a value or a place is its plan, a row of the code's matches at a time.
use Rattle.std.proofs.Common.{◌≡◌, ℕ, Bool as Test, List, [], ◌∷◌, ◌++◌, Result, OnOk, refl, sym, ◌∙◌, ap, subst, ◌⊎◌, inl, inr}
use Rattle.std.proofs.lemmas.Result.{on_ok_weaker}
use Rattle.srmt_base.specs.declared.op.Op.{Op}
use Rattle.c_types.specs.declared.type_ref.TypeRef.{TypeRef}
use Rattle.c_types.specs.Types.{CType}
use Rattle.c_typed.specs.declared.value.IntegerChange.{IntegerChange}
use Rattle.c_typed.specs.declared.value.PointerChange.{PointerChange}
use Rattle.c_typed.specs.declared.value.Value as v
use Rattle.c_typed.specs.declared.value.Place as p
use Rattle.c_typed.specs.declared.value.PlaceNode as code_place_node
use Rattle.c_typed.specs.declared.value.PlaceNode.TheVariants as pn
use Rattle.c_typed.specs.declared.value.ValueNode as code_node
use Rattle.c_typed.specs.declared.value.ValueNode.TheVariants as vn
use Rattle.c_typed.specs.Typed as tree
use Rattle.c_typed.specs.Typed.{Place, place, PlaceNode, Value, value, ValueNode}
use Rattle.c_typed.specs.Views.{value_view, place_view, value_node_view, place_node_view, qualified_from}
use Rattle.c_typed.proofs.ViewLaws as view
use Rattle.c_meaning.specs.declared.stack.Tasks.{Tasks}
use Rattle.c_meaning.specs.declared.task.Task.{Task as CodeTask}
use Rattle.c_meaning.specs.Pending.{Task, does, evaluate, evaluate_all, evaluate_dropped, locate, point, hold, hold_above, decide, finish}
use Rattle.c_meaning.specs.Plans.{value_plan, place_plan}
use Rattle.c_meaning.specs.Puts.{Puts}
use Rattle.c_meaning.specs.Stack.{pending}
use Rattle.c_meaning.specs.TaskViews.{task_view, tasks_view, values_view}

abbrev pub Types : Type 0
Types = TypeRef → CType

module _ {T E : Type 0} (r : Result T E) (old new : Tasks) where
  abbrev pub Planned : (Types → List Task) → Type 0
  Planned plan = OnOk r (Puts old new plan)

  -- the same plan in other words
  pub replanned : (plan other : Types → List Task) → ((types : Types) → plan types ≡ other types) → Planned plan → Planned other
  replanned plan other same = on_ok_weaker r (λ h types. h types ∙ ap (λ ts. ts ++ tasks_view types (pending old)) (same types))

  pub pushed : (t : CodeTask) → OnOk r (pending new ≡ t ∷ pending old) → Planned (λ types. task_view types t ∷ [])
  pushed t = on_ok_weaker r (λ h types. ap (tasks_view types) h)

  -- a task after others that were put there before
  pub pushed_after : (mid : Tasks) (plan : Types → List Task) (t : CodeTask) → Puts old mid plan → OnOk r (pending new ≡ t ∷ pending mid)
      → Planned (λ types. task_view types t ∷ plan types)
  pushed_after mid plan t before = on_ok_weaker r (λ h types. ap (tasks_view types) h ∙ ap (λ ts. task_view types t ∷ ts) (before types))

pub pushed_first : (old new : Tasks) (t : CodeTask) → pending new ≡ t ∷ pending old → Puts old new (λ types. task_view types t ∷ [])
pushed_first old new t h types = ap (tasks_view types) h

pub pushed_next : (old mid new : Tasks) (plan : Types → List Task) (t : CodeTask) → Puts old mid plan → pending new ≡ t ∷ pending mid
    → Puts old new (λ types. task_view types t ∷ plan types)
pushed_next old mid new plan t before h types = ap (tasks_view types) h ∙ ap (λ ts. task_view types t ∷ ts) (before types)

-- a value whose node is known
by_node : (types : Types) (x : v.Value) (n : code_node.ValueNode) (m : ValueNode) (plan : Value → List Task) → x.node ≡ n → value_node_view types n ≡ m
    → plan (value x.line (types x.ty) m) ≡ value_plan (value x.line (types x.ty) m) → plan (value_view types x) ≡ value_plan (value_view types x)
by_node types x n m plan is views same =
    subst (λ e. plan e ≡ value_plan e)
    (sym (view.view_value types x ∙ ap (λ k. value x.line (types x.ty) (value_node_view types k)) is ∙ ap (value x.line (types x.ty)) views)) same

module _ (x : v.Value) where
  abbrev Has : code_node.ValueNode → Type 0
  Has n = x.node ≡ n

  nothing : (old : Tasks) (types : Types) → [] ≡ value_plan (value_view types x) → tasks_view types (pending old) ≡ value_plan
      (value_view types x) ++ tasks_view types (pending old)
  nothing old types h = ap (λ ts. ts ++ tasks_view types (pending old)) h

  pub constant-row : (old : Tasks) → ((n : ℕ) × Has (vn.Constant n)) ⊎ ((Has vn.Null) ⊎ ((n : ℕ) × Has (vn.Function n)))
      → Puts old old (λ types. value_plan (value_view types x))
  constant-row old (inl (n, is)) types = nothing old types (by_node types x (vn.Constant n) (tree.constant n) (λ e. []) is (view.view_constant types n) refl)
  constant-row old (inr (inl is)) types = nothing old types (by_node types x vn.Null tree.null (λ e. []) is (view.view_null types) refl)
  constant-row old (inr (inr (n, is))) types = nothing old types
      (by_node types x (vn.Function n) (tree.function n) (λ e. []) is (view.view_function types n) refl)

  module _ {T E : Type 0} (r : Result T E) (old new : Tasks) where
    abbrev IsPlanned : Type 0
    IsPlanned = Planned r old new (λ types. value_plan (value_view types x))

    by : (n : code_node.ValueNode) (m : Types → ValueNode) (plan : Types → Value → List Task) → Has n → ((types : Types) → value_node_view types n ≡ m types)
        → ((types : Types) (line : ℕ) (t : CType) → plan types (value line t (m types)) ≡ value_plan (value line t (m types)))
        → Planned r old new (λ types. plan types (value_view types x)) → IsPlanned
    by n m plan is views same =
        replanned r old new (λ types. plan types (value_view types x)) (λ types. value_plan (value_view types x))
        (λ types. by_node types x n (m types) (plan types) is (views types) (same types x.line (types x.ty)))

    pub read-row : (q : p.Place) → Has (vn.Read q)
        → Planned r old new (λ types. does (locate (place_view types q)) ∷ does (hold (place_view types q)) ∷ []) → IsPlanned
    read-row q is =
        by (vn.Read q) (λ types. tree.read (place_view types q))
        (λ types whole. does (locate (place_view types q)) ∷ does (hold (place_view types q)) ∷ []) is (λ types. view.view_read types q)
        (λ types line t. refl)

    pub address-row : (q : p.Place) → (Has (vn.FirstElement q)) ⊎ (Has (vn.Address q))
        → Planned r old new (λ types. does (locate (place_view types q)) ∷ []) → IsPlanned
    address-row q (inl is) =
        by (vn.FirstElement q) (λ types. tree.first_element (place_view types q)) (λ types whole. does (locate (place_view types q)) ∷ []) is
        (λ types. view.view_first_element types q) (λ types line t. refl)
    address-row q (inr is) =
        by (vn.Address q) (λ types. tree.address (place_view types q)) (λ types whole. does (locate (place_view types q)) ∷ []) is
        (λ types. view.view_address types q) (λ types line t. refl)

    pub one-row : (e : v.Value) → (Has (vn.Minus e)) ⊎
        ((Has (vn.Complement e)) ⊎ ((Has (vn.Negation e)) ⊎
        (((first : ℕ) × Has (vn.Conversion first e)) ⊎
        (((first : ℕ) × Has (vn.ToBool first e)) ⊎ (((at : ℕ) × Has (vn.Putchar at e)) ⊎ ((at : ℕ) × Has (vn.Exit at e)))))))
        → Planned r old new (λ types. does (evaluate (value_view types e)) ∷ does (finish (value_view types x)) ∷ []) → IsPlanned
    one-row e (inl is) =
        by (vn.Minus e) (λ types. tree.minus (value_view types e)) (λ types whole. does (evaluate (value_view types e)) ∷ does (finish whole) ∷ []) is
        (λ types. view.view_minus types e) (λ types line t. refl)
    one-row e (inr (inl is)) =
        by (vn.Complement e) (λ types. tree.complement (value_view types e))
        (λ types whole. does (evaluate (value_view types e)) ∷ does (finish whole) ∷ []) is (λ types. view.view_complement types e) (λ types line t. refl)
    one-row e (inr (inr (inl is))) =
        by (vn.Negation e) (λ types. tree.negation (value_view types e)) (λ types whole. does (evaluate (value_view types e)) ∷ does (finish whole) ∷ []) is
        (λ types. view.view_negation types e) (λ types line t. refl)
    one-row e (inr (inr (inr (inl (first, is))))) =
        by (vn.Conversion first e) (λ types. tree.conversion first (value_view types e))
        (λ types whole. does (evaluate (value_view types e)) ∷ does (finish whole) ∷ []) is (λ types. view.view_conversion types first e)
        (λ types line t. refl)
    one-row e (inr (inr (inr (inr (inl (first, is)))))) =
        by (vn.ToBool first e) (λ types. tree.to_bool first (value_view types e))
        (λ types whole. does (evaluate (value_view types e)) ∷ does (finish whole) ∷ []) is (λ types. view.view_to_bool types first e)
        (λ types line t. refl)
    one-row e (inr (inr (inr (inr (inr (inl (at, is))))))) =
        by (vn.Putchar at e) (λ types. tree.putchar at (value_view types e))
        (λ types whole. does (evaluate (value_view types e)) ∷ does (finish whole) ∷ []) is (λ types. view.view_putchar types at e) (λ types line t. refl)
    one-row e (inr (inr (inr (inr (inr (inr (at, is))))))) =
        by (vn.Exit at e) (λ types. tree.exit at (value_view types e)) (λ types whole. does (evaluate (value_view types e)) ∷ does (finish whole) ∷ []) is
        (λ types. view.view_exit types at e) (λ types line t. refl)

    pub two-row : (a : v.Value) (b : v.Value) → ((op : Op) × (at : ℕ) × Has (vn.Arithmetic op at a b)) ⊎
        (((at : ℕ) × (is_less : Test) × (first : Test) × Has (vn.Sum at is_less first a b)) ⊎
        (((at : ℕ) × Has (vn.Difference at a b)) ⊎ ((op : Op) × (at : ℕ) × Has (vn.Comparison op at a b))))
        → Planned r old new (λ types. does (evaluate (value_view types a)) ∷ does (evaluate (value_view types b)) ∷ does (finish (value_view types x)) ∷ [])
        → IsPlanned
    two-row a b (inl (op, at, is)) =
        by (vn.Arithmetic op at a b) (λ types. tree.arithmetic op at (value_view types a) (value_view types b))
        (λ types whole. does (evaluate (value_view types a)) ∷ does (evaluate (value_view types b)) ∷ does (finish whole) ∷ []) is
        (λ types. view.view_arithmetic types op at a b) (λ types line t. refl)
    two-row a b (inr (inl (at, is_less, first, is))) =
        by (vn.Sum at is_less first a b) (λ types. tree.sum at is_less first (value_view types a) (value_view types b))
        (λ types whole. does (evaluate (value_view types a)) ∷ does (evaluate (value_view types b)) ∷ does (finish whole) ∷ []) is
        (λ types. view.view_sum types at is_less first a b) (λ types line t. refl)
    two-row a b (inr (inr (inl (at, is)))) =
        by (vn.Difference at a b) (λ types. tree.difference at (value_view types a) (value_view types b))
        (λ types whole. does (evaluate (value_view types a)) ∷ does (evaluate (value_view types b)) ∷ does (finish whole) ∷ []) is
        (λ types. view.view_difference types at a b) (λ types line t. refl)
    two-row a b (inr (inr (inr (op, at, is)))) =
        by (vn.Comparison op at a b) (λ types. tree.comparison op at (value_view types a) (value_view types b))
        (λ types whole. does (evaluate (value_view types a)) ∷ does (evaluate (value_view types b)) ∷ does (finish whole) ∷ []) is
        (λ types. view.view_comparison types op at a b) (λ types line t. refl)

    pub decided-row : (e : v.Value) → ((b : v.Value) × Has (vn.Conjunction e b)) ⊎
        (((b : v.Value) × Has (vn.Disjunction e b)) ⊎ ((a : v.Value) × (b : v.Value) × Has (vn.Choice e a b)))
        → Planned r old new (λ types. does (evaluate (value_view types e)) ∷ does (decide (value_view types x)) ∷ []) → IsPlanned
    decided-row e (inl (b, is)) =
        by (vn.Conjunction e b) (λ types. tree.conjunction (value_view types e) (value_view types b))
        (λ types whole. does (evaluate (value_view types e)) ∷ does (decide whole) ∷ []) is (λ types. view.view_conjunction types e b)
        (λ types line t. refl)
    decided-row e (inr (inl (b, is))) =
        by (vn.Disjunction e b) (λ types. tree.disjunction (value_view types e) (value_view types b))
        (λ types whole. does (evaluate (value_view types e)) ∷ does (decide whole) ∷ []) is (λ types. view.view_disjunction types e b)
        (λ types line t. refl)
    decided-row e (inr (inr (a, b, is))) =
        by (vn.Choice e a b) (λ types. tree.choice (value_view types e) (value_view types a) (value_view types b))
        (λ types whole. does (evaluate (value_view types e)) ∷ does (decide whole) ∷ []) is (λ types. view.view_choice types e a b) (λ types line t. refl)

    pub sequence-row : (es : List v.Value) (e : v.Value) → Has (vn.Sequence es e)
        → Planned r old new (λ types. does (evaluate_dropped (values_view types es)) ∷ does (evaluate (value_view types e)) ∷ []) → IsPlanned
    sequence-row es e is =
        by (vn.Sequence es e) (λ types. tree.sequence (values_view types es) (value_view types e))
        (λ types whole. does (evaluate_dropped (values_view types es)) ∷ does (evaluate (value_view types e)) ∷ []) is
        (λ types. view.view_sequence types es e) (λ types line t. refl)

    pub assignment-row : (q : p.Place) (e : v.Value) → Has (vn.Assignment q e)
        → Planned r old new (λ types. does (locate (place_view types q)) ∷ does (evaluate (value_view types e)) ∷ does (finish (value_view types x)) ∷ [])
        → IsPlanned
    assignment-row q e is =
        by (vn.Assignment q e) (λ types. tree.assignment (place_view types q) (value_view types e))
        (λ types whole. does (locate (place_view types q)) ∷ does (evaluate (value_view types e)) ∷ does (finish whole) ∷ []) is
        (λ types. view.view_assignment types q e) (λ types line t. refl)

    pub update-row : (c : IntegerChange) (q : p.Place) (e : v.Value) → Has (vn.Update c q e)
        → Planned r old new (λ types. does (locate (place_view types q)) ∷ does (hold_above (place_view types q)) ∷ does (evaluate (value_view types e))
        ∷ does (finish (value_view types x)) ∷ []) → IsPlanned
    update-row c q e is =
        by (vn.Update c q e) (λ types. tree.update c.is_after (place_view types q) c.first c.op c.at c.ty (value_view types e))
        (λ types whole. does (locate (place_view types q)) ∷ does (hold_above (place_view types q)) ∷ does (evaluate (value_view types e)) ∷ does
        (finish whole) ∷ []) is (λ types. view.view_update types c q e) (λ types line t. refl)

    pub move-row : (c : PointerChange) (q : p.Place) (e : v.Value) → Has (vn.Move c q e)
        → Planned r old new (λ types. does (locate (place_view types q)) ∷ does (hold_above (place_view types q)) ∷ does (evaluate (value_view types e))
        ∷ does (finish (value_view types x)) ∷ []) → IsPlanned
    move-row c q e is =
        by (vn.Move c q e) (λ types. tree.move c.is_after (place_view types q) c.is_less c.at (value_view types e))
        (λ types whole. does (locate (place_view types q)) ∷ does (hold_above (place_view types q)) ∷ does (evaluate (value_view types e)) ∷ does
        (finish whole) ∷ []) is (λ types. view.view_move types c q e) (λ types line t. refl)

    pub same-row : (e : v.Value) → (Has (vn.Requalified e)) ⊎ (Has (vn.Discarded e))
        → Planned r old new (λ types. does (evaluate (value_view types e)) ∷ []) → IsPlanned
    same-row e (inl is) =
        by (vn.Requalified e) (λ types. tree.requalified (value_view types e)) (λ types whole. does (evaluate (value_view types e)) ∷ []) is
        (λ types. view.view_requalified types e) (λ types line t. refl)
    same-row e (inr is) =
        by (vn.Discarded e) (λ types. tree.discarded (value_view types e)) (λ types whole. does (evaluate (value_view types e)) ∷ []) is
        (λ types. view.view_discarded types e) (λ types line t. refl)

    pub call-row : (at : ℕ) (n : ℕ) (es : List v.Value) → Has (vn.Call at n es)
        → Planned r old new (λ types. does (evaluate_all (values_view types es)) ∷ does (finish (value_view types x)) ∷ []) → IsPlanned
    call-row at n es is =
        by (vn.Call at n es) (λ types. tree.call at n (values_view types es))
        (λ types whole. does (evaluate_all (values_view types es)) ∷ does (finish whole) ∷ []) is (λ types. view.view_call types at n es)
        (λ types line t. refl)

    pub call_through-row : (at : ℕ) (e : v.Value) (es : List v.Value) → Has (vn.CallThrough at e es)
        → Planned r old new (λ types. does (evaluate (value_view types e)) ∷ does (evaluate_all (values_view types es)) ∷ does (finish (value_view types x))
        ∷ []) → IsPlanned
    call_through-row at e es is =
        by (vn.CallThrough at e es) (λ types. tree.call_through at (value_view types e) (values_view types es))
        (λ types whole. does (evaluate (value_view types e)) ∷ does (evaluate_all (values_view types es)) ∷ does (finish whole) ∷ []) is
        (λ types. view.view_call_through types at e es) (λ types line t. refl)

    pub getchar-row : (at : ℕ) → Has (vn.Getchar at)
        → Planned r old new (λ types. does (finish (value_view types x)) ∷ []) → IsPlanned
    getchar-row at is =
        by (vn.Getchar at) (λ types. tree.getchar at) (λ types whole. does (finish whole) ∷ []) is (λ types. view.view_getchar types at) (λ types line t. refl)

-- a place whose node is known
by_place_node : (types : Types) (x : p.Place) (n : code_place_node.PlaceNode) (m : PlaceNode) (plan : Place → List Task) → x.node ≡ n
    → place_node_view types n ≡ m
    → plan (place x.line (qualified_from types x.ty) m) ≡ place_plan (place x.line (qualified_from types x.ty) m)
    → plan (place_view types x) ≡ place_plan (place_view types x)
by_place_node types x n m plan is views same =
    subst (λ q. plan q ≡ place_plan q)
    (sym (view.view_place types x ∙ ap (λ k. place x.line (qualified_from types x.ty) (place_node_view types k)) is
    ∙ ap (place x.line (qualified_from types x.ty)) views)) same

module _ (x : p.Place) where
  abbrev IsAt : code_place_node.PlaceNode → Type 0
  IsAt n = x.node ≡ n

  no_work : (old : Tasks) (types : Types) → [] ≡ place_plan (place_view types x) → tasks_view types (pending old) ≡ place_plan
      (place_view types x) ++ tasks_view types (pending old)
  no_work old types h = ap (λ ts. ts ++ tasks_view types (pending old)) h

  pub local-row : (old : Tasks) → ((n : ℕ) × IsAt (pn.Local n)) ⊎ (((n : ℕ) × IsAt (pn.Static n)) ⊎ ((n : ℕ) × IsAt (pn.Text n)))
      → Puts old old (λ types. place_plan (place_view types x))
  local-row old (inl (n, is)) types = no_work old types (by_place_node types x (pn.Local n) (tree.local n) (λ q. []) is (view.view_local types n) refl)
  local-row old (inr (inl (n, is))) types = no_work old types (by_place_node types x (pn.Static n) (tree.static n) (λ q. []) is (view.view_static types n) refl)
  local-row old (inr (inr (n, is))) types = no_work old types (by_place_node types x (pn.Text n) (tree.text n) (λ q. []) is (view.view_text types n) refl)

  module _ {T E : Type 0} (r : Result T E) (old new : Tasks) where
    pub pointed-row : (e : v.Value) → IsAt (pn.Pointed e) → Planned r old new (λ types. does (evaluate (value_view types e)) ∷ [])
        → Planned r old new (λ types. place_plan (place_view types x))
    pointed-row e is =
        replanned r old new (λ types. does (evaluate (value_view types e)) ∷ []) (λ types. place_plan (place_view types x))
        (λ types. by_place_node types x (pn.Pointed e) (tree.pointed (value_view types e)) (λ q. does (evaluate (value_view types e)) ∷ []) is
        (view.view_pointed types e) refl)

    pub element-row : (at : ℕ) (first : Test) (a b : v.Value) → IsAt (pn.Element at first a b)
        → Planned r old new (λ types. does (evaluate (value_view types a)) ∷ does (evaluate (value_view types b)) ∷ does (point (place_view types x)) ∷ [])
        → Planned r old new (λ types. place_plan (place_view types x))
    element-row at first a b is =
        replanned r old new (λ types. does (evaluate (value_view types a)) ∷ does (evaluate (value_view types b)) ∷ does (point (place_view types x)) ∷ [])
        (λ types. place_plan (place_view types x))
        (λ types. by_place_node types x (pn.Element at first a b) (tree.element at first (value_view types a) (value_view types b))
        (λ q. does (evaluate (value_view types a)) ∷ does (evaluate (value_view types b)) ∷ does (point q) ∷ []) is (view.view_element types at first a b) refl)
