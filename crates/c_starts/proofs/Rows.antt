-- The nodes that are no constants, and those that are as they are as constants, a row of the code's matches at a time.
use Rattle.std.proofs.Common.{◌≡◌, ℕ, Bool as Test, List, map, refl, sym, ◌∙◌, ap, ◌⊎◌, inl, inr, Option, None}
use Rattle.srmt_base.specs.declared.op.Op.{Op}
use Rattle.c_types.specs.declared.type_ref.TypeRef.{TypeRef}
use Rattle.c_types.specs.Types.{CType}
use Rattle.c_typed.specs.declared.constant.Constant.{Constant}
use Rattle.c_typed.specs.declared.constant.Constant.TheVariants.{NoForm}
use Rattle.c_typed.specs.declared.program.Start.{Start}
use Rattle.c_typed.specs.declared.value.IntegerChange.{IntegerChange}
use Rattle.c_typed.specs.declared.value.PointerChange.{PointerChange}
use Rattle.c_typed.specs.declared.value.Value as v
use Rattle.c_typed.specs.declared.value.Place as p
use Rattle.c_typed.specs.declared.value.ValueNode as code_node
use Rattle.c_typed.specs.declared.value.ValueNode.TheVariants as vn
use Rattle.c_typed.specs.Typed as tree
use Rattle.c_typed.specs.Typed.{Value, ValueNode, value}
use Rattle.c_typed.specs.Views.{values_from, value_view, value_node_view, place_view}
use Rattle.c_typed.specs.Constants.{constant_of}
use Rattle.c_typed.specs.Starts.{start_of, place_start, number_if}
use Rattle.c_typed.proofs.ViewLaws as view
use Rattle.c_starts.proofs.ConstantLaws.{node-is}
use Rattle.c_starts.proofs.StartLaws.{number-law, first_element-law, address-law}

module _ (types : TypeRef → CType) (x : v.Value) where
  abbrev Has : code_node.ValueNode → Type 0
  Has n = x.node ≡ n

  -- ---- constants

  none : (n : code_node.ValueNode) (m : ValueNode) → Has n → value_node_view types n ≡ m → constant_of (value x.line (types x.ty) m) ≡ NoForm
      → NoForm ≡ constant_of (value_view types x)
  none n m is views same = sym (ap constant_of (node-is types x n m is views) ∙ same)

  pub null-row : (Has vn.Null) ⊎ (((q : p.Place) × Has (vn.Read q)) ⊎ ((q : p.Place) × Has (vn.FirstElement q))) → NoForm ≡ constant_of (value_view types x)
  unfolding constant_of
  null-row (inl is) = none vn.Null tree.null is (view.view_null types) refl
  null-row (inr (inl (q, is))) = none (vn.Read q) (tree.read (place_view types q)) is (view.view_read types q) refl
  null-row (inr (inr (q, is))) = none (vn.FirstElement q) (tree.first_element (place_view types q)) is (view.view_first_element types q) refl

  pub address-row : ((q : p.Place) × Has (vn.Address q)) ⊎ (((n : ℕ) × Has (vn.Function n))
      ⊎ ((at : ℕ) × (is_less : Test) × (first : Test) × (a : v.Value) × (b : v.Value) × Has (vn.Sum at is_less first a b))) → NoForm ≡ constant_of (value_view types x)
  unfolding constant_of
  address-row (inl (q, is)) = none (vn.Address q) (tree.address (place_view types q)) is (view.view_address types q) refl
  address-row (inr (inl (n, is))) = none (vn.Function n) (tree.function n) is (view.view_function types n) refl
  address-row (inr (inr (at, is_less, first, a, b, is))) =
      none (vn.Sum at is_less first a b) (tree.sum at is_less first (value_view types a) (value_view types b)) is (view.view_sum types at is_less first a b) refl

  pub difference-row : ((at : ℕ) × (a : v.Value) × (b : v.Value) × Has (vn.Difference at a b))
      ⊎ ((op : Op) × (at : ℕ) × (a : v.Value) × (b : v.Value) × Has (vn.Comparison op at a b)) → NoForm ≡ constant_of (value_view types x)
  unfolding constant_of
  difference-row (inl (at, a, b, is)) = none (vn.Difference at a b) (tree.difference at (value_view types a) (value_view types b)) is (view.view_difference types at a b) refl
  difference-row (inr (op, at, a, b, is)) =
      none (vn.Comparison op at a b) (tree.comparison op at (value_view types a) (value_view types b)) is (view.view_comparison types op at a b) refl

  pub sequence-row : ((es : List v.Value) × (e : v.Value) × Has (vn.Sequence es e)) ⊎ (((q : p.Place) × (e : v.Value) × Has (vn.Assignment q e))
      ⊎ ((c : IntegerChange) × (q : p.Place) × (e : v.Value) × Has (vn.Update c q e))) → NoForm ≡ constant_of (value_view types x)
  unfolding constant_of
  sequence-row (inl (es, e, is)) = none (vn.Sequence es e) (tree.sequence (values_from (map (value_view types) es)) (value_view types e)) is (view.view_sequence types es e) refl
  sequence-row (inr (inl (q, e, is))) = none (vn.Assignment q e) (tree.assignment (place_view types q) (value_view types e)) is (view.view_assignment types q e) refl
  sequence-row (inr (inr (c, q, e, is))) =
      none (vn.Update c q e) (tree.update c.is_after (place_view types q) c.first c.op c.at c.ty (value_view types e)) is (view.view_update types c q e) refl

  pub move-row : ((c : PointerChange) × (q : p.Place) × (e : v.Value) × Has (vn.Move c q e)) ⊎ (((first : ℕ) × (e : v.Value) × Has (vn.ToBool first e))
      ⊎ ((e : v.Value) × Has (vn.Requalified e))) → NoForm ≡ constant_of (value_view types x)
  unfolding constant_of
  move-row (inl (c, q, e, is)) = none (vn.Move c q e) (tree.move c.is_after (place_view types q) c.is_less c.at (value_view types e)) is (view.view_move types c q e) refl
  move-row (inr (inl (first, e, is))) = none (vn.ToBool first e) (tree.to_bool first (value_view types e)) is (view.view_to_bool types first e) refl
  move-row (inr (inr (e, is))) = none (vn.Requalified e) (tree.requalified (value_view types e)) is (view.view_requalified types e) refl

  pub discarded-row : ((e : v.Value) × Has (vn.Discarded e)) ⊎ (((at : ℕ) × (n : ℕ) × (es : List v.Value) × Has (vn.Call at n es))
      ⊎ ((at : ℕ) × (e : v.Value) × (es : List v.Value) × Has (vn.CallThrough at e es))) → NoForm ≡ constant_of (value_view types x)
  unfolding constant_of
  discarded-row (inl (e, is)) = none (vn.Discarded e) (tree.discarded (value_view types e)) is (view.view_discarded types e) refl
  discarded-row (inr (inl (at, n, es, is))) = none (vn.Call at n es) (tree.call at n (values_from (map (value_view types) es))) is (view.view_call types at n es) refl
  discarded-row (inr (inr (at, e, es, is))) =
      none (vn.CallThrough at e es) (tree.call_through at (value_view types e) (values_from (map (value_view types) es))) is (view.view_call_through types at e es) refl

  pub putchar-row : ((at : ℕ) × (e : v.Value) × Has (vn.Putchar at e)) ⊎ (((at : ℕ) × Has (vn.Getchar at)) ⊎ ((at : ℕ) × (e : v.Value) × Has (vn.Exit at e)))
      → NoForm ≡ constant_of (value_view types x)
  unfolding constant_of
  putchar-row (inl (at, e, is)) = none (vn.Putchar at e) (tree.putchar at (value_view types e)) is (view.view_putchar types at e) refl
  putchar-row (inr (inl (at, is))) = none (vn.Getchar at) (tree.getchar at) is (view.view_getchar types at) refl
  putchar-row (inr (inr (at, e, is))) = none (vn.Exit at e) (tree.exit at (value_view types e)) is (view.view_exit types at e) refl

  -- ---- what cells start with

  nothing : (n : code_node.ValueNode) (m : ValueNode) → Has n → value_node_view types n ≡ m → start_of (value x.line (types x.ty) m) ≡ None
      → None ≡ start_of (value_view types x)
  nothing n m is views same = sym (ap start_of (node-is types x n m is views) ∙ same)

  pub no-read-row : ((q : p.Place) × Has (vn.Read q)) ⊎ (((at : ℕ) × (a : v.Value) × (b : v.Value) × Has (vn.Difference at a b))
      ⊎ ((op : Op) × (at : ℕ) × (a : v.Value) × (b : v.Value) × Has (vn.Comparison op at a b))) → None ≡ start_of (value_view types x)
  unfolding start_of
  no-read-row (inl (q, is)) = nothing (vn.Read q) (tree.read (place_view types q)) is (view.view_read types q) refl
  no-read-row (inr (inl (at, a, b, is))) = nothing (vn.Difference at a b) (tree.difference at (value_view types a) (value_view types b)) is (view.view_difference types at a b) refl
  no-read-row (inr (inr (op, at, a, b, is))) =
      nothing (vn.Comparison op at a b) (tree.comparison op at (value_view types a) (value_view types b)) is (view.view_comparison types op at a b) refl

  pub no-sequence-row : ((es : List v.Value) × (e : v.Value) × Has (vn.Sequence es e)) ⊎ (((q : p.Place) × (e : v.Value) × Has (vn.Assignment q e))
      ⊎ ((c : IntegerChange) × (q : p.Place) × (e : v.Value) × Has (vn.Update c q e))) → None ≡ start_of (value_view types x)
  unfolding start_of
  no-sequence-row (inl (es, e, is)) = nothing (vn.Sequence es e) (tree.sequence (values_from (map (value_view types) es)) (value_view types e)) is (view.view_sequence types es e) refl
  no-sequence-row (inr (inl (q, e, is))) = nothing (vn.Assignment q e) (tree.assignment (place_view types q) (value_view types e)) is (view.view_assignment types q e) refl
  no-sequence-row (inr (inr (c, q, e, is))) =
      nothing (vn.Update c q e) (tree.update c.is_after (place_view types q) c.first c.op c.at c.ty (value_view types e)) is (view.view_update types c q e) refl

  pub no-move-row : ((c : PointerChange) × (q : p.Place) × (e : v.Value) × Has (vn.Move c q e)) ⊎ (((e : v.Value) × Has (vn.Discarded e))
      ⊎ ((at : ℕ) × (n : ℕ) × (es : List v.Value) × Has (vn.Call at n es))) → None ≡ start_of (value_view types x)
  unfolding start_of
  no-move-row (inl (c, q, e, is)) = nothing (vn.Move c q e) (tree.move c.is_after (place_view types q) c.is_less c.at (value_view types e)) is (view.view_move types c q e) refl
  no-move-row (inr (inl (e, is))) = nothing (vn.Discarded e) (tree.discarded (value_view types e)) is (view.view_discarded types e) refl
  no-move-row (inr (inr (at, n, es, is))) = nothing (vn.Call at n es) (tree.call at n (values_from (map (value_view types) es))) is (view.view_call types at n es) refl

  pub no-call-row : ((at : ℕ) × (e : v.Value) × (es : List v.Value) × Has (vn.CallThrough at e es)) ⊎ ((at : ℕ) × (e : v.Value) × Has (vn.Putchar at e))
      → None ≡ start_of (value_view types x)
  unfolding start_of
  no-call-row (inl (at, e, es, is)) =
      nothing (vn.CallThrough at e es) (tree.call_through at (value_view types e) (values_from (map (value_view types) es))) is (view.view_call_through types at e es) refl
  no-call-row (inr (at, e, is)) = nothing (vn.Putchar at e) (tree.putchar at (value_view types e)) is (view.view_putchar types at e) refl

  pub no-getchar-row : ((at : ℕ) × Has (vn.Getchar at)) ⊎ ((at : ℕ) × (e : v.Value) × Has (vn.Exit at e)) → None ≡ start_of (value_view types x)
  unfolding start_of
  no-getchar-row (inl (at, is)) = nothing (vn.Getchar at) (tree.getchar at) is (view.view_getchar types at) refl
  no-getchar-row (inr (at, e, is)) = nothing (vn.Exit at e) (tree.exit at (value_view types e)) is (view.view_exit types at e) refl

  module _ (c : Constant) (r : Option Start) (c-is : c ≡ constant_of (value_view types x)) (r-is : r ≡ number_if c) where
    pub constant-row : ((n : ℕ) × Has (vn.Constant n)) ⊎ (((e : v.Value) × Has (vn.Minus e)) ⊎ ((e : v.Value) × Has (vn.Complement e))) → r ≡ start_of (value_view types x)
    unfolding start_of
    constant-row (inl (n, is)) = number-law types x (vn.Constant n) (tree.constant n) c r is (view.view_constant types n) refl c-is r-is
    constant-row (inr (inl (e, is))) = number-law types x (vn.Minus e) (tree.minus (value_view types e)) c r is (view.view_minus types e) refl c-is r-is
    constant-row (inr (inr (e, is))) = number-law types x (vn.Complement e) (tree.complement (value_view types e)) c r is (view.view_complement types e) refl c-is r-is

    pub negation-row : ((e : v.Value) × Has (vn.Negation e)) ⊎ (((op : Op) × (at : ℕ) × (a : v.Value) × (b : v.Value) × Has (vn.Arithmetic op at a b))
        ⊎ ((a : v.Value) × (b : v.Value) × Has (vn.Conjunction a b))) → r ≡ start_of (value_view types x)
    unfolding start_of
    negation-row (inl (e, is)) = number-law types x (vn.Negation e) (tree.negation (value_view types e)) c r is (view.view_negation types e) refl c-is r-is
    negation-row (inr (inl (op, at, a, b, is))) =
        number-law types x (vn.Arithmetic op at a b) (tree.arithmetic op at (value_view types a) (value_view types b)) c r is (view.view_arithmetic types op at a b) refl c-is r-is
    negation-row (inr (inr (a, b, is))) =
        number-law types x (vn.Conjunction a b) (tree.conjunction (value_view types a) (value_view types b)) c r is (view.view_conjunction types a b) refl c-is r-is

    pub disjunction-row : ((a : v.Value) × (b : v.Value) × Has (vn.Disjunction a b)) ⊎ (((e : v.Value) × (a : v.Value) × (b : v.Value) × Has (vn.Choice e a b))
        ⊎ ((first : ℕ) × (e : v.Value) × Has (vn.Conversion first e))) → r ≡ start_of (value_view types x)
    unfolding start_of
    disjunction-row (inl (a, b, is)) =
        number-law types x (vn.Disjunction a b) (tree.disjunction (value_view types a) (value_view types b)) c r is (view.view_disjunction types a b) refl c-is r-is
    disjunction-row (inr (inl (e, a, b, is))) =
        number-law types x (vn.Choice e a b) (tree.choice (value_view types e) (value_view types a) (value_view types b)) c r is (view.view_choice types e a b) refl c-is r-is
    disjunction-row (inr (inr (first, e, is))) = number-law types x (vn.Conversion first e) (tree.conversion first (value_view types e)) c r is (view.view_conversion types first e) refl c-is r-is

  pub address-start-row : (q : p.Place) (s : Option Start) → s ≡ place_start (place_view types q) → (Has (vn.FirstElement q)) ⊎ (Has (vn.Address q)) → s ≡ start_of (value_view types x)
  address-start-row q s s-is (inl is) = first_element-law types x q s is s-is
  address-start-row q s s-is (inr is) = address-law types x q s is s-is
