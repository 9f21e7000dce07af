-- Places and values whose node is known: what is there without work, and what has operands.
use Rattle.std.proofs.Common.{◌≡◌, ◌∙◌, ℕ, ◌≤◌, Bool as Test, true, false, List, map, Option, Some, None, refl, sym, ap, subst, ◌⊎◌, inl, inr, slice_index}
use Rattle.srmt_base.specs.declared.op.Op.{Op}
use Rattle.c_types.specs.declared.type_ref.TypeRef.{TypeRef}
use Rattle.c_types.specs.Types.{CType, Qualified}
use Rattle.c_typed.specs.declared.value.IntegerChange.{IntegerChange}
use Rattle.c_typed.specs.declared.value.PointerChange.{PointerChange}
use Rattle.c_typed.specs.declared.value.Value as v
use Rattle.c_typed.specs.declared.value.Place as p
use Rattle.c_typed.specs.declared.value.PlaceNode as code_place_node
use Rattle.c_typed.specs.declared.value.PlaceNode.TheVariants as pn
use Rattle.c_typed.specs.declared.value.ValueNode as code_node
use Rattle.c_typed.specs.declared.value.ValueNode.TheVariants as vn
use Rattle.c_typed.specs.Typed as tree
use Rattle.c_typed.specs.Typed.{Place, place, PlaceNode, local, static, text, pointed, element, Value, value, ValueNode, read}
use Rattle.c_typed.specs.Views.{values_from, qualified_from, value_view, value_node_view, place_view, place_node_view}
use Rattle.c_typed.proofs.ViewLaws as view
use Rattle.source_meaning.specs.World.{World, Gives}
use Rattle.source_meaning.specs.Places.{Setting, cell, row_of, value_of_entity, address_of_text, address_in}
use Rattle.source_meaning.specs.Expressions.{location_of, value_of}
use Rattle.source_meaning.specs.Sound.{PlaceHasOperands}
use Rattle.c_meaning.specs.declared.access.Location.{Location as CodeLocation}
use Rattle.c_meaning.specs.declared.access.Location.TheVariants as location
use Rattle.c_meaning.specs.declared.setting.At.{At}
use Rattle.c_meaning.specs.declared.store.Stored.{Stored}
use Rattle.c_meaning.specs.Leaves.{HasPlan, IsAddress, IsRegister, IsLeaf}
use Rattle.c_meaning.specs.Pending.{located}
use Rattle.c_meaning.specs.Plans.{address_of_local}
use Rattle.c_meaning.specs.Runs.{setting_of, world_of, location_view}

-- ---- places

-- a place that is a local, and one that is none, where a cell is
pub local_found : (s : Setting) (line n a : ℕ) (t : Qualified) (w : World) → a ≡ address_of_local s n w.locals
    → (location_of s (place line t (local n)) w ≡ Gives (located s (place line t (local n)) a) w) × (address_in (located s (place line t (local n)) a) ≡ a)
unfolding location_of
local_found s line n a t w is = by_row (row_of s n).is_placed refl
  where
    by_row : (b : Test) → (row_of s n).is_placed ≡ b
        → (location_of s (place line t (local n)) w ≡ Gives (located s (place line t (local n)) a) w) × (address_in (located s (place line t (local n)) a) ≡ a)
    by_row true e = let at : a ≡ slice_index w.locals n = rw e at is in rw e (rw (← at) refl, refl)
    by_row false e = let at : a ≡ 0 = rw e at is in rw e (refl, sym at)

module _ (types : TypeRef → CType) (x : p.Place) where
  pub node_place : (n : code_place_node.PlaceNode) (m : PlaceNode) → x.node ≡ n → place_node_view types n ≡ m
      → place_view types x ≡ place x.line (qualified_from types x.ty) m
  node_place n m is views =
      view.view_place types x ∙ ap (λ (k : PlaceNode). place x.line (qualified_from types x.ty) k) (ap (place_node_view types) is ∙ views)

  pub text_few : (n : ℕ) → x.node ≡ pn.Text n → PlaceHasOperands (place_view types x) → n ≤ 1048576
  unfolding PlaceHasOperands
  text_few n is h = subst PlaceHasOperands (node_place (pn.Text n) (text n) is (view.view_text types n)) h

  -- a place in a cell of memory
  abbrev pub IsNoLocal : Type 0
  IsNoLocal = ((n : ℕ) × (x.node ≡ pn.Static n)) ⊎ (((n : ℕ) × (x.node ≡ pn.Text n)) ⊎ ((e : v.Value) × (x.node ≡ pn.Pointed e)))

  cell_found : (s : Setting) (line a : ℕ) (r : CodeLocation) (n : code_place_node.PlaceNode) (m : PlaceNode) → x.node ≡ n → place_node_view types n ≡ m
      → located s (place x.line (qualified_from types x.ty) m) a ≡ cell x.ty.qualifiers.is_volatile line a
      → r ≡ location.Cell x.ty.qualifiers.is_volatile line a
      → location_view r ≡ located s (place_view types x) a
  cell_found s line a r n m is views same made =
      ap location_view made ∙ sym (ap (λ (q : Place). located s q a) (node_place n m is views) ∙ same)

  pub other_found : (s : Setting) (a : ℕ) (r : CodeLocation) → IsNoLocal → r ≡ location.Cell x.ty.qualifiers.is_volatile x.line a
      → location_view r ≡ located s (place_view types x) a
  other_found s a r (inl (n, is)) made = cell_found s x.line a r (pn.Static n) (static n) is (view.view_static types n) refl made
  other_found s a r (inr (inl (n, is))) made = cell_found s x.line a r (pn.Text n) (text n) is (view.view_text types n) refl made
  other_found s a r (inr (inr (e, is))) made =
      cell_found s x.line a r (pn.Pointed e) (pointed (value_view types e)) is (view.view_pointed types e) refl made

  pub element_found : (s : Setting) (at a : ℕ) (first : Test) (e f : v.Value) (r : CodeLocation) → x.node ≡ pn.Element at first e f
      → r ≡ location.Cell x.ty.qualifiers.is_volatile at a → location_view r ≡ located s (place_view types x) a
  element_found s at a first e f r is made =
      cell_found s at a r (pn.Element at first e f) (element at first (value_view types e) (value_view types f)) is (view.view_element types at first e f)
      refl made

  pub local_located : (s : Setting) (n a : ℕ) → x.node ≡ pn.Local n
      → located s (place x.line (qualified_from types x.ty) (local n)) a ≡ located s (place_view types x) a
  local_located s n a is = sym (ap (λ (q : Place). located s q a) (node_place (pn.Local n) (local n) is (view.view_local types n)))

  -- ---- the address of a place

  module _ (at : At) (w : Stored) where
    pub local_address : (n a : ℕ) → x.node ≡ pn.Local n → ((bound : ℕ) → a ≡ address_of_local (setting_of bound at) n w.locals)
        → IsAddress at w (place_view types x) (Some a)
    local_address n a is known =
        subst (λ q. IsAddress at w q (Some a)) (sym (node_place (pn.Local n) (local n) is (view.view_local types n)))
        (λ bound es. local_found (setting_of bound at) x.line n a (qualified_from types x.ty) (world_of w es) (known bound))

    pub static_address : (n a : ℕ) → x.node ≡ pn.Static n → ((bound : ℕ) → a ≡ value_of_entity (setting_of bound at).program n)
        → IsAddress at w (place_view types x) (Some a)
    unfolding location_of
    static_address n a is known =
        subst (λ q. IsAddress at w q (Some a)) (sym (node_place (pn.Static n) (static n) is (view.view_static types n)))
        (λ bound es. (ap (λ (b : ℕ). Gives (cell x.ty.qualifiers.is_volatile x.line b) (world_of w es)) (sym (known bound)), refl))

    pub text_address : (n a : ℕ) → x.node ≡ pn.Text n → ((bound : ℕ) → a ≡ address_of_text (setting_of bound at).part (setting_of bound at).program n)
        → IsAddress at w (place_view types x) (Some a)
    unfolding location_of
    text_address n a is known =
        subst (λ q. IsAddress at w q (Some a)) (sym (node_place (pn.Text n) (text n) is (view.view_text types n)))
        (λ bound es. (ap (λ (b : ℕ). Gives (cell x.ty.qualifiers.is_volatile x.line b) (world_of w es)) (sym (known bound)), refl))

    pub no_address : ((e : v.Value) × (x.node ≡ pn.Pointed e))
        ⊎ ((line : ℕ) × (first : Test) × (a : v.Value) × (b : v.Value) × (x.node ≡ pn.Element line first a b))
        → IsAddress at w (place_view types x) None
    no_address (inl (e, is)) =
        subst (λ q. IsAddress at w q None) (sym (node_place (pn.Pointed e) (pointed (value_view types e)) is (view.view_pointed types e))) tt
    no_address (inr (line, first, a, b, is)) =
        subst (λ q. IsAddress at w q None)
        (sym (node_place (pn.Element line first a b) (element line first (value_view types a) (value_view types b)) is
        (view.view_element types line first a b))) tt

    pub local_register : (n a : ℕ) → x.node ≡ pn.Local n → a ≡ slice_index w.locals n → ((bound : ℕ) → (row_of (setting_of bound at) n).is_placed ≡ false)
        → IsRegister at w (place_view types x) (Some a)
    local_register n a is known free =
        subst (λ q. IsRegister at w q (Some a)) (sym (node_place (pn.Local n) (local n) is (view.view_local types n))) (known, free)

-- ---- values

pub read_leaf : (at : At) (w : Stored) (line : ℕ) (t : CType) (q : Place) (found : Option ℕ) → IsRegister at w q found
    → IsLeaf at w (value line t (read q)) found
unfolding value_of location_of
read_leaf at w line t q None h = tt
read_leaf at w line t (place at' u (local n)) (Some a) h = λ bound es. rw (h.1 bound) (ap (λ (b : ℕ). Gives b (world_of w es)) (sym h.0))
read_leaf at w line t (place at' u (static n)) (Some a) h = absurd h
read_leaf at w line t (place at' u (text n)) (Some a) h = absurd h
read_leaf at w line t (place at' u (pointed e)) (Some a) h = absurd h
read_leaf at w line t (place at' u (element op first e f)) (Some a) h = absurd h

module _ (types : TypeRef → CType) (x : v.Value) where
  abbrev Has : code_node.ValueNode → Type 0
  Has n = x.node ≡ n

  pub node_value : (n : code_node.ValueNode) (m : ValueNode) → Has n → value_node_view types n ≡ m → value_view types x ≡ value x.line (types x.ty) m
  node_value n m is views =
      view.view_value types x ∙ ap (λ (k : ValueNode). value x.line (types x.ty) k) (ap (value_node_view types) is ∙ views)

  module _ (at : At) (w : Stored) where
    leaf : (n : code_node.ValueNode) (m : ValueNode) (found : Option ℕ) → Has n → value_node_view types n ≡ m
        → IsLeaf at w (value x.line (types x.ty) m) found → IsLeaf at w (value_view types x) found
    leaf n m found is views h = subst (λ (e : Value). IsLeaf at w e found) (sym (node_value n m is views)) h

    pub constant_leaf : (n a : ℕ) → Has (vn.Constant n) → a ≡ n → IsLeaf at w (value_view types x) (Some a)
    unfolding value_of
    constant_leaf n a is same =
        leaf (vn.Constant n) (tree.constant n) (Some a) is (view.view_constant types n) (λ bound es. ap (λ (b : ℕ). Gives b (world_of w es)) (sym same))

    pub null_leaf : Has vn.Null → IsLeaf at w (value_view types x) (Some 0)
    unfolding value_of
    null_leaf is = leaf vn.Null tree.null (Some 0) is (view.view_null types) (λ bound es. refl)

    pub function_leaf : (n a : ℕ) → Has (vn.Function n) → ((bound : ℕ) → a ≡ value_of_entity (setting_of bound at).program n)
        → IsLeaf at w (value_view types x) (Some a)
    unfolding value_of
    function_leaf n a is known =
        leaf (vn.Function n) (tree.function n) (Some a) is (view.view_function types n)
        (λ bound es. ap (λ (b : ℕ). Gives b (world_of w es)) (sym (known bound)))

    pub place_leaf : (q q' : p.Place) (found : Option ℕ) → Has (vn.Read q) → q' ≡ q → IsRegister at w (place_view types q') found
        → IsLeaf at w (value_view types x) found
    place_leaf q q' found is same h =
        leaf (vn.Read q) (read (place_view types q)) found is (view.view_read types q)
        (read_leaf at w x.line (types x.ty) (place_view types q) found (subst (λ r. IsRegister at w (place_view types r) found) same h))

    -- ---- values that are to be evaluated, a row of the code's match at a time

    nothing : (n : code_node.ValueNode) (m : ValueNode) → Has n → value_node_view types n ≡ m → HasPlan (value x.line (types x.ty) m)
        → IsLeaf at w (value_view types x) None
    nothing n m is views h = leaf n m None is views h

    pub address_row : ((q : p.Place) × Has (vn.FirstElement q)) ⊎ ((q : p.Place) × Has (vn.Address q)) → IsLeaf at w (value_view types x) None
    address_row (inl (q, is)) = nothing (vn.FirstElement q) (tree.first_element (place_view types q)) is (view.view_first_element types q) tt
    address_row (inr (q, is)) = nothing (vn.Address q) (tree.address (place_view types q)) is (view.view_address types q) tt

    pub minus_row : ((e : v.Value) × Has (vn.Minus e)) ⊎ (((e : v.Value) × Has (vn.Complement e)) ⊎ ((e : v.Value) × Has (vn.Negation e)))
        → IsLeaf at w (value_view types x) None
    minus_row (inl (e, is)) = nothing (vn.Minus e) (tree.minus (value_view types e)) is (view.view_minus types e) tt
    minus_row (inr (inl (e, is))) = nothing (vn.Complement e) (tree.complement (value_view types e)) is (view.view_complement types e) tt
    minus_row (inr (inr (e, is))) = nothing (vn.Negation e) (tree.negation (value_view types e)) is (view.view_negation types e) tt

    pub arithmetic_row : ((op : Op) × (line : ℕ) × (a : v.Value) × (b : v.Value) × Has (vn.Arithmetic op line a b))
        ⊎ (((line : ℕ) × (is_less : Test) × (first : Test) × (a : v.Value) × (b : v.Value) × Has (vn.Sum line is_less first a b))
        ⊎ ((line : ℕ) × (a : v.Value) × (b : v.Value) × Has (vn.Difference line a b))) → IsLeaf at w (value_view types x) None
    arithmetic_row (inl (op, line, a, b, is)) =
        nothing (vn.Arithmetic op line a b) (tree.arithmetic op line (value_view types a) (value_view types b)) is (view.view_arithmetic types op line a b) tt
    arithmetic_row (inr (inl (line, is_less, first, a, b, is))) =
        nothing (vn.Sum line is_less first a b) (tree.sum line is_less first (value_view types a) (value_view types b)) is
        (view.view_sum types line is_less first a b) tt
    arithmetic_row (inr (inr (line, a, b, is))) =
        nothing (vn.Difference line a b) (tree.difference line (value_view types a) (value_view types b)) is (view.view_difference types line a b) tt

    pub comparison_row : ((op : Op) × (line : ℕ) × (a : v.Value) × (b : v.Value) × Has (vn.Comparison op line a b))
        ⊎ ((a : v.Value) × (b : v.Value) × Has (vn.Conjunction a b)) → IsLeaf at w (value_view types x) None
    comparison_row (inl (op, line, a, b, is)) =
        nothing (vn.Comparison op line a b) (tree.comparison op line (value_view types a) (value_view types b)) is (view.view_comparison types op line a b) tt
    comparison_row (inr (a, b, is)) =
        nothing (vn.Conjunction a b) (tree.conjunction (value_view types a) (value_view types b)) is (view.view_conjunction types a b) tt

    pub disjunction_row : ((a : v.Value) × (b : v.Value) × Has (vn.Disjunction a b))
        ⊎ (((e : v.Value) × (a : v.Value) × (b : v.Value) × Has (vn.Choice e a b)) ⊎ ((es : List v.Value) × (e : v.Value) × Has (vn.Sequence es e)))
        → IsLeaf at w (value_view types x) None
    disjunction_row (inl (a, b, is)) =
        nothing (vn.Disjunction a b) (tree.disjunction (value_view types a) (value_view types b)) is (view.view_disjunction types a b) tt
    disjunction_row (inr (inl (e, a, b, is))) =
        nothing (vn.Choice e a b) (tree.choice (value_view types e) (value_view types a) (value_view types b)) is (view.view_choice types e a b) tt
    disjunction_row (inr (inr (es, e, is))) =
        nothing (vn.Sequence es e) (tree.sequence (values_from (map (value_view types) es)) (value_view types e)) is (view.view_sequence types es e) tt

    pub assignment_row : ((q : p.Place) × (e : v.Value) × Has (vn.Assignment q e))
        ⊎ (((c : IntegerChange) × (q : p.Place) × (e : v.Value) × Has (vn.Update c q e))
        ⊎ ((c : PointerChange) × (q : p.Place) × (e : v.Value) × Has (vn.Move c q e)))
        → IsLeaf at w (value_view types x) None
    assignment_row (inl (q, e, is)) =
        nothing (vn.Assignment q e) (tree.assignment (place_view types q) (value_view types e)) is (view.view_assignment types q e) tt
    assignment_row (inr (inl (c, q, e, is))) =
        nothing (vn.Update c q e) (tree.update c.is_after (place_view types q) c.first c.op c.at c.ty (value_view types e)) is (view.view_update types c q e) tt
    assignment_row (inr (inr (c, q, e, is))) =
        nothing (vn.Move c q e) (tree.move c.is_after (place_view types q) c.is_less c.at (value_view types e)) is (view.view_move types c q e) tt

    pub conversion_row : ((first : ℕ) × (e : v.Value) × Has (vn.Conversion first e)) ⊎ ((first : ℕ) × (e : v.Value) × Has (vn.ToBool first e))
        → IsLeaf at w (value_view types x) None
    conversion_row (inl (first, e, is)) =
        nothing (vn.Conversion first e) (tree.conversion first (value_view types e)) is (view.view_conversion types first e) tt
    conversion_row (inr (first, e, is)) = nothing (vn.ToBool first e) (tree.to_bool first (value_view types e)) is (view.view_to_bool types first e) tt

    pub requalified_row : ((e : v.Value) × Has (vn.Requalified e)) ⊎ ((e : v.Value) × Has (vn.Discarded e)) → IsLeaf at w (value_view types x) None
    requalified_row (inl (e, is)) = nothing (vn.Requalified e) (tree.requalified (value_view types e)) is (view.view_requalified types e) tt
    requalified_row (inr (e, is)) = nothing (vn.Discarded e) (tree.discarded (value_view types e)) is (view.view_discarded types e) tt

    pub call_row : ((line : ℕ) × (n : ℕ) × (es : List v.Value) × Has (vn.Call line n es))
        ⊎ ((line : ℕ) × (e : v.Value) × (es : List v.Value) × Has (vn.CallThrough line e es))
        → IsLeaf at w (value_view types x) None
    call_row (inl (line, n, es, is)) =
        nothing (vn.Call line n es) (tree.call line n (values_from (map (value_view types) es))) is (view.view_call types line n es) tt
    call_row (inr (line, e, es, is)) =
        nothing (vn.CallThrough line e es) (tree.call_through line (value_view types e) (values_from (map (value_view types) es))) is
        (view.view_call_through types line e es) tt

    pub putchar_row : ((line : ℕ) × (e : v.Value) × Has (vn.Putchar line e))
        ⊎ (((line : ℕ) × Has (vn.Getchar line)) ⊎ ((line : ℕ) × (e : v.Value) × Has (vn.Exit line e)))
        → IsLeaf at w (value_view types x) None
    putchar_row (inl (line, e, is)) = nothing (vn.Putchar line e) (tree.putchar line (value_view types e)) is (view.view_putchar types line e) tt
    putchar_row (inr (inl (line, is))) = nothing (vn.Getchar line) (tree.getchar line) is (view.view_getchar types line) tt
    putchar_row (inr (inr (line, e, is))) = nothing (vn.Exit line e) (tree.exit line (value_view types e)) is (view.view_exit types line e) tt
