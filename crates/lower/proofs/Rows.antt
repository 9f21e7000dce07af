-- What a value, a place and values of the code's tree are lowered to, a constructor at a time.
use Rattle.std.proofs.Common.{◌≡◌, ℕ, suc, Bool as Test, true, false, List, map, sym, ◌∙◌, ap}
use Rattle.srmt_base.specs.declared.op.Op.{Op}
use Rattle.srmt_base.specs.declared.ty.Ty.{Ty}
use Rattle.c_types.specs.declared.type_ref.TypeRef.{TypeRef}
use Rattle.c_types.specs.Types.{CType, ty_of, target_of}
use Rattle.c_typed.specs.declared.value.IntegerChange.{IntegerChange}
use Rattle.c_typed.specs.declared.value.PointerChange.{PointerChange}
use Rattle.c_typed.specs.declared.value.Value as v
use Rattle.c_typed.specs.declared.value.Place as p
use Rattle.c_typed.specs.declared.value.PlaceNode as code_place_node
use Rattle.c_typed.specs.declared.value.PlaceNode.TheVariants as pn
use Rattle.c_typed.specs.declared.value.ValueNode as code_node
use Rattle.c_typed.specs.declared.value.ValueNode.TheVariants as vn
use Rattle.c_typed.specs.Typed as tree
use Rattle.c_typed.specs.Typed.{place, PlaceNode, value, ValueNode, type_of}
use Rattle.c_typed.specs.Views.{value_view, place_view, value_node_view, place_node_view, qualified_from, values_from}
use Rattle.c_typed.proofs.ViewLaws as view
use Rattle.lower.specs.Emitting.{Making, ◌>>=◌, pure, free_behind, home_of}
use Rattle.lower.specs.declared.inside.Where.{Where as CodeWhere}
use Rattle.lower.specs.declared.inside.Where.TheVariants as code_where
use Rattle.lower.specs.Emits.{where_view}
use Rattle.lower.specs.Expressions.{Inside, Located as Location, held, stored, where_is, locates, number_of, number_of_text, constant_in, zero_for, function_in, object_in, local_in, moves_pointer, computed, minus_of, complement_of, negated, converted, truth_of, pointers_subtracted, compared, decides, chosen, fetches, assigned, called, called_through, byte_put, byte_got, left_by, value_of, address_of, values_in, dropped_in, location_of, updated, repointed}

pub type-of : (types : TypeRef → CType) (x : v.Value) → type_of (value_view types x) ≡ types x.ty
type-of types x = ap type_of (view.view_value types x)

module _ (i : Inside) (types : TypeRef → CType) where
  abbrev pub Lowered : v.Value → ℕ → Making ℕ
  Lowered x = value_of i (value_view types x)

  abbrev pub Addressed : p.Place → ℕ → Making ℕ
  Addressed x = address_of i (place_view types x)

  abbrev pub Located : p.Place → ℕ → Making Location
  Located x = location_of i (place_view types x)

  by-node : (x : v.Value) (n : code_node.ValueNode) (m : ValueNode) (k : ℕ) → x.node ≡ n → value_node_view types n ≡ m
      → Lowered x k ≡ value_of i (value x.line (types x.ty) m) k
  by-node x n m k is views =
      ap (λ z. value_of i z k) (view.view_value types x ∙ ap (λ z. value x.line (types x.ty) (value_node_view types z)) is ∙ ap
      (value x.line (types x.ty)) views)

  by-place : (x : p.Place) (n : code_place_node.PlaceNode) (m : PlaceNode) (k : ℕ) → x.node ≡ n → place_node_view types n ≡ m
      → Addressed x k ≡ address_of i (place x.line (qualified_from types x.ty) m) k
  by-place x n m k is views =
      ap (λ z. address_of i z k)
      (view.view_place types x ∙ ap (λ z. place x.line (qualified_from types x.ty) (place_node_view types z)) is ∙ ap
      (place x.line (qualified_from types x.ty)) views)

  -- ---- places

  pub local-row : (x : p.Place) (n : ℕ) (k : ℕ) → x.node ≡ pn.Local n → Addressed x k ≡ local_in n x.line
  unfolding address_of
  local-row x n k is = by-place x (pn.Local n) (tree.local n) k is (view.view_local types n)

  pub static-row : (x : p.Place) (n r : ℕ) (k : ℕ) → x.node ≡ pn.Static n → r ≡ number_of i.program n → Addressed x k ≡ object_in r x.line
  unfolding address_of
  static-row x n r k is at = by-place x (pn.Static n) (tree.static n) k is (view.view_static types n) ∙ ap (λ z. object_in z x.line) (sym at)

  pub text-row : (x : p.Place) (n r : ℕ) (k : ℕ) → x.node ≡ pn.Text n → r ≡ number_of_text i n → Addressed x k ≡ object_in r x.line
  unfolding address_of
  text-row x n r k is at = by-place x (pn.Text n) (tree.text n) k is (view.view_text types n) ∙ ap (λ z. object_in z x.line) (sym at)

  pub pointed-row : (x : p.Place) (e : v.Value) (k : ℕ) → x.node ≡ pn.Pointed e → Addressed x k ≡ Lowered e k
  unfolding address_of
  pointed-row x e k is = by-place x (pn.Pointed e) (tree.pointed (value_view types e)) k is (view.view_pointed types e)

  pub element-row : (x : p.Place) (at : ℕ) (first : Test) (a b a' b' a'' : v.Value) (k free : ℕ) → x.node ≡ pn.Element at first a b
      → a' ≡ a → b' ≡ b → a'' ≡ a → free ≡ free_behind (types a''.ty) k
      → Addressed x k ≡ (Lowered a k >>= (λ y. Lowered b free >>= (λ z. moves_pointer x.line at false first (types a'.ty) (types b'.ty) y z)))
  unfolding address_of
  element-row x at first a b a' b' a'' k free is is-a is-b is-a'' is-free =
      by-place x (pn.Element at first a b) (tree.element at first (value_view types a) (value_view types b)) k is (view.view_element types at first a b)
      ∙ (λ j. Lowered a k >>= (λ y. Lowered b (free_behind (tc j) k) >>= (λ z. moves_pointer x.line at false first (ta j) (tb j) y z)))
      ∙ ap (λ z. Lowered a k >>= (λ y. Lowered b z >>= (λ z. moves_pointer x.line at false first (types a'.ty) (types b'.ty) y z))) (sym is-free)
    where
      ta : type_of (value_view types a) ≡ types a'.ty
      ta = type-of types a ∙ ap (λ z. types z.ty) (sym is-a)

      tc : type_of (value_view types a) ≡ types a''.ty
      tc = type-of types a ∙ ap (λ z. types z.ty) (sym is-a'')

      tb : type_of (value_view types b) ≡ types b'.ty
      tb = type-of types b ∙ ap (λ z. types z.ty) (sym is-b)

  pub register-row : (x : p.Place) (n : ℕ) (w : CodeWhere) (k : ℕ) → where_view w ≡ where_is i (place_view types x) → w ≡ code_where.Register n
      → Located x k ≡ (home_of n >>= (λ home. pure (held home)))
  register-row x n w k is at = ap (λ z. locates z (Addressed x k)) (sym is ∙ ap where_view at)

  pub memory-row : (x : p.Place) (is_volatile : Test) (line : ℕ) (w : CodeWhere) (k : ℕ) → where_view w ≡ where_is i (place_view types x)
      → w ≡ code_where.Memory is_volatile line → Located x k ≡ (Addressed x k >>= (λ pointer. pure (stored is_volatile line pointer)))
  memory-row x is_volatile line w k is at = ap (λ z. locates z (Addressed x k)) (sym is ∙ ap where_view at)

  -- ---- values

  pub constant-row : (x : v.Value) (n m : ℕ) (k : ℕ) → x.node ≡ vn.Constant n → m ≡ n → Lowered x k ≡ constant_in x.line k m
  unfolding value_of
  constant-row x n m k is same = by-node x (vn.Constant n) (tree.constant n) k is (view.view_constant types n) ∙ ap (constant_in x.line k) (sym same)

  pub null-row : (x : v.Value) (k : ℕ) → x.node ≡ vn.Null → Lowered x k ≡ zero_for (types x.ty) k x.line
  unfolding value_of
  null-row x k is = by-node x vn.Null tree.null k is (view.view_null types)

  pub function-row : (x : v.Value) (n r : ℕ) (k : ℕ) → x.node ≡ vn.Function n → r ≡ number_of i.program n → Lowered x k ≡ function_in r x.line k
  unfolding value_of
  function-row x n r k is at =
      by-node x (vn.Function n) (tree.function n) k is (view.view_function types n) ∙ ap (λ z. function_in z x.line k) (sym at)

  pub read-row : (x : v.Value) (l : p.Place) (k : ℕ) → x.node ≡ vn.Read l → Lowered x k ≡ (Located l k >>= fetches x.line (types x.ty) k)
  unfolding value_of
  read-row x l k is = by-node x (vn.Read l) (tree.read (place_view types l)) k is (view.view_read types l)

  pub first_element-row : (x : v.Value) (l : p.Place) (k : ℕ) → x.node ≡ vn.FirstElement l → Lowered x k ≡ Addressed l k
  unfolding value_of
  first_element-row x l k is = by-node x (vn.FirstElement l) (tree.first_element (place_view types l)) k is (view.view_first_element types l)

  pub address-row : (x : v.Value) (l : p.Place) (k : ℕ) → x.node ≡ vn.Address l → Lowered x k ≡ Addressed l k
  unfolding value_of
  address-row x l k is = by-node x (vn.Address l) (tree.address (place_view types l)) k is (view.view_address types l)

  pub minus-row : (x e f : v.Value) (t : Ty) (k : ℕ) → x.node ≡ vn.Minus e → f ≡ e → t ≡ ty_of (types f.ty)
      → Lowered x k ≡ (Lowered e k >>= minus_of t x.line k)
  unfolding value_of
  minus-row x e f t k is same at =
      by-node x (vn.Minus e) (tree.minus (value_view types e)) k is (view.view_minus types e)
      ∙ ap (λ z. Lowered e k >>= minus_of z x.line k) (ap ty_of (type-of types e ∙ ap (λ z. types z.ty) (sym same)) ∙ sym at)

  pub complement-row : (x e f : v.Value) (t : Ty) (k : ℕ) → x.node ≡ vn.Complement e → f ≡ e → t ≡ ty_of (types f.ty)
      → Lowered x k ≡ (Lowered e k >>= complement_of t x.line k)
  unfolding value_of
  complement-row x e f t k is same at =
      by-node x (vn.Complement e) (tree.complement (value_view types e)) k is (view.view_complement types e)
      ∙ ap (λ z. Lowered e k >>= complement_of z x.line k) (ap ty_of (type-of types e ∙ ap (λ z. types z.ty) (sym same)) ∙ sym at)

  pub negation-row : (x e f : v.Value) (k : ℕ) → x.node ≡ vn.Negation e → f ≡ e → Lowered x k ≡ (Lowered e k >>= negated (types f.ty) x.line k)
  unfolding value_of
  negation-row x e f k is same =
      by-node x (vn.Negation e) (tree.negation (value_view types e)) k is (view.view_negation types e)
      ∙ ap (λ z. Lowered e k >>= negated z x.line k) (type-of types e ∙ ap (λ z. types z.ty) (sym same))

  pub arithmetic-row : (x : v.Value) (op : Op) (at : ℕ) (a b a' : v.Value) (t : Ty) (k free : ℕ) → x.node ≡ vn.Arithmetic op at a b
      → a' ≡ a → t ≡ ty_of (types a'.ty) → free ≡ suc k
      → Lowered x k ≡ (Lowered a k >>= (λ y. Lowered b free >>= (λ z. computed op t at y z)))
  unfolding value_of
  arithmetic-row x op at a b a' t k free is is-a is-t is-free =
      by-node x (vn.Arithmetic op at a b) (tree.arithmetic op at (value_view types a) (value_view types b)) k is (view.view_arithmetic types op at a b)
      ∙ (λ j. Lowered a k >>= (λ y. Lowered b (sym is-free j) >>= (λ z. computed op (same j) at y z)))
    where
      same : ty_of (type_of (value_view types a)) ≡ t
      same = ap ty_of (type-of types a ∙ ap (λ z. types z.ty) (sym is-a)) ∙ sym is-t

  pub sum-row : (x : v.Value) (at : ℕ) (is_less first : Test) (a b a' b' a'' : v.Value) (k free : ℕ) → x.node ≡ vn.Sum at is_less first a b
      → a' ≡ a → b' ≡ b → a'' ≡ a → free ≡ free_behind (types a''.ty) k
      → Lowered x k ≡ (Lowered a k >>= (λ y. Lowered b free >>= (λ z. moves_pointer x.line at is_less first (types a'.ty) (types b'.ty) y z)))
  unfolding value_of
  sum-row x at is_less first a b a' b' a'' k free is is-a is-b is-a'' is-free =
      by-node x (vn.Sum at is_less first a b) (tree.sum at is_less first (value_view types a) (value_view types b)) k is
      (view.view_sum types at is_less first a b)
      ∙ (λ j. Lowered a k >>= (λ y. Lowered b (free_behind (tc j) k) >>= (λ z. moves_pointer x.line at is_less first (ta j) (tb j) y z)))
      ∙ ap (λ z. Lowered a k >>= (λ y. Lowered b z >>= (λ z. moves_pointer x.line at is_less first (types a'.ty) (types b'.ty) y z))) (sym is-free)
    where
      ta : type_of (value_view types a) ≡ types a'.ty
      ta = type-of types a ∙ ap (λ z. types z.ty) (sym is-a)

      tc : type_of (value_view types a) ≡ types a''.ty
      tc = type-of types a ∙ ap (λ z. types z.ty) (sym is-a'')

      tb : type_of (value_view types b) ≡ types b'.ty
      tb = type-of types b ∙ ap (λ z. types z.ty) (sym is-b)

  pub difference-row : (x : v.Value) (at : ℕ) (a b a' : v.Value) (k : ℕ) → x.node ≡ vn.Difference at a b → a' ≡ a
      → Lowered x k ≡ (Lowered a k >>= (λ y. Lowered b k >>= (λ z. pointers_subtracted (types a'.ty) x.line at k y z)))
  unfolding value_of
  difference-row x at a b a' k is is-a =
      by-node x (vn.Difference at a b) (tree.difference at (value_view types a) (value_view types b)) k is (view.view_difference types at a b)
      ∙ ap (λ t. Lowered a k >>= (λ y. Lowered b k >>= (λ z. pointers_subtracted t x.line at k y z))) (type-of types a ∙ ap (λ z. types z.ty) (sym is-a))

  pub comparison-row : (x : v.Value) (op : Op) (at : ℕ) (a b a' a'' : v.Value) (k free : ℕ) → x.node ≡ vn.Comparison op at a b
      → a' ≡ a → a'' ≡ a → free ≡ free_behind (types a''.ty) k
      → Lowered x k ≡ (Lowered a k >>= (λ y. Lowered b free >>= (λ z. compared (types a'.ty) op x.line at k y z)))
  unfolding value_of
  comparison-row x op at a b a' a'' k free is is-a is-a'' is-free =
      by-node x (vn.Comparison op at a b) (tree.comparison op at (value_view types a) (value_view types b)) k is (view.view_comparison types op at a b)
      ∙ (λ j. Lowered a k >>= (λ y. Lowered b (free_behind (tc j) k) >>= (λ z. compared (ta j) op x.line at k y z)))
      ∙ ap (λ z. Lowered a k >>= (λ y. Lowered b z >>= (λ z. compared (types a'.ty) op x.line at k y z))) (sym is-free)
    where
      ta : type_of (value_view types a) ≡ types a'.ty
      ta = type-of types a ∙ ap (λ z. types z.ty) (sym is-a)

      tc : type_of (value_view types a) ≡ types a''.ty
      tc = type-of types a ∙ ap (λ z. types z.ty) (sym is-a'')

  pub conjunction-row : (x a b b' : v.Value) (k : ℕ) → x.node ≡ vn.Conjunction a b → b' ≡ b
      → Lowered x k ≡ (Lowered a k >>= decides false x.line k (Lowered b' k))
  unfolding value_of
  conjunction-row x a b b' k is is-b =
      by-node x (vn.Conjunction a b) (tree.conjunction (value_view types a) (value_view types b)) k is (view.view_conjunction types a b)
      ∙ ap (λ z. Lowered a k >>= decides false x.line k (Lowered z k)) (sym is-b)

  pub disjunction-row : (x a b b' : v.Value) (k : ℕ) → x.node ≡ vn.Disjunction a b → b' ≡ b
      → Lowered x k ≡ (Lowered a k >>= decides true x.line k (Lowered b' k))
  unfolding value_of
  disjunction-row x a b b' k is is-b =
      by-node x (vn.Disjunction a b) (tree.disjunction (value_view types a) (value_view types b)) k is (view.view_disjunction types a b)
      ∙ ap (λ z. Lowered a k >>= decides true x.line k (Lowered z k)) (sym is-b)

  pub choice-row : (x e a b a' b' : v.Value) (k : ℕ) → x.node ≡ vn.Choice e a b → a' ≡ a → b' ≡ b
      → Lowered x k ≡ (Lowered e k >>= chosen (types x.ty) x.line (Lowered a' k) (Lowered b' k))
  unfolding value_of
  choice-row x e a b a' b' k is is-a is-b =
      by-node x (vn.Choice e a b) (tree.choice (value_view types e) (value_view types a) (value_view types b)) k is (view.view_choice types e a b)
      ∙ (λ j. Lowered e k >>= chosen (types x.ty) x.line (Lowered (sym is-a j) k) (Lowered (sym is-b j) k))

  pub sequence-row : (x : v.Value) (es : List v.Value) (e : v.Value) (k : ℕ) → x.node ≡ vn.Sequence es e
      → Lowered x k ≡ (dropped_in i (values_from (map (value_view types) es)) k >>= (λ _. Lowered e k))
  unfolding value_of
  sequence-row x es e k is =
      by-node x (vn.Sequence es e) (tree.sequence (values_from (map (value_view types) es)) (value_view types e)) k is (view.view_sequence types es e)

  pub assignment-row : (x : v.Value) (l : p.Place) (e : v.Value) (k : ℕ) → x.node ≡ vn.Assignment l e
      → Lowered x k ≡ (Located l k >>= (λ y. Lowered e k >>= assigned x.line y))
  unfolding value_of
  assignment-row x l e k is =
      by-node x (vn.Assignment l e) (tree.assignment (place_view types l) (value_view types e)) k is (view.view_assignment types l e)

  pub update-row : (x : v.Value) (c : IntegerChange) (l : p.Place) (e e' : v.Value) (k : ℕ) → x.node ≡ vn.Update c l e → e' ≡ e
      → Lowered x k ≡ (Located l k >>= (λ y. updated i c.is_after c.first c.op c.at c.ty (types x.ty) x.line k y (value_view types e')))
  unfolding value_of
  update-row x c l e e' k is same =
      by-node x (vn.Update c l e) (tree.update c.is_after (place_view types l) c.first c.op c.at c.ty (value_view types e)) k is (view.view_update types c l e)
      ∙ ap (λ z. Located l k >>= (λ y. updated i c.is_after c.first c.op c.at c.ty (types x.ty) x.line k y (value_view types z))) (sym same)

  pub move-row : (x : v.Value) (c : PointerChange) (l : p.Place) (e e' : v.Value) (k : ℕ) → x.node ≡ vn.Move c l e → e' ≡ e
      → Lowered x k ≡ (Located l k >>= (λ y. repointed i c.is_after c.is_less c.at (types x.ty) (types e'.ty) x.line k y (value_view types e')))
  unfolding value_of
  move-row x c l e e' k is same =
      by-node x (vn.Move c l e) (tree.move c.is_after (place_view types l) c.is_less c.at (value_view types e)) k is (view.view_move types c l e)
      ∙ ap (λ t. Located l k >>= (λ y. repointed i c.is_after c.is_less c.at (types x.ty) t x.line k y (value_view types e))) (type-of types e)
      ∙ ap (λ z. Located l k >>= (λ y. repointed i c.is_after c.is_less c.at (types x.ty) (types z.ty) x.line k y (value_view types z))) (sym same)

  pub conversion-row : (x : v.Value) (first : ℕ) (e f : v.Value) (from to : Ty) (k : ℕ) → x.node ≡ vn.Conversion first e
      → f ≡ e → from ≡ ty_of (types f.ty) → to ≡ ty_of (types x.ty) → Lowered x k ≡ (Lowered e k >>= converted first from to)
  unfolding value_of
  conversion-row x first e f from to k is same is-from is-to =
      by-node x (vn.Conversion first e) (tree.conversion first (value_view types e)) k is (view.view_conversion types first e)
      ∙ (λ j. Lowered e k >>= converted first (known j) (sym is-to j))
    where
      known : ty_of (type_of (value_view types e)) ≡ from
      known = ap ty_of (type-of types e ∙ ap (λ z. types z.ty) (sym same)) ∙ sym is-from

  pub to_bool-row : (x : v.Value) (first : ℕ) (e f : v.Value) (k : ℕ) → x.node ≡ vn.ToBool first e → f ≡ e
      → Lowered x k ≡ (Lowered e k >>= truth_of (types f.ty) x.line first k)
  unfolding value_of
  to_bool-row x first e f k is same =
      by-node x (vn.ToBool first e) (tree.to_bool first (value_view types e)) k is (view.view_to_bool types first e)
      ∙ ap (λ z. Lowered e k >>= truth_of z x.line first k) (type-of types e ∙ ap (λ z. types z.ty) (sym same))

  pub requalified-row : (x e : v.Value) (k : ℕ) → x.node ≡ vn.Requalified e → Lowered x k ≡ Lowered e k
  unfolding value_of
  requalified-row x e k is = by-node x (vn.Requalified e) (tree.requalified (value_view types e)) k is (view.view_requalified types e)

  pub discarded-row : (x e : v.Value) (k : ℕ) → x.node ≡ vn.Discarded e → Lowered x k ≡ Lowered e k
  unfolding value_of
  discarded-row x e k is = by-node x (vn.Discarded e) (tree.discarded (value_view types e)) k is (view.view_discarded types e)

  pub call-row : (x : v.Value) (at entity r : ℕ) (es : List v.Value) (k : ℕ) → x.node ≡ vn.Call at entity es → r ≡ number_of i.program entity
      → Lowered x k ≡ (values_in i (values_from (map (value_view types) es)) k >>= called (types x.ty) x.line at r k)
  unfolding value_of
  call-row x at entity r es k is same =
      by-node x (vn.Call at entity es) (tree.call at entity (values_from (map (value_view types) es))) k is (view.view_call types at entity es)
      ∙ ap (λ z. values_in i (values_from (map (value_view types) es)) k >>= called (types x.ty) x.line at z k) (sym same)

  pub call_through-row : (x : v.Value) (at : ℕ) (e f : v.Value) (es : List v.Value) (k free : ℕ) → x.node ≡ vn.CallThrough at e es
      → f ≡ e → free ≡ suc k
      → Lowered x k ≡ (Lowered e k >>= (λ callee. values_in i (values_from (map (value_view types) es)) free
      >>= called_through (types x.ty) (target_of (types f.ty)).type x.line at k callee))
  unfolding value_of
  call_through-row x at e f es k free is same is-free =
      by-node x (vn.CallThrough at e es) (tree.call_through at (value_view types e) (values_from (map (value_view types) es))) k is
      (view.view_call_through types at e es)
      ∙ (λ j. Lowered e k >>= (λ callee. values_in i (values_from (map (value_view types) es)) (sym is-free j)
      >>= called_through (types x.ty) (target_of (known j)).type x.line at k callee))
    where
      known : type_of (value_view types e) ≡ types f.ty
      known = type-of types e ∙ ap (λ z. types z.ty) (sym same)

  pub putchar-row : (x : v.Value) (at : ℕ) (e : v.Value) (k : ℕ) → x.node ≡ vn.Putchar at e → Lowered x k ≡ (Lowered e k >>= byte_put x.line at)
  unfolding value_of
  putchar-row x at e k is = by-node x (vn.Putchar at e) (tree.putchar at (value_view types e)) k is (view.view_putchar types at e)

  pub getchar-row : (x : v.Value) (at : ℕ) (k : ℕ) → x.node ≡ vn.Getchar at → Lowered x k ≡ byte_got x.line at k
  unfolding value_of
  getchar-row x at k is = by-node x (vn.Getchar at) (tree.getchar at) k is (view.view_getchar types at)

  pub exit-row : (x : v.Value) (at : ℕ) (e : v.Value) (k : ℕ) → x.node ≡ vn.Exit at e → Lowered x k ≡ (Lowered e k >>= left_by at)
  unfolding value_of
  exit-row x at e k is = by-node x (vn.Exit at e) (tree.exit at (value_view types e)) k is (view.view_exit types at e)
