-- What each node gives as what a cell starts with, as the code has it.
use Rattle.std.proofs.Common.{◌≡◌, ℕ, Bool as Test, true, false, refl, sym, ◌∙◌, ap, Option, Some, None}
use Rattle.srmt_base.specs.declared.ty.Ty.{Ty}
use Rattle.c_types.specs.declared.type_ref.TypeRef.{TypeRef}
use Rattle.c_types.specs.Types.{CType, ty_of}
use Rattle.c_typed.specs.declared.constant.Constant.{Constant}
use Rattle.c_typed.specs.declared.program.Start.{Start}
use Rattle.c_typed.specs.declared.program.Start.TheVariants as start
use Rattle.c_typed.specs.declared.value.Value as v
use Rattle.c_typed.specs.declared.value.Place as p
use Rattle.c_typed.specs.declared.value.ValueNode as code_node
use Rattle.c_typed.specs.declared.value.PlaceNode as code_place_node
use Rattle.c_typed.specs.declared.value.ValueNode.TheVariants as vn
use Rattle.c_typed.specs.declared.value.PlaceNode.TheVariants as pn
use Rattle.c_typed.specs.Typed.{ValueNode, PlaceNode, value, place, local, static, text, pointed, element, null, first_element, address, function, sum, to_bool, requalified, type_of}
use Rattle.c_typed.specs.Views.{value_view, value_node_view, place_view, place_node_view, qualified_from}
use Rattle.c_typed.specs.Constants.{constant_of}
use Rattle.c_typed.specs.Starts.{start_of, place_start, moved_by, as_bool, number_if}
use Rattle.c_typed.proofs.ViewLaws.{view_value, view_place, view_local, view_static, view_text, view_pointed, view_element, view_null, view_function, view_sum, view_to_bool, view_requalified, view_first_element, view_address}
use Rattle.c_starts.proofs.ConstantLaws.{node-is}

module _ (types : TypeRef → CType) where
  -- a place whose node is known
  pub place-node-is : (x : p.Place) (n : code_place_node.PlaceNode) (m : PlaceNode) → x.node ≡ n → place_node_view types n ≡ m
      → place_view types x ≡ place x.line (qualified_from types x.ty) m
  place-node-is x n m is view =
      view_place types x ∙ ap (λ k. place x.line (qualified_from types x.ty) (place_node_view types k)) is ∙ ap (place x.line (qualified_from types x.ty)) view

  -- what a part gives, which the code reached by a box
  pub part : (x y : v.Value) (s : Option Start) → x ≡ y → s ≡ start_of (value_view types x) → s ≡ start_of (value_view types y)
  part x y s got is = is ∙ ap (λ z. start_of (value_view types z)) got

  pub place-part : (x y : p.Place) (s : Option Start) → x ≡ y → s ≡ place_start (place_view types x) → s ≡ place_start (place_view types y)
  place-part x y s got is = is ∙ ap (λ z. place_start (place_view types z)) got

  -- and its type
  pub moved-part : (x y : v.Value) (s : Option Start) (c : Constant) (ty : Ty) (is_less : Test) (r : Option Start) → x ≡ y
      → r ≡ moved_by s c ty is_less (types x.ty) → r ≡ moved_by s c ty is_less (types y.ty)
  moved-part x y s c ty is_less r got is = is ∙ ap (λ (z : v.Value). moved_by s c ty is_less (types z.ty)) got

  -- a value that is as it is as a constant
  pub number-law : (x : v.Value) (n : code_node.ValueNode) (m : ValueNode) (c : Constant) (r : Option Start) → x.node ≡ n → value_node_view types n ≡ m
      → start_of (value x.line (types x.ty) m) ≡ number_if (constant_of (value x.line (types x.ty) m))
      → c ≡ constant_of (value_view types x) → r ≡ number_if c → r ≡ start_of (value_view types x)
  number-law x n m c r is view same c-is r-is =
      r-is ∙ ap number_if (c-is ∙ ap constant_of (node-is types x n m is view)) ∙ sym same ∙ sym (ap start_of (node-is types x n m is view))

  -- a value of a known node
  pub node-law : (x : v.Value) (n : code_node.ValueNode) (m : ValueNode) (r : Option Start) → x.node ≡ n → value_node_view types n ≡ m
      → r ≡ start_of (value x.line (types x.ty) m) → r ≡ start_of (value_view types x)
  node-law x n m r is view r-is = r-is ∙ sym (ap start_of (node-is types x n m is view))

  pub null-law : (x : v.Value) → x.node ≡ vn.Null → Some (start.Number 0) ≡ start_of (value_view types x)
  unfolding start_of
  null-law x is = node-law x vn.Null null _ is (view_null types) refl

  pub function-law : (x : v.Value) (n : ℕ) → x.node ≡ vn.Function n → Some (start.Function n) ≡ start_of (value_view types x)
  unfolding start_of
  function-law x n is = node-law x (vn.Function n) (function n) _ is (view_function types n) refl

  pub first_element-law : (x : v.Value) (q : p.Place) (s : Option Start) → x.node ≡ vn.FirstElement q → s ≡ place_start (place_view types q) → s ≡ start_of (value_view types x)
  unfolding start_of
  first_element-law x q s is s-is = node-law x (vn.FirstElement q) (first_element (place_view types q)) s is (view_first_element types q) s-is

  pub address-law : (x : v.Value) (q : p.Place) (s : Option Start) → x.node ≡ vn.Address q → s ≡ place_start (place_view types q) → s ≡ start_of (value_view types x)
  unfolding start_of
  address-law x q s is s-is = node-law x (vn.Address q) (address (place_view types q)) s is (view_address types q) s-is

  pub to_bool-law : (x e : v.Value) (first : ℕ) (s r : Option Start) → x.node ≡ vn.ToBool first e → s ≡ start_of (value_view types e) → r ≡ as_bool s → r ≡ start_of (value_view types x)
  unfolding start_of
  to_bool-law x e first s r is s-is r-is = node-law x (vn.ToBool first e) (to_bool first (value_view types e)) r is (view_to_bool types first e) (r-is ∙ ap as_bool s-is)

  pub requalified-law : (x e : v.Value) (s : Option Start) → x.node ≡ vn.Requalified e → s ≡ start_of (value_view types e) → s ≡ start_of (value_view types x)
  unfolding start_of
  requalified-law x e s is s-is = node-law x (vn.Requalified e) (requalified (value_view types e)) s is (view_requalified types e) s-is

  -- a pointer and an integer, as they stand
  moved-is : (a b : v.Value) (s : Option Start) (c : Constant) (ty : Ty) (is_less : Test) → s ≡ start_of (value_view types a) → c ≡ constant_of (value_view types b)
      → ty ≡ ty_of (types b.ty)
      → moved_by s c ty is_less (types a.ty)
      ≡ moved_by (start_of (value_view types a)) (constant_of (value_view types b)) (ty_of (type_of (value_view types b))) is_less (type_of (value_view types a))
  moved-is a b s c ty is_less s-is c-is ty-is = λ i. moved_by (s-is i) (c-is i) (type i) is_less (base i)
    where
      type : ty ≡ ty_of (type_of (value_view types b))
      type = ty-is ∙ sym (ap (λ w. ty_of (type_of w)) (view_value types b))

      base : types a.ty ≡ type_of (value_view types a)
      base = sym (ap type_of (view_value types a))

  pub sum-first-law : (x a b : v.Value) (at : ℕ) (is_less : Test) (s : Option Start) (c : Constant) (ty : Ty) (r : Option Start) → x.node ≡ vn.Sum at is_less true a b
      → s ≡ start_of (value_view types a) → c ≡ constant_of (value_view types b) → ty ≡ ty_of (types b.ty) → r ≡ moved_by s c ty is_less (types a.ty)
      → r ≡ start_of (value_view types x)
  unfolding start_of
  sum-first-law x a b at is_less s c ty r is s-is c-is ty-is r-is =
      node-law x (vn.Sum at is_less true a b) (sum at is_less true (value_view types a) (value_view types b)) r is (view_sum types at is_less true a b)
      (r-is ∙ moved-is a b s c ty is_less s-is c-is ty-is)

  pub sum-second-law : (x a b : v.Value) (at : ℕ) (is_less : Test) (s : Option Start) (c : Constant) (ty : Ty) (r : Option Start) → x.node ≡ vn.Sum at is_less false a b
      → s ≡ start_of (value_view types b) → c ≡ constant_of (value_view types a) → ty ≡ ty_of (types a.ty) → r ≡ moved_by s c ty is_less (types b.ty)
      → r ≡ start_of (value_view types x)
  unfolding start_of
  sum-second-law x a b at is_less s c ty r is s-is c-is ty-is r-is =
      node-law x (vn.Sum at is_less false a b) (sum at is_less false (value_view types a) (value_view types b)) r is (view_sum types at is_less false a b)
      (r-is ∙ moved-is b a s c ty is_less s-is c-is ty-is)

  -- a place of a known node
  place-law : (x : p.Place) (n : code_place_node.PlaceNode) (m : PlaceNode) (r : Option Start) → x.node ≡ n → place_node_view types n ≡ m
      → r ≡ place_start (place x.line (qualified_from types x.ty) m) → r ≡ place_start (place_view types x)
  place-law x n m r is view r-is = r-is ∙ sym (ap place_start (place-node-is x n m is view))

  pub local-law : (x : p.Place) (n : ℕ) → x.node ≡ pn.Local n → None ≡ place_start (place_view types x)
  unfolding place_start
  local-law x n is = place-law x (pn.Local n) (local n) None is (view_local types n) refl

  pub static-law : (x : p.Place) (n : ℕ) → x.node ≡ pn.Static n → Some (start.Object n 0) ≡ place_start (place_view types x)
  unfolding place_start
  static-law x n is = place-law x (pn.Static n) (static n) (Some (start.Object n 0)) is (view_static types n) refl

  pub text-law : (x : p.Place) (n : ℕ) → x.node ≡ pn.Text n → Some (start.Text n 0) ≡ place_start (place_view types x)
  unfolding place_start
  text-law x n is = place-law x (pn.Text n) (text n) (Some (start.Text n 0)) is (view_text types n) refl

  pub pointed-law : (x : p.Place) (e : v.Value) (s : Option Start) → x.node ≡ pn.Pointed e → s ≡ start_of (value_view types e) → s ≡ place_start (place_view types x)
  unfolding place_start
  pointed-law x e s is s-is = place-law x (pn.Pointed e) (pointed (value_view types e)) s is (view_pointed types e) s-is

  pub element-first-law : (x : p.Place) (a b : v.Value) (at : ℕ) (s : Option Start) (c : Constant) (ty : Ty) (r : Option Start) → x.node ≡ pn.Element at true a b
      → s ≡ start_of (value_view types a) → c ≡ constant_of (value_view types b) → ty ≡ ty_of (types b.ty) → r ≡ moved_by s c ty false (types a.ty)
      → r ≡ place_start (place_view types x)
  unfolding place_start
  element-first-law x a b at s c ty r is s-is c-is ty-is r-is =
      place-law x (pn.Element at true a b) (element at true (value_view types a) (value_view types b)) r is (view_element types at true a b)
      (r-is ∙ moved-is a b s c ty false s-is c-is ty-is)

  pub element-second-law : (x : p.Place) (a b : v.Value) (at : ℕ) (s : Option Start) (c : Constant) (ty : Ty) (r : Option Start) → x.node ≡ pn.Element at false a b
      → s ≡ start_of (value_view types b) → c ≡ constant_of (value_view types a) → ty ≡ ty_of (types a.ty) → r ≡ moved_by s c ty false (types b.ty)
      → r ≡ place_start (place_view types x)
  unfolding place_start
  element-second-law x a b at s c ty r is s-is c-is ty-is r-is =
      place-law x (pn.Element at false a b) (element at false (value_view types a) (value_view types b)) r is (view_element types at false a b)
      (r-is ∙ moved-is b a s c ty false s-is c-is ty-is)
