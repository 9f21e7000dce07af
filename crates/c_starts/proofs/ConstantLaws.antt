-- What each node is as a constant, as the code has it.
use Rattle.std.proofs.Common.{◌≡◌, ℕ, sym, ◌∙◌, ap}
use Rattle.srmt_base.specs.declared.op.Op.{Op}
use Rattle.srmt_base.specs.declared.op.Op.TheVariants.{Sub}
use Rattle.srmt_base.specs.declared.ty.Ty.{Ty}
use Rattle.srmt_base.specs.Arith.{arith_of}
use Rattle.srmt_base.specs.Convert.{convert_of}
use Rattle.std.specs.Prelude.{bit_xor}
use Rattle.c_types.specs.declared.type_ref.TypeRef.{TypeRef}
use Rattle.c_types.specs.Types.{CType, ty_of}
use Rattle.c_typed.specs.declared.constant.Constant.{Constant}
use Rattle.c_typed.specs.declared.constant.Constant.TheVariants.{Value as Known}
use Rattle.c_typed.specs.declared.value.Value as v
use Rattle.c_typed.specs.declared.value.ValueNode as code_node
use Rattle.c_typed.specs.declared.value.ValueNode.TheVariants as vn
use Rattle.c_typed.specs.Typed.{ValueNode, value, constant, minus, complement, negation, arithmetic, conjunction, disjunction, choice, conversion, type_of}
use Rattle.c_typed.specs.Views.{value_view, value_node_view}
use Rattle.c_typed.specs.Constants.{constant_of, integer_only, mapped, both, of_result, opposite, chosen, as_test}
use Rattle.c_typed.proofs.ViewLaws.{view_value, view_constant, view_minus, view_complement, view_negation, view_arithmetic, view_conjunction, view_disjunction, view_choice, view_conversion}

module _ (types : TypeRef → CType) where
  -- a value whose node is known
  pub node-is : (x : v.Value) (n : code_node.ValueNode) (m : ValueNode) → x.node ≡ n → value_node_view types n ≡ m
      → value_view types x ≡ value x.line (types x.ty) m
  node-is x n m is view = view_value types x ∙ ap (λ k. value x.line (types x.ty) (value_node_view types k)) is ∙ ap (value x.line (types x.ty)) view

  -- the constant of a part, which the code reached by a box
  pub part : (x y : v.Value) (c : Constant) → x ≡ y → c ≡ constant_of (value_view types x) → c ≡ constant_of (value_view types y)
  part x y c got is = is ∙ ap (λ z. constant_of (value_view types z)) got

  -- and the integer type of it
  pub part-type : (x y : v.Value) (ty : Ty) → x ≡ y → ty ≡ ty_of (types x.ty) → ty ≡ ty_of (types y.ty)
  part-type x y ty got is = is ∙ ap (λ (z : v.Value). ty_of (types z.ty)) got

  pub constant-law : (x : v.Value) (n : ℕ) (r : Constant) → x.node ≡ vn.Constant n → r ≡ integer_only (types x.ty) (Known n) → r ≡ constant_of (value_view types x)
  unfolding constant_of
  constant-law x n r is r-is = r-is ∙ sym (ap constant_of (node-is x (vn.Constant n) (constant n) is (view_constant types n)))

  pub minus-law : (x e : v.Value) (ty : Ty) (c r : Constant) → x.node ≡ vn.Minus e → ty ≡ ty_of (types x.ty) → c ≡ constant_of (value_view types e)
      → r ≡ mapped (λ n. of_result (arith_of Sub ty 0 n)) c → r ≡ constant_of (value_view types x)
  unfolding constant_of
  minus-law x e ty c r is ty-is c-is r-is =
      r-is ∙ (λ i. mapped (λ n. of_result (arith_of Sub (ty-is i) 0 n)) (c-is i))
      ∙ sym (ap constant_of (node-is x (vn.Minus e) (minus (value_view types e)) is (view_minus types e)))

  pub complement-law : (x e : v.Value) (c r : Constant) → x.node ≡ vn.Complement e → c ≡ constant_of (value_view types e)
      → r ≡ mapped (λ n. Known (bit_xor n 4294967295)) c → r ≡ constant_of (value_view types x)
  unfolding constant_of
  complement-law x e c r is c-is r-is =
      r-is ∙ ap (mapped (λ n. Known (bit_xor n 4294967295))) c-is
      ∙ sym (ap constant_of (node-is x (vn.Complement e) (complement (value_view types e)) is (view_complement types e)))

  pub negation-law : (x e : v.Value) (c r : Constant) → x.node ≡ vn.Negation e → c ≡ constant_of (value_view types e)
      → r ≡ opposite c → r ≡ constant_of (value_view types x)
  unfolding constant_of
  negation-law x e c r is c-is r-is =
      r-is ∙ ap opposite c-is ∙ sym (ap constant_of (node-is x (vn.Negation e) (negation (value_view types e)) is (view_negation types e)))

  pub arithmetic-law : (x a b : v.Value) (op : Op) (at : ℕ) (ty : Ty) (c d r : Constant) → x.node ≡ vn.Arithmetic op at a b → ty ≡ ty_of (types a.ty)
      → c ≡ constant_of (value_view types a) → d ≡ constant_of (value_view types b)
      → r ≡ both (λ m n. of_result (arith_of op ty m n)) c d → r ≡ constant_of (value_view types x)
  unfolding constant_of
  arithmetic-law x a b op at ty c d r is ty-is c-is d-is r-is =
      r-is ∙ (λ i. both (λ m n. of_result (arith_of op (type i) m n)) (c-is i) (d-is i))
      ∙ sym (ap constant_of (node-is x (vn.Arithmetic op at a b) (arithmetic op at (value_view types a) (value_view types b)) is (view_arithmetic types op at a b)))
    where
      type : ty ≡ ty_of (type_of (value_view types a))
      type = ty-is ∙ sym (ap (λ w. ty_of (type_of w)) (view_value types a))

  pub conjunction-law : (x a b : v.Value) (c d r : Constant) → x.node ≡ vn.Conjunction a b → c ≡ constant_of (value_view types a) → d ≡ constant_of (value_view types b)
      → r ≡ chosen c (as_test d) (Known 0) → r ≡ constant_of (value_view types x)
  unfolding constant_of
  conjunction-law x a b c d r is c-is d-is r-is =
      r-is ∙ (λ i. chosen (c-is i) (as_test (d-is i)) (Known 0))
      ∙ sym (ap constant_of (node-is x (vn.Conjunction a b) (conjunction (value_view types a) (value_view types b)) is (view_conjunction types a b)))

  pub disjunction-law : (x a b : v.Value) (c d r : Constant) → x.node ≡ vn.Disjunction a b → c ≡ constant_of (value_view types a) → d ≡ constant_of (value_view types b)
      → r ≡ chosen c (Known 1) (as_test d) → r ≡ constant_of (value_view types x)
  unfolding constant_of
  disjunction-law x a b c d r is c-is d-is r-is =
      r-is ∙ (λ i. chosen (c-is i) (Known 1) (as_test (d-is i)))
      ∙ sym (ap constant_of (node-is x (vn.Disjunction a b) (disjunction (value_view types a) (value_view types b)) is (view_disjunction types a b)))

  pub choice-law : (x e a b : v.Value) (t c d r : Constant) → x.node ≡ vn.Choice e a b → t ≡ constant_of (value_view types e)
      → c ≡ constant_of (value_view types a) → d ≡ constant_of (value_view types b) → r ≡ chosen t c d → r ≡ constant_of (value_view types x)
  unfolding constant_of
  choice-law x e a b t c d r is t-is c-is d-is r-is =
      r-is ∙ (λ i. chosen (t-is i) (c-is i) (d-is i))
      ∙ sym (ap constant_of (node-is x (vn.Choice e a b) (choice (value_view types e) (value_view types a) (value_view types b)) is (view_choice types e a b)))

  pub conversion-law : (x e : v.Value) (first : ℕ) (from to : Ty) (c r : Constant) → x.node ≡ vn.Conversion first e → from ≡ ty_of (types e.ty) → to ≡ ty_of (types x.ty)
      → c ≡ constant_of (value_view types e) → r ≡ mapped (λ n. Known (convert_of from to n)) c → r ≡ constant_of (value_view types x)
  unfolding constant_of
  conversion-law x e first from to c r is from-is to-is c-is r-is =
      r-is ∙ (λ i. mapped (λ n. Known (convert_of (type i) (to-is i) n)) (c-is i))
      ∙ sym (ap constant_of (node-is x (vn.Conversion first e) (conversion first (value_view types e)) is (view_conversion types first e)))
    where
      type : from ≡ ty_of (type_of (value_view types e))
      type = from-is ∙ sym (ap (λ w. ty_of (type_of w)) (view_value types e))
