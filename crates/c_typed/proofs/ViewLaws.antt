-- What the view of a typed value or place is, a constructor at a time.
use Rattle.std.proofs.Common.{◌≡◌, ℕ, Bool as Test, List, map, ap, sym, ◌∙◌}
use Rattle.srmt_base.specs.declared.op.Op.{Op}
use Rattle.c_types.specs.declared.type_ref.TypeRef.{TypeRef}
use Rattle.c_types.specs.Types.{CType}
use Rattle.c_typed.specs.declared.value.IntegerChange.{IntegerChange}
use Rattle.c_typed.specs.declared.value.PointerChange.{PointerChange}
use Rattle.c_typed.specs.declared.value.Value as v
use Rattle.c_typed.specs.declared.value.Place as p
use Rattle.c_typed.specs.declared.value.PlaceNode as place_node
use Rattle.c_typed.specs.declared.value.PlaceNode.{PlaceNode-F}
use Rattle.c_typed.specs.declared.value.PlaceNode.TheVariants as pn
use Rattle.c_typed.specs.declared.value.ValueNode as value_node
use Rattle.c_typed.specs.declared.value.ValueNode.{ValueNode-F}
use Rattle.c_typed.specs.declared.value.ValueNode.TheVariants as vn
use Rattle.c_typed.specs.Typed.{Place, place, PlaceNode, local, static, text, pointed, element, Value, value, ValueNode, constant, null, read, first_element, address, function, minus, complement, negation, arithmetic, sum, difference, comparison, conjunction, disjunction, choice, sequence, assignment, update, move, conversion, to_bool, requalified, discarded, call, call_through, putchar, getchar, exit}
use Rattle.c_typed.specs.Views.{values_from, qualified_from, place_node_from, value_node_from, place_from, value_from, value_view, place_view, value_node_view, place_node_view}

module _ (types : TypeRef → CType) where
  pub view_value : (x : v.Value) → value_view types x ≡ value x.line (types x.ty) (value_node_view types x.node)
  unfolding value_view value_node_view
  view_value x =
      ap (value_view types) (sym (v.rolls-Value' (record { line = x.line; ty = x.ty; node = x.node }))) ∙ v.fold-roll-Value PlaceNode ValueNode Place
      Value (place_node_from types) (value_node_from types) (place_from types) (value_from types) (record { line = x.line; ty = x.ty; node = x.node })

  pub view_place : (x : p.Place) → place_view types x ≡ place x.line (qualified_from types x.ty) (place_node_view types x.node)
  unfolding place_view place_node_view
  view_place x =
      ap (place_view types) (sym (p.rolls-Place' (record { line = x.line; ty = x.ty; node = x.node }))) ∙ p.fold-roll-Place PlaceNode ValueNode Place
      Value (place_node_from types) (value_node_from types) (place_from types) (value_from types) (record { line = x.line; ty = x.ty; node = x.node })

  pub view_local : (n : ℕ) → place_node_view types (pn.Local n) ≡ local n
  unfolding value_node_view place_node_view value_view place_view
  view_local n = ap (place_node_view types) (sym (pn.rolls-Local n)) ∙ place_node.fold-roll-PlaceNode PlaceNode ValueNode Place Value
      (place_node_from types) (value_node_from types) (place_from types) (value_from types) (PlaceNode-F.Local n)

  pub view_static : (n : ℕ) → place_node_view types (pn.Static n) ≡ static n
  unfolding value_node_view place_node_view value_view place_view
  view_static n = ap (place_node_view types) (sym (pn.rolls-Static n)) ∙ place_node.fold-roll-PlaceNode PlaceNode ValueNode Place Value
      (place_node_from types) (value_node_from types) (place_from types) (value_from types) (PlaceNode-F.Static n)

  pub view_text : (n : ℕ) → place_node_view types (pn.Text n) ≡ text n
  unfolding value_node_view place_node_view value_view place_view
  view_text n = ap (place_node_view types) (sym (pn.rolls-Text n)) ∙ place_node.fold-roll-PlaceNode PlaceNode ValueNode Place Value
      (place_node_from types) (value_node_from types) (place_from types) (value_from types) (PlaceNode-F.Text n)

  pub view_pointed : (x : v.Value) → place_node_view types (pn.Pointed x) ≡ pointed (value_view types x)
  unfolding value_node_view place_node_view value_view place_view
  view_pointed x = ap (place_node_view types) (sym (pn.rolls-Pointed x)) ∙ place_node.fold-roll-PlaceNode PlaceNode ValueNode Place Value
      (place_node_from types) (value_node_from types) (place_from types) (value_from types) (PlaceNode-F.Pointed x)

  pub view_element : (line : ℕ) (pointer_first : Test) (x y : v.Value) → place_node_view types (pn.Element line pointer_first x y) ≡ element line
      pointer_first (value_view types x) (value_view types y)
  unfolding value_node_view place_node_view value_view place_view
  view_element line pointer_first x y = ap (place_node_view types) (sym (pn.rolls-Element line pointer_first x y)) ∙ place_node.fold-roll-PlaceNode
      PlaceNode ValueNode Place Value (place_node_from types) (value_node_from types) (place_from types) (value_from types)
      (PlaceNode-F.Element line pointer_first x y)

  pub view_constant : (n : ℕ) → value_node_view types (vn.Constant n) ≡ constant n
  unfolding value_node_view place_node_view value_view place_view
  view_constant n = ap (value_node_view types) (sym (vn.rolls-Constant n)) ∙ value_node.fold-roll-ValueNode PlaceNode ValueNode Place Value
      (place_node_from types) (value_node_from types) (place_from types) (value_from types) (ValueNode-F.Constant n)

  pub view_null : value_node_view types vn.Null ≡ null
  unfolding value_node_view place_node_view value_view place_view
  view_null = ap (value_node_view types) (sym vn.rolls-Null) ∙ value_node.fold-roll-ValueNode PlaceNode ValueNode Place Value (place_node_from types)
      (value_node_from types) (place_from types) (value_from types) ValueNode-F.Null

  pub view_read : (x : p.Place) → value_node_view types (vn.Read x) ≡ read (place_view types x)
  unfolding value_node_view place_node_view value_view place_view
  view_read x = ap (value_node_view types) (sym (vn.rolls-Read x)) ∙ value_node.fold-roll-ValueNode PlaceNode ValueNode Place Value
      (place_node_from types) (value_node_from types) (place_from types) (value_from types) (ValueNode-F.Read x)

  pub view_first_element : (x : p.Place) → value_node_view types (vn.FirstElement x) ≡ first_element (place_view types x)
  unfolding value_node_view place_node_view value_view place_view
  view_first_element x = ap (value_node_view types) (sym (vn.rolls-FirstElement x)) ∙ value_node.fold-roll-ValueNode PlaceNode ValueNode Place Value
      (place_node_from types) (value_node_from types) (place_from types) (value_from types) (ValueNode-F.FirstElement x)

  pub view_address : (x : p.Place) → value_node_view types (vn.Address x) ≡ address (place_view types x)
  unfolding value_node_view place_node_view value_view place_view
  view_address x = ap (value_node_view types) (sym (vn.rolls-Address x)) ∙ value_node.fold-roll-ValueNode PlaceNode ValueNode Place Value
      (place_node_from types) (value_node_from types) (place_from types) (value_from types) (ValueNode-F.Address x)

  pub view_function : (n : ℕ) → value_node_view types (vn.Function n) ≡ function n
  unfolding value_node_view place_node_view value_view place_view
  view_function n = ap (value_node_view types) (sym (vn.rolls-Function n)) ∙ value_node.fold-roll-ValueNode PlaceNode ValueNode Place Value
      (place_node_from types) (value_node_from types) (place_from types) (value_from types) (ValueNode-F.Function n)

  pub view_minus : (x : v.Value) → value_node_view types (vn.Minus x) ≡ minus (value_view types x)
  unfolding value_node_view place_node_view value_view place_view
  view_minus x = ap (value_node_view types) (sym (vn.rolls-Minus x)) ∙ value_node.fold-roll-ValueNode PlaceNode ValueNode Place Value
      (place_node_from types) (value_node_from types) (place_from types) (value_from types) (ValueNode-F.Minus x)

  pub view_complement : (x : v.Value) → value_node_view types (vn.Complement x) ≡ complement (value_view types x)
  unfolding value_node_view place_node_view value_view place_view
  view_complement x = ap (value_node_view types) (sym (vn.rolls-Complement x)) ∙ value_node.fold-roll-ValueNode PlaceNode ValueNode Place Value
      (place_node_from types) (value_node_from types) (place_from types) (value_from types) (ValueNode-F.Complement x)

  pub view_negation : (x : v.Value) → value_node_view types (vn.Negation x) ≡ negation (value_view types x)
  unfolding value_node_view place_node_view value_view place_view
  view_negation x = ap (value_node_view types) (sym (vn.rolls-Negation x)) ∙ value_node.fold-roll-ValueNode PlaceNode ValueNode Place Value
      (place_node_from types) (value_node_from types) (place_from types) (value_from types) (ValueNode-F.Negation x)

  pub view_requalified : (x : v.Value) → value_node_view types (vn.Requalified x) ≡ requalified (value_view types x)
  unfolding value_node_view place_node_view value_view place_view
  view_requalified x = ap (value_node_view types) (sym (vn.rolls-Requalified x)) ∙ value_node.fold-roll-ValueNode PlaceNode ValueNode Place Value
      (place_node_from types) (value_node_from types) (place_from types) (value_from types) (ValueNode-F.Requalified x)

  pub view_discarded : (x : v.Value) → value_node_view types (vn.Discarded x) ≡ discarded (value_view types x)
  unfolding value_node_view place_node_view value_view place_view
  view_discarded x = ap (value_node_view types) (sym (vn.rolls-Discarded x)) ∙ value_node.fold-roll-ValueNode PlaceNode ValueNode Place Value
      (place_node_from types) (value_node_from types) (place_from types) (value_from types) (ValueNode-F.Discarded x)

  pub view_arithmetic : (op : Op) (line : ℕ) (x y : v.Value) → value_node_view types (vn.Arithmetic op line x y) ≡ arithmetic op line
      (value_view types x) (value_view types y)
  unfolding value_node_view place_node_view value_view place_view
  view_arithmetic op line x y = ap (value_node_view types) (sym (vn.rolls-Arithmetic op line x y)) ∙ value_node.fold-roll-ValueNode PlaceNode
      ValueNode Place Value (place_node_from types) (value_node_from types) (place_from types) (value_from types) (ValueNode-F.Arithmetic op line x y)

  pub view_sum : (line : ℕ) (is_less pointer_first : Test) (x y : v.Value) → value_node_view types (vn.Sum line is_less pointer_first x y) ≡ sum line
      is_less pointer_first (value_view types x) (value_view types y)
  unfolding value_node_view place_node_view value_view place_view
  view_sum line is_less pointer_first x y = ap (value_node_view types) (sym (vn.rolls-Sum line is_less pointer_first x y)) ∙
      value_node.fold-roll-ValueNode PlaceNode ValueNode Place Value (place_node_from types) (value_node_from types) (place_from types)
      (value_from types) (ValueNode-F.Sum line is_less pointer_first x y)

  pub view_difference : (line : ℕ) (x y : v.Value) → value_node_view types (vn.Difference line x y) ≡ difference line (value_view types x) (value_view types y)
  unfolding value_node_view place_node_view value_view place_view
  view_difference line x y = ap (value_node_view types) (sym (vn.rolls-Difference line x y)) ∙ value_node.fold-roll-ValueNode PlaceNode ValueNode
      Place Value (place_node_from types) (value_node_from types) (place_from types) (value_from types) (ValueNode-F.Difference line x y)

  pub view_comparison : (op : Op) (line : ℕ) (x y : v.Value) → value_node_view types (vn.Comparison op line x y) ≡ comparison op line
      (value_view types x) (value_view types y)
  unfolding value_node_view place_node_view value_view place_view
  view_comparison op line x y = ap (value_node_view types) (sym (vn.rolls-Comparison op line x y)) ∙ value_node.fold-roll-ValueNode PlaceNode
      ValueNode Place Value (place_node_from types) (value_node_from types) (place_from types) (value_from types) (ValueNode-F.Comparison op line x y)

  pub view_conjunction : (x y : v.Value) → value_node_view types (vn.Conjunction x y) ≡ conjunction (value_view types x) (value_view types y)
  unfolding value_node_view place_node_view value_view place_view
  view_conjunction x y = ap (value_node_view types) (sym (vn.rolls-Conjunction x y)) ∙ value_node.fold-roll-ValueNode PlaceNode ValueNode Place Value
      (place_node_from types) (value_node_from types) (place_from types) (value_from types) (ValueNode-F.Conjunction x y)

  pub view_disjunction : (x y : v.Value) → value_node_view types (vn.Disjunction x y) ≡ disjunction (value_view types x) (value_view types y)
  unfolding value_node_view place_node_view value_view place_view
  view_disjunction x y = ap (value_node_view types) (sym (vn.rolls-Disjunction x y)) ∙ value_node.fold-roll-ValueNode PlaceNode ValueNode Place Value
      (place_node_from types) (value_node_from types) (place_from types) (value_from types) (ValueNode-F.Disjunction x y)

  pub view_choice : (x y z : v.Value) → value_node_view types (vn.Choice x y z) ≡ choice (value_view types x) (value_view types y) (value_view types z)
  unfolding value_node_view place_node_view value_view place_view
  view_choice x y z = ap (value_node_view types) (sym (vn.rolls-Choice x y z)) ∙ value_node.fold-roll-ValueNode PlaceNode ValueNode Place Value
      (place_node_from types) (value_node_from types) (place_from types) (value_from types) (ValueNode-F.Choice x y z)

  pub view_sequence : (xs : List v.Value) (y : v.Value) → value_node_view types (vn.Sequence xs y) ≡ sequence
      (values_from (map (value_view types) xs)) (value_view types y)
  unfolding value_node_view place_node_view value_view place_view
  view_sequence xs y = ap (value_node_view types) (sym (vn.rolls-Sequence xs y)) ∙ value_node.fold-roll-ValueNode PlaceNode ValueNode Place Value
      (place_node_from types) (value_node_from types) (place_from types) (value_from types) (ValueNode-F.Sequence xs y)

  pub view_assignment : (x : p.Place) (y : v.Value) → value_node_view types (vn.Assignment x y) ≡ assignment (place_view types x) (value_view types y)
  unfolding value_node_view place_node_view value_view place_view
  view_assignment x y = ap (value_node_view types) (sym (vn.rolls-Assignment x y)) ∙ value_node.fold-roll-ValueNode PlaceNode ValueNode Place Value
      (place_node_from types) (value_node_from types) (place_from types) (value_from types) (ValueNode-F.Assignment x y)

  pub view_update : (c : IntegerChange) (x : p.Place) (y : v.Value) → value_node_view types (vn.Update c x y) ≡ update c.is_after
      (place_view types x) c.first c.op c.at c.ty (value_view types y)
  unfolding value_node_view place_node_view value_view place_view
  view_update c x y = ap (value_node_view types) (sym (vn.rolls-Update c x y)) ∙ value_node.fold-roll-ValueNode PlaceNode ValueNode Place Value
      (place_node_from types) (value_node_from types) (place_from types) (value_from types) (ValueNode-F.Update c x y)

  pub view_move : (c : PointerChange) (x : p.Place) (y : v.Value) → value_node_view types (vn.Move c x y) ≡ move c.is_after (place_view types x)
      c.is_less c.at (value_view types y)
  unfolding value_node_view place_node_view value_view place_view
  view_move c x y = ap (value_node_view types) (sym (vn.rolls-Move c x y)) ∙ value_node.fold-roll-ValueNode PlaceNode ValueNode Place Value
      (place_node_from types) (value_node_from types) (place_from types) (value_from types) (ValueNode-F.Move c x y)

  pub view_conversion : (first : ℕ) (x : v.Value) → value_node_view types (vn.Conversion first x) ≡ conversion first (value_view types x)
  unfolding value_node_view place_node_view value_view place_view
  view_conversion first x = ap (value_node_view types) (sym (vn.rolls-Conversion first x)) ∙ value_node.fold-roll-ValueNode PlaceNode ValueNode Place
      Value (place_node_from types) (value_node_from types) (place_from types) (value_from types) (ValueNode-F.Conversion first x)

  pub view_to_bool : (first : ℕ) (x : v.Value) → value_node_view types (vn.ToBool first x) ≡ to_bool first (value_view types x)
  unfolding value_node_view place_node_view value_view place_view
  view_to_bool first x = ap (value_node_view types) (sym (vn.rolls-ToBool first x)) ∙ value_node.fold-roll-ValueNode PlaceNode ValueNode Place Value
      (place_node_from types) (value_node_from types) (place_from types) (value_from types) (ValueNode-F.ToBool first x)

  pub view_call : (line entity : ℕ) (xs : List v.Value) → value_node_view types (vn.Call line entity xs) ≡ call line entity
      (values_from (map (value_view types) xs))
  unfolding value_node_view place_node_view value_view place_view
  view_call line entity xs = ap (value_node_view types) (sym (vn.rolls-Call line entity xs)) ∙ value_node.fold-roll-ValueNode PlaceNode ValueNode
      Place Value (place_node_from types) (value_node_from types) (place_from types) (value_from types) (ValueNode-F.Call line entity xs)

  pub view_call_through : (line : ℕ) (x : v.Value) (xs : List v.Value) → value_node_view types (vn.CallThrough line x xs) ≡ call_through line
      (value_view types x) (values_from (map (value_view types) xs))
  unfolding value_node_view place_node_view value_view place_view
  view_call_through line x xs = ap (value_node_view types) (sym (vn.rolls-CallThrough line x xs)) ∙ value_node.fold-roll-ValueNode PlaceNode
      ValueNode Place Value (place_node_from types) (value_node_from types) (place_from types) (value_from types) (ValueNode-F.CallThrough line x xs)

  pub view_putchar : (line : ℕ) (x : v.Value) → value_node_view types (vn.Putchar line x) ≡ putchar line (value_view types x)
  unfolding value_node_view place_node_view value_view place_view
  view_putchar line x = ap (value_node_view types) (sym (vn.rolls-Putchar line x)) ∙ value_node.fold-roll-ValueNode PlaceNode ValueNode Place Value
      (place_node_from types) (value_node_from types) (place_from types) (value_from types) (ValueNode-F.Putchar line x)

  pub view_getchar : (line : ℕ) → value_node_view types (vn.Getchar line) ≡ getchar line
  unfolding value_node_view place_node_view value_view place_view
  view_getchar line = ap (value_node_view types) (sym (vn.rolls-Getchar line)) ∙ value_node.fold-roll-ValueNode PlaceNode ValueNode Place Value
      (place_node_from types) (value_node_from types) (place_from types) (value_from types) (ValueNode-F.Getchar line)

  pub view_exit : (line : ℕ) (x : v.Value) → value_node_view types (vn.Exit line x) ≡ exit line (value_view types x)
  unfolding value_node_view place_node_view value_view place_view
  view_exit line x = ap (value_node_view types) (sym (vn.rolls-Exit line x)) ∙ value_node.fold-roll-ValueNode PlaceNode ValueNode Place Value
      (place_node_from types) (value_node_from types) (place_from types) (value_from types) (ValueNode-F.Exit line x)
