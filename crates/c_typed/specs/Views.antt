-- The typed tree of the code as plain data, where references stand for these types.
use Rattle.std.specs.Prelude.{List, [], ◌∷◌}
use Rattle.c_types.specs.declared.type_ref.TypeRef.{TypeRef}
use Rattle.c_types.specs.declared.type_ref.QualifiedRef.{QualifiedRef}
use Rattle.c_types.specs.Types.{CType, Qualified}
use Rattle.c_typed.specs.declared.value.Value as v
use Rattle.c_typed.specs.declared.value.Place as p
use Rattle.c_typed.specs.declared.value.PlaceNode.{PlaceNode-F}
use Rattle.c_typed.specs.declared.value.ValueNode.{ValueNode-F}
use Rattle.c_typed.specs.declared.value.PlaceNode as place_node
use Rattle.c_typed.specs.declared.value.ValueNode as value_node
use Rattle.c_typed.specs.Typed.{Place, place, PlaceNode, local, static, text, pointed, element, Value, value, ValueNode, Values, no_values, first_value, constant, null, read, first_element, address, function, minus, complement, negation, arithmetic, sum, difference, comparison, conjunction, disjunction, choice, sequence, assignment, update, move, conversion, to_bool, requalified, discarded, call, call_through, putchar, getchar, exit}

abbrev pub values_from : List Value → Values
values_from [] = no_values
values_from (x ∷ rest) = first_value x (values_from rest)

module _ (types : TypeRef → CType) where
  abbrev pub qualified_from : QualifiedRef → Qualified
  qualified_from q = record { qualifiers = q.qualifiers; type = types q.target }

  abbrev pub place_node_from : PlaceNode-F PlaceNode ValueNode Place Value → PlaceNode
  place_node_from (PlaceNode-F.Local n) = local n
  place_node_from (PlaceNode-F.Static n) = static n
  place_node_from (PlaceNode-F.Text n) = text n
  place_node_from (PlaceNode-F.Pointed x) = pointed x
  place_node_from (PlaceNode-F.Element at pointer_first x y) = element at pointer_first x y

  abbrev pub value_node_from : ValueNode-F PlaceNode ValueNode Place Value → ValueNode
  value_node_from (ValueNode-F.Constant n) = constant n
  value_node_from ValueNode-F.Null = null
  value_node_from (ValueNode-F.Read x) = read x
  value_node_from (ValueNode-F.FirstElement x) = first_element x
  value_node_from (ValueNode-F.Address x) = address x
  value_node_from (ValueNode-F.Function n) = function n
  value_node_from (ValueNode-F.Minus x) = minus x
  value_node_from (ValueNode-F.Complement x) = complement x
  value_node_from (ValueNode-F.Negation x) = negation x
  value_node_from (ValueNode-F.Arithmetic op at x y) = arithmetic op at x y
  value_node_from (ValueNode-F.Sum at is_less pointer_first x y) = sum at is_less pointer_first x y
  value_node_from (ValueNode-F.Difference at x y) = difference at x y
  value_node_from (ValueNode-F.Comparison op at x y) = comparison op at x y
  value_node_from (ValueNode-F.Conjunction x y) = conjunction x y
  value_node_from (ValueNode-F.Disjunction x y) = disjunction x y
  value_node_from (ValueNode-F.Choice x y z) = choice x y z
  value_node_from (ValueNode-F.Sequence xs y) = sequence (values_from xs) y
  value_node_from (ValueNode-F.Assignment x y) = assignment x y
  value_node_from (ValueNode-F.Update c x y) = update c.is_after x c.first c.op c.at c.ty y
  value_node_from (ValueNode-F.Move c x y) = move c.is_after x c.is_less c.at y
  value_node_from (ValueNode-F.Conversion first x) = conversion first x
  value_node_from (ValueNode-F.ToBool first x) = to_bool first x
  value_node_from (ValueNode-F.Requalified x) = requalified x
  value_node_from (ValueNode-F.Discarded x) = discarded x
  value_node_from (ValueNode-F.Call at n xs) = call at n (values_from xs)
  value_node_from (ValueNode-F.CallThrough at x xs) = call_through at x (values_from xs)
  value_node_from (ValueNode-F.Putchar at x) = putchar at x
  value_node_from (ValueNode-F.Getchar at) = getchar at
  value_node_from (ValueNode-F.Exit at x) = exit at x

  abbrev pub place_from : p.Place-F PlaceNode ValueNode Place Value → Place
  place_from x = place x.line (qualified_from x.ty) x.node

  abbrev pub value_from : v.Value-F PlaceNode ValueNode Place Value → Value
  value_from x = value x.line (types x.ty) x.node

  unfoldable pub value_view : v.Value → Value
  value_view = v.fold-Value PlaceNode ValueNode Place Value place_node_from value_node_from place_from value_from

  unfoldable pub place_view : p.Place → Place
  place_view = p.fold-Place PlaceNode ValueNode Place Value place_node_from value_node_from place_from value_from

  unfoldable pub value_node_view : value_node.ValueNode → ValueNode
  value_node_view = value_node.fold-ValueNode PlaceNode ValueNode Place Value place_node_from value_node_from place_from value_from

  unfoldable pub place_node_view : place_node.PlaceNode → PlaceNode
  place_node_view = place_node.fold-PlaceNode PlaceNode ValueNode Place Value place_node_from value_node_from place_from value_from
