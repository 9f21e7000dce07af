-- What an expression asks for so that it can run: operands of the types that each operator asks for, and constants and
-- texts with numbers that are not too large.
use Rattle.std.specs.Prelude.{◌≤◌, IsTrue}
use Rattle.srmt_base.specs.Types.{IsPromoted}
use Rattle.srmt_base.specs.Arith.{is_comparison}
use Rattle.c_typed.specs.Typed as t
use Rattle.c_typed.specs.Typed.{Place, place, PlaceNode, Value, value, ValueNode, Values, no_values, first_value, type_of, place_type}
use Rattle.source_meaning.specs.Values.{IsValue, HasValues, HasPlace, HaveValues}
use Rattle.source_meaning.specs.Sound.{HasScale, IsComputedAt, pointer_of, HasOperands, PlaceHasOperands, HaveOperands}

unfoldable mutual
  pub Runs : Value → Type 0
  Runs (value line type node) = NodeRuns node

  pub PlaceRuns : Place → Type 0
  PlaceRuns (place line type node) = PlaceNodeRuns node

  pub PlaceNodeRuns : PlaceNode → Type 0
  PlaceNodeRuns (t.local n) = Unit {0}
  PlaceNodeRuns (t.static n) = Unit {0}
  PlaceNodeRuns (t.text n) = n ≤ 1048576
  PlaceNodeRuns (t.pointed e) = Runs e
  PlaceNodeRuns (t.element at pointer_first a b) = HasScale (type_of (pointer_of pointer_first a b)) × Runs a × Runs b

  pub NodeRuns : ValueNode → Type 0
  NodeRuns (t.constant n) = IsValue n
  NodeRuns t.null = Unit {0}
  NodeRuns (t.read p) = PlaceRuns p
  NodeRuns (t.first_element p) = PlaceRuns p
  NodeRuns (t.address p) = PlaceRuns p
  NodeRuns (t.function n) = Unit {0}
  NodeRuns (t.minus e) = IsComputedAt (type_of e) × Runs e
  NodeRuns (t.complement e) = IsComputedAt (type_of e) × Runs e
  NodeRuns (t.negation e) = Runs e
  NodeRuns (t.arithmetic op at a b) = IsComputedAt (type_of a) × Runs a × Runs b
  NodeRuns (t.sum at is_less pointer_first a b) = HasScale (type_of (pointer_of pointer_first a b)) × Runs a × Runs b
  NodeRuns (t.difference at a b) = HasScale (type_of a) × Runs a × Runs b
  NodeRuns (t.comparison op at a b) = IsTrue (is_comparison op) × Runs a × Runs b
  NodeRuns (t.conjunction a b) = Runs a × Runs b
  NodeRuns (t.disjunction a b) = Runs a × Runs b
  NodeRuns (t.choice e a b) = Runs e × Runs a × Runs b
  NodeRuns (t.sequence dropped last) = AllRun dropped × Runs last
  NodeRuns (t.assignment p e) = PlaceRuns p × Runs e
  NodeRuns (t.update is_after p first op at ty e) = IsPromoted ty × PlaceRuns p × Runs e
  NodeRuns (t.move is_after p is_less at e) = HasScale (place_type p).type × PlaceRuns p × Runs e
  NodeRuns (t.conversion first e) = Runs e
  NodeRuns (t.to_bool first e) = Runs e
  NodeRuns (t.requalified e) = Runs e
  NodeRuns (t.discarded e) = Runs e
  NodeRuns (t.call at n es) = AllRun es
  NodeRuns (t.call_through at e es) = Runs e × AllRun es
  NodeRuns (t.putchar at e) = Runs e
  NodeRuns (t.getchar at) = Unit {0}
  NodeRuns (t.exit at e) = Runs e

  pub AllRun : Values → Type 0
  AllRun no_values = Unit {0}
  AllRun (first_value e es) = Runs e × AllRun es

-- ---- what the meaning of programs asks for

mutual
  unfolding Runs HasOperands

  pub has_operands : (v : Value) → Runs v → HasOperands v
  has_operands (value line type (t.constant n)) h = tt
  has_operands (value line type t.null) h = tt
  has_operands (value line type (t.read p)) h = place_has_operands p h
  has_operands (value line type (t.first_element p)) h = place_has_operands p h
  has_operands (value line type (t.address p)) h = place_has_operands p h
  has_operands (value line type (t.function n)) h = tt
  has_operands (value line type (t.minus e)) h = (h.0, has_operands e h.1)
  has_operands (value line type (t.complement e)) h = (h.0, has_operands e h.1)
  has_operands (value line type (t.negation e)) h = has_operands e h
  has_operands (value line type (t.arithmetic op at a b)) h = (h.0, has_operands a h.1, has_operands b h.2)
  has_operands (value line type (t.sum at is_less pointer_first a b)) h = (h.0, has_operands a h.1, has_operands b h.2)
  has_operands (value line type (t.difference at a b)) h = (h.0, has_operands a h.1, has_operands b h.2)
  has_operands (value line type (t.comparison op at a b)) h = (h.0, has_operands a h.1, has_operands b h.2)
  has_operands (value line type (t.conjunction a b)) h = (has_operands a h.0, has_operands b h.1)
  has_operands (value line type (t.disjunction a b)) h = (has_operands a h.0, has_operands b h.1)
  has_operands (value line type (t.choice e a b)) h = (has_operands e h.0, has_operands a h.1, has_operands b h.2)
  has_operands (value line type (t.sequence dropped last)) h = (have_operands dropped h.0, has_operands last h.1)
  has_operands (value line type (t.assignment p e)) h = (place_has_operands p h.0, has_operands e h.1)
  has_operands (value line type (t.update is_after p first op at ty e)) h = (h.0, place_has_operands p h.1, has_operands e h.2)
  has_operands (value line type (t.move is_after p is_less at e)) h = (h.0, place_has_operands p h.1, has_operands e h.2)
  has_operands (value line type (t.conversion first e)) h = has_operands e h
  has_operands (value line type (t.to_bool first e)) h = has_operands e h
  has_operands (value line type (t.requalified e)) h = has_operands e h
  has_operands (value line type (t.discarded e)) h = has_operands e h
  has_operands (value line type (t.call at n es)) h = have_operands es h
  has_operands (value line type (t.call_through at e es)) h = (has_operands e h.0, have_operands es h.1)
  has_operands (value line type (t.putchar at e)) h = has_operands e h
  has_operands (value line type (t.getchar at)) h = tt
  has_operands (value line type (t.exit at e)) h = has_operands e h

  place_has_operands : (p : Place) → PlaceRuns p → PlaceHasOperands p
  place_has_operands (place line type (t.local n)) h = tt
  place_has_operands (place line type (t.static n)) h = tt
  place_has_operands (place line type (t.text n)) h = h
  place_has_operands (place line type (t.pointed e)) h = has_operands e h
  place_has_operands (place line type (t.element at pointer_first a b)) h = (h.0, has_operands a h.1, has_operands b h.2)

  have_operands : (vs : Values) → AllRun vs → HaveOperands vs
  have_operands no_values h = tt
  have_operands (first_value e es) h = (has_operands e h.0, have_operands es h.1)

mutual
  unfolding Runs HasValues

  pub has_values : (v : Value) → Runs v → HasValues v
  has_values (value line type (t.constant n)) h = h
  has_values (value line type t.null) h = tt
  has_values (value line type (t.read p)) h = place_has_values p h
  has_values (value line type (t.first_element p)) h = place_has_values p h
  has_values (value line type (t.address p)) h = place_has_values p h
  has_values (value line type (t.function n)) h = tt
  has_values (value line type (t.minus e)) h = has_values e h.1
  has_values (value line type (t.complement e)) h = has_values e h.1
  has_values (value line type (t.negation e)) h = has_values e h
  has_values (value line type (t.arithmetic op at a b)) h = (has_values a h.1, has_values b h.2)
  has_values (value line type (t.sum at is_less pointer_first a b)) h = (has_values a h.1, has_values b h.2)
  has_values (value line type (t.difference at a b)) h = (has_values a h.1, has_values b h.2)
  has_values (value line type (t.comparison op at a b)) h = (has_values a h.1, has_values b h.2)
  has_values (value line type (t.conjunction a b)) h = (has_values a h.0, has_values b h.1)
  has_values (value line type (t.disjunction a b)) h = (has_values a h.0, has_values b h.1)
  has_values (value line type (t.choice e a b)) h = (has_values e h.0, has_values a h.1, has_values b h.2)
  has_values (value line type (t.sequence dropped last)) h = (have_values dropped h.0, has_values last h.1)
  has_values (value line type (t.assignment p e)) h = (place_has_values p h.0, has_values e h.1)
  has_values (value line type (t.update is_after p first op at ty e)) h = (place_has_values p h.1, has_values e h.2)
  has_values (value line type (t.move is_after p is_less at e)) h = (place_has_values p h.1, has_values e h.2)
  has_values (value line type (t.conversion first e)) h = has_values e h
  has_values (value line type (t.to_bool first e)) h = has_values e h
  has_values (value line type (t.requalified e)) h = has_values e h
  has_values (value line type (t.discarded e)) h = has_values e h
  has_values (value line type (t.call at n es)) h = have_values es h
  has_values (value line type (t.call_through at e es)) h = (has_values e h.0, have_values es h.1)
  has_values (value line type (t.putchar at e)) h = has_values e h
  has_values (value line type (t.getchar at)) h = tt
  has_values (value line type (t.exit at e)) h = has_values e h

  place_has_values : (p : Place) → PlaceRuns p → HasPlace p
  place_has_values (place line type (t.local n)) h = tt
  place_has_values (place line type (t.static n)) h = tt
  place_has_values (place line type (t.text n)) h = h
  place_has_values (place line type (t.pointed e)) h = has_values e h
  place_has_values (place line type (t.element at pointer_first a b)) h = (has_values a h.1, has_values b h.2)

  have_values : (vs : Values) → AllRun vs → HaveValues vs
  have_values no_values h = tt
  have_values (first_value e es) h = (has_values e h.0, have_values es h.1)
