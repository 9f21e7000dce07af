-- Expressions that only compute, and what holds of them.
use Rattle.std.specs.Prelude.{◌≡◌, IsFalse}
use Rattle.srmt_base.specs.declared.trap.SourceEnd.{SourceEnd}
use Rattle.srmt_base.specs.declared.trap.SourceEnd.TheVariants.{Exit, Trap}
use Rattle.c_typed.specs.Typed.{Place, place, local, static, text, pointed, element, Value, value, constant, null, read, first_element, address, function, minus, complement, negation, arithmetic, sum, difference, comparison, conjunction, disjunction, choice, sequence, assignment, update, move, conversion, to_bool, requalified, discarded, call, call_through, putchar, getchar, exit, Values, no_values, first_value, place_type}
use Rattle.source_meaning.specs.World.{World, Outcome, Gives, Ends, Doing}

-- an expression without calls, writes and volatile reads
unfoldable mutual
  pub IsQuiet : Value → Type 0
  IsQuiet (value line t (constant n)) = Unit {0}
  IsQuiet (value line t null) = Unit {0}
  IsQuiet (value line t (read p)) = IsFalse (place_type p).qualifiers.is_volatile × IsQuietPlace p
  IsQuiet (value line t (first_element p)) = IsQuietPlace p
  IsQuiet (value line t (address p)) = IsQuietPlace p
  IsQuiet (value line t (function n)) = Unit {0}
  IsQuiet (value line t (minus e)) = IsQuiet e
  IsQuiet (value line t (complement e)) = IsQuiet e
  IsQuiet (value line t (negation e)) = IsQuiet e
  IsQuiet (value line t (arithmetic op at a b)) = IsQuiet a × IsQuiet b
  IsQuiet (value line t (sum at is_less pointer_first a b)) = IsQuiet a × IsQuiet b
  IsQuiet (value line t (difference at a b)) = IsQuiet a × IsQuiet b
  IsQuiet (value line t (comparison op at a b)) = IsQuiet a × IsQuiet b
  IsQuiet (value line t (conjunction a b)) = IsQuiet a × IsQuiet b
  IsQuiet (value line t (disjunction a b)) = IsQuiet a × IsQuiet b
  IsQuiet (value line t (choice e a b)) = IsQuiet e × IsQuiet a × IsQuiet b
  IsQuiet (value line t (sequence dropped last)) = AreQuiet dropped × IsQuiet last
  IsQuiet (value line t (assignment p e)) = ⊥
  IsQuiet (value line t (update is_after p first op at ty e)) = ⊥
  IsQuiet (value line t (move is_after p is_less at e)) = ⊥
  IsQuiet (value line t (conversion first e)) = IsQuiet e
  IsQuiet (value line t (to_bool first e)) = IsQuiet e
  IsQuiet (value line t (requalified e)) = IsQuiet e
  IsQuiet (value line t (discarded e)) = IsQuiet e
  IsQuiet (value line t (call at n es)) = ⊥
  IsQuiet (value line t (call_through at e es)) = ⊥
  IsQuiet (value line t (putchar at e)) = ⊥
  IsQuiet (value line t (getchar at)) = ⊥
  IsQuiet (value line t (exit at e)) = ⊥

  pub IsQuietPlace : Place → Type 0
  IsQuietPlace (place line t (local n)) = Unit {0}
  IsQuietPlace (place line t (static n)) = Unit {0}
  IsQuietPlace (place line t (text n)) = Unit {0}
  IsQuietPlace (place line t (pointed e)) = IsQuiet e
  IsQuietPlace (place line t (element at pointer_first a b)) = IsQuiet a × IsQuiet b

  pub AreQuiet : Values → Type 0
  AreQuiet no_values = Unit {0}
  AreQuiet (first_value e es) = IsQuiet e × AreQuiet es

abbrev pub IsTrap : SourceEnd → Type 0
IsTrap (Exit status) = ⊥
IsTrap (Trap trap line) = Unit {0}

-- a result is given in a world as it was, or a trap ends the run without a further event
abbrev pub Leaves : {A : Type 0} → World → Outcome A → Type 0
Leaves w (Gives a after) = after ≡ w
Leaves w (Ends end events) = IsTrap end × (events ≡ w.events)

-- so it is in every world
abbrev pub OnlyComputes : {A : Type 0} → Doing A → Type 0
OnlyComputes m = (w : World) → Leaves w (m w)
