-- Values and places that are there without work: no operand is evaluated, and nothing is accessed.
use Rattle.std.specs.Prelude.{◌≡◌, ℕ, List, Option, Some, None, slice_index, false}
use Rattle.srmt_base.specs.declared.event.Event.{Event}
use Rattle.c_typed.specs.Typed.{Place, place, local, static, text, pointed, element, Value, value, constant, null, read, first_element, address, function, minus, complement, negation, arithmetic, sum, difference, comparison, conjunction, disjunction, choice, sequence, assignment, update, move, conversion, to_bool, requalified, discarded, call, call_through, putchar, getchar, exit}
use Rattle.source_meaning.specs.World.{Gives}
use Rattle.source_meaning.specs.Places.{row_of, address_in}
use Rattle.source_meaning.specs.Expressions.{location_of, value_of}
use Rattle.c_meaning.specs.declared.setting.At.{At}
use Rattle.c_meaning.specs.declared.store.Stored.{Stored}
use Rattle.c_meaning.specs.Pending.{located}
use Rattle.c_meaning.specs.Runs.{setting_of, world_of}

-- a place has operands
abbrev pub HasParts : Place → Type 0
HasParts (place line t (local n)) = ⊥
HasParts (place line t (static n)) = ⊥
HasParts (place line t (text n)) = ⊥
HasParts (place line t (pointed e)) = Unit {0}
HasParts (place line t (element at pointer_first a b)) = Unit {0}

-- a value is no constant, null pointer or function
abbrev pub HasPlan : Value → Type 0
HasPlan (value line t (constant n)) = ⊥
HasPlan (value line t null) = ⊥
HasPlan (value line t (read p)) = Unit {0}
HasPlan (value line t (first_element p)) = Unit {0}
HasPlan (value line t (address p)) = Unit {0}
HasPlan (value line t (function n)) = ⊥
HasPlan (value line t (minus e)) = Unit {0}
HasPlan (value line t (complement e)) = Unit {0}
HasPlan (value line t (negation e)) = Unit {0}
HasPlan (value line t (arithmetic op at a b)) = Unit {0}
HasPlan (value line t (sum at is_less pointer_first a b)) = Unit {0}
HasPlan (value line t (difference at a b)) = Unit {0}
HasPlan (value line t (comparison op at a b)) = Unit {0}
HasPlan (value line t (conjunction a b)) = Unit {0}
HasPlan (value line t (disjunction a b)) = Unit {0}
HasPlan (value line t (choice e a b)) = Unit {0}
HasPlan (value line t (sequence dropped last)) = Unit {0}
HasPlan (value line t (assignment p e)) = Unit {0}
HasPlan (value line t (update is_after p first op at ty e)) = Unit {0}
HasPlan (value line t (move is_after p is_less at e)) = Unit {0}
HasPlan (value line t (conversion first e)) = Unit {0}
HasPlan (value line t (to_bool first e)) = Unit {0}
HasPlan (value line t (requalified e)) = Unit {0}
HasPlan (value line t (discarded e)) = Unit {0}
HasPlan (value line t (call at n es)) = Unit {0}
HasPlan (value line t (call_through at e es)) = Unit {0}
HasPlan (value line t (putchar at e)) = Unit {0}
HasPlan (value line t (getchar at)) = Unit {0}
HasPlan (value line t (exit at e)) = Unit {0}

-- the address of a place is known, or its operands are to be evaluated
abbrev pub IsAddress : At → Stored → Place → Option ℕ → Type 0
IsAddress at w p (Some a) =
    (bound : ℕ) (es : List Event) →
    (location_of (setting_of bound at) p (world_of w es) ≡ Gives (located (setting_of bound at) p a) (world_of w es))
    × (address_in (located (setting_of bound at) p a) ≡ a)
IsAddress at w p None = HasParts p

-- a place is a local in a register, which holds this
abbrev pub IsRegister : At → Stored → Place → Option ℕ → Type 0
IsRegister at w (place line t (local n)) (Some v) = (v ≡ slice_index w.locals n) × ((bound : ℕ) → (row_of (setting_of bound at) n).is_placed ≡ false)
IsRegister at w (place line t (static n)) (Some v) = ⊥
IsRegister at w (place line t (text n)) (Some v) = ⊥
IsRegister at w (place line t (pointed e)) (Some v) = ⊥
IsRegister at w (place line t (element op pointer_first a b)) (Some v) = ⊥
IsRegister at w p None = Unit {0}

-- a value is known, or it is to be evaluated
abbrev pub IsLeaf : At → Stored → Value → Option ℕ → Type 0
IsLeaf at w e (Some v) = (bound : ℕ) (es : List Event) → value_of (setting_of bound at) e (world_of w es) ≡ Gives v (world_of w es)
IsLeaf at w e None = HasPlan e
