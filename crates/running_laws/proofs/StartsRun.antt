-- What static objects start with are values: constants, and offsets in objects and texts that a pointer can hold.
use Rattle.std.proofs.Common.{ℕ, ℤ, pos, negsuc, ◌+ℤ◌, ◌==◌, ◌^◌, ◌<◌, ◌≤◌, Bool as Test, true, false, refl, Option, Some, None, Result, Ok, Err, arith}
use Rattle.std.specs.Prelude.{if◌then◌else◌, IfOk, IsTrue, unsigned_abs, bit_xor}
use Rattle.std.proofs.lemmas.Nat.{xor_lt}
use Rattle.std.proofs.lemmas.Bool.Decides.{nat_tests}
use Rattle.srmt_base.specs.declared.ty.Ty.{Ty}
use Rattle.srmt_base.specs.declared.op.Op.TheVariants.{Sub}
use Rattle.srmt_base.specs.declared.trap.Trap.{Trap}
use Rattle.srmt_base.specs.Convert.{convert_of}
use Rattle.srmt_base.specs.Pointer.{is_offset}
use Rattle.srmt_base.proofs.Ranges.{arith_of-lt, convert_of-lt}
use Rattle.c_types.specs.Types.{CType, is_integer, ty_of}
use Rattle.c_typed.specs.declared.constant.Constant.{Constant}
use Rattle.c_typed.specs.declared.constant.Constant.TheVariants.{NoForm, Traps, Value as Known}
use Rattle.c_typed.specs.declared.program.Start.{Start}
use Rattle.c_typed.specs.declared.program.Start.TheVariants as start
use Rattle.c_typed.specs.Typed as t
use Rattle.c_typed.specs.Typed.{Place, place, Value, value, type_of}
use Rattle.c_typed.specs.Constants.{of_result, mapped, both, chosen, as_test, constant_of}
use Rattle.c_typed.specs.Starts.{offset_by, object_if, text_if, moved, moved_by, as_bool, number_if, start_of, place_start}
use Rattle.source_meaning.specs.Values.{IsValue}
use Rattle.typing_rules.proofs.LanguageNodesMade.{if_has}
use Rattle.running_laws.proofs.Running.{Runs, PlaceRuns}

-- ---- constants

abbrev pub ConstantFits : Constant → Type 0
ConstantFits NoForm = Unit {0}
ConstantFits Traps = Unit {0}
ConstantFits (Known n) = IsValue n

pub zero_fits : IsValue 0
zero_fits = omega arith

one_fits : IsValue 1
one_fits = omega arith

result_fits : (r : Result ℕ Trap) → IfOk r (λ n. n < 2 ^ 32) → ConstantFits (of_result r)
result_fits (Ok n) h = omega (arith, h)
result_fits (Err trap) h = tt

mapped_fits : (f : ℕ → Constant) (c : Constant) → ((n : ℕ) → IsValue n → ConstantFits (f n)) → ConstantFits c → ConstantFits (mapped f c)
mapped_fits f NoForm g h = tt
mapped_fits f Traps g h = tt
mapped_fits f (Known n) g h = g n h

some_fits : (f : ℕ → Constant) (c : Constant) → ((n : ℕ) → ConstantFits (f n)) → ConstantFits (mapped f c)
some_fits f NoForm g = tt
some_fits f Traps g = tt
some_fits f (Known n) g = g n

both_fits : (f : ℕ → ℕ → Constant) (a b : Constant) → ((m n : ℕ) → ConstantFits (f m n)) → ConstantFits (both f a b)
both_fits f NoForm b g = tt
both_fits f Traps NoForm g = tt
both_fits f Traps Traps g = tt
both_fits f Traps (Known n) g = tt
both_fits f (Known m) b g = some_fits (f m) b (g m)

chosen_fits : (a b c : Constant) → ConstantFits b → ConstantFits c → ConstantFits (chosen a b c)
chosen_fits a NoForm c h k = tt
chosen_fits a Traps NoForm h k = tt
chosen_fits a (Known m) NoForm h k = tt
chosen_fits NoForm Traps Traps h k = tt
chosen_fits NoForm Traps (Known n) h k = tt
chosen_fits NoForm (Known m) Traps h k = tt
chosen_fits NoForm (Known m) (Known n) h k = tt
chosen_fits Traps Traps Traps h k = tt
chosen_fits Traps Traps (Known n) h k = tt
chosen_fits Traps (Known m) Traps h k = tt
chosen_fits Traps (Known m) (Known n) h k = tt
chosen_fits (Known i) Traps Traps h k = if_has ConstantFits (i == 0) Traps Traps tt tt
chosen_fits (Known i) Traps (Known n) h k = if_has ConstantFits (i == 0) (Known n) Traps k tt
chosen_fits (Known i) (Known m) Traps h k = if_has ConstantFits (i == 0) Traps (Known m) tt h
chosen_fits (Known i) (Known m) (Known n) h k = if_has ConstantFits (i == 0) (Known n) (Known m) k h

test_fits : (c : Constant) → ConstantFits (as_test c)
test_fits c = some_fits _ c (λ n. if_has ConstantFits (n == 0) (Known 0) (Known 1) zero_fits one_fits)

flipped_fits : (n : ℕ) → IsValue n → IsValue (bit_xor n 4294967295)
flipped_fits n h = xor_lt 44 n 4294967295 h (omega arith)

pub converted_fits : (from to : Ty) (n : ℕ) → IsValue (convert_of from to n)
converted_fits from to n = omega (arith, convert_of-lt from to n)

constant_fits : (v : Value) → Runs v → ConstantFits (constant_of v)
unfolding constant_of Runs
constant_fits (value line type (t.constant n)) h = if_has ConstantFits (is_integer type) (Known n) NoForm h tt
constant_fits (value line type t.null) h = tt
constant_fits (value line type (t.read p)) h = tt
constant_fits (value line type (t.first_element p)) h = tt
constant_fits (value line type (t.address p)) h = tt
constant_fits (value line type (t.function n)) h = tt
constant_fits (value line type (t.minus e)) h = mapped_fits _ (constant_of e) (λ n v. result_fits _ (arith_of-lt Sub (ty_of type) 0 n)) (constant_fits e h.1)
constant_fits (value line type (t.complement e)) h = mapped_fits _ (constant_of e) flipped_fits (constant_fits e h.1)
constant_fits (value line type (t.negation e)) h =
    mapped_fits _ (constant_of e) (λ n v. if_has ConstantFits (n == 0) (Known 1) (Known 0) one_fits zero_fits) (constant_fits e h)
constant_fits (value line type (t.arithmetic op at a b)) h =
    both_fits _ (constant_of a) (constant_of b) (λ m n. result_fits _ (arith_of-lt op (ty_of (type_of a)) m n))
constant_fits (value line type (t.sum at is_less pointer_first a b)) h = tt
constant_fits (value line type (t.difference at a b)) h = tt
constant_fits (value line type (t.comparison op at a b)) h = tt
constant_fits (value line type (t.conjunction a b)) h = chosen_fits (constant_of a) _ (Known 0) (test_fits (constant_of b)) zero_fits
constant_fits (value line type (t.disjunction a b)) h = chosen_fits (constant_of a) (Known 1) _ one_fits (test_fits (constant_of b))
constant_fits (value line type (t.choice e a b)) h = chosen_fits (constant_of e) (constant_of a) (constant_of b) (constant_fits a h.1) (constant_fits b h.2)
constant_fits (value line type (t.sequence dropped last)) h = tt
constant_fits (value line type (t.assignment p e)) h = tt
constant_fits (value line type (t.update is_after p first op at ty e)) h = tt
constant_fits (value line type (t.move is_after p is_less at e)) h = tt
constant_fits (value line type (t.conversion first e)) h =
    mapped_fits _ (constant_of e) (λ n v. converted_fits (ty_of (type_of e)) (ty_of type) n) (constant_fits e h)
constant_fits (value line type (t.to_bool first e)) h = tt
constant_fits (value line type (t.requalified e)) h = tt
constant_fits (value line type (t.discarded e)) h = tt
constant_fits (value line type (t.call at n es)) h = tt
constant_fits (value line type (t.call_through at e es)) h = tt
constant_fits (value line type (t.putchar at e)) h = tt
constant_fits (value line type (t.getchar at)) h = tt
constant_fits (value line type (t.exit at e)) h = tt

-- ---- starts

abbrev pub StartFits : Start → Type 0
StartFits (start.Number n) = IsValue n
StartFits (start.Object n offset) = offset ≤ 65535
StartFits (start.Text n offset) = (n ≤ 1048576) × (offset ≤ 65535)
StartFits (start.Function n) = Unit {0}

abbrev pub StartIfFits : Option Start → Type 0
StartIfFits None = Unit {0}
StartIfFits (Some s) = StartFits s

number_fits : (c : Constant) → ConstantFits c → StartIfFits (number_if c)
number_fits NoForm h = tt
number_fits Traps h = tt
number_fits (Known n) h = h

as_bool_fits : (s : Option Start) → StartIfFits (as_bool s)
as_bool_fits None = tt
as_bool_fits (Some (start.Number n)) =
    if_has StartFits (n == 0) (start.Number 0) (start.Number 1) zero_fits one_fits
as_bool_fits (Some (start.Object n offset)) = one_fits
as_bool_fits (Some (start.Text n offset)) = one_fits
as_bool_fits (Some (start.Function n)) = one_fits

abbrev IsOffsetIf : Option ℕ → Type 0
IsOffsetIf None = Unit {0}
IsOffsetIf (Some n) = n ≤ 65535

offset_fits : (offset : ℕ) (amount : ℤ) → IsOffsetIf (offset_by offset amount)
offset_fits offset amount = by (pos offset +ℤ amount)
  where
    small : (z : ℤ) → IsTrue (is_offset z) → unsigned_abs z ≤ 65535
    small (pos n) h = grind (arith, nat_tests)
    small (negsuc n) h = absurd cc

    go : (z : ℤ) (test : Test) → (IsTrue test → unsigned_abs z ≤ 65535) → IsOffsetIf (if test then Some (unsigned_abs z) else None)
    go z true h = h refl
    go z false h = tt

    by : (z : ℤ) → IsOffsetIf (if is_offset z then Some (unsigned_abs z) else None)
    by z = go z (is_offset z) (small z)

object_fits : (n : ℕ) (offset : Option ℕ) → IsOffsetIf offset → StartIfFits (object_if n offset)
object_fits n None h = tt
object_fits n (Some offset) h = h

text_fits : (n : ℕ) (offset : Option ℕ) → n ≤ 1048576 → IsOffsetIf offset → StartIfFits (text_if n offset)
text_fits n None k h = tt
text_fits n (Some offset) k h = (k, h)

moved_fits : (s : Option Start) (amount : ℤ) → StartIfFits s → StartIfFits (moved s amount)
moved_fits None amount h = tt
moved_fits (Some (start.Number n)) amount h = tt
moved_fits (Some (start.Object n offset)) amount h = object_fits n _ (offset_fits offset amount)
moved_fits (Some (start.Text n offset)) amount h = text_fits n _ h.0 (offset_fits offset amount)
moved_fits (Some (start.Function n)) amount h = tt

moved_by_fits : (s : Option Start) (c : Constant) (ty : Ty) (is_less : Test) (base : CType) → StartIfFits s
    → StartIfFits (moved_by s c ty is_less base)
moved_by_fits s NoForm ty is_less base h = tt
moved_by_fits s Traps ty is_less base h = tt
moved_by_fits s (Known n) ty is_less base h = moved_fits s _ h

zero_offset : 0 ≤ 65535
zero_offset = omega arith

mutual
  unfolding start_of Runs

  pub start_fits : (v : Value) → Runs v → StartIfFits (start_of v)
  start_fits (value line type (t.constant n)) h = number_fits _ (constant_fits (value line type (t.constant n)) h)
  start_fits (value line type t.null) h = zero_fits
  start_fits (value line type (t.read p)) h = tt
  start_fits (value line type (t.first_element p)) h = place_fits p h
  start_fits (value line type (t.address p)) h = place_fits p h
  start_fits (value line type (t.function n)) h = tt
  start_fits (value line type (t.minus e)) h = number_fits _ (constant_fits (value line type (t.minus e)) h)
  start_fits (value line type (t.complement e)) h = number_fits _ (constant_fits (value line type (t.complement e)) h)
  start_fits (value line type (t.negation e)) h = number_fits _ (constant_fits (value line type (t.negation e)) h)
  start_fits (value line type (t.arithmetic op at a b)) h = number_fits _ (constant_fits (value line type (t.arithmetic op at a b)) h)
  start_fits (value line type (t.sum at is_less true a b)) h =
      moved_by_fits (start_of a) (constant_of b) (ty_of (type_of b)) is_less (type_of a) (start_fits a h.1)
  start_fits (value line type (t.sum at is_less false a b)) h =
      moved_by_fits (start_of b) (constant_of a) (ty_of (type_of a)) is_less (type_of b) (start_fits b h.2)
  start_fits (value line type (t.difference at a b)) h = tt
  start_fits (value line type (t.comparison op at a b)) h = tt
  start_fits (value line type (t.conjunction a b)) h = number_fits _ (constant_fits (value line type (t.conjunction a b)) h)
  start_fits (value line type (t.disjunction a b)) h = number_fits _ (constant_fits (value line type (t.disjunction a b)) h)
  start_fits (value line type (t.choice e a b)) h = number_fits _ (constant_fits (value line type (t.choice e a b)) h)
  start_fits (value line type (t.sequence dropped last)) h = tt
  start_fits (value line type (t.assignment p e)) h = tt
  start_fits (value line type (t.update is_after p first op at ty e)) h = tt
  start_fits (value line type (t.move is_after p is_less at e)) h = tt
  start_fits (value line type (t.conversion first e)) h = number_fits _ (constant_fits (value line type (t.conversion first e)) h)
  start_fits (value line type (t.to_bool first e)) h = as_bool_fits (start_of e)
  start_fits (value line type (t.requalified e)) h = start_fits e h
  start_fits (value line type (t.discarded e)) h = tt
  start_fits (value line type (t.call at n es)) h = tt
  start_fits (value line type (t.call_through at e es)) h = tt
  start_fits (value line type (t.putchar at e)) h = tt
  start_fits (value line type (t.getchar at)) h = tt
  start_fits (value line type (t.exit at e)) h = tt

  place_fits : (p : Place) → PlaceRuns p → StartIfFits (place_start p)
  place_fits (place line type (t.local n)) h = tt
  place_fits (place line type (t.static n)) h = zero_offset
  place_fits (place line type (t.text n)) h = (h, zero_offset)
  place_fits (place line type (t.pointed e)) h = start_fits e h
  place_fits (place line type (t.element at true a b)) h =
      moved_by_fits (start_of a) (constant_of b) (ty_of (type_of b)) false (type_of a) (start_fits a h.1)
  place_fits (place line type (t.element at false a b)) h =
      moved_by_fits (start_of b) (constant_of a) (ty_of (type_of a)) false (type_of b) (start_fits b h.2)
