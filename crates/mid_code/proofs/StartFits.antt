-- The start of a run is the entry of `main`, and fits its program.
use Rattle.std.proofs.Common.{◌≡◌, ℕ, ◌+◌, ◌-◌, ◌<◌, ◌≤◌, ◌^◌, List, [], ◌∷◌, length, Option, Some, None, Ok, Err, Bool, true, false, refl, sym, ap, ◌∙◌, subst, arith}
use Rattle.std.specs.Prelude.{All, if◌then◌else◌, ◌==◌, ◌||◌, nat_lt, nat_le, replicate, sum_by}
use Rattle.std.specs.List.{list_any}
use Rattle.std.proofs.lemmas.Bool.{ltb-false, leb-false, le-leb, ne_eqb}
use Rattle.std.proofs.lemmas.List.{length-append, length-replicate}
use Rattle.std.proofs.lemmas.List.Elements.{All-append, All-replicate, All-cons, All-nil}
use Rattle.std.proofs.lemmas.List.Sums.{sum_by-cons}
use Rattle.srmt_base.specs.declared.limits.Limits.{Limits}
use Rattle.srmt_base.specs.Objects.{Object}
use Rattle.srmt_base.specs.declared.part.Part.{Part}
use Rattle.srmt_base.specs.declared.part.Part.TheVariants.{Protected, Binary}
use Rattle.srmt_base.specs.declared.statics.Static.{Static}
use Rattle.srmt_base.specs.declared.trap.Trap.TheVariants.{Turns, Depth}
use Rattle.srmt_base.specs.Budgets.{full_budget, full_budgets, spent, with_result, enter_of}
use Rattle.srmt_base.specs.Memory.{part_if, first_number, last_number}
use Rattle.srmt_base.specs.Statics.{static_cells, static_object, static_objects, started_objects}
use Rattle.mid_code.specs.declared.program.MidFunction.{MidFunction}
use Rattle.mid_code.specs.declared.program.MidProgram.{MidProgram}
use Rattle.mid_code.specs.Program.{function_at}
use Rattle.mid_code.specs.Rules.{is_bad_static, has_bad_statics}
use Rattle.mid_code.specs.Valid.{IsValid}
use Rattle.mid_code.specs.Machine.{Activation, Machine, Entered, activation_of, entry_by, entry_in, part_of_function, one_if, live_of}
use Rattle.mid_code.specs.Start.{FitLimits, started_memory, main_activation, started_machine}
use Rattle.mid_code.specs.Meaning.{started}
use Rattle.mid_code.specs.Fits.{IsValue, HoldsValues, AreRising, IsPart, IsMemory, IsMachine, Fits, open_count}
use Rattle.mid_code.proofs.Keeping.{neither}
use Rattle.mid_code.specs.Laws.{EntersMain}
use Rattle.mid_code.proofs.MachineFits.{begins}
use Rattle.mid_code.proofs.Naming.{KeepsProgram, not_zero, main_found, whole, few_statics}

-- what the tests of a static object say
record GoodStatic (object : Static) : Type 0 where
  cells : 1 ≤ object.cells
  room : length object.values ≤ object.cells
  values : All IsValue object.values

values_small : (values : List ℕ) → list_any (λ value. nat_le (2 ^ 44) value) values ≡ false → All IsValue values
values_small [] h = All-nil IsValue
values_small (v ∷ vs) h =
    let both = neither (nat_le (2 ^ 44) v) (list_any (λ value. nat_le (2 ^ 44) value) vs) h in
    All-cons IsValue v vs (leb-false (2 ^ 44) v both.0) (values_small vs both.1)

good_static : (object : Static) → is_bad_static object ≡ false → GoodStatic object
good_static object h =
    let a = neither _ _ h in
    let b = neither (object.cells == 0 || nat_lt object.cells (length object.values)) (list_any (λ value. nat_le (2 ^ 44) value) object.values) a.0 in
    let c = neither (object.cells == 0) (nat_lt object.cells (length object.values)) b.0 in
    record {
      cells = not_zero object.cells c.0;
      room = ltb-false object.cells (length object.values) c.1;
      values = values_small object.values b.1;
    }

count_static : (number : ℕ) (object : Static) → GoodStatic object → length (static_object number object).cells ≡ object.cells
count_static number object g =
    omega (arith, g.room, length-append object.values (replicate (object.cells - length object.values) 0), length-replicate {A = ℕ} (object.cells - length object.values) 0)

-- what the objects of a part are at the start
record GoodObjects (first : ℕ) (statics : List Static) : Type 0 where
  rising : AreRising first (static_objects first statics) (first + length statics)
  cells : All (λ object. 1 ≤ length object.cells) (static_objects first statics)
  values : All HoldsValues (static_objects first statics)
  count : sum_by (λ (object : Object). length object.cells) (static_objects first statics) ≡ static_cells statics

rising_to : (least : ℕ) (objects : List Object) (fresh more : ℕ) → fresh ≡ more → AreRising least objects fresh → AreRising least objects more
rising_to least objects fresh more e h = subst (AreRising least objects) e h

good_objects : (first : ℕ) (statics : List Static) → list_any is_bad_static statics ≡ false → GoodObjects first statics
good_objects first [] h = record { rising = omega arith; cells = All-nil _; values = All-nil _; count = refl }
good_objects first (object ∷ objects) h =
    let both = neither (is_bad_static object) (list_any is_bad_static objects) h in
    let g = good_static object both.0 in
    let rest = good_objects (first + 1) objects both.1 in
    let count = count_static first object g in
    record {
      rising = (omega arith, rising_to (first + 1) (static_objects (first + 1) objects) (first + 1 + length objects) (first + length (object ∷ objects)) (omega arith) rest.rising);
      cells = All-cons (λ (o : Object). 1 ≤ length o.cells) (static_object first object) (static_objects (first + 1) objects) (omega (arith, count, g.cells)) rest.cells;
      values = All-cons HoldsValues (static_object first object) (static_objects (first + 1) objects) (All-append IsValue object.values (replicate (object.cells - length object.values) 0) g.values (All-replicate IsValue (object.cells - length object.values) 0 (omega arith))) rest.values;
      count = omega (arith, sum_by-cons (λ (o : Object). length o.cells) (static_object first object) (static_objects (first + 1) objects), sum_by-cons (λ (o : Static). o.cells) object objects, count, rest.count);
    }

started_part : (part : Part) (statics : List Static) (cells : ℕ) → has_bad_statics statics ≡ false → static_cells statics ≤ cells → cells ≤ 1048576 →
    first_number part + 1048576 ≤ last_number part → IsPart part (started_objects part statics cells)
started_part part statics cells h room limit numbers =
    let g = good_objects (first_number part) statics (neither (list_any is_bad_static statics) (nat_lt 1048576 (sum_by (λ object. object.cells) statics)) h).0 in
    record {
      rising = g.rising;
      last = omega (arith, few_statics statics h, numbers);
      cells = g.cells;
      values = g.values;
      within = omega (arith, g.count, room);
      budget = limit;
    }

memory_started : (program : MidProgram) (limits : Limits) → KeepsProgram program → FitLimits program limits → IsMemory (started_memory program limits)
memory_started program limits k fit = record {
  protected = started_part Protected program.main_statics limits.cells k.main_statics fit.main_cells fit.cells (omega arith);
  binary = started_part Binary program.binary_statics limits.cells k.binary_statics fit.binary_cells fit.cells (omega arith);
}

-- `main` is a function of the main file
pub main_part : (program : MidProgram) → KeepsProgram program → part_of_function program program.main ≡ Protected
main_part program k = ap part_if (le-leb program.main program.main_functions k.main)

-- the activation of `main`
pub main_function : (program : MidProgram) (f : Option MidFunction) → (main_activation program f).function ≡ program.main
main_function program None = refl
main_function program (Some f) = refl

-- the machine at the start, by the code of `main`
abbrev pub with_main : MidProgram → Limits → Option MidFunction → Machine
with_main program limits f =
    record { top = main_activation program f; below = []; budgets = record { protected = spent (full_budget limits); binary = full_budget limits } }

machine_with_main : (program : MidProgram) (limits : Limits) (f : MidFunction) → IsValid program → FitLimits program limits →
    function_at program program.main ≡ Some f → IsMachine program (with_main program limits (Some f))
machine_with_main program limits f valid fit found =
    let own = main_part program (whole program valid) in
    let one : live_of program Protected (activation_of program.main f [] 0 ∷ []) ≡ 1 = ap (λ p. one_if Protected p + 0) own in
    let none : live_of program Binary (activation_of program.main f [] 0 ∷ []) ≡ 0 = ap (λ p. one_if Binary p + 0) own in
    record {
      top = begins program program.main f [] 0 valid found (omega arith) (All-nil IsValue);
      below = refl;
      left = record {
        protected = record { turns = omega (arith, fit.turns); depth = omega (arith, one, fit.some_depth, fit.depth) };
        binary = record { turns = fit.turns; depth = omega (arith, none, fit.depth) };
      };
    }

pub machine_started : (program : MidProgram) (limits : Limits) → IsValid program → FitLimits program limits → IsMachine program (started_machine program limits)
machine_started program limits valid fit =
    let main = main_found program (whole program valid) in
    subst (λ f. IsMachine program (with_main program limits f)) (sym main.1) (machine_with_main program limits main.0 valid fit main.1)

none_open : (program : MidProgram) (f : Option MidFunction) → open_count (main_activation program f ∷ []) ≡ 0
none_open program None = refl
none_open program (Some f) = refl

pub fits_started : (program : MidProgram) (input : List ℕ) (limits : Limits) → IsValid program → FitLimits program limits →
    All (λ byte. byte < 256) input → Fits program (started program input limits)
fits_started program input limits valid fit bytes = record {
  machine = machine_started program limits valid fit;
  memory = memory_started program limits (whole program valid) fit;
  input = bytes;
  opened = omega (arith, none_open program (function_at program program.main));
}

-- fitting limits have a turn and an activation for `main`
entered_by_tests : (line : ℕ) (a : Activation) (limits : Limits) (deep used : Bool) → deep ≡ false → used ≡ false →
    entry_by line a [] (with_result Protected (full_budgets limits) (if deep then Err Depth else if used then Err Turns else Ok (spent (full_budget limits))))
    ≡ Entered (record { top = a; below = []; budgets = record { protected = spent (full_budget limits); binary = full_budget limits } })
entered_by_tests line a limits true used d u = absurd (cc)
entered_by_tests line a limits false true d u = absurd (cc)
entered_by_tests line a limits false false d u = refl

pub enters_main : (program : MidProgram) (limits : Limits) → IsValid program → FitLimits program limits → EntersMain program limits
enters_main program limits valid fit =
    let main = main_found program (whole program valid) in
    let own = main_part program (whole program valid) in
    let callee = activation_of program.main main.0 [] 0 in
    ap (λ f. entry_in program program.main f [] 0 [] (full_budgets limits)) main.1
    ∙ ap (λ p. entry_by main.0.line callee [] (enter_of p (full_budgets limits))) own
    ∙ entered_by_tests main.0.line callee limits (limits.depth == 0) (limits.turns == 0)
    (ne_eqb limits.depth 0 (λ e. omega (arith, e, fit.some_depth))) (ne_eqb limits.turns 0 (λ e. omega (arith, e, fit.some_turns)))
    ∙ ap (λ f. Entered (with_main program limits f)) (sym main.1)
