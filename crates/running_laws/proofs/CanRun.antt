-- That every typed program can run: what its names stand for and what its objects start with are values.
use Rattle.std.proofs.Common.{◌≡◌, ℕ, zero, suc, ◌+◌, ◌==◌, ◌^◌, ◌<◌, ◌≤◌, List, [], ◌∷◌, ◌++◌, length, refl, sym, subst, Option, Some, None, arith}
use Rattle.std.specs.Prelude.{slice_get}
use Rattle.srmt_base.specs.declared.part.Part.{Part}
use Rattle.srmt_base.specs.declared.part.Part.TheVariants.{Protected, Binary}
use Rattle.c_typed.specs.declared.program.Numbered.{Numbered}
use Rattle.c_typed.specs.declared.program.Numbered.TheVariants as numbered
use Rattle.c_typed.specs.declared.program.Start.{Start}
use Rattle.c_typed.specs.declared.program.Start.TheVariants as start
use Rattle.c_typed.specs.declared.program.StartCell.{StartCell}
use Rattle.c_typed.specs.Statements.{Function, Static, TypedFile, Program, function_from, static_from, or_function, or_object, numbered_in, numbers_from, first_binary_object}
use Rattle.source_meaning.specs.Places.{function_at, value_of_entity, file_of, address_of_text}
use Rattle.source_meaning.specs.Start.{start_value}
use Rattle.source_meaning.specs.Values.{IsValue, CellsStart, StaticsStart}
use Rattle.source_meaning.specs.Sound.{CanRun}
use Rattle.typing_rules.specs.SourceUnits.{Unit as SourceUnit}
use Rattle.typing_rules.specs.Known.{main_file}
use Rattle.typing_rules.specs.UnitRules.{nothing_known}
use Rattle.typing_rules.specs.TypingUnits.{Types}
use Rattle.typing_rules.specs.Laws.{Each}
use Rattle.typing_rules.proofs.Exactness.{some_same}
use Rattle.typing_rules.proofs.Keeping.{each_append}
use Rattle.typing_rules.proofs.LanguageNodesMade.{if_has}
use Rattle.typing_laws.specs.HasItems.{HaveItems}
use Rattle.running_laws.specs.HasNumbers.{HaveNumbers}
use Rattle.running_laws.proofs.StartsRun.{StartFits}
use Rattle.running_laws.proofs.Linkage.{Fit}
use Rattle.running_laws.proofs.RunningStatements.{items_have_operands, items_have_values}
use Rattle.running_laws.proofs.FunctionsRun.{FunctionRuns}
use Rattle.running_laws.proofs.FilesRun.{StaticFits, FileRuns, file_so, nothing_at, binary_so}

-- ---- numbers of functions and objects

abbrev IsAtMost : ℕ → Option ℕ → Type 0
IsAtMost bound None = Unit {0}
IsAtMost bound (Some n) = n ≤ bound

at_most_more : (a b : ℕ) (o : Option ℕ) → a ≤ b → IsAtMost a o → IsAtMost b o
at_most_more a b None le h = tt
at_most_more a b (Some n) le h = omega (arith, le, h)

function_at_most : (entity n : ℕ) (fs : List Function) → IsAtMost (n + length fs) (function_from entity n fs)
function_at_most entity n [] = tt
function_at_most entity n (f ∷ rest) =
    if_has (IsAtMost (n + suc (length rest))) (entity == f.entity) (Some n) (function_from entity (suc n) rest) (omega arith)
    (at_most_more (suc n + length rest) (n + suc (length rest)) (function_from entity (suc n) rest) (omega arith) (function_at_most entity (suc n) rest))

static_at_most : (entity n : ℕ) (ss : List Static) → IsAtMost (n + length ss) (static_from entity n ss)
static_at_most entity n [] = tt
static_at_most entity n (s ∷ rest) =
    if_has (IsAtMost (n + suc (length rest))) (entity == s.entity) (Some n) (static_from entity (suc n) rest) (omega arith)
    (at_most_more (suc n + length rest) (n + suc (length rest)) (static_from entity (suc n) rest) (omega arith) (static_at_most entity (suc n) rest))

-- the numbers that there are
abbrev IsFew : Numbered → Type 0
IsFew (numbered.Function n) = n ≤ 8193
IsFew (numbered.Object n) = n ≤ 135266304
IsFew numbered.Nowhere = Unit {0}

few_function : (o : Option ℕ) (other : Numbered) → IsAtMost 8193 o → IsFew other → IsFew (or_function o other)
few_function None other h k = k
few_function (Some n) other h k = h

few_object : (o : Option ℕ) (other : Numbered) → IsAtMost 135266304 o → IsFew other → IsFew (or_object o other)
few_object None other h k = k
few_object (Some n) other h k = h

abbrev IsFewIf : Option Numbered → Type 0
IsFewIf None = Unit {0}
IsFewIf (Some x) = IsFew x

module _ (a b : TypedFile) (first : FileRuns a) (second : FileRuns b) where
  numbered_few : (entity : ℕ) → IsFew (numbered_in a b entity)
  numbered_few entity =
      few_function (function_from entity 1 a.functions) _
      (at_most_more (1 + length a.functions) 8193 (function_from entity 1 a.functions) (omega (arith, first.few_functions))
      (function_at_most entity 1 a.functions))
      (few_function (function_from entity (suc (length a.functions)) b.functions) _
      (at_most_more (suc (length a.functions) + length b.functions) 8193 (function_from entity (suc (length a.functions)) b.functions)
      (omega (arith, first.few_functions, second.few_functions)) (function_at_most entity (suc (length a.functions)) b.functions))
      (few_object (static_from entity 1 a.statics) _
      (at_most_more (1 + length a.statics) 135266304 (static_from entity 1 a.statics) (omega (arith, first.few_statics))
      (static_at_most entity 1 a.statics))
      (few_object (static_from entity first_binary_object b.statics) numbered.Nowhere
      (at_most_more (first_binary_object + length b.statics) 135266304 (static_from entity first_binary_object b.statics)
      (omega (arith, second.few_statics)) (static_at_most entity first_binary_object b.statics)) tt)))

  numbers_few : (entity many n : ℕ) → IsFewIf (slice_get (numbers_from a b entity many) n)
  numbers_few entity zero n = tt
  numbers_few entity (suc many) zero = numbered_few entity
  numbers_few entity (suc many) (suc n) = numbers_few (suc entity) many n

-- ---- what names stand for

-- the address of an object's last cell, and of one behind it, is a value too
value_small : (program : Program) (n : ℕ) → IsFewIf (slice_get program.entities n) → value_of_entity program n + 65535 < 2 ^ 44
value_small program n h = by (slice_get program.entities n) refl
  where
    by : (o : Option Numbered) → slice_get program.entities n ≡ o → value_of_entity program n + 65535 < 2 ^ 44
    by None e = rw e (omega arith)
    by (Some (numbered.Function m)) e = let few : m ≤ 8193 = subst IsFewIf e h in rw e (omega (arith, few))
    by (Some (numbered.Object m)) e = let few : m ≤ 135266304 = subst IsFewIf e h in rw e (omega (arith, few))
    by (Some numbered.Nowhere) e = rw e (omega arith)

text_small : (program : Program) (part : Part) (n offset : ℕ) → length (file_of part program).statics ≤ 1048576 → n ≤ 1048576 → offset ≤ 65535
    → IsValue (address_of_text part program n + offset)
text_small program Protected n offset s h k = omega (arith, s, h, k)
text_small program Binary n offset s h k = omega (arith, s, h, k)

-- ---- what static objects start with

module _ (program : Program) (part : Part) (few : (n : ℕ) → IsFewIf (slice_get program.entities n))
    (statics : length (file_of part program).statics ≤ 1048576) where
  start_small : (s : Start) → StartFits s → IsValue (start_value program part s)
  start_small (start.Number n) h = h
  start_small (start.Object n offset) h = let v = value_small program n (few n) in omega (arith, v, h)
  start_small (start.Text n offset) h = text_small program part n offset statics h.0 h.1
  start_small (start.Function n) h = let v = value_small program n (few n) in omega (arith, v)

  cells_start : (cells : List StartCell) → Fit cells → CellsStart program part cells
  cells_start [] h = tt
  cells_start (c ∷ rest) h = (start_small c.start h.0, cells_start rest h.1)

  statics_start : (ss : List Static) → Each StaticFits ss → StaticsStart program part ss
  statics_start [] h = tt
  statics_start (s ∷ rest) h = (cells_start s.cells h.0, statics_start rest h.1)

-- ---- functions

each_got : {A : Type 0} (P : A → Type 0) (xs : List A) (n : ℕ) (x : A) → Each P xs → slice_get xs n ≡ Some x → P x
each_got P [] n x h e = absurd cc
each_got P (y ∷ ys) zero x h e = subst P (some_same y x e) h.0
each_got P (y ∷ ys) (suc n) x h e = each_got P ys n x h.1 e

function_runs : (program : Program) → Each FunctionRuns program.main_file.functions → Each FunctionRuns program.binary_file.functions
    → (number : ℕ) (f : Function)
    → function_at program number ≡ Some f → FunctionRuns f
function_runs program a b zero f e = absurd cc
function_runs program a b (suc before) f e =
    each_got FunctionRuns (program.main_file.functions ++ program.binary_file.functions) before f
    (each_append FunctionRuns program.main_file.functions program.binary_file.functions a b) e

-- ---- programs

files_can_run : (a b : TypedFile) (many main : ℕ) → FileRuns a → FileRuns b
    → CanRun (record { main_file = a; binary_file = b; entities = numbers_from a b 0 many; main = main })
files_can_run a b many main first second =
    let program : Program = record { main_file = a; binary_file = b; entities = numbers_from a b 0 many; main = main } in
    let few : (n : ℕ) → IsFewIf (slice_get program.entities n) = numbers_few a b first second 0 many in
    let runs = function_runs program first.functions second.functions in
    record {
      values = record {
        names = record {
          entities = λ n. let v = value_small program n (few n) in omega (arith, v);
          main_statics = first.few_statics;
          binary_statics = second.few_statics;
        };
        bodies = λ number f e. items_have_values f.body (runs number f e).body;
      };
      functions = λ number f e.
          let r = runs number f e in record { locals = r.locals; body = items_have_operands f.body r.body };
      main_file = record {
        statics = first.statics;
        texts = first.texts;
        starts = statics_start program Protected few first.few_statics a.statics first.starts;
      };
      binary_file = record {
        statics = second.statics;
        texts = second.texts;
        starts = statics_start program Binary few second.few_statics b.statics second.starts;
      };
    }

pub can_run : (main : SourceUnit) (other : Option SourceUnit) (program : Program) → HaveItems main other → HaveNumbers main other
    → Types main other program → CanRun program
unfolding Types
can_run main other program items numbers h =
    let p = h.1 in
    let first = file_so main_file main items.0 numbers.0 p.of nothing_known p.between p.first nothing_at in
    let second = binary_so first.many other items.1 numbers.1 p.second.of p.between p.second.between p.second.first first.at in
    let found = p.second.second.second in
    let counted = found.second.second in
    subst CanRun (sym counted.second.0) (files_can_run p.of p.second.of counted.of found.of first.runs second)
