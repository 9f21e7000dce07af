-- What memory and the outside do for an instruction of a binary function leaves its stack and its objects standing, and brings it nearer to a turn.
use Rattle.std.proofs.Common.{◌≡◌, ℕ, ◌+◌, ◌<◌, ◌≤◌, List, [], ◌∷◌, length, Option, Some, None, Result, Ok, Err, true, false, refl, arith}
use Rattle.std.specs.Prelude.{All, IfOk, IfSome, ◌==◌, nat_le, if◌then◌else◌, find, drop, slice_index}
use Rattle.std.proofs.lemmas.List.{length-map}
use Rattle.std.proofs.lemmas.List.Elements.{All-head, All-tail, All-nil}
use Rattle.srmt_base.specs.declared.event.Event.{Event}
use Rattle.srmt_base.specs.declared.part.Part.{Part}
use Rattle.srmt_base.specs.declared.part.Part.TheVariants.{Protected, Binary}
use Rattle.srmt_base.specs.declared.trap.Trap.{Trap}
use Rattle.srmt_base.specs.declared.trap.Trap.TheVariants.{NullPointer, OutsideObject}
use Rattle.srmt_base.specs.Input.{next_byte}
use Rattle.srmt_base.specs.Objects.{Object, Objects, object_part, offset_part, pointer_to, live_at, access_in, access_of, if_passed, written_in, written, load_of, end_of, start_of}
use Rattle.srmt_base.specs.Memory.{Memory, objects_of, with_objects, part_of, part_of_number, changed, write_of, read_of, begin_in}
use Rattle.mid_code.specs.declared.program.MidProgram.{MidProgram}
use Rattle.mid_code.specs.declared.access.Access.{Access}
use Rattle.mid_code.specs.declared.access.Access.TheVariants.{Loads, Stores, VolatileLoads, VolatileStores, Opens, Closes, Puts, Gets, Exits}
use Rattle.mid_code.specs.Machine.{Activation, Machine, activations, passed, given, given_object, passed_close, part_of_function, with_top}
use Rattle.mid_code.specs.Meaning.{State, Step, On, Ends, Stuck, after_read, after_write, after_begin, after_get, reach}
use Rattle.mid_code.specs.Bounds.{to_turn}
use Rattle.mid_code.specs.Fits.{IsValue, IsWithin, HoldsValues, IsPart, IsMemory, open_count}
use Rattle.mid_code.proofs.Values.{read_small}
use Rattle.mid_code.proofs.PartsKept.{written_part}
use Rattle.mid_code.proofs.MemoryKept.{AfterBegin, live_count, began, finished}
use Rattle.mid_code.proofs.InstructionsFit.{AccessFits}
use Rattle.binary_run.specs.Binary.{BinaryState, state_with}
use Rattle.binary_run.specs.Fits.{IsBinaryMachine, FitsBinary}
use Rattle.binary_run.specs.Bounds.{left_to_run}
use Rattle.binary_run.proofs.StackFits.{same_part, top_kept, own_turn}

-- the cells of the main file's objects hold numbers of 44 bits, and the input is bytes
pub record IsSmall (shared : Objects) (input : List ℕ) : Type 0 where
  pub cells : All HoldsValues shared.live
  pub bytes : All (λ byte. byte < 256) input

-- a state that the newest function has come to by itself
pub record Follows (program : MidProgram) (m : Machine) (s : State) : Type 0 where
  pub machine : IsBinaryMachine program s.machine
  pub objects : IsPart Binary s.memory.binary
  pub opened : open_count (activations s.machine) ≤ length s.memory.binary.live
  pub function : m.top.function ≡ s.machine.top.function
  pub below : m.below ≡ s.machine.below
  pub nearer : left_to_run program s.machine < left_to_run program m

-- a step goes on, to such a state where the outside is small, or ends the run
abbrev pub IsFollowed : MidProgram → Machine → Objects → List ℕ → Step → Type 0
IsFollowed program m shared input (On s events) = IsSmall shared input → Follows program m s
IsFollowed program m shared input (Ends end events) = Unit {0}
IsFollowed program m shared input Stuck = ⊥

-- what is read is a number of 44 bits
found_holds : (number : ℕ) (objects : List Object) → All HoldsValues objects → IfSome (find (λ object. object.number == number) objects) HoldsValues
found_holds number [] all = tt
found_holds number (object ∷ objects) all =
    elim (object.number == number) as (λ b. IfSome (if b then Some object else find (λ (object : Object). object.number == number) objects) HoldsValues) [
      | true ↦ All-head HoldsValues object objects all
      | false ↦ found_holds number objects (All-tail HoldsValues object objects all)
    ]

read_in : (found : Option Object) (offset : ℕ) → IfSome found HoldsValues →
    IfOk (if_passed (λ object. slice_index object.cells offset) (access_in false found offset)) IsValue
read_in None offset holds = tt
read_in (Some object) offset holds =
    elim (nat_le (length object.cells) offset) as (λ b. IfOk (if_passed (λ (object : Object). slice_index object.cells offset) (if b then Err OutsideObject else Ok object)) IsValue) [
      | true ↦ tt
      | false ↦ read_small object.cells offset holds
    ]

load_small : (s : Objects) (pointer : ℕ) → All HoldsValues s.live → IfOk (load_of s pointer) IsValue
load_small s pointer all =
    elim (object_part pointer == 0) as (λ b. IfOk (if_passed (λ (object : Object). slice_index object.cells (offset_part pointer)) (if b then Err NullPointer else access_in false (live_at s (object_part pointer)) (offset_part pointer))) IsValue) [
      | true ↦ tt
      | false ↦ read_in (live_at s (object_part pointer)) (offset_part pointer) (found_holds (object_part pointer) s.live all)
    ]

read_by : (part : Part) (memory : Memory) (pointer : ℕ) → All HoldsValues memory.protected.live → All HoldsValues memory.binary.live →
    IfOk (load_of (objects_of part memory) pointer) IsValue
read_by Protected memory pointer protected binary = load_small memory.protected pointer protected
read_by Binary memory pointer protected binary = load_small memory.binary pointer binary

-- the binary objects after a write, which may be one of the main file's
abbrev pub Written : Objects → Memory → Type 0
Written objects memory = IsPart Binary memory.binary × (length memory.binary.live ≡ length objects.live)

wrote_by : (part : Part) (memory : Memory) (pointer value : ℕ) (r : Result Object Trap) → IsPart Binary memory.binary → IsValue value →
    IfOk (changed part memory (if_passed (λ _. written (objects_of part memory) pointer value) r)) (Written memory.binary)
wrote_by Protected memory pointer value (Ok object) h small = (h, refl)
wrote_by Protected memory pointer value (Err trap) h small = tt
wrote_by Binary memory pointer value (Ok object) h small =
    (written_part Binary memory.binary pointer value small h, length-map memory.binary.live (written_in pointer value))
wrote_by Binary memory pointer value (Err trap) h small = tt

wrote : (memory : Memory) (pointer value : ℕ) → IsPart Binary memory.binary → IsValue value → IfOk (write_of memory pointer value) (Written memory.binary)
wrote memory pointer value h small =
    wrote_by (part_of pointer) memory pointer value (access_of true (objects_of (part_of pointer) memory) pointer) h small

some_dropped : {X : Type 0} (xs : List X) → 1 ≤ length xs → length (drop 1 xs) + 1 ≡ length xs
some_dropped [] some = absurd (omega arith)
some_dropped (x ∷ xs) some = omega arith

-- memory where no object of the main file lives
abbrev alone : BinaryState → Memory
alone b = record { protected = start_of 0 1; binary = b.objects }

memory_alone : (b : BinaryState) → IsPart Binary b.objects → IsMemory (alone b)
memory_alone b h = record {
  protected = record { rising = omega arith; last = omega arith; cells = All-nil _; values = All-nil _; within = omega arith; budget = omega arith };
  binary = h;
}

module _ (program : MidProgram) (b : BinaryState) (shared : Objects) (input : List ℕ) (h : FitsBinary program b)
    (own : part_of_function program b.machine.top.function ≡ Binary) (near : to_turn program (passed b.machine.top) < to_turn program b.machine.top) where
  abbrev here : State
  here = state_with b shared input

  abbrev IsNext : Step → Type 0
  IsNext = IsFollowed program b.machine shared input

  -- the newest activation goes on by one place
  follows : (a : Activation) (memory : Memory) (rest : List ℕ) → b.machine.top.function ≡ a.function → b.machine.top.into ≡ a.into →
      to_turn program a < to_turn program b.machine.top → IsWithin program a → IsPart Binary memory.binary →
      open_count (a ∷ b.machine.below) ≤ length memory.binary.live →
      Follows program b.machine (record { machine = with_top a b.machine; memory = memory; input = rest })
  follows a memory rest function into nearer w objects opened = record {
    machine = top_kept program b.machine own h.machine a function into w;
    objects = objects;
    opened = opened;
    function = function;
    below = refl;
    nearer = omega (arith, nearer, own_turn program b.machine.top own, own_turn program a (same_part program b.machine.top a Binary function own));
  }

  read_followed : (target line : ℕ) (events : List Event) (r : Result ℕ Trap) → (IsSmall shared input → IfOk r IsValue) →
      ((value : ℕ) → IsValue value → IsWithin program (given target value b.machine.top)) → IsNext (after_read target line events here r)
  read_followed target line events (Ok value) small fits = λ outside.
      follows (given target value b.machine.top) here.memory input refl refl near (fits value (small outside)) h.objects h.opened
  read_followed target line events (Err trap) small fits = tt

  write_followed : (line : ℕ) (events : List Event) (r : Result Memory Trap) → IfOk r (Written b.objects) → IsWithin program (passed b.machine.top) →
      IsNext (after_write line events here r)
  write_followed line events (Ok memory) after fits = λ outside.
      follows (passed b.machine.top) memory input refl refl near fits after.0 (omega (arith, after.1, h.opened))
  write_followed line events (Err trap) after fits = tt

  begin_followed : (target line : ℕ) (r : Result Objects Trap) → IfOk (changed Binary (alone b) r) (AfterBegin Binary (alone b)) →
      ((number : ℕ) → IsValue (pointer_to number 0) → IsWithin program (given_object target number b.machine.top)) →
      IsNext (after_begin target line b.objects.fresh here (changed Binary here.memory r))
  begin_followed target line (Ok objects) after fits = λ outside.
      follows (given_object target b.objects.fresh b.machine.top) (record { protected = shared; binary = objects }) input refl refl near
      (fits b.objects.fresh after.small) after.kept.binary (omega (arith, after.count, h.opened))
  begin_followed target line (Err trap) after fits = tt

  open_followed : (target cells line : ℕ) → AccessFits program b.machine.top (Opens target cells) → IsNext (reach program (Opens target cells) line here)
  open_followed target cells line a =
      rw own (begin_followed target line (begin_in Binary b.objects cells) (began (alone b) Binary cells (memory_alone b h.objects) a.0) a.1)

  -- the object that ends may be one of the main file's
  ended : (part : Part) (number : ℕ) → IsPart Binary (with_objects part (alone b) (end_of (objects_of part (alone b)) number)).binary →
      live_count (alone b) ≤ live_count (with_objects part (alone b) (end_of (objects_of part (alone b)) number)) + 1 →
      (memory : Memory) → memory ≡ with_objects part here.memory (end_of (objects_of part here.memory) number) →
      IsPart Binary memory.binary × (length b.objects.live ≤ length memory.binary.live + 1)
  ended Protected number objects count memory is = rw is (h.objects, omega arith)
  ended Binary number objects count memory is = rw is (objects, omega (arith, count))

  close_followed : (number line : ℕ) → AccessFits program b.machine.top (Closes number) → IsNext (reach program (Closes number) line here)
  close_followed number line a =
      let f = finished (alone b) number (memory_alone b h.objects) in
      let after = ended (part_of_number number) number f.0.binary f.1 _ refl in
      λ outside. follows (passed_close b.machine.top) _ input refl refl near a.1 after.0
      (omega (arith, after.1, h.opened, some_dropped b.machine.top.opened a.0))

  get_followed : (target : ℕ) (rest : List ℕ) → (IsSmall shared input → All (λ byte. byte < 256) rest) →
      ((value : ℕ) → IsValue value → IsWithin program (given target value b.machine.top)) → IsNext (after_get target here (next_byte rest))
  get_followed target [] bytes fits = λ outside.
      follows (given target 4294967295 b.machine.top) here.memory [] refl refl near (fits 4294967295 (omega arith)) h.objects h.opened
  get_followed target (byte ∷ rest) bytes fits = λ outside.
      follows (given target byte b.machine.top) here.memory rest refl refl near
      (fits byte (omega (arith, All-head (λ byte. byte < 256) byte rest (bytes outside)))) h.objects h.opened

  -- one case for each access
  pub reach_followed : (access : Access) (line : ℕ) → AccessFits program b.machine.top access → IsNext (reach program access line here)
  reach_followed (Loads target pointer) line a =
      read_followed target line [] (read_of here.memory pointer) (λ outside. read_by (part_of pointer) here.memory pointer outside.cells h.objects.values) a.1
  reach_followed (Stores pointer value) line a = write_followed line [] (write_of here.memory pointer value) (wrote here.memory pointer value h.objects a.1) a.2
  reach_followed (VolatileLoads target pointer) line a =
      read_followed target line _ (read_of here.memory pointer) (λ outside. read_by (part_of pointer) here.memory pointer outside.cells h.objects.values) a.1
  reach_followed (VolatileStores pointer value) line a =
      write_followed line _ (write_of here.memory pointer value) (wrote here.memory pointer value h.objects a.1) a.2
  reach_followed (Opens target cells) line a = open_followed target cells line a
  reach_followed (Closes number) line a = close_followed number line a
  reach_followed (Puts value) line a = λ outside. follows (passed b.machine.top) here.memory input refl refl near a h.objects h.opened
  reach_followed (Gets target) line a = get_followed target input (λ outside. outside.bytes) a
  reach_followed (Exits value) line a = tt
