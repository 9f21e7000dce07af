-- Programs whose meaning is computed by the definition.
use Rattle.std.proofs.Common.{◌≡◌, ℕ, List, [], ◌∷◌, true, false, Some, refl}
use Rattle.srmt_base.specs.declared.event.Event.{Event}
use Rattle.srmt_base.specs.declared.event.Event.TheVariants.{Byte, Exit as ExitEvent}
use Rattle.srmt_base.specs.declared.limits.Limits.{Limits}
use Rattle.srmt_base.specs.declared.op.Op.TheVariants as o
use Rattle.srmt_base.specs.declared.trap.Trap.TheVariants as trap
use Rattle.srmt_base.specs.declared.trap.SourceEnd.{SourceEnd}
use Rattle.srmt_base.specs.declared.trap.SourceEnd.TheVariants.{Exit as ExitEnd, Trap as TrapEnd}
use Rattle.srmt_base.specs.declared.ty.Ty.TheVariants.{Int}
use Rattle.c_types.specs.Types.{CType, integer, pointer, array, returning, plain, unqualified}
use Rattle.c_typed.specs.declared.program.Numbered.{Numbered}
use Rattle.c_typed.specs.declared.program.Numbered.TheVariants as numbered
use Rattle.c_typed.specs.Typed.{Place, place, local, static, pointed, element, Value, value, constant, read, first_element, address, arithmetic, assignment, call, putchar, no_values}
use Rattle.c_typed.specs.Statements.{scalar, Items, Stmt, expression, while, return, no_items, declaration, statement, LocalRow, Function, Static, Program}
use Rattle.source_meaning.specs.Expressions.{value_of}
use Rattle.source_meaning.specs.Statements.{executes}
use Rattle.source_meaning.specs.Calls.{calls}
use Rattle.source_meaning.specs.Start.{Behaviour, means}

-- all that the definition computes with
running : Unit {0}
unfolding means calls executes value_of
running = tt

-- ---- short forms

abbrev int : CType
int = integer Int

abbrev to_int : CType
to_int = pointer plain int

abbrev number : ℕ → ℕ → Value
number line n = value line int (constant n)

-- a local `int`, or a local pointer to one, and what it holds
abbrev local_int : ℕ → ℕ → Place
local_int line n = place line (unqualified int) (local n)

abbrev local_pointer : ℕ → ℕ → Place
local_pointer line n = place line (unqualified to_int) (local n)

abbrev held_int : ℕ → ℕ → Value
held_int line n = value line int (read (local_int line n))

abbrev held_pointer : ℕ → ℕ → Value
held_pointer line n = value line to_int (read (local_pointer line n))

-- `*p`
abbrev target : ℕ → ℕ → Value
target line n = value line int (read (place line (unqualified int) (pointed (held_pointer line n))))

abbrev plus : ℕ → Value → Value → Value
plus line a b = value line int (arithmetic o.Add line a b)

abbrev below : ℕ → Value → Value → Value
below line a b = value line int (arithmetic o.Lt line a b)

abbrev sets : ℕ → ℕ → Value → Stmt
sets line n e = expression line (value line int (assignment (local_int line n) e))

abbrev puts : ℕ → Value → Stmt
puts line e = expression line (value line int (putchar line e))

abbrev declares : ℕ → Value → Items → Items
declares n e rest = declaration (record { number = n; initializer = Some (scalar e) } ∷ []) rest

abbrev returning_value : ℕ → Value → Items
returning_value line e = statement (return line (Some e)) no_items

-- a local in a register, and one in memory
abbrev in_register : ℕ → CType → LocalRow
in_register line t = record { line = line; first = line; type = unqualified t; is_placed = false }

abbrev in_memory : ℕ → CType → LocalRow
in_memory line t = record { line = line; first = line; type = unqualified t; is_placed = true }

-- a function without parameters
abbrev function_of : ℕ → ℕ → CType → List LocalRow → Items → ℕ → Function
function_of entity line result locals body end =
    record {
      entity = entity;
      line = line;
      type = returning plain result;
      parameters = 0;
      locals = locals;
      begin = line;
      body = body;
      end = end;
    }

-- a program of a main file alone, whose first entity is `main`
abbrev program_of : List Function → List Static → List Numbered → Program
program_of functions statics entities =
    record {
      main_file = record { functions = functions; statics = statics; texts = [] };
      binary_file = record { functions = []; statics = []; texts = [] };
      entities = entities;
      main = 0;
    }

abbrev turns : ℕ → Limits
turns n = record { turns = n; depth = 1000; cells = 1048576 }

abbrev many : Limits
many = turns 100000000

abbrev ends : List Event → SourceEnd → Behaviour
ends events end = record { events = events; end = end }

-- ---- `int main(void){return 0;}`

abbrev nothing : Program
nothing = program_of (function_of 0 1 int [] (returning_value 1 (number 1 0)) 1 ∷ []) [] (numbered.Function 1 ∷ [])

nothing_is_done : means nothing [] many ≡ ends (ExitEvent 0 ∷ []) (ExitEnd 0)
unfolding running
nothing_is_done = refl

-- ---- `int main(void) { | int x = 2147483647; putchar(79); | x = x + 1; | return x; | }`

abbrev overflowing : Program
overflowing =
    program_of
    (function_of 0 1 int (in_register 2 int ∷ [])
    (declares 0 (number 2 2147483647)
    (statement (puts 2 (number 2 79))
    (statement (sets 3 0 (plus 3 (held_int 3 0) (number 3 1)))
    (returning_value 4 (held_int 4 0))))) 5
    ∷ [])
    []
    (numbered.Function 1 ∷ [])

a_sum_overflows : means overflowing [] many ≡ ends (Byte 79 ∷ []) (TrapEnd trap.Overflow 3)
unfolding running
a_sum_overflows = refl

-- ---- `int a[4]; | int main(void) { | int *p = &a[4]; | return *p; | }`

abbrev past_the_end : Program
past_the_end =
    program_of
    (function_of 0 2 int (in_register 3 to_int ∷ [])
    (declares 0
    (value 3 to_int
    (address
    (place 3 (unqualified int)
    (element 3 true (value 3 to_int (first_element (place 3 (unqualified (array plain int (Some 4))) (static 1)))) (number 3 4)))))
    (returning_value 4 (target 4 0))) 5
    ∷ [])
    (record { entity = 1; line = 1; type = unqualified (array plain int (Some 4)); cells = [] } ∷ [])
    (numbered.Function 1 ∷ numbered.Object 1 ∷ [])

a_read_is_outside : means past_the_end [] many ≡ ends [] (TrapEnd trap.OutsideObject 4)
unfolding running
a_read_is_outside = refl

-- ---- `int *f(void) { int x = 5; return &x; } | int main(void) { | int *p = f(); | return *p; | }`

abbrev dangling : Program
dangling =
    program_of
    (function_of 1 1 to_int (in_memory 1 int ∷ [])
    (declares 0 (number 1 5) (returning_value 1 (value 1 to_int (address (local_int 1 0))))) 1
    ∷ function_of 0 2 int (in_register 3 to_int ∷ [])
    (declares 0 (value 3 to_int (call 3 1 no_values)) (returning_value 4 (target 4 0))) 5
    ∷ [])
    []
    (numbered.Function 2 ∷ numbered.Function 1 ∷ [])

an_object_is_dead : means dangling [] many ≡ ends [] (TrapEnd trap.DeadObject 4)
unfolding running
an_object_is_dead = refl

-- ---- `int main(void) { | int i = 0; | while (i < 3) i = i + 1; | return i; | }`

abbrev counting : Program
counting =
    program_of
    (function_of 0 1 int (in_register 2 int ∷ [])
    (declares 0 (number 2 0)
    (statement (while 3 (below 3 (held_int 3 0) (number 3 3)) (sets 3 0 (plus 3 (held_int 3 0) (number 3 1))))
    (returning_value 4 (held_int 4 0)))) 5
    ∷ [])
    []
    (numbered.Function 1 ∷ [])

five_turns : means counting [] (turns 5) ≡ ends (ExitEvent 3 ∷ []) (ExitEnd 3)
unfolding running
five_turns = refl

four_turns : means counting [] (turns 4) ≡ ends [] (TrapEnd trap.Turns 3)
unfolding running
four_turns = refl
