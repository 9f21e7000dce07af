-- Further programs whose meaning is computed by the definition, with a case for each construct. Lines of a source are
-- parted by `|`.
use Rattle.std.proofs.Common.{◌≡◌, ℕ, List, [], ◌∷◌, true, false, Some, None, refl}
use Rattle.srmt_base.specs.declared.event.Event.{Event}
use Rattle.srmt_base.specs.declared.event.Event.TheVariants.{Byte, PortRead, PortWrite, Exit as ExitEvent}
use Rattle.srmt_base.specs.declared.limits.Limits.{Limits}
use Rattle.srmt_base.specs.declared.op.Op.TheVariants as o
use Rattle.srmt_base.specs.declared.trap.Trap.TheVariants as trap
use Rattle.srmt_base.specs.declared.trap.SourceEnd.{SourceEnd}
use Rattle.srmt_base.specs.declared.trap.SourceEnd.TheVariants.{Exit as ExitEnd, Trap as TrapEnd}
use Rattle.srmt_base.specs.declared.ty.Ty.TheVariants.{Bool, Char, SChar, UChar, Short, Int, UInt}
use Rattle.c_types.specs.declared.qualifiers.Qualifiers.{Qualifiers}
use Rattle.c_types.specs.Types.{CType, void, integer, pointer, array, returning, taking, plain, unqualified, Qualified}
use Rattle.c_typed.specs.declared.program.Numbered.{Numbered}
use Rattle.c_typed.specs.declared.program.Numbered.TheVariants as numbered
use Rattle.c_typed.specs.declared.program.Start.{Start}
use Rattle.c_typed.specs.declared.program.StartCell.{StartCell}
use Rattle.c_typed.specs.declared.program.TextObject.{TextObject}
use Rattle.c_typed.specs.declared.program.Start.TheVariants as start
use Rattle.c_typed.specs.Typed.{Place, place, PlaceNode, local, static, text, pointed, element, Value, value, constant, null, read, first_element, address, function, minus, complement, negation, arithmetic, sum, difference, comparison, conjunction, disjunction, choice, sequence, assignment, update, move, conversion, requalified, call, call_through, putchar, getchar, exit, no_values, first_value}
use Rattle.c_typed.specs.Statements.{scalar, cells, starts, declares, block, empty, expression, if_only, while, do_while, for, continue, break, return, no_items, declaration, statement, LocalItem, LocalRow, Cell, Items, Function, Static, TypedFile, Program}
use Rattle.source_meaning.specs.Expressions.{value_of}
use Rattle.source_meaning.specs.Statements.{executes}
use Rattle.source_meaning.specs.Calls.{calls}
use Rattle.source_meaning.specs.Start.{Behaviour, means}

-- all that the definition computes with
running : Unit {0}
unfolding means calls executes value_of
running = tt

abbrev int : CType
int = integer Int

abbrev to_int : CType
to_int = pointer plain int

abbrev volatile_only : Qualifiers
volatile_only = record { is_const = false; is_volatile = true }

abbrev constant_only : Qualifiers
constant_only = record { is_const = true; is_volatile = false }

abbrev both : Qualifiers
both = record { is_const = true; is_volatile = true }

abbrev qualified : Qualifiers → CType → Qualified
qualified q t = record { qualifiers = q; type = t }

abbrev number : ℕ → ℕ → Value
number line n = value line int (constant n)

-- a lvalue of type `int`, and what a local of type `int`, or pointer to it, holds
abbrev an_int : ℕ → PlaceNode → Place
an_int line node = place line (unqualified int) node

abbrev held : ℕ → ℕ → Value
held line n = value line int (read (an_int line (local n)))

abbrev held_pointer : ℕ → ℕ → Value
held_pointer line n = value line to_int (read (place line (unqualified to_int) (local n)))

-- locals of a function's table, in a register or in memory
abbrev in_register : ℕ → Qualified → LocalRow
in_register line t = record { line = line; first = line; type = t; is_placed = false }

abbrev in_memory : ℕ → Qualified → LocalRow
in_memory line t = record { line = line; first = line; type = t; is_placed = true }

-- locals where they are declared: without an initializer, with a value, with the cells of an array
abbrev begun : ℕ → LocalItem
begun n = record { number = n; initializer = None }

abbrev given : ℕ → Value → LocalItem
given n e = record { number = n; initializer = Some (scalar e) }

abbrev given_cells : ℕ → List Cell → LocalItem
given_cells n es = record { number = n; initializer = Some (cells es) }

abbrev cell_of : ℕ → Value → Cell
cell_of n e = record { index = n; value = e }

abbrev starts_with : ℕ → Start → StartCell
starts_with n c = record { index = n; start = c }

abbrev static_of : ℕ → ℕ → Qualified → List StartCell → Static
static_of entity line t es = record { entity = entity; line = line; type = t; cells = es }

abbrev text_of : ℕ → List ℕ → TextObject
text_of line bytes = record { line = line; bytes = bytes }

-- a function: its entity, its first and its last line, its type, how many of its locals are parameters
abbrev function_of : ℕ → ℕ → ℕ → CType → ℕ → List LocalRow → Items → Function
function_of entity line end t n locals body =
    record { entity = entity; line = line; type = t; parameters = n; locals = locals; begin = line; body = body; end = end }

abbrev file_of : List Function → List Static → List TextObject → TypedFile
file_of functions statics texts = record { functions = functions; statics = statics; texts = texts }

abbrev program_of : TypedFile → TypedFile → List Numbered → ℕ → Program
program_of first second entities main = record { main_file = first; binary_file = second; entities = entities; main = main }

abbrev limits : ℕ → ℕ → ℕ → Limits
limits t d c = record { turns = t; depth = d; cells = c }

abbrev ends : List Event → SourceEnd → Behaviour
ends events end = record { events = events; end = end }

-- #include <stdio.h> | /* greet */ | int main(void) { | const char *s = "hello\n"; // text | while (*s) putchar(*s++); | return 0; | }
abbrev greeting : Program
greeting =
    program_of (file_of ((function_of 0 3 7 (returning plain int) 0 (in_register 4 (unqualified (pointer constant_only (integer Char))) ∷ [])
    (declaration (given 0 (value 4 (pointer constant_only (integer Char)) (requalified (value 4 (pointer plain (integer Char)) (first_element (place 4
    (unqualified (array plain (integer Char) (Some 7))) (text 0)))))) ∷ []) (statement (while 5 (value 5 (integer Char) (read (place 5 (qualified
    constant_only (integer Char)) (pointed (value 5 (pointer constant_only (integer Char)) (read (place 5 (unqualified (pointer constant_only (integer
    Char))) (local 0)))))))) (expression 5 (value 5 int (putchar 5 (value 5 int (conversion 5 (value 5 (integer Char) (read (place 5 (qualified
    constant_only (integer Char)) (pointed (value 5 (pointer constant_only (integer Char)) (move true (place 5 (unqualified (pointer constant_only
    (integer Char))) (local 0)) false 5 (number 5 1))))))))))))) (statement (return 6 (Some (number 6 0))) no_items)))) ∷ []) [] (text_of 4 (104 ∷ 101
    ∷ 108 ∷ 108 ∷ 111 ∷ 10 ∷ []) ∷ [])) (file_of [] [] []) (numbered.Function 1 ∷ []) 0

greeting_means : means greeting [] (limits 100 1000 1048576)
    ≡ ends (Byte 104 ∷ Byte 101 ∷ Byte 108 ∷ Byte 108 ∷ Byte 111 ∷ Byte 10 ∷ ExitEvent 0 ∷ []) (ExitEnd 0)
unfolding running
greeting_means = refl

-- int main(void) { | int c; | while ((c = getchar()) != EOF) putchar(c); | return 0; | }
abbrev echo : Program
echo =
    program_of (file_of ((function_of 0 1 5 (returning plain int) 0 (in_register 2 (unqualified int) ∷ []) (declaration (begun 0 ∷ []) (statement
    (while 3 (value 3 int (arithmetic o.Ne 3 (value 3 int (assignment (an_int 3 (local 0)) (value 3 int (getchar 3)))) (number 3 4294967295)))
    (expression 3 (value 3 int (putchar 3 (held 3 0))))) (statement (return 4 (Some (number 4 0))) no_items)))) ∷ []) [] []) (file_of [] [] [])
    (numbered.Function 1 ∷ []) 0

echo_means : means echo (97 ∷ 255 ∷ 98 ∷ []) (limits 100 1000 1048576)
    ≡ ends (Byte 97 ∷ Byte 255 ∷ Byte 98 ∷ ExitEvent 0 ∷ []) (ExitEnd 0)
unfolding running
echo_means = refl

-- int main(void) { int a = -2147483647 - 1; return a % -1; }
abbrev remainder : Program
remainder =
    program_of (file_of ((function_of 0 1 1 (returning plain int) 0 (in_register 1 (unqualified int) ∷ []) (declaration (given 0 (value 1 int
    (arithmetic o.Sub 1 (value 1 int (minus (number 1 2147483647))) (number 1 1))) ∷ []) (statement (return 1 (Some (value 1 int (arithmetic o.Rem 1
    (held 1 0) (value 1 int (minus (number 1 1))))))) no_items))) ∷ []) [] []) (file_of [] [] []) (numbered.Function 1 ∷ []) 0

remainder_means : means remainder [] (limits 100 1000 1048576)
    ≡ ends [] (TrapEnd trap.Overflow 1)
unfolding running
remainder_means = refl

-- int each(int n, int (*f)(int)); | int say(int c); | int show(int i) { return say(65 + i); } | int main(void) { return each(3, show); }
-- binary: int say(int c) { putchar(c); return 1; } | int each(int n, int (*f)(int)) { | int s = 0; | for (int i = 0; i < n; i++) s += f(i); |
-- return s; | }
abbrev through_both_files : Program
through_both_files =
    program_of (file_of ((function_of 0 3 3 (taking int (returning plain int)) 1 (in_register 3 (unqualified int) ∷ []) (statement (return 3 (Some
    (value 3 int (call 3 2 (first_value (value 3 int (arithmetic o.Add 3 (number 3 65) (held 3 0))) no_values))))) no_items)) ∷ (function_of 1 4 4
    (returning plain int) 0 [] (statement (return 4 (Some (value 4 int (call 4 3 (first_value (number 4 3) (first_value (value 4 (pointer plain
    (taking int (returning plain int))) (function 0)) no_values)))))) no_items)) ∷ []) [] []) (file_of ((function_of 2 2000001 2000001 (taking int
    (returning plain int)) 1 (in_register 2000001 (unqualified int) ∷ []) (statement (expression 2000001 (value 2000001 int (putchar 2000001 (held
    2000001 0)))) (statement (return 2000001 (Some (number 2000001 1))) no_items))) ∷ (function_of 3 2000002 2000006 (taking int (taking (pointer
    plain (taking int (returning plain int))) (returning plain int))) 2 (in_register 2000002 (unqualified int) ∷ in_register 2000002 (unqualified
    (pointer plain (taking int (returning plain int)))) ∷ in_register 2000003 (unqualified int) ∷ in_register 2000004 (unqualified int) ∷ [])
    (declaration (given 2 (number 2000003 0) ∷ []) (statement (for 2000004 (declares (given 3 (number 2000004 0) ∷ [])) (Some (value 2000004 int
    (arithmetic o.Lt 2000004 (held 2000004 3) (held 2000004 0)))) (Some (value 2000004 int (update true (an_int 2000004 (local 3)) 2000004 o.Add
    2000004 Int (value 2000004 (integer Int) (constant 1))))) (expression 2000004 (value 2000004 int (update false (an_int 2000004 (local 2)) 2000004
    o.Add 2000004 Int (value 2000004 int (call_through 2000004 (value 2000004 (pointer plain (taking int (returning plain int))) (read (place 2000004
    (unqualified (pointer plain (taking int (returning plain int)))) (local 1)))) (first_value (held 2000004 3) no_values))))))) (statement (return
    2000005 (Some (held 2000005 2))) no_items)))) ∷ []) [] []) (numbered.Function 1 ∷ numbered.Function 2 ∷ numbered.Function 3 ∷ numbered.Function 4
    ∷ []) 1

through_both_files_means : means through_both_files [] (limits 100 1000 1048576)
    ≡ ends (Byte 65 ∷ Byte 66 ∷ Byte 67 ∷ ExitEvent 3 ∷ []) (ExitEnd 3)
unfolding running
through_both_files_means = refl

-- int main(void) { | int a[3]; | a[0] = 4; a[1] = 5; | return a[0] + a[1]; | }
abbrev array_cells : Program
array_cells =
    program_of (file_of ((function_of 0 1 5 (returning plain int) 0 (in_memory 2 (unqualified (array plain int (Some 3))) ∷ []) (declaration (begun 0
    ∷ []) (statement (expression 3 (value 3 int (assignment (an_int 3 (element 3 true (value 3 to_int (first_element (place 3 (unqualified (array
    plain int (Some 3))) (local 0)))) (number 3 0))) (number 3 4)))) (statement (expression 3 (value 3 int (assignment (an_int 3 (element 3 true
    (value 3 to_int (first_element (place 3 (unqualified (array plain int (Some 3))) (local 0)))) (number 3 1))) (number 3 5)))) (statement (return 4
    (Some (value 4 int (arithmetic o.Add 4 (value 4 int (read (an_int 4 (element 4 true (value 4 to_int (first_element (place 4 (unqualified (array
    plain int (Some 3))) (local 0)))) (number 4 0))))) (value 4 int (read (an_int 4 (element 4 true (value 4 to_int (first_element (place 4
    (unqualified (array plain int (Some 3))) (local 0)))) (number 4 1))))))))) no_items))))) ∷ []) [] []) (file_of [] [] []) (numbered.Function 1 ∷
    []) 0

array_cells_means : means array_cells [] (limits 100 1000 1048576)
    ≡ ends (ExitEvent 9 ∷ []) (ExitEnd 9)
unfolding running
array_cells_means = refl

-- int sum(int *p) { return p[0] + p[1]; } int main(void) { int a[2]; a[0] = 4; a[1] = 5; return sum(a); }
abbrev summing : Program
summing =
    program_of (file_of ((function_of 0 1 1 (taking to_int (returning plain int)) 1 (in_register 1 (unqualified to_int) ∷ []) (statement (return 1
    (Some (value 1 int (arithmetic o.Add 1 (value 1 int (read (an_int 1 (element 1 true (held_pointer 1 0) (number 1 0))))) (value 1 int (read (an_int
    1 (element 1 true (held_pointer 1 0) (number 1 1))))))))) no_items)) ∷ (function_of 1 1 1 (returning plain int) 0 (in_memory 1 (unqualified (array
    plain int (Some 2))) ∷ []) (declaration (begun 0 ∷ []) (statement (expression 1 (value 1 int (assignment (an_int 1 (element 1 true (value 1 to_int
    (first_element (place 1 (unqualified (array plain int (Some 2))) (local 0)))) (number 1 0))) (number 1 4)))) (statement (expression 1 (value 1 int
    (assignment (an_int 1 (element 1 true (value 1 to_int (first_element (place 1 (unqualified (array plain int (Some 2))) (local 0)))) (number 1 1)))
    (number 1 5)))) (statement (return 1 (Some (value 1 int (call 1 0 (first_value (value 1 to_int (first_element (place 1 (unqualified (array plain
    int (Some 2))) (local 0)))) no_values))))) no_items))))) ∷ []) [] []) (file_of [] [] []) (numbered.Function 1 ∷ numbered.Function 2 ∷ []) 1

summing_means : means summing [] (limits 100 1000 1048576)
    ≡ ends (ExitEvent 9 ∷ []) (ExitEnd 9)
unfolding running
summing_means = refl

-- int f(int n) { return n == 0 ? 0 : 1 + f(n - 1); } | int main(void) { return f(3); }
abbrev nested : Program
nested =
    program_of (file_of ((function_of 0 1 1 (taking int (returning plain int)) 1 (in_register 1 (unqualified int) ∷ []) (statement (return 1 (Some
    (value 1 int (choice (value 1 int (arithmetic o.Eq 1 (held 1 0) (number 1 0))) (number 1 0) (value 1 int (arithmetic o.Add 1 (number 1 1) (value 1
    int (call 1 0 (first_value (value 1 int (arithmetic o.Sub 1 (held 1 0) (number 1 1))) no_values))))))))) no_items)) ∷ (function_of 1 2 2
    (returning plain int) 0 [] (statement (return 2 (Some (value 2 int (call 2 0 (first_value (number 2 3) no_values))))) no_items)) ∷ []) [] [])
    (file_of [] [] []) (numbered.Function 1 ∷ numbered.Function 2 ∷ []) 1

nested_means : means nested [] (limits 100 5 1048576)
    ≡ ends (ExitEvent 3 ∷ []) (ExitEnd 3)
unfolding running
nested_means = refl

-- int f(int n) { return n == 0 ? 0 : 1 + f(n - 1); } | int main(void) { return f(4); }
abbrev too_deep : Program
too_deep =
    program_of (file_of ((function_of 0 1 1 (taking int (returning plain int)) 1 (in_register 1 (unqualified int) ∷ []) (statement (return 1 (Some
    (value 1 int (choice (value 1 int (arithmetic o.Eq 1 (held 1 0) (number 1 0))) (number 1 0) (value 1 int (arithmetic o.Add 1 (number 1 1) (value 1
    int (call 1 0 (first_value (value 1 int (arithmetic o.Sub 1 (held 1 0) (number 1 1))) no_values))))))))) no_items)) ∷ (function_of 1 2 2
    (returning plain int) 0 [] (statement (return 2 (Some (value 2 int (call 2 0 (first_value (number 2 4) no_values))))) no_items)) ∷ []) [] [])
    (file_of [] [] []) (numbered.Function 1 ∷ numbered.Function 2 ∷ []) 1

too_deep_means : means too_deep [] (limits 100 5 1048576)
    ≡ ends [] (TrapEnd trap.Depth 1)
unfolding running
too_deep_means = refl

-- int f(int n) { return n == 0 ? 0 : 1 + f(n - 1); } | int main(void) { return f(4); }
abbrev deep_before_turns : Program
deep_before_turns =
    program_of (file_of ((function_of 0 1 1 (taking int (returning plain int)) 1 (in_register 1 (unqualified int) ∷ []) (statement (return 1 (Some
    (value 1 int (choice (value 1 int (arithmetic o.Eq 1 (held 1 0) (number 1 0))) (number 1 0) (value 1 int (arithmetic o.Add 1 (number 1 1) (value 1
    int (call 1 0 (first_value (value 1 int (arithmetic o.Sub 1 (held 1 0) (number 1 1))) no_values))))))))) no_items)) ∷ (function_of 1 2 2
    (returning plain int) 0 [] (statement (return 2 (Some (value 2 int (call 2 0 (first_value (number 2 4) no_values))))) no_items)) ∷ []) [] [])
    (file_of [] [] []) (numbered.Function 1 ∷ numbered.Function 2 ∷ []) 1

deep_before_turns_means : means deep_before_turns [] (limits 5 5 1048576)
    ≡ ends [] (TrapEnd trap.Depth 1)
unfolding running
deep_before_turns_means = refl

-- int f(int n) { int a[20]; a[0] = n; return n == 0 ? 0 : f(n - 1); } | int main(void) { return f(2); }
abbrev fits_the_store : Program
fits_the_store =
    program_of (file_of ((function_of 0 1 1 (taking int (returning plain int)) 1 (in_register 1 (unqualified int) ∷ in_memory 1 (unqualified (array
    plain int (Some 20))) ∷ []) (declaration (begun 1 ∷ []) (statement (expression 1 (value 1 int (assignment (an_int 1 (element 1 true (value 1
    to_int (first_element (place 1 (unqualified (array plain int (Some 20))) (local 1)))) (number 1 0))) (held 1 0)))) (statement (return 1 (Some
    (value 1 int (choice (value 1 int (arithmetic o.Eq 1 (held 1 0) (number 1 0))) (number 1 0) (value 1 int (call 1 0 (first_value (value 1 int
    (arithmetic o.Sub 1 (held 1 0) (number 1 1))) no_values))))))) no_items)))) ∷ (function_of 1 2 2 (returning plain int) 0 [] (statement (return 2
    (Some (value 2 int (call 2 0 (first_value (number 2 2) no_values))))) no_items)) ∷ []) [] []) (file_of [] [] []) (numbered.Function 1 ∷
    numbered.Function 2 ∷ []) 1

fits_the_store_means : means fits_the_store [] (limits 100 1000 60)
    ≡ ends (ExitEvent 0 ∷ []) (ExitEnd 0)
unfolding running
fits_the_store_means = refl

-- int f(int n) { int a[20]; a[0] = n; return n == 0 ? 0 : f(n - 1); } | int main(void) { return f(3); }
abbrev past_the_store : Program
past_the_store =
    program_of (file_of ((function_of 0 1 1 (taking int (returning plain int)) 1 (in_register 1 (unqualified int) ∷ in_memory 1 (unqualified (array
    plain int (Some 20))) ∷ []) (declaration (begun 1 ∷ []) (statement (expression 1 (value 1 int (assignment (an_int 1 (element 1 true (value 1
    to_int (first_element (place 1 (unqualified (array plain int (Some 20))) (local 1)))) (number 1 0))) (held 1 0)))) (statement (return 1 (Some
    (value 1 int (choice (value 1 int (arithmetic o.Eq 1 (held 1 0) (number 1 0))) (number 1 0) (value 1 int (call 1 0 (first_value (value 1 int
    (arithmetic o.Sub 1 (held 1 0) (number 1 1))) no_values))))))) no_items)))) ∷ (function_of 1 2 2 (returning plain int) 0 [] (statement (return 2
    (Some (value 2 int (call 2 0 (first_value (number 2 3) no_values))))) no_items)) ∷ []) [] []) (file_of [] [] []) (numbered.Function 1 ∷
    numbered.Function 2 ∷ []) 1

past_the_store_means : means past_the_store [] (limits 100 1000 79)
    ≡ ends [] (TrapEnd trap.Store 1)
unfolding running
past_the_store_means = refl

-- volatile int port; | int main(void) { port = 5; return port; }
abbrev a_port : Program
a_port =
    program_of (file_of ((function_of 0 2 2 (returning plain int) 0 [] (statement (expression 2 (value 2 int (assignment (place 2 (qualified
    volatile_only int) (static 1)) (number 2 5)))) (statement (return 2 (Some (value 2 int (read (place 2 (qualified volatile_only int) (static
    1)))))) no_items))) ∷ []) (static_of 1 1 (qualified volatile_only int) [] ∷ []) []) (file_of [] [] []) (numbered.Function 1 ∷ numbered.Object 1 ∷
    []) 0

a_port_means : means a_port [] (limits 100 1000 1048576)
    ≡ ends (PortWrite 1 0 5 ∷ PortRead 1 0 ∷ ExitEvent 5 ∷ []) (ExitEnd 5)
unfolding running
a_port_means = refl

-- int main(void) { char *s = "a"; s[0] = 98; return 0; }
abbrev literal_written : Program
literal_written =
    program_of (file_of ((function_of 0 1 1 (returning plain int) 0 (in_register 1 (unqualified (pointer plain (integer Char))) ∷ []) (declaration
    (given 0 (value 1 (pointer plain (integer Char)) (first_element (place 1 (unqualified (array plain (integer Char) (Some 2))) (text 0)))) ∷ [])
    (statement (expression 1 (value 1 (integer Char) (assignment (place 1 (unqualified (integer Char)) (element 1 true (value 1 (pointer plain
    (integer Char)) (read (place 1 (unqualified (pointer plain (integer Char))) (local 0)))) (number 1 0))) (value 1 (integer Char) (conversion 1
    (number 1 98)))))) (statement (return 1 (Some (number 1 0))) no_items)))) ∷ []) [] (text_of 1 (97 ∷ []) ∷ [])) (file_of [] [] [])
    (numbered.Function 1 ∷ []) 0

literal_written_means : means literal_written [] (limits 100 1000 1048576)
    ≡ ends [] (TrapEnd trap.ReadOnly 1)
unfolding running
literal_written_means = refl

-- int main(void) { int *p = NULL; return *p; }
abbrev null_read : Program
null_read =
    program_of (file_of ((function_of 0 1 1 (returning plain int) 0 (in_register 1 (unqualified to_int) ∷ []) (declaration (given 0 (value 1 to_int
    null) ∷ []) (statement (return 1 (Some (value 1 int (read (an_int 1 (pointed (held_pointer 1 0))))))) no_items))) ∷ []) [] []) (file_of [] [] [])
    (numbered.Function 1 ∷ []) 0

null_read_means : means null_read [] (limits 100 1000 1048576)
    ≡ ends [] (TrapEnd trap.NullPointer 1)
unfolding running
null_read_means = refl

-- int a; int b; | int main(void) { return &a < &b; }
abbrev other_objects : Program
other_objects =
    program_of (file_of ((function_of 0 2 2 (returning plain int) 0 [] (statement (return 2 (Some (value 2 int (comparison o.Lt 2 (value 2 to_int
    (address (an_int 2 (static 1)))) (value 2 to_int (address (an_int 2 (static 2)))))))) no_items)) ∷ []) (static_of 1 1 (unqualified int) [] ∷
    static_of 2 1 (unqualified int) [] ∷ []) []) (file_of [] [] []) (numbered.Function 1 ∷ numbered.Object 1 ∷ numbered.Object 2 ∷ []) 0

other_objects_means : means other_objects [] (limits 100 1000 1048576)
    ≡ ends [] (TrapEnd trap.OtherObject 2)
unfolding running
other_objects_means = refl

-- volatile int p = 3; | int main(void) { | int x = p++; | p += 4; | volatile int q = 9; | return x * 16 + p + q; }
abbrev port_changed : Program
port_changed =
    program_of (file_of ((function_of 0 2 6 (returning plain int) 0 (in_register 3 (unqualified int) ∷ in_memory 5 (qualified volatile_only int) ∷ [])
    (declaration (given 0 (value 3 int (update true (place 3 (qualified volatile_only int) (static 1)) 3 o.Add 3 Int (value 3 (integer Int) (constant
    1)))) ∷ []) (statement (expression 4 (value 4 int (update false (place 4 (qualified volatile_only int) (static 1)) 4 o.Add 4 Int (number 4 4))))
    (declaration (given 1 (number 5 9) ∷ []) (statement (return 6 (Some (value 6 int (arithmetic o.Add 6 (value 6 int (arithmetic o.Add 6 (value 6 int
    (arithmetic o.Mul 6 (held 6 0) (number 6 16))) (value 6 int (read (place 6 (qualified volatile_only int) (static 1)))))) (value 6 int (read (place
    6 (qualified volatile_only int) (local 1)))))))) no_items))))) ∷ []) (static_of 1 1 (qualified volatile_only int) (starts_with 0 (start.Number 3)
    ∷ []) ∷ []) []) (file_of [] [] []) (numbered.Function 1 ∷ numbered.Object 1 ∷ []) 0

port_changed_means : means port_changed [] (limits 100 1000 1048576)
    ≡ ends (PortRead 1 0 ∷ PortWrite 1 0 4 ∷ PortRead 1 0 ∷ PortWrite 1 0 8 ∷ PortWrite 2 0 9 ∷ PortRead 1 0 ∷ PortRead 2 0 ∷ ExitEvent 65 ∷ [])
    (ExitEnd 65)
unfolding running
port_changed_means = refl

-- int main(void) { | int s = 0; | for (int i = 0; i < 9; i++) { | if (i == 2) continue; | if (i == 5) break; | s += i; | } | do { s--; if (s <
-- 6) continue; s--; } while (s > 3); | return s; }
abbrev loops : Program
loops =
    program_of (file_of ((function_of 0 1 9 (returning plain int) 0 (in_register 2 (unqualified int) ∷ in_register 3 (unqualified int) ∷ [])
    (declaration (given 0 (number 2 0) ∷ []) (statement (for 3 (declares (given 1 (number 3 0) ∷ [])) (Some (value 3 int (arithmetic o.Lt 3 (held 3 1)
    (number 3 9)))) (Some (value 3 int (update true (an_int 3 (local 1)) 3 o.Add 3 Int (value 3 (integer Int) (constant 1))))) (block 3 (statement
    (if_only 4 (value 4 int (arithmetic o.Eq 4 (held 4 1) (number 4 2))) (continue 4)) (statement (if_only 5 (value 5 int (arithmetic o.Eq 5 (held 5
    1) (number 5 5))) (break 5)) (statement (expression 6 (value 6 int (update false (an_int 6 (local 0)) 6 o.Add 6 Int (held 6 1)))) no_items))) 7))
    (statement (do_while 8 (block 8 (statement (expression 8 (value 8 int (update true (an_int 8 (local 0)) 8 o.Sub 8 Int (value 8 (integer Int)
    (constant 1))))) (statement (if_only 8 (value 8 int (arithmetic o.Lt 8 (held 8 0) (number 8 6))) (continue 8)) (statement (expression 8 (value 8
    int (update true (an_int 8 (local 0)) 8 o.Sub 8 Int (value 8 (integer Int) (constant 1))))) no_items))) 8) (value 8 int (arithmetic o.Gt 8 (held 8
    0) (number 8 3)))) (statement (return 9 (Some (held 9 0))) no_items))))) ∷ []) [] []) (file_of [] [] []) (numbered.Function 1 ∷ []) 0

loops_means : means loops [] (limits 100 1000 1048576)
    ≡ ends (ExitEvent 3 ∷ []) (ExitEnd 3)
unfolding running
loops_means = refl

-- int main(void) { | int *p; | { int x = 7; p = &x; } | { int y = 8; &y; } | return *p; }
abbrev ended_block : Program
ended_block =
    program_of (file_of ((function_of 0 1 5 (returning plain int) 0 (in_register 2 (unqualified to_int) ∷ in_memory 3 (unqualified int) ∷ in_memory 4
    (unqualified int) ∷ []) (declaration (begun 0 ∷ []) (statement (block 3 (declaration (given 1 (number 3 7) ∷ []) (statement (expression 3 (value 3
    to_int (assignment (place 3 (unqualified to_int) (local 0)) (value 3 to_int (address (an_int 3 (local 1))))))) no_items)) 3) (statement (block 4
    (declaration (given 2 (number 4 8) ∷ []) (statement (expression 4 (value 4 to_int (address (an_int 4 (local 2))))) no_items)) 4) (statement
    (return 5 (Some (value 5 int (read (an_int 5 (pointed (held_pointer 5 0))))))) no_items))))) ∷ []) [] []) (file_of [] [] []) (numbered.Function 1
    ∷ []) 0

ended_block_means : means ended_block [] (limits 100 1000 1048576)
    ≡ ends [] (TrapEnd trap.DeadObject 5)
unfolding running
ended_block_means = refl

-- int main(void) { | int *p = NULL; | for (;;) { int x = 7; p = &x; if (*p == 7) break; } | return *p; }
abbrev early_jump : Program
early_jump =
    program_of (file_of ((function_of 0 1 4 (returning plain int) 0 (in_register 2 (unqualified to_int) ∷ in_memory 3 (unqualified int) ∷ [])
    (declaration (given 0 (value 2 to_int null) ∷ []) (statement (for 3 (starts None) None None (block 3 (declaration (given 1 (number 3 7) ∷ [])
    (statement (expression 3 (value 3 to_int (assignment (place 3 (unqualified to_int) (local 0)) (value 3 to_int (address (an_int 3 (local 1)))))))
    (statement (if_only 3 (value 3 int (arithmetic o.Eq 3 (value 3 int (read (an_int 3 (pointed (held_pointer 3 0))))) (number 3 7))) (break 3))
    no_items))) 3)) (statement (return 4 (Some (value 4 int (read (an_int 4 (pointed (held_pointer 4 0))))))) no_items)))) ∷ []) [] []) (file_of [] []
    []) (numbered.Function 1 ∷ []) 0

early_jump_means : means early_jump [] (limits 100 1000 1048576)
    ≡ ends [] (TrapEnd trap.DeadObject 4)
unfolding running
early_jump_means = refl

-- int main(void) { return (0 && 1 / 0) + (2 || 1 / 0) * 4 + (1 ? 8 : 1 / 0) + (putchar(66), 16) + !3 + ~-33; }
abbrev short_circuit : Program
short_circuit =
    program_of (file_of ((function_of 0 1 1 (returning plain int) 0 [] (statement (return 1 (Some (value 1 int (arithmetic o.Add 1 (value 1 int
    (arithmetic o.Add 1 (value 1 int (arithmetic o.Add 1 (value 1 int (arithmetic o.Add 1 (value 1 int (arithmetic o.Add 1 (value 1 int (conjunction
    (number 1 0) (value 1 int (arithmetic o.Div 1 (number 1 1) (number 1 0))))) (value 1 int (arithmetic o.Mul 1 (value 1 int (disjunction (number 1
    2) (value 1 int (arithmetic o.Div 1 (number 1 1) (number 1 0))))) (number 1 4))))) (value 1 int (choice (number 1 1) (number 1 8) (value 1 int
    (arithmetic o.Div 1 (number 1 1) (number 1 0))))))) (value 1 int (sequence (first_value (value 1 int (putchar 1 (number 1 66))) no_values) (number
    1 16))))) (value 1 int (negation (number 1 3))))) (value 1 int (complement (value 1 int (minus (number 1 33))))))))) no_items)) ∷ []) [] [])
    (file_of [] [] []) (numbered.Function 1 ∷ []) 0

short_circuit_means : means short_circuit [] (limits 100 1000 1048576)
    ≡ ends (Byte 66 ∷ ExitEvent 60 ∷ []) (ExitEnd 60)
unfolding running
short_circuit_means = refl

-- int main(void) { | unsigned char c = 255; c++; | signed char d = 127; d += 1; | _Bool b = 7; b--; b = b == 1; | short s = -1; s >>= 3; |
-- unsigned u = 1; u <<= 31; u = u * 2 + 3u; | return c + (d == -128) * 2 + b * 4 + (s == -1) * 8 + u * 16; }
abbrev narrow : Program
narrow =
    program_of (file_of ((function_of 0 1 7 (returning plain int) 0 (in_register 2 (unqualified (integer UChar)) ∷ in_register 3 (unqualified (integer
    SChar)) ∷ in_register 4 (unqualified (integer Bool)) ∷ in_register 5 (unqualified (integer Short)) ∷ in_register 6 (unqualified (integer UInt)) ∷
    []) (declaration (given 0 (value 2 (integer UChar) (conversion 2 (number 2 255))) ∷ []) (statement (expression 2 (value 2 (integer UChar) (update
    true (place 2 (unqualified (integer UChar)) (local 0)) 2 o.Add 2 Int (value 2 (integer Int) (constant 1))))) (declaration (given 1 (value 3
    (integer SChar) (conversion 3 (number 3 127))) ∷ []) (statement (expression 3 (value 3 (integer SChar) (update false (place 3 (unqualified
    (integer SChar)) (local 1)) 3 o.Add 3 Int (number 3 1)))) (declaration (given 2 (value 4 (integer Bool) (conversion 4 (number 4 7))) ∷ [])
    (statement (expression 4 (value 4 (integer Bool) (update true (place 4 (unqualified (integer Bool)) (local 2)) 4 o.Sub 4 Int (value 4 (integer
    Int) (constant 1))))) (statement (expression 4 (value 4 (integer Bool) (assignment (place 4 (unqualified (integer Bool)) (local 2)) (value 4
    (integer Bool) (conversion 4 (value 4 int (arithmetic o.Eq 4 (value 4 int (conversion 4 (value 4 (integer Bool) (read (place 4 (unqualified
    (integer Bool)) (local 2)))))) (number 4 1)))))))) (declaration (given 3 (value 5 (integer Short) (conversion 5 (value 5 int (minus (number 5
    1))))) ∷ []) (statement (expression 5 (value 5 (integer Short) (update false (place 5 (unqualified (integer Short)) (local 3)) 5 o.Shr 5 Int
    (number 5 3)))) (declaration (given 4 (value 6 (integer UInt) (conversion 6 (number 6 1))) ∷ []) (statement (expression 6 (value 6 (integer UInt)
    (update false (place 6 (unqualified (integer UInt)) (local 4)) 6 o.Shl 6 UInt (number 6 31)))) (statement (expression 6 (value 6 (integer UInt)
    (assignment (place 6 (unqualified (integer UInt)) (local 4)) (value 6 (integer UInt) (arithmetic o.Add 6 (value 6 (integer UInt) (arithmetic o.Mul
    6 (value 6 (integer UInt) (read (place 6 (unqualified (integer UInt)) (local 4)))) (value 6 (integer UInt) (conversion 6 (number 6 2))))) (value 6
    (integer UInt) (constant 3))))))) (statement (return 7 (Some (value 7 int (conversion 7 (value 7 (integer UInt) (arithmetic o.Add 7 (value 7
    (integer UInt) (conversion 7 (value 7 int (arithmetic o.Add 7 (value 7 int (arithmetic o.Add 7 (value 7 int (arithmetic o.Add 7 (value 7 int
    (conversion 7 (value 7 (integer UChar) (read (place 7 (unqualified (integer UChar)) (local 0)))))) (value 7 int (arithmetic o.Mul 7 (value 7 int
    (arithmetic o.Eq 7 (value 7 int (conversion 7 (value 7 (integer SChar) (read (place 7 (unqualified (integer SChar)) (local 1)))))) (value 7 int
    (minus (number 7 128))))) (number 7 2))))) (value 7 int (arithmetic o.Mul 7 (value 7 int (conversion 7 (value 7 (integer Bool) (read (place 7
    (unqualified (integer Bool)) (local 2)))))) (number 7 4))))) (value 7 int (arithmetic o.Mul 7 (value 7 int (arithmetic o.Eq 7 (value 7 int
    (conversion 7 (value 7 (integer Short) (read (place 7 (unqualified (integer Short)) (local 3)))))) (value 7 int (minus (number 7 1))))) (number 7
    8))))))) (value 7 (integer UInt) (arithmetic o.Mul 7 (value 7 (integer UInt) (read (place 7 (unqualified (integer UInt)) (local 4)))) (value 7
    (integer UInt) (conversion 7 (number 7 16))))))))))) no_items)))))))))))))) ∷ []) [] []) (file_of [] [] []) (numbered.Function 1 ∷ []) 0

narrow_means : means narrow [] (limits 100 1000 1048576)
    ≡ ends (ExitEvent 58 ∷ []) (ExitEnd 58)
unfolding running
narrow_means = refl

-- int a[2][3] = {{1, 2}, {4}}; int *q = &a[1][0]; char *t = "xy" + 1; int (*f)(void); int main(void) { | int (*p)[3] = a; | p++; | return (q -
-- &a[0][0]) + *p[0] * 16 + (q == *p) * 128 + (*t == 121) + !f; }
abbrev pointers : Program
pointers =
    program_of (file_of ((function_of 0 1 4 (returning plain int) 0 (in_register 2 (unqualified (pointer plain (array plain int (Some 3)))) ∷ [])
    (declaration (given 0 (value 2 (pointer plain (array plain int (Some 3))) (first_element (place 2 (unqualified (array plain (array plain int (Some
    3)) (Some 2))) (static 1)))) ∷ []) (statement (expression 3 (value 3 (pointer plain (array plain int (Some 3))) (move true (place 3 (unqualified
    (pointer plain (array plain int (Some 3)))) (local 0)) false 3 (number 3 1)))) (statement (return 4 (Some (value 4 int (arithmetic o.Add 4 (value
    4 int (arithmetic o.Add 4 (value 4 int (arithmetic o.Add 4 (value 4 int (arithmetic o.Add 4 (value 4 int (difference 4 (value 4 to_int (read
    (place 4 (unqualified to_int) (static 2)))) (value 4 to_int (address (an_int 4 (element 4 true (value 4 to_int (first_element (place 4
    (unqualified (array plain int (Some 3))) (element 4 true (value 4 (pointer plain (array plain int (Some 3))) (first_element (place 4 (unqualified
    (array plain (array plain int (Some 3)) (Some 2))) (static 1)))) (number 4 0))))) (number 4 0))))))) (value 4 int (arithmetic o.Mul 4 (value 4 int
    (read (an_int 4 (pointed (value 4 to_int (first_element (place 4 (unqualified (array plain int (Some 3))) (element 4 true (value 4 (pointer plain
    (array plain int (Some 3))) (read (place 4 (unqualified (pointer plain (array plain int (Some 3)))) (local 0)))) (number 4 0))))))))) (number 4
    16))))) (value 4 int (arithmetic o.Mul 4 (value 4 int (comparison o.Eq 4 (value 4 to_int (read (place 4 (unqualified to_int) (static 2)))) (value
    4 to_int (first_element (place 4 (unqualified (array plain int (Some 3))) (pointed (value 4 (pointer plain (array plain int (Some 3))) (read
    (place 4 (unqualified (pointer plain (array plain int (Some 3)))) (local 0)))))))))) (number 4 128))))) (value 4 int (arithmetic o.Eq 4 (value 4
    int (conversion 4 (value 4 (integer Char) (read (place 4 (unqualified (integer Char)) (pointed (value 4 (pointer plain (integer Char)) (read
    (place 4 (unqualified (pointer plain (integer Char))) (static 3)))))))))) (number 4 121))))) (value 4 int (negation (value 4 (pointer plain
    (returning plain int)) (read (place 4 (unqualified (pointer plain (returning plain int))) (static 4)))))))))) no_items)))) ∷ []) (static_of 1 1
    (unqualified (array plain (array plain int (Some 3)) (Some 2))) (starts_with 0 (start.Number 1) ∷ starts_with 1 (start.Number 2) ∷ starts_with 3
    (start.Number 4) ∷ []) ∷ static_of 2 1 (unqualified to_int) (starts_with 0 (start.Object 1 3) ∷ []) ∷ static_of 3 1 (unqualified (pointer plain
    (integer Char))) (starts_with 0 (start.Text 0 1) ∷ []) ∷ static_of 4 1 (unqualified (pointer plain (returning plain int))) [] ∷ []) (text_of 1
    (120 ∷ 121 ∷ []) ∷ [])) (file_of [] [] []) (numbered.Function 1 ∷ numbered.Object 1 ∷ numbered.Object 2 ∷ numbered.Object 3 ∷ numbered.Object 4 ∷
    []) 0

pointers_means : means pointers [] (limits 100 1000 1048576)
    ≡ ends (ExitEvent 197 ∷ []) (ExitEnd 197)
unfolding running
pointers_means = refl

-- int (*f)(int); int main(void) { | return f(putchar(65)); }
abbrev nothing_called : Program
nothing_called =
    program_of (file_of ((function_of 0 1 2 (returning plain int) 0 [] (statement (return 2 (Some (value 2 int (call_through 2 (value 2 (pointer plain
    (taking int (returning plain int))) (read (place 2 (unqualified (pointer plain (taking int (returning plain int)))) (static 1)))) (first_value
    (value 2 int (putchar 2 (number 2 65))) no_values))))) no_items)) ∷ []) (static_of 1 1 (unqualified (pointer plain (taking int (returning plain
    int)))) [] ∷ []) []) (file_of [] [] []) (numbered.Function 1 ∷ numbered.Object 1 ∷ []) 0

nothing_called_means : means nothing_called [] (limits 100 1000 1048576)
    ≡ ends (Byte 65 ∷ []) (TrapEnd trap.NullPointer 2)
unfolding running
nothing_called_means = refl

-- const char *names[3] = {"ab", "c"}; int twice(int n) { return n + n; } int (*fs[2])(int) = {twice, &twice}; int main(void) { |
-- putchar(names[1][0]); putchar(names[0][1]); return fs[1](4) + (names[2] == 0); }
abbrev tables : Program
tables =
    program_of (file_of ((function_of 0 1 1 (taking int (returning plain int)) 1 (in_register 1 (unqualified int) ∷ []) (statement (return 1 (Some
    (value 1 int (arithmetic o.Add 1 (held 1 0) (held 1 0))))) no_items)) ∷ (function_of 1 1 2 (returning plain int) 0 [] (statement (expression 2
    (value 2 int (putchar 2 (value 2 int (conversion 2 (value 2 (integer Char) (read (place 2 (qualified constant_only (integer Char)) (element 2 true
    (value 2 (pointer constant_only (integer Char)) (read (place 2 (unqualified (pointer constant_only (integer Char))) (element 2 true (value 2
    (pointer plain (pointer constant_only (integer Char))) (first_element (place 2 (unqualified (array plain (pointer constant_only (integer Char))
    (Some 3))) (static 2)))) (number 2 1))))) (number 2 0)))))))))) (statement (expression 2 (value 2 int (putchar 2 (value 2 int (conversion 2 (value
    2 (integer Char) (read (place 2 (qualified constant_only (integer Char)) (element 2 true (value 2 (pointer constant_only (integer Char)) (read
    (place 2 (unqualified (pointer constant_only (integer Char))) (element 2 true (value 2 (pointer plain (pointer constant_only (integer Char)))
    (first_element (place 2 (unqualified (array plain (pointer constant_only (integer Char)) (Some 3))) (static 2)))) (number 2 0))))) (number 2
    1)))))))))) (statement (return 2 (Some (value 2 int (arithmetic o.Add 2 (value 2 int (call_through 2 (value 2 (pointer plain (taking int
    (returning plain int))) (read (place 2 (unqualified (pointer plain (taking int (returning plain int)))) (element 2 true (value 2 (pointer plain
    (pointer plain (taking int (returning plain int)))) (first_element (place 2 (unqualified (array plain (pointer plain (taking int (returning plain
    int))) (Some 2))) (static 3)))) (number 2 1))))) (first_value (number 2 4) no_values))) (value 2 int (comparison o.Eq 2 (value 2 (pointer
    constant_only (integer Char)) (read (place 2 (unqualified (pointer constant_only (integer Char))) (element 2 true (value 2 (pointer plain (pointer
    constant_only (integer Char))) (first_element (place 2 (unqualified (array plain (pointer constant_only (integer Char)) (Some 3))) (static 2))))
    (number 2 2))))) (value 2 (pointer constant_only (integer Char)) null))))))) no_items)))) ∷ []) (static_of 2 1 (unqualified (array plain (pointer
    constant_only (integer Char)) (Some 3))) (starts_with 0 (start.Text 0 0) ∷ starts_with 1 (start.Text 1 0) ∷ []) ∷ static_of 3 1 (unqualified
    (array plain (pointer plain (taking int (returning plain int))) (Some 2))) (starts_with 0 (start.Function 0) ∷ starts_with 1 (start.Function 0) ∷
    []) ∷ []) (text_of 1 (97 ∷ 98 ∷ []) ∷ text_of 1 (99 ∷ []) ∷ [])) (file_of [] [] []) (numbered.Function 1 ∷ numbered.Function 2 ∷ numbered.Object 1
    ∷ numbered.Object 2 ∷ []) 1

tables_means : means tables [] (limits 100 1000 1048576)
    ≡ ends (Byte 99 ∷ Byte 98 ∷ ExitEvent 9 ∷ []) (ExitEnd 9)
unfolding running
tables_means = refl

-- void stop(int n) { putchar(n); exit(n + 1); } int main(void) { stop(300); putchar(1); }
abbrev exiting : Program
exiting =
    program_of (file_of ((function_of 0 1 1 (taking int (returning plain void)) 1 (in_register 1 (unqualified int) ∷ []) (statement (expression 1
    (value 1 int (putchar 1 (held 1 0)))) (statement (expression 1 (value 1 void (exit 1 (value 1 int (arithmetic o.Add 1 (held 1 0) (number 1 1))))))
    no_items))) ∷ (function_of 1 1 1 (returning plain int) 0 [] (statement (expression 1 (value 1 void (call 1 0 (first_value (number 1 300)
    no_values)))) (statement (expression 1 (value 1 int (putchar 1 (number 1 1)))) no_items))) ∷ []) [] []) (file_of [] [] []) (numbered.Function 1 ∷
    numbered.Function 2 ∷ []) 1

exiting_means : means exiting [] (limits 100 1000 1048576)
    ≡ ends (Byte 44 ∷ ExitEvent 45 ∷ []) (ExitEnd 45)
unfolding running
exiting_means = refl

-- const int k = 4; int *const p = 0; int main(void) { int x = k; return x + (p == 0); }
abbrev const_written : Program
const_written =
    program_of (file_of ((function_of 0 1 1 (returning plain int) 0 (in_register 1 (unqualified int) ∷ []) (declaration (given 0 (value 1 int (read
    (place 1 (qualified constant_only int) (static 1)))) ∷ []) (statement (return 1 (Some (value 1 int (arithmetic o.Add 1 (held 1 0) (value 1 int
    (comparison o.Eq 1 (value 1 to_int (read (place 1 (qualified constant_only to_int) (static 2)))) (value 1 to_int null))))))) no_items))) ∷ [])
    (static_of 1 1 (qualified constant_only int) (starts_with 0 (start.Number 4) ∷ []) ∷ static_of 2 1 (qualified constant_only to_int) (starts_with 0
    (start.Number 0) ∷ []) ∷ []) []) (file_of [] [] []) (numbered.Function 1 ∷ numbered.Object 1 ∷ numbered.Object 2 ∷ []) 0

const_written_means : means const_written [] (limits 100 1000 1048576)
    ≡ ends (ExitEvent 5 ∷ []) (ExitEnd 5)
unfolding running
const_written_means = refl

-- int f(int n) { if (n) return 5; } int main(void) { putchar(f(1)); putchar(f(0)); }
abbrev falls_off : Program
falls_off =
    program_of (file_of ((function_of 0 1 1 (taking int (returning plain int)) 1 (in_register 1 (unqualified int) ∷ []) (statement (if_only 1 (held 1
    0) (return 1 (Some (number 1 5)))) no_items)) ∷ (function_of 1 1 1 (returning plain int) 0 [] (statement (expression 1 (value 1 int (putchar 1
    (value 1 int (call 1 0 (first_value (number 1 1) no_values)))))) (statement (expression 1 (value 1 int (putchar 1 (value 1 int (call 1 0
    (first_value (number 1 0) no_values)))))) no_items))) ∷ []) [] []) (file_of [] [] []) (numbered.Function 1 ∷ numbered.Function 2 ∷ []) 1

falls_off_means : means falls_off [] (limits 100 1000 1048576)
    ≡ ends (Byte 5 ∷ Byte 0 ∷ ExitEvent 0 ∷ []) (ExitEnd 0)
unfolding running
falls_off_means = refl

-- int f(volatile int n, int m) { int *p = &m; n += 1; *p += n; return m; } int main(void) { return f(1, 2) + f(3, 4); }
abbrev placed_parameter : Program
placed_parameter =
    program_of (file_of ((function_of 0 1 1 (taking int (taking int (returning plain int))) 2 (in_memory 1 (qualified volatile_only int) ∷ in_memory 1
    (unqualified int) ∷ in_register 1 (unqualified to_int) ∷ []) (declaration (given 2 (value 1 to_int (address (an_int 1 (local 1)))) ∷ [])
    (statement (expression 1 (value 1 int (update false (place 1 (qualified volatile_only int) (local 0)) 1 o.Add 1 Int (number 1 1)))) (statement
    (expression 1 (value 1 int (update false (an_int 1 (pointed (held_pointer 1 2))) 1 o.Add 1 Int (value 1 int (read (place 1 (qualified
    volatile_only int) (local 0))))))) (statement (return 1 (Some (held 1 1))) no_items))))) ∷ (function_of 1 1 1 (returning plain int) 0 []
    (statement (return 1 (Some (value 1 int (arithmetic o.Add 1 (value 1 int (call 1 0 (first_value (number 1 1) (first_value (number 1 2)
    no_values)))) (value 1 int (call 1 0 (first_value (number 1 3) (first_value (number 1 4) no_values)))))))) no_items)) ∷ []) [] []) (file_of [] []
    []) (numbered.Function 1 ∷ numbered.Function 2 ∷ []) 1

placed_parameter_means : means placed_parameter [] (limits 100 1000 1048576)
    ≡ ends (PortRead 1 0 ∷ PortWrite 1 0 2 ∷ PortRead 1 0 ∷ PortRead 3 0 ∷ PortWrite 3 0 4 ∷ PortRead 3 0 ∷ ExitEvent 12 ∷ []) (ExitEnd 12)
unfolding running
placed_parameter_means = refl

-- int g(int *p); extern int k; int main(void) { int a[2] = {1, 2}; k = 3; return g(a) + k; }
-- binary: int k; volatile int v; int g(int *p) { int *q = &p[1]; v = *q; k += v; return *q; }
abbrev binary_objects : Program
binary_objects =
    program_of (file_of ((function_of 0 1 1 (returning plain int) 0 (in_memory 1 (unqualified (array plain int (Some 2))) ∷ []) (declaration
    (given_cells 0 (cell_of 0 (number 1 1) ∷ cell_of 1 (number 1 2) ∷ []) ∷ []) (statement (expression 1 (value 1 int (assignment (an_int 1 (static
    2)) (number 1 3)))) (statement (return 1 (Some (value 1 int (arithmetic o.Add 1 (value 1 int (call 1 1 (first_value (value 1 to_int (first_element
    (place 1 (unqualified (array plain int (Some 2))) (local 0)))) no_values))) (value 1 int (read (an_int 1 (static 2)))))))) no_items)))) ∷ []) []
    []) (file_of ((function_of 1 2000001 2000001 (taking to_int (returning plain int)) 1 (in_register 2000001 (unqualified to_int) ∷ in_register
    2000001 (unqualified to_int) ∷ []) (declaration (given 1 (value 2000001 to_int (address (an_int 2000001 (element 2000001 true (held_pointer
    2000001 0) (number 2000001 1))))) ∷ []) (statement (expression 2000001 (value 2000001 int (assignment (place 2000001 (qualified volatile_only int)
    (static 3)) (value 2000001 int (read (an_int 2000001 (pointed (held_pointer 2000001 1)))))))) (statement (expression 2000001 (value 2000001 int
    (update false (an_int 2000001 (static 2)) 2000001 o.Add 2000001 Int (value 2000001 int (read (place 2000001 (qualified volatile_only int) (static
    3))))))) (statement (return 2000001 (Some (value 2000001 int (read (an_int 2000001 (pointed (held_pointer 2000001 1))))))) no_items))))) ∷ [])
    (static_of 2 2000001 (unqualified int) [] ∷ static_of 3 2000001 (qualified volatile_only int) [] ∷ []) []) (numbered.Function 1 ∷
    numbered.Function 2 ∷ numbered.Object 134217728 ∷ numbered.Object 134217729 ∷ []) 0

binary_objects_means : means binary_objects [] (limits 100 1000 1048576)
    ≡ ends (PortWrite 134217729 0 2 ∷ PortRead 134217729 0 ∷ ExitEvent 7 ∷ []) (ExitEnd 7)
unfolding running
binary_objects_means = refl

-- int g(int n); int main(void) { return g(0); }
-- binary: int g(int n) { | return 1 / n; }
abbrev binary_lines : Program
binary_lines =
    program_of (file_of ((function_of 0 1 1 (returning plain int) 0 [] (statement (return 1 (Some (value 1 int (call 1 1 (first_value (number 1 0)
    no_values))))) no_items)) ∷ []) [] []) (file_of ((function_of 1 2000001 2000002 (taking int (returning plain int)) 1 (in_register 2000001
    (unqualified int) ∷ []) (statement (return 2000002 (Some (value 2000002 int (arithmetic o.Div 2000002 (number 2000002 1) (held 2000002 0)))))
    no_items)) ∷ []) [] []) (numbered.Function 1 ∷ numbered.Function 2 ∷ []) 0

binary_lines_means : means binary_lines [] (limits 100 1000 1048576)
    ≡ ends [] (TrapEnd trap.DivideByZero 2000002)
unfolding running
binary_lines_means = refl

-- int g(int n); int main(void) { while (g(3)) ; }
-- binary: int g(int n) { | while (n > 0) n = n - 1; | return 1; }
abbrev binary_turns : Program
binary_turns =
    program_of (file_of ((function_of 0 1 1 (returning plain int) 0 [] (statement (while 1 (value 1 int (call 1 1 (first_value (number 1 3)
    no_values))) (empty 1)) no_items)) ∷ []) [] []) (file_of ((function_of 1 2000001 2000003 (taking int (returning plain int)) 1 (in_register 2000001
    (unqualified int) ∷ []) (statement (while 2000002 (value 2000002 int (arithmetic o.Gt 2000002 (held 2000002 0) (number 2000002 0))) (expression
    2000002 (value 2000002 int (assignment (an_int 2000002 (local 0)) (value 2000002 int (arithmetic o.Sub 2000002 (held 2000002 0) (number 2000002
    1))))))) (statement (return 2000003 (Some (number 2000003 1))) no_items))) ∷ []) [] []) (numbered.Function 1 ∷ numbered.Function 2 ∷ []) 0

binary_turns_means : means binary_turns [] (limits 9 1000 1048576)
    ≡ ends [] (TrapEnd trap.Turns 2000002)
unfolding running
binary_turns_means = refl

-- int main(void) { return 1 << 32; }
abbrev shifts : Program
shifts =
    program_of (file_of ((function_of 0 1 1 (returning plain int) 0 [] (statement (return 1 (Some (value 1 int (arithmetic o.Shl 1 (number 1 1)
    (number 1 32))))) no_items)) ∷ []) [] []) (file_of [] [] []) (numbered.Function 1 ∷ []) 0

shifts_means : means shifts [] (limits 100 1000 1048576)
    ≡ ends [] (TrapEnd trap.ShiftRange 1)
unfolding running
shifts_means = refl

-- int main(void) { int a = -2147483647 - 1; return -a; }
abbrev minimum : Program
minimum =
    program_of (file_of ((function_of 0 1 1 (returning plain int) 0 (in_register 1 (unqualified int) ∷ []) (declaration (given 0 (value 1 int
    (arithmetic o.Sub 1 (value 1 int (minus (number 1 2147483647))) (number 1 1))) ∷ []) (statement (return 1 (Some (value 1 int (minus (held 1 0)))))
    no_items))) ∷ []) [] []) (file_of [] [] []) (numbered.Function 1 ∷ []) 0

minimum_means : means minimum [] (limits 100 1000 1048576)
    ≡ ends [] (TrapEnd trap.Overflow 1)
unfolding running
minimum_means = refl

-- int a; int main(void) { int *p = &a; | p = p + 65535; | p++; | return 0; }
abbrev outside_sum : Program
outside_sum =
    program_of (file_of ((function_of 0 1 4 (returning plain int) 0 (in_register 1 (unqualified to_int) ∷ []) (declaration (given 0 (value 1 to_int
    (address (an_int 1 (static 1)))) ∷ []) (statement (expression 2 (value 2 to_int (assignment (place 2 (unqualified to_int) (local 0)) (value 2
    to_int (sum 2 false true (held_pointer 2 0) (number 2 65535)))))) (statement (expression 3 (value 3 to_int (move true (place 3 (unqualified
    to_int) (local 0)) false 3 (number 3 1)))) (statement (return 4 (Some (number 4 0))) no_items))))) ∷ []) (static_of 1 1 (unqualified int) [] ∷ [])
    []) (file_of [] [] []) (numbered.Function 1 ∷ numbered.Object 1 ∷ []) 0

outside_sum_means : means outside_sum [] (limits 100 1000 1048576)
    ≡ ends [] (TrapEnd trap.OutsideObject 3)
unfolding running
outside_sum_means = refl

-- int a[3]; int main(void) { int *p = a; | return *--p; }
abbrev before : Program
before =
    program_of (file_of ((function_of 0 1 2 (returning plain int) 0 (in_register 1 (unqualified to_int) ∷ []) (declaration (given 0 (value 1 to_int
    (first_element (place 1 (unqualified (array plain int (Some 3))) (static 1)))) ∷ []) (statement (return 2 (Some (value 2 int (read (an_int 2
    (pointed (value 2 to_int (move false (place 2 (unqualified to_int) (local 0)) true 2 (number 2 1))))))))) no_items))) ∷ []) (static_of 1 1
    (unqualified (array plain int (Some 3))) [] ∷ []) []) (file_of [] [] []) (numbered.Function 1 ∷ numbered.Object 1 ∷ []) 0

before_means : means before [] (limits 100 1000 1048576)
    ≡ ends [] (TrapEnd trap.OutsideObject 2)
unfolding running
before_means = refl

-- int *f(int n) { return &n; } int main(void) { return *f(1); }
abbrev dead_argument : Program
dead_argument =
    program_of (file_of ((function_of 0 1 1 (taking int (returning plain to_int)) 1 (in_memory 1 (unqualified int) ∷ []) (statement (return 1 (Some
    (value 1 to_int (address (an_int 1 (local 0)))))) no_items)) ∷ (function_of 1 1 1 (returning plain int) 0 [] (statement (return 1 (Some (value 1
    int (read (an_int 1 (pointed (value 1 to_int (call 1 0 (first_value (number 1 1) no_values))))))))) no_items)) ∷ []) [] []) (file_of [] [] [])
    (numbered.Function 1 ∷ numbered.Function 2 ∷ []) 1

dead_argument_means : means dead_argument [] (limits 100 1000 1048576)
    ≡ ends [] (TrapEnd trap.DeadObject 1)
unfolding running
dead_argument_means = refl

-- int main(void) { int i = 0; do i++; | while (i < 3); return i; }
abbrev turns_in_do : Program
turns_in_do =
    program_of (file_of ((function_of 0 1 2 (returning plain int) 0 (in_register 1 (unqualified int) ∷ []) (declaration (given 0 (number 1 0) ∷ [])
    (statement (do_while 1 (expression 1 (value 1 int (update true (an_int 1 (local 0)) 1 o.Add 1 Int (value 1 (integer Int) (constant 1))))) (value 2
    int (arithmetic o.Lt 2 (held 2 0) (number 2 3)))) (statement (return 2 (Some (held 2 0))) no_items)))) ∷ []) [] []) (file_of [] [] [])
    (numbered.Function 1 ∷ []) 0

turns_in_do_means : means turns_in_do [] (limits 4 1000 1048576)
    ≡ ends (ExitEvent 3 ∷ []) (ExitEnd 3)
unfolding running
turns_in_do_means = refl

-- int main(void) { int i = 0; | do i++; while (i < 3); return i; }
abbrev turns_out_in_do : Program
turns_out_in_do =
    program_of (file_of ((function_of 0 1 2 (returning plain int) 0 (in_register 1 (unqualified int) ∷ []) (declaration (given 0 (number 1 0) ∷ [])
    (statement (do_while 2 (expression 2 (value 2 int (update true (an_int 2 (local 0)) 2 o.Add 2 Int (value 2 (integer Int) (constant 1))))) (value 2
    int (arithmetic o.Lt 2 (held 2 0) (number 2 3)))) (statement (return 2 (Some (held 2 0))) no_items)))) ∷ []) [] []) (file_of [] [] [])
    (numbered.Function 1 ∷ []) 0

turns_out_in_do_means : means turns_out_in_do [] (limits 3 1000 1048576)
    ≡ ends [] (TrapEnd trap.Turns 2)
unfolding running
turns_out_in_do_means = refl
