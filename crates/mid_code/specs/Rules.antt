-- The rules that a valid program keeps, by their numbers, and the places that break them.
--
-- Rules 1 to 5 concern one field of an instruction each, and 6 to 8 the whole of it.
--
-- 1: a number is within its limit. 3: what an operand names is there. 4: a register has the kind that its operand
-- wants. 5: a place is within the code, and a jump leads forward, or to a `Turn`. 6: the last instruction is not
-- followed by another. 7: arguments and results have the kinds of the function's type. 8: objects open and close in
-- order. Rule 2, that each code is one of an instruction, can be broken in a file alone.
use Rattle.std.specs.Prelude.{ℕ, zero, suc, ◌+◌, ◌-◌, ◌^◌, ◌==◌, nat_lt, nat_le, Bool, true, false, not, ◌&&◌, ◌||◌, if◌then◌else◌, List, [], ◌∷◌, length, Option, Some, None, slice_get, slice_index, sum_by}
use Rattle.std.specs.List.{list_any}
use Rattle.std.specs.Option.{option_or}
use Rattle.srmt_base.specs.declared.ty.Ty.{Ty}
use Rattle.srmt_base.specs.declared.ty.Ty.TheVariants.{Bool as BoolType, Char, SChar, UChar, Short, UShort, Int, UInt}
use Rattle.srmt_base.specs.Arith.{is_comparison}
use Rattle.mid_code.specs.declared.program.RegisterKind.{RegisterKind}
use Rattle.mid_code.specs.declared.program.RegisterKind.TheVariants.{Number, Address}
use Rattle.mid_code.specs.declared.program.FunType.{FunType}
use Rattle.srmt_base.specs.declared.statics.Static.{Static}
use Rattle.mid_code.specs.declared.program.MidLine.{MidLine}
use Rattle.mid_code.specs.declared.program.MidFunction.{MidFunction}
use Rattle.mid_code.specs.declared.program.MidProgram.{MidProgram}
use Rattle.mid_code.specs.declared.mid.Mid.{Mid}
use Rattle.mid_code.specs.declared.mid.Mid.TheVariants.{Const, Move, Arith, Conv, PtrAdd, PtrDiff, PtrCmp, GlobAddr, FunAddr, Load, Store, VLoad, VStore, Open, Close, Jump, JumpZ, JumpN, Turn, Call, CallPtr, Return, Put, Get, Exit}
use Rattle.mid_code.specs.Registers.{registers_list}
use Rattle.mid_code.specs.Program.{function_at}
use Rattle.mid_code.specs.Fields.{Field, Writes, Reads, Passes, Value, Operator, Comparison, AnyType, ArithmeticType, Negated, Scale, Cells, StaticObject, Callable, TypeNumber, Beginning, Target, Wanted, Any, Kind, Like, fields}
use Rattle.mid_code.specs.Ways.{counts_turn, is_final}
use Rattle.mid_code.specs.Flow.{breaks_order}

-- two kinds are the same
abbrev pub same_kind : RegisterKind → RegisterKind → Bool
same_kind Number Number = true
same_kind Address Address = true
same_kind _ _ = false

-- a register is there, and has this kind
abbrev pub is_of_kind : Option RegisterKind → RegisterKind → Bool
is_of_kind None kind = false
is_of_kind (Some found) kind = same_kind found kind

-- registers have these kinds, one after another
abbrev pub are_of_kinds : List RegisterKind → List ℕ → List RegisterKind → Bool
are_of_kinds kinds [] [] = true
are_of_kinds kinds (r ∷ rs) (k ∷ ks) = is_of_kind (slice_get kinds r) k && are_of_kinds kinds rs ks
are_of_kinds kinds _ _ = false

-- Rule 1, of the program: it has at most 65,535 types, each of at most 16 parameters; each part has at most 4,096
-- functions, and `main` is one of the main file's
abbrev pub has_large_type : List FunType → Bool
has_large_type types = nat_lt 65535 (length types) || list_any (λ type. nat_lt 16 (length type.params)) types

abbrev pub has_bad_parts : MidProgram → Bool
has_bad_parts program =
    nat_lt (length program.functions) program.main_functions || nat_lt 4096 program.main_functions
    || nat_lt 4096 (length program.functions - program.main_functions) || program.main == 0 || nat_lt program.main_functions program.main

-- the values of a static object are at most its cells, below 2^44, and the last is not 0
abbrev pub is_bad_static : Static → Bool
is_bad_static object =
    object.cells == 0 || nat_lt object.cells (length object.values) || list_any (λ value. nat_le (2 ^ 44) value) object.values
    || (nat_lt 0 (length object.values) && slice_index object.values (length object.values - 1) == 0)

-- all static cells of a part are at most 1,048,576
abbrev pub has_bad_statics : List Static → Bool
has_bad_statics objects = list_any is_bad_static objects || nat_lt 1048576 (sum_by (λ object. object.cells) objects)

abbrev pub breaks_program : MidProgram → Bool
breaks_program program =
    has_large_type program.types || has_bad_parts program || has_bad_statics program.main_statics || has_bad_statics program.binary_statics

-- Rule 1, of a function: its type is there; it has 1 to 1,024 registers, no fewer than parameters, and 1 to 65,535
-- instructions; `main` has no parameters, and a number as its result
abbrev pub is_number_alone : FunType → Bool
is_number_alone type = length type.params == 0 && same_kind type.result Number

abbrev pub has_bad_type : Bool → MidFunction → Option FunType → Bool
has_bad_type is_main function None = true
has_bad_type is_main function (Some type) = nat_lt (length function.kinds) (length type.params) || (is_main && not (is_number_alone type))

abbrev pub breaks_function : MidProgram → ℕ → MidFunction → Bool
breaks_function program number function =
    length function.kinds == 0 || nat_lt 1024 (length function.kinds) || length function.code == 0 || nat_lt 65535 (length function.code)
    || has_bad_type (number == program.main) function (slice_get program.types function.ty)

-- an object of static storage duration: those of the main file are numbered from 1, those of the binary file from 134,217,728
abbrev pub is_static : MidProgram → ℕ → Bool
is_static program object =
    (nat_le 1 object && nat_le object (length program.main_statics))
    || (nat_le 134217728 object && nat_lt object (134217728 + length program.binary_statics))

-- a function that may be called: any but `main`
abbrev pub is_callable : MidProgram → ℕ → Bool
is_callable program function = nat_le 1 function && nat_le function (length program.functions) && not (function == program.main)

-- arithmetic is made at `int` or `unsigned int`
abbrev pub has_arithmetic : Ty → Bool
has_arithmetic BoolType = false
has_arithmetic Char = false
has_arithmetic SChar = false
has_arithmetic UChar = false
has_arithmetic Short = false
has_arithmetic UShort = false
has_arithmetic Int = true
has_arithmetic UInt = true

-- a register has another kind than another
abbrev pub is_of_other_kind : Option RegisterKind → Option RegisterKind → Bool
is_of_other_kind found None = false
is_of_other_kind found (Some kind) = not (is_of_kind found kind)

abbrev pub has_other_kind : List RegisterKind → ℕ → Wanted → Bool
has_other_kind kinds register Any = false
has_other_kind kinds register (Kind kind) = is_of_other_kind (slice_get kinds register) (Some kind)
has_other_kind kinds register (Like other) = is_of_other_kind (slice_get kinds register) (slice_get kinds other)

abbrev pub is_outside : List RegisterKind → ℕ → Bool
is_outside kinds register = nat_le (length kinds) register

-- a jump leads forward, or back to a `Turn`
abbrev pub is_turn : Option MidLine → Bool
is_turn None = false
is_turn (Some l) = counts_turn l.mid

abbrev pub is_bad_target : List MidLine → ℕ → ℕ → Bool
is_bad_target code place target = nat_le (length code) target || (nat_le target place && not (is_turn (slice_get code target)))

-- a rule that is broken
abbrev pub broken : ℕ → Bool → Option ℕ
broken rule breaks = if breaks then Some rule else None

-- the least rule that a register breaks
abbrev pub register_rule : List RegisterKind → ℕ → Wanted → Option ℕ
register_rule kinds register wanted = option_or (broken 3 (is_outside kinds register)) (broken 4 (has_other_kind kinds register wanted))

-- the least that a value for a register breaks: an address can be made of 0 alone
abbrev pub value_rule : List RegisterKind → ℕ → ℕ → Option ℕ
value_rule kinds value register = option_or (broken 1 (nat_le (2 ^ 44) value)) (broken 4 (nat_lt 0 value && is_of_kind (slice_get kinds register) Address))

-- the least rule that a field of the instruction at a place of a function breaks
abbrev pub field_rule : MidProgram → MidFunction → ℕ → Field → Option ℕ
field_rule program function place (Writes register wanted) = register_rule function.kinds register wanted
field_rule program function place (Reads register wanted) = register_rule function.kinds register wanted
field_rule program function place (Passes args) = broken 3 (list_any (is_outside function.kinds) (registers_list args))
field_rule program function place (Value value register) = value_rule function.kinds value register
field_rule program function place (Operator op) = None
field_rule program function place (Comparison op) = broken 3 (not (is_comparison op))
field_rule program function place (AnyType ty) = None
field_rule program function place (ArithmeticType ty) = broken 3 (not (has_arithmetic ty))
field_rule program function place (Negated negated) = None
field_rule program function place (Scale scale) = broken 3 (scale == 0)
field_rule program function place (Cells cells) = broken 1 (cells == 0)
field_rule program function place (StaticObject object) = broken 3 (not (is_static program object))
field_rule program function place (Callable number) = broken 3 (not (is_callable program number))
field_rule program function place (TypeNumber ty) = broken 3 (nat_le (length program.types) ty)
field_rule program function place (Beginning begun) = broken 5 (nat_le (length function.code) begun)
field_rule program function place (Target target) = broken 5 (is_bad_target function.code place target)

-- the lesser of two rules, of those that are there
abbrev pub lesser : Option ℕ → Option ℕ → Option ℕ
lesser None second = second
lesser (Some first) None = Some first
lesser (Some first) (Some second) = if nat_lt second first then Some second else Some first

-- the least rule that one of some fields breaks
abbrev pub fields_rule : MidProgram → MidFunction → ℕ → List Field → Option ℕ
fields_rule program function place [] = None
fields_rule program function place (field ∷ rest) = lesser (field_rule program function place field) (fields_rule program function place rest)

-- Rule 6: the last instruction is one that no other follows
abbrev pub runs_out : List MidLine → ℕ → Mid → Bool
runs_out code place mid = place + 1 == length code && not (is_final mid)

-- Rule 7: the arguments and the target of a call have the kinds of the type, and the source of a return has that of the
-- function's; `main` does not return. A type that is not there is another rule's
abbrev pub misfits_type : List RegisterKind → ℕ → List ℕ → Option FunType → Bool
misfits_type kinds target args None = false
misfits_type kinds target args (Some type) = not (is_of_kind (slice_get kinds target) type.result) || not (are_of_kinds kinds args type.params)

-- the type of a function, if it and its type are there
abbrev pub type_of : MidProgram → Option MidFunction → Option FunType
type_of program None = None
type_of program (Some function) = slice_get program.types function.ty

abbrev pub misreturns : List RegisterKind → ℕ → Option FunType → Bool
misreturns kinds source None = false
misreturns kinds source (Some type) = not (is_of_kind (slice_get kinds source) type.result)

abbrev pub misfits : MidProgram → ℕ → MidFunction → Mid → Bool
misfits program number function (Const target value) = false
misfits program number function (Move target source) = false
misfits program number function (Arith op ty target left right) = false
misfits program number function (Conv from to target source) = false
misfits program number function (PtrAdd target pointer index ty negated scale) = false
misfits program number function (PtrDiff target left right scale) = false
misfits program number function (PtrCmp op target left right) = false
misfits program number function (GlobAddr target object) = false
misfits program number function (FunAddr target callee) = false
misfits program number function (Load target pointer) = false
misfits program number function (Store pointer source) = false
misfits program number function (VLoad target pointer) = false
misfits program number function (VStore pointer source) = false
misfits program number function (Open target cells) = false
misfits program number function (Close place) = false
misfits program number function (Jump place) = false
misfits program number function (JumpZ source place) = false
misfits program number function (JumpN source place) = false
misfits program number function Turn = false
misfits program number function (Call target callee args) =
    misfits_type function.kinds target (registers_list args) (type_of program (function_at program callee))
misfits program number function (CallPtr target callee ty args) =
    misfits_type function.kinds target (registers_list args) (slice_get program.types ty)
misfits program number function (Return source) =
    number == program.main || misreturns function.kinds source (slice_get program.types function.ty)
misfits program number function (Put source) = false
misfits program number function (Get target) = false
misfits program number function (Exit source) = false

-- the first registers of a function are its parameters
abbrev pub starts_with_kinds : List RegisterKind → List RegisterKind → Bool
starts_with_kinds kinds [] = true
starts_with_kinds [] (p ∷ ps) = true
starts_with_kinds (k ∷ ks) (p ∷ ps) = same_kind k p && starts_with_kinds ks ps

abbrev pub misfits_params : MidFunction → Option FunType → Bool
misfits_params function None = false
misfits_params function (Some type) = not (starts_with_kinds function.kinds type.params)

-- a function's parameters count with its first instruction
abbrev pub misfits_at : MidProgram → ℕ → MidFunction → ℕ → Mid → Bool
misfits_at program number function place mid =
    misfits program number function mid || (place == 0 && misfits_params function (slice_get program.types function.ty))

-- the least rule that an instruction breaks at its place, but for the order of open objects, and with it
unfoldable pub early_rule : MidProgram → ℕ → MidFunction → ℕ → Mid → Option ℕ
early_rule program number function place mid =
    option_or (option_or (fields_rule program function place (fields mid)) (broken 6 (runs_out function.code place mid)))
    (broken 7 (misfits_at program number function place mid))

abbrev pub instruction_rule : MidProgram → ℕ → MidFunction → ℕ → Mid → Option ℕ
instruction_rule program number function place mid =
    option_or (early_rule program number function place mid) (broken 8 (breaks_order function.code place mid))

abbrev pub line_rule : MidProgram → ℕ → MidFunction → ℕ → Option MidLine → Option ℕ
line_rule program number function place None = None
line_rule program number function place (Some l) = instruction_rule program number function place l.mid

-- what concerns a function and none of its instructions is broken at its first place
abbrev pub function_rule : MidProgram → ℕ → ℕ → Option MidFunction → Option ℕ
function_rule program number place None = None
function_rule program number place (Some function) =
    if place == 0 && breaks_function program number function then Some 1
    else line_rule program number function place (slice_get function.code place)

-- the least rule that is broken at a place of a function, from 1. What concerns no function is broken at place 0 of function 0
abbrev pub rule_broken : MidProgram → ℕ → ℕ → Option ℕ
rule_broken program zero place = if place == 0 && breaks_program program then Some 1 else None
rule_broken program (suc before) place = function_rule program (suc before) place (slice_get program.functions before)
