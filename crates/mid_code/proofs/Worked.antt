-- Programs whose meaning is computed by the definition: budgets at their limits, objects, calls and their traps.
use Rattle.std.proofs.Common.{◌≡◌, ℕ, zero, suc, ◌≤◌, List, [], ◌∷◌, Bool, true, false, refl, arith}
use Rattle.std.specs.Prelude.{replicate, slice_index}
use Rattle.srmt_base.specs.declared.event.Event.TheVariants.{Byte, PortRead, PortWrite, Exit as ExitEvent}
use Rattle.srmt_base.specs.declared.limits.Limits.{Limits}
use Rattle.srmt_base.specs.declared.op.Op.TheVariants.{Add, Sub, Lt}
use Rattle.srmt_base.specs.declared.trap.Trap.TheVariants.{Turns, Depth, DeadObject, ReadOnly, Store as StoreTrap, NullPointer, NotAFunction}
use Rattle.srmt_base.specs.declared.trap.SourceEnd.TheVariants.{Exit as ExitEnd, Trap as TrapEnd}
use Rattle.srmt_base.specs.declared.ty.Ty.TheVariants.{Int}
use Rattle.mid_code.specs.declared.program.RegisterKind.TheVariants.{Number, Address}
use Rattle.mid_code.specs.declared.program.MidLine.{MidLine}
use Rattle.mid_code.specs.declared.program.MidProgram.{MidProgram}
use Rattle.mid_code.specs.declared.registers.Registers.{Registers}
use Rattle.mid_code.specs.declared.mid.Mid.{Mid}
use Rattle.mid_code.specs.declared.mid.Mid.TheVariants.{Const, Move, Arith, GlobAddr, Load, Store, VLoad, VStore, Open, Close, Jump, JumpZ, Turn, Call, CallPtr, Return, Put, Get, Exit}
use Rattle.mid_code.specs.Machine.{does}
use Rattle.mid_code.specs.Meaning.{Ended, exec, started}

line : ℕ → Mid → MidLine
line n mid = record { line = n; mid = mid }

-- `int main(void) { | int i = 0; | while (i < 3) i = i + 1; | return i; | }`
counting : MidProgram
counting = record {
  types = record { params = []; result = Number } ∷ [];
  main_functions = 1;
  main = 1;
  main_statics = [];
  binary_statics = [];
  functions = record {
    ty = 0;
    kinds = replicate 3 Number;
    line = 1;
    code =
        line 2 (Const 0 0) ∷ line 2 (Const 1 0) ∷ line 2 (Move 0 1) ∷ line 3 Turn ∷ line 3 (Move 1 0) ∷ line 3 (Const 2 3)
        ∷ line 3 (Arith Lt Int 1 1 2) ∷ line 3 (JumpZ 1 13) ∷ line 3 (Move 1 0) ∷ line 3 (Const 2 1) ∷ line 3 (Arith Add Int 1 1 2)
        ∷ line 3 (Move 0 1) ∷ line 3 (Jump 3) ∷ line 4 (Move 1 0) ∷ line 4 (Exit 1) ∷ [];
  } ∷ [];
}

limits : ℕ → ℕ → Limits
limits turns depth = record { turns = turns; depth = depth; cells = 1048576 }

five_turns : exec counting 100 (started counting [] (limits 5 1000)) ≡ Ended (ExitEnd 3) (ExitEvent 3 ∷ [])
unfolding counting line limits does
five_turns = refl

four_turns : exec counting 100 (started counting [] (limits 4 1000)) ≡ Ended (TrapEnd Turns 3) []
unfolding counting line limits does
four_turns = refl

-- the registers of a call
none : Registers
none = record { count = 0; numbers = replicate 16 0; room = refl; within = omega arith; rest = λ k _. all_zero 16 k }
  where
    all_zero : (n k : ℕ) → slice_index (replicate n 0) k ≡ 0
    all_zero zero k = refl
    all_zero (suc n) zero = refl
    all_zero (suc n) (suc k) = all_zero n k

one : ℕ → Registers
one r = record { count = 1; numbers = r ∷ replicate 15 0; room = refl; within = omega arith; rest = behind }
  where
    all_zero : (n k : ℕ) → slice_index (replicate n 0) k ≡ 0
    all_zero zero k = refl
    all_zero (suc n) zero = refl
    all_zero (suc n) (suc k) = all_zero n k

    behind : (k : ℕ) → 1 ≤ k → slice_index (r ∷ replicate 15 0) k ≡ 0
    behind zero h = absurd (omega arith)
    behind (suc k) h = all_zero 15 k

-- `int f(int n) { return n ? 1 + f(n - 1) : 0; } | int main(void) { return f(2); }`
nested : MidProgram
nested = record {
  types = record { params = Number ∷ []; result = Number } ∷ record { params = []; result = Number } ∷ [];
  main_functions = 2;
  main = 2;
  main_statics = [];
  binary_statics = [];
  functions =
      record {
        ty = 0;
        kinds = replicate 3 Number;
        line = 1;
        code =
            line 1 (JumpZ 0 7) ∷ line 1 (Const 1 1) ∷ line 1 (Arith Sub Int 2 0 1) ∷ line 1 (Call 2 1 (one 2)) ∷ line 1 (Const 1 1)
            ∷ line 1 (Arith Add Int 1 1 2) ∷ line 1 (Return 1) ∷ line 1 (Const 1 0) ∷ line 1 (Return 1) ∷ [];
      }
      ∷ record { ty = 1; kinds = Number ∷ []; line = 2; code = line 2 (Const 0 2) ∷ line 2 (Call 0 1 (one 0)) ∷ line 2 (Exit 0) ∷ [] }
      ∷ [];
}

-- `main` and three activations of `f`
four_live : exec nested 100 (started nested [] (limits 4 4)) ≡ Ended (ExitEnd 2) (ExitEvent 2 ∷ [])
unfolding nested line limits does one
four_live = refl

-- of both traps, that of the activations comes first
three_live : exec nested 100 (started nested [] (limits 3 3)) ≡ Ended (TrapEnd Depth 1) []
unfolding nested line limits does one
three_live = refl

three_turns : exec nested 100 (started nested [] (limits 3 4)) ≡ Ended (TrapEnd Turns 1) []
unfolding nested line limits does one
three_turns = refl

-- `int *f(void) { int x = 5; return &x; } | int main(void) { | int *p = f(); | return *p; | }`
dangling : MidProgram
dangling = record {
  types = record { params = []; result = Address } ∷ record { params = []; result = Number } ∷ [];
  main_functions = 2;
  main = 2;
  main_statics = [];
  binary_statics = [];
  functions =
      record {
        ty = 0;
        kinds = Address ∷ Number ∷ [];
        line = 1;
        code = line 1 (Open 0 1) ∷ line 1 (Const 1 5) ∷ line 1 (Store 0 1) ∷ line 1 (Close 0) ∷ line 1 (Return 0) ∷ [];
      }
      ∷ record { ty = 1; kinds = Address ∷ Number ∷ []; line = 2; code = line 3 (Call 0 1 none) ∷ line 4 (Load 1 0) ∷ line 4 (Exit 1) ∷ [] }
      ∷ [];
}

dead : exec dangling 100 (started dangling [] (limits 9 9)) ≡ Ended (TrapEnd DeadObject 4) []
unfolding dangling line limits does none
dead = refl

-- a `main` alone, over one static object of a cell that holds 97
alone : Bool → List MidLine → MidProgram
alone read_only code = record {
  types = record { params = []; result = Number } ∷ [];
  main_functions = 1;
  main = 1;
  main_statics = record { cells = 1; read_only = read_only; values = 97 ∷ [] } ∷ [];
  binary_statics = [];
  functions = record { ty = 0; kinds = Address ∷ Number ∷ Address ∷ []; line = 1; code = code } ∷ [];
}

literal : List MidLine
literal = line 1 (GlobAddr 0 1) ∷ line 1 (Const 1 98) ∷ line 2 (Store 0 1) ∷ line 3 (Exit 1) ∷ []

read_only : exec (alone true literal) 100 (started (alone true literal) [] (limits 1 1)) ≡ Ended (TrapEnd ReadOnly 2) []
unfolding alone literal line limits does
read_only = refl

written : exec (alone false literal) 100 (started (alone false literal) [] (limits 1 1)) ≡ Ended (ExitEnd 98) (ExitEvent 98 ∷ [])
unfolding alone literal line limits does
written = refl

-- `volatile int port; | int main(void) { port = 5; return port; }`
port : List MidLine
port = line 2 (GlobAddr 0 1) ∷ line 2 (Const 1 5) ∷ line 2 (VStore 0 1) ∷ line 2 (VLoad 1 0) ∷ line 2 (Exit 1) ∷ []

accesses : exec (alone false port) 100 (started (alone false port) [] (limits 1 1)) ≡ Ended (ExitEnd 5) (PortWrite 1 0 5 ∷ PortRead 1 0 ∷ ExitEvent 5 ∷ [])
unfolding alone port line limits does
accesses = refl

-- static cells and those of two objects reach the budget, and a cell more passes it
places : ℕ → List MidLine
places cells = line 2 (Open 0 2) ∷ line 3 (Open 2 cells) ∷ line 4 (Const 1 0) ∷ line 4 (Exit 1) ∷ []

few_cells : ℕ → Limits
few_cells cells = record { turns = 1; depth = 1; cells = cells }

room : exec (alone false (places 3)) 100 (started (alone false (places 3)) [] (few_cells 6)) ≡ Ended (ExitEnd 0) (ExitEvent 0 ∷ [])
unfolding alone places line few_cells does
room = refl

no_room : exec (alone false (places 4)) 100 (started (alone false (places 4)) [] (few_cells 6)) ≡ Ended (TrapEnd StoreTrap 3) []
unfolding alone places line few_cells does
no_room = refl

-- the input byte by byte, and EOF
reads : List MidLine
reads = line 1 (Get 1) ∷ line 1 (Put 1) ∷ line 1 (Get 1) ∷ line 1 (Exit 1) ∷ []

ended_input : exec (alone false reads) 100 (started (alone false reads) (255 ∷ []) (limits 1 1)) ≡ Ended (ExitEnd 255) (Byte 255 ∷ ExitEvent 255 ∷ [])
unfolding alone reads line limits does
ended_input = refl

-- a call of a value: no function, `main`, and one of the type
by_value : ℕ → List MidLine
by_value value = line 1 (Const 1 value) ∷ line 2 (CallPtr 1 1 0 none) ∷ line 3 (Exit 1) ∷ []

null_called : exec (alone false (by_value 0)) 100 (started (alone false (by_value 0)) [] (limits 9 9)) ≡ Ended (TrapEnd NullPointer 2) []
unfolding alone by_value line limits does none
null_called = refl

main_called : exec (alone false (by_value 1)) 100 (started (alone false (by_value 1)) [] (limits 9 9)) ≡ Ended (TrapEnd NotAFunction 2) []
unfolding alone by_value line limits does none
main_called = refl

-- a binary function has budgets and numbers of its own: `int f(void) { volatile int x; return x; } | int main(void) { return f(); }`
apart : MidProgram
apart = record {
  types = record { params = []; result = Number } ∷ [];
  main_functions = 1;
  main = 1;
  main_statics = [];
  binary_statics = [];
  functions =
      record { ty = 0; kinds = Number ∷ []; line = 1; code = line 1 (Call 0 2 none) ∷ line 1 (Exit 0) ∷ [] }
      ∷ record {
        ty = 0;
        kinds = Address ∷ Number ∷ [];
        line = 2000001;
        code = line 2000001 (Open 0 1) ∷ line 2000001 (VLoad 1 0) ∷ line 2000001 (Close 0) ∷ line 2000001 (Return 1) ∷ [];
      }
      ∷ [];
}

each_part : exec apart 100 (started apart [] (limits 1 1)) ≡ Ended (ExitEnd 0) (PortRead 134217728 0 ∷ ExitEvent 0 ∷ [])
unfolding apart line limits does none
each_part = refl

-- and its traps have lines of its file
binary_line : exec apart 100 (started apart [] (few_cells 0)) ≡ Ended (TrapEnd StoreTrap 2000001) []
unfolding apart line few_cells does none
binary_line = refl
