-- How long a run can still go on.
--
-- Backward jumps lead to a `Turn` alone. So between two turns, or between a return and the next turn, an activation
-- passes each place of its code at most once, and each turn is counted.
use Rattle.std.specs.Prelude.{ℕ, ◌+◌, ◌-◌, ◌*◌, ◌<◌, ◌≤◌, if◌then◌else◌, List, [], ◌∷◌, length, Option, Some, None, slice_get}
use Rattle.mid_code.specs.declared.program.MidFunction.{MidFunction}
use Rattle.mid_code.specs.declared.program.MidProgram.{MidProgram}
use Rattle.mid_code.specs.Program.{function_at}
use Rattle.mid_code.specs.Rules.{is_turn}
use Rattle.mid_code.specs.Machine.{Activation, Local, Machine, Does, Goes, Calls, Leaves, Traps, Reaches, Lost, activations, passed}

-- how many instructions an activation can pass at most before it comes to a turn, or is left
abbrev pub to_turn_in : Option MidFunction → ℕ → ℕ
to_turn_in None place = 0
to_turn_in (Some f) place = if is_turn (slice_get f.code place) then 0 else length f.code - place

abbrev pub to_turn : MidProgram → Activation → ℕ
to_turn program a = to_turn_in (function_at program a.function) a.place

abbrev pub all_to_turn : MidProgram → List Activation → ℕ
all_to_turn program [] = 0
all_to_turn program (a ∷ rest) = to_turn program a + all_to_turn program rest

-- how many steps a run of a valid program can make at most: each step makes this less. A function has at most 65,535 instructions
abbrev pub left_to_go : MidProgram → Machine → ℕ
left_to_go program m = 65536 * (m.budgets.protected.turns + m.budgets.binary.turns) + all_to_turn program (activations m)

-- the same of one activation and its part's budget, as far as it runs alone
abbrev pub alone_to_go : MidProgram → Local → ℕ
alone_to_go program l = 65536 * l.budget.turns + to_turn program l.at

-- what the next instruction does brings its activation nearer to a turn, or counts one
abbrev pub Nears : MidProgram → Local → Does → Type 0
Nears program l (Goes next) = alone_to_go program next < alone_to_go program l
Nears program l (Calls function args target) = to_turn program (passed l.at) < to_turn program l.at
Nears program l (Leaves value) = 1 ≤ to_turn program l.at
Nears program l (Traps trap line) = Unit {0}
Nears program l (Reaches access line) = to_turn program (passed l.at) < to_turn program l.at
Nears program l Lost = Unit {0}
