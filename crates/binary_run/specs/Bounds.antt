-- How long the binary functions can still go on, from now to the end of the run, whatever is done outside.
use Rattle.std.specs.Prelude.{ℕ, ◌+◌, ◌*◌, ◌<◌, List, [], ◌∷◌}
use Rattle.srmt_base.specs.declared.part.Part.{Part}
use Rattle.srmt_base.specs.declared.part.Part.TheVariants.{Protected, Binary}
use Rattle.mid_code.specs.declared.program.MidProgram.{MidProgram}
use Rattle.mid_code.specs.Machine.{Activation, Machine, activations, part_of_function}
use Rattle.mid_code.specs.Bounds.{to_turn}
use Rattle.binary_run.specs.declared.binary.BinaryStep.{BinaryStep}
use Rattle.binary_run.specs.declared.binary.BinaryStep.TheVariants.{Went, Returned, Calls, Ended}

-- how many instructions the binary ones of some activations can pass before they come to a turn: stubs do not run
abbrev pub own_to_turn : Part → MidProgram → Activation → ℕ
own_to_turn Protected program a = 0
own_to_turn Binary program a = to_turn program a

abbrev pub all_to_turn : MidProgram → List Activation → ℕ
all_to_turn program [] = 0
all_to_turn program (a ∷ rest) = own_to_turn (part_of_function program a.function) program a + all_to_turn program rest

-- how many steps can be made at most: each step makes this less. A function has at most 65,535 instructions
abbrev pub left_to_run : MidProgram → Machine → ℕ
left_to_run program m = 65536 * m.budgets.binary.turns + all_to_turn program (activations m)

-- a step has made it less, unless the run has ended
abbrev pub IsNearer : BinaryStep → ℕ → ℕ → Type 0
IsNearer Went before after = after < before
IsNearer (Returned value) before after = after < before
IsNearer (Calls function args) before after = after < before
IsNearer (Ended end) before after = Unit {0}
