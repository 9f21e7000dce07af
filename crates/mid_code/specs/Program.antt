-- Looking things up in a program.
use Rattle.std.specs.Prelude.{ℕ, zero, suc, Option, None, slice_get, option_and_then}
use Rattle.mid_code.specs.declared.program.MidProgram.{MidProgram}
use Rattle.mid_code.specs.declared.program.MidFunction.{MidFunction}
use Rattle.mid_code.specs.declared.program.MidLine.{MidLine}

-- the function of a number; the first is 1
abbrev pub function_at : MidProgram → ℕ → Option MidFunction
function_at program zero = None
function_at program (suc before) = slice_get program.functions before

-- the instruction at a place of a function, with its line
abbrev pub line_at : MidProgram → ℕ → ℕ → Option MidLine
line_at program function place = option_and_then (λ f. slice_get f.code place) (function_at program function)
