-- Instructions of the code as those of the definition.
use Rattle.std.specs.Prelude.{ℕ}
use Rattle.mid_code.specs.declared.mid.Mid.{Mid}
use Rattle.mid_code.specs.declared.mid.Mid.TheVariants as mid
use Rattle.mid_code.specs.declared.program.MidLine.{MidLine}
use Rattle.mid_code.specs.Registers.{registers_list}
use Rattle.lower.specs.Emitting.{Instruction, plain, calls, calls_through, Line}

abbrev pub instruction_view : Mid → Instruction
instruction_view (mid.Call target function args) = calls target function (registers_list args)
instruction_view (mid.CallPtr target callee type args) = calls_through target callee type (registers_list args)
instruction_view other = plain other

abbrev pub line_view : MidLine → Line
line_view l = record { line = l.line; instruction = instruction_view l.mid }

-- the line of an instruction
abbrev pub told : ℕ → Mid → Line
told line m = record { line = line; instruction = instruction_view m }
