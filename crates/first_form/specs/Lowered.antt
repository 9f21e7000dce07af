-- The middle code of a source of the first form.
use Rattle.std.specs.Prelude.{◌≡◌, ℕ, List, [], ◌∷◌, ◌++◌}
use Rattle.std.specs.List.{flat_map}
use Rattle.srmt_base.specs.declared.limits.Limits.{Limits}
use Rattle.srmt_base.specs.declared.ty.Ty.TheVariants.{Int, UChar}
use Rattle.mid_code.specs.declared.program.RegisterKind.TheVariants.{Number}
use Rattle.mid_code.specs.declared.program.MidLine.{MidLine}
use Rattle.mid_code.specs.declared.program.MidFunction.{MidFunction}
use Rattle.mid_code.specs.declared.program.MidProgram.{MidProgram}
use Rattle.mid_code.specs.declared.mid.Mid.TheVariants.{Const, Conv, Put, Exit}
use Rattle.mid_code.specs.Closed.{everything_shared}
use Rattle.mid_code.specs.Pairs.{HasSites}
use Rattle.mid_code.specs.Meaning.{Middle}
use Rattle.first_form.specs.declared.source.PutConstant.{PutConstant}
use Rattle.first_form.specs.declared.source.FirstForm.{FirstForm}
use Rattle.first_form.specs.Meaning.{events_of, end_of}

-- `putchar(D);`, whose value is the byte as an unsigned char
abbrev pub put_code : PutConstant → List MidLine
put_code p =
    record { line = p.constant.line; mid = Const 0 p.constant.value }
    ∷ record { line = p.paren_line; mid = Put 0 }
    ∷ record { line = p.name_line; mid = Conv Int UChar 0 0 }
    ∷ []

-- `return D;`, and the end of main, which returns 0 and is not reached (C11 5.1.2.2.3)
abbrev pub tail_code : FirstForm → List MidLine
tail_code form =
    record { line = form.status.line; mid = Const 0 form.status.value }
    ∷ record { line = form.return_line; mid = Exit 0 }
    ∷ record { line = form.end_line; mid = Const 0 0 }
    ∷ record { line = form.end_line; mid = Exit 0 }
    ∷ []

abbrev pub code_of : FirstForm → List MidLine
code_of form = flat_map put_code form.puts ++ tail_code form

-- one function without parameters, in one register
abbrev pub main_of : FirstForm → MidFunction
main_of form = record { ty = 0; kinds = Number ∷ []; line = form.main_line; code = code_of form }

-- main is the first function of its file, and there are no objects and no binary file
abbrev pub program_of : FirstForm → MidProgram
program_of form = record {
  types = record { params = []; result = Number } ∷ [];
  main_functions = 1;
  main = 1;
  main_statics = [];
  binary_statics = [];
  functions = main_of form ∷ [];
}

-- the program is the form's, fit to be run by two sides, and means what a source of this form does
pub record Implements (program : MidProgram) (form : FirstForm) : Type 0 where
  pub same : program ≡ program_of form
  pub sites : HasSites (everything_shared program)
  pub means : (input : List ℕ) (limits : Limits) → Middle program input limits (events_of form) (end_of form)
