-- The code of a function so far.
--
-- The places to which `break` and `continue` of the loops that are open lead are not known yet: the code is a function of
-- them. Code that is too long is forgotten.
use Rattle.std.specs.Prelude.{◌≡◌, ◌≤◌, ℕ, zero, suc, nat_lt, Bool, true, false, List, [], ◌∷◌, ◌++◌, length, Option, Some, None}
use Rattle.mid_code.specs.declared.mid.Mid.TheVariants as mid
use Rattle.lower.specs.Emitting.{Instruction, plain, Line, Code, Around}

-- a function has at most 65,535 instructions
abbrev pub most_instructions : ℕ
most_instructions = 65535

-- ---- where the jumps of loops lead

pub record Leads : Type 0 where
  pub break_at : ℕ
  pub continue_at : ℕ

abbrev pub no_leads : Leads
no_leads = record { break_at = 0; continue_at = 0 }

-- those of the innermost loop
abbrev pub leads_of : List Leads → Leads
leads_of [] = no_leads
leads_of (l ∷ rest) = l

-- those of the loops around it
abbrev pub leads_around : List Leads → List Leads
leads_around [] = []
leads_around (l ∷ rest) = rest

-- ---- code that grows

abbrev pub Lines : Type 0
Lines = Option (List Line)

abbrev pub SoFar : Type 0
SoFar = List Leads → Lines

abbrev pub if_room : Line → List Line → Bool → Lines
if_room l ls true = Some (ls ++ l ∷ [])
if_room l ls false = None

unfoldable pub with_line : Line → Lines → Lines
with_line l None = None
with_line l (Some ls) = if_room l ls (nat_lt (length ls) most_instructions)

abbrev pub added : List Line → Lines → Lines
added [] s = s
added (l ∷ ls) s = added ls (with_line l s)

-- code comes behind the code so far
abbrev pub grown : Around → Code → Lines → Lines
grown around c None = None
grown around c (Some ls) = added (c around (length ls)) (Some ls)

-- the place of the next instruction, which is 65,536 where the code is too long
abbrev pub IsHere : ℕ → Lines → Type 0
IsHere place None = place ≡ suc most_instructions
IsHere place (Some ls) = (place ≡ length ls) × (length ls ≤ most_instructions)

-- ---- jumps whose place becomes known

abbrev pub leading_to : ℕ → Instruction → Instruction
leading_to to (plain (mid.Jump place)) = plain (mid.Jump to)
leading_to to (plain (mid.JumpZ r place)) = plain (mid.JumpZ r to)
leading_to to (plain (mid.JumpN r place)) = plain (mid.JumpN r to)
leading_to to other = other

abbrev pub line_to : ℕ → Line → Line
line_to to l = record { line = l.line; instruction = leading_to to l.instruction }

-- the jump at a place leads to another one
abbrev pub landed : ℕ → ℕ → List Line → List Line
landed at to [] = []
landed zero to (l ∷ ls) = line_to to l ∷ ls
landed (suc at) to (l ∷ ls) = l ∷ landed at to ls
