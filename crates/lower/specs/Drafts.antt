-- How the code keeps what it does not know yet: a jump that leaves a loop names the loop by its number.
use Rattle.std.specs.Prelude.{◌≡◌, ◌<◌, ◌==◌, ℕ, Bool, true, false, if◌then◌else◌, List, [], ◌∷◌, length, map, reverse, Option, Some, None, slice_index_or, IsTrue, All, ◌≤◌}
use Rattle.std.specs.declared.alloc.Global.{Global}
use Rattle.std.specs.declared.vec.Vec.{Vec}
use Rattle.mid_code.specs.declared.program.MidLine.{MidLine}
use Rattle.lower.specs.declared.code.Draft.{Draft}
use Rattle.lower.specs.declared.code.Places.{Places}
use Rattle.lower.specs.declared.code.Target.{Target}
use Rattle.lower.specs.declared.code.Target.TheVariants.{Known, Break, Continue}
use Rattle.lower.specs.Emitting.{Line}
use Rattle.lower.specs.SoFar.{Leads, leads_of, leads_around, Lines, SoFar, line_to, most_instructions}
use Rattle.lower.specs.Instructions.{told, line_view}

-- ---- where loops lead

abbrev pub leads_view : Places → Leads
leads_view p = record { break_at = p.break_at; continue_at = p.continue_at }

-- those of a loop, by its number
abbrev pub places_by : List Places → ℕ → Places
places_by loops n = slice_index_or loops n (record { break_at = 0; continue_at = 0 })

-- those of a loop that is over
abbrev pub known_leads : List Places → ℕ → Leads
known_leads loops n = leads_view (places_by loops n)

-- those of a loop where these are open, the innermost first
abbrev pub leads_by : List Places → List ℕ → List Leads → ℕ → Leads
leads_by loops [] leads n = known_leads loops n
leads_by loops (m ∷ rest) leads n = if n == m then leads_of leads else leads_by loops rest (leads_around leads) n

-- ---- lines

abbrev pub line_of : (ℕ → Leads) → Draft → Line
line_of f d = by d.target
  where
    by : Target → Line
    by Known = told d.line d.mid
    by (Break n) = line_to (f n).break_at (told d.line d.mid)
    by (Continue n) = line_to (f n).continue_at (told d.line d.mid)

abbrev pub lines_if : Bool → List Line → Lines
lines_if true ls = None
lines_if false ls = Some ls

-- what the code holds
pub record Held : Type 0 where
  pub is_long : Bool
  pub loops : List Places
  pub current : ℕ
  pub outer : List ℕ
  pub drafts : List Draft

-- where the loops lead
abbrev pub leads_in : Held → List Leads → ℕ → Leads
leads_in h leads = leads_by h.loops (h.current ∷ reverse h.outer) leads

-- the code so far
unfoldable pub code_of : Held → SoFar
code_of h leads = lines_if h.is_long (map (line_of (leads_in h leads)) h.drafts)

-- a draft names a loop whose number is below
abbrev pub IsBelow : ℕ → Draft → Type 0
IsBelow bound d = by d.target
  where
    by : Target → Type 0
    by Known = Unit {0}
    by (Break n) = n < bound
    by (Continue n) = n < bound

-- loops are open, each with a number below that of the one inside it, and it is not known yet where they lead
abbrev pub OpenBelow : List Places → ℕ → List ℕ → Type 0
OpenBelow loops bound [] = Unit {0}
OpenBelow loops bound (m ∷ rest) = (m < bound) × (known_leads loops m ≡ record { break_at = 0; continue_at = 0 }) × OpenBelow loops m rest

-- the code is not more than a function may have, and its jumps name loops
pub record IsHeld (h : Held) : Type 0 where
  pub few : length h.drafts ≤ most_instructions
  pub full : IsTrue h.is_long → length h.drafts ≡ most_instructions
  pub below : All (IsBelow (length h.loops)) h.drafts
  pub opened : OpenBelow h.loops (length h.loops) (h.current ∷ reverse h.outer)

-- ---- what is handed out

abbrev pub TakesLines : Lines → Option (Vec MidLine Global) → Type 0
TakesLines lines None = lines ≡ None
TakesLines lines (Some found) = lines ≡ Some (map line_view found.items)
