-- The text of a list of upsets, as a user gives it (this project's own).
use Rattle.std.specs.Prelude.{◌≡◌, ℕ, ◌<◌, ◌≤◌, ◌^◌, List, [], ◌∷◌, ◌++◌, codes, decimal}
use Rattle.srmt_base.specs.declared.side.Side.{Side}
use Rattle.srmt_base.specs.declared.side.Side.TheVariants.{Lead, Trail}
use Rattle.upset.specs.declared.upset.Target.{Target}
use Rattle.upset.specs.declared.upset.Target.TheVariants.{Register, Cell}
use Rattle.upset.specs.declared.upset.Upset.{Upset}

abbrev pub side_text : Side → List ℕ
side_text Lead = codes "lead"
side_text Trail = codes "trail"

-- `D:R`, a depth and a register in decimal, or `cell:P`, a pointer in decimal
abbrev pub target_text : Target → List ℕ
target_text (Register depth register) = decimal depth ++ codes ":" ++ decimal register
target_text (Cell pointer) = codes "cell:" ++ decimal pointer

-- `SIDE:K:D:R:V` or `SIDE:K:cell:P:V`, with the step K and the value V in decimal
abbrev pub upset_text : Upset → List ℕ
upset_text u = side_text u.side ++ codes ":" ++ decimal u.step ++ codes ":" ++ target_text u.target ++ codes ":" ++ decimal u.value

-- one or more, parted by commas
unfoldable pub list_text : List Upset → List ℕ
list_text [] = []
list_text (u ∷ []) = upset_text u
list_text (u ∷ (w ∷ rest)) = upset_text u ++ (codes "," ++ list_text (w ∷ rest))

-- the numbers that a target may have
abbrev pub IsTarget : Target → Type 0
IsTarget (Register depth register) = (1 ≤ depth) × ((depth ≤ 2000) × (register ≤ 1023))
IsTarget (Cell pointer) = pointer < 2 ^ 44

pub record IsUpset (u : Upset) : Type 0 where
  pub from_one : 1 ≤ u.step
  pub counted : u.step < 2 ^ 63
  pub target : IsTarget u.target
  pub value : u.value < 2 ^ 44

-- an upset may follow another: it strikes the same side, at no earlier step
pub record Follows (u w : Upset) : Type 0 where
  pub same : w.side ≡ u.side
  pub later : u.step ≤ w.step

-- the upsets of a run: one or more, all of one side, and their steps do not fall
unfoldable pub IsList : List Upset → Type 0
IsList [] = ⊥
IsList (u ∷ []) = IsUpset u
IsList (u ∷ (w ∷ rest)) = IsUpset u × (Follows u w × IsList (w ∷ rest))
