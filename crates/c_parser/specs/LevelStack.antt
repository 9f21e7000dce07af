-- The open levels as the code keeps them.
use Rattle.std.specs.Prelude.{◌≡◌, ◌≤◌, List, [], ◌∷◌, reverse}
use Rattle.c_parser.specs.declared.nesting.Level.{Level}
use Rattle.c_parser.specs.declared.nesting.LevelStack.{LevelStack}
use Rattle.c_parser.specs.Nesting.{Levels, around}

abbrev pub levels_of : LevelStack → Levels
levels_of s = record { innermost = s.innermost; others = reverse s.others.items; ended = s.ended }

-- what is counted of the levels around the innermost
abbrev pub IsCounted : LevelStack → Type 0
IsCounted s = s.outer ≡ around (reverse s.others.items)

-- each `do` without its `while` is one of the words
abbrev pub IsTame : Level → Type 0
IsTame l = l.dos ≤ l.words

abbrev pub AreTame : List Level → Type 0
AreTame [] = Unit {0}
AreTame (l ∷ ls) = IsTame l × AreTame ls
