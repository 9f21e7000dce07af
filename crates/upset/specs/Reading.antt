-- What the parts of the reader give, as functions on the bytes that are left: what was read, and what is left then.
use Rattle.std.specs.Prelude.{◌≡◌, ℕ, ◌-◌, ◌^◌, Bool, true, false, ◌==◌, ◌&&◌, nat_le, nat_lt, nat_eq, slice_index, if◌then◌else◌, List, [], ◌∷◌, length, drop, take, codes, Option, Some, None, option_and_then}
use Rattle.std.specs.List.{prefix_len}
use Rattle.std.specs.Cmp.Lexicographic.{pointwise}
use Rattle.std.specs.Char.{is_ascii_digit}
use Rattle.std.specs.Str.Parse.{digits_value}
use Rattle.srmt_base.specs.declared.side.Side.{Side}
use Rattle.srmt_base.specs.declared.side.Side.TheVariants.{Lead, Trail}
use Rattle.upset.specs.declared.upset.Target.{Target}
use Rattle.upset.specs.declared.upset.Target.TheVariants.{Register, Cell}
use Rattle.upset.specs.declared.upset.Upset.{Upset}

infixl 10 ◌>>=◌
abbrev pub ◌>>=◌ : {A B : Type 0} → Option A → (A → Option B) → Option B
o >>= f = option_and_then f o

-- what is left behind a word
unfoldable pub literal : List ℕ → List ℕ → Option (List ℕ)
literal word bytes = if pointwise nat_eq (take (length word) bytes) word then Some (drop (length word) bytes) else None

-- the value of a number with these digits, where they are one: no 0 stands before another digit, and it is in range
unfoldable pub value_of : ℕ → ℕ → List ℕ → Option ℕ
value_of least most digits =
    if nat_lt 1 (length digits) && slice_index digits 0 == 48 then None
    else (if nat_lt 0 (length digits) && (nat_le least (digits_value 10 digits) && nat_le (digits_value 10 digits) most) then Some (digits_value 10 digits) else None)

-- a number of all digits that stand there
unfoldable pub number : ℕ → ℕ → List ℕ → Option (ℕ × List ℕ)
number least most bytes =
    let count = prefix_len is_ascii_digit bytes in
    value_of least most (take count bytes) >>= λ value. Some (value, drop count bytes)

-- lead: or trail:
unfoldable pub side : List ℕ → Option (Side × List ℕ)
side bytes =
    elim (literal (codes "lead:") bytes) [ Some rest ↦ Some (Lead, rest) | None ↦ literal (codes "trail:") bytes >>= λ rest. Some (Trail, rest) ]

-- D:R
unfoldable pub register : List ℕ → Option (Target × List ℕ)
register bytes = do
  depth ← number 1 2000 bytes
  colon ← literal (codes ":") depth.1
  found ← number 0 1023 colon
  Some (Register depth.0 found.0, found.1)

-- P
unfoldable pub cell : List ℕ → Option (Target × List ℕ)
cell bytes = do
  pointer ← number 0 (2 ^ 44 - 1) bytes
  Some (Cell pointer.0, pointer.1)

-- D:R or cell:P
unfoldable pub target : List ℕ → Option (Target × List ℕ)
target bytes = elim (literal (codes "cell:") bytes) [ Some rest ↦ cell rest | None ↦ register bytes ]

-- SIDE:K:TARGET:V
unfoldable pub upset : List ℕ → Option (Upset × List ℕ)
upset bytes = do
  struck ← side bytes
  step ← number 1 (2 ^ 63 - 1) struck.1
  first ← literal (codes ":") step.1
  place ← target first
  second ← literal (codes ":") place.1
  value ← number 0 (2 ^ 44 - 1) second
  Some (record { side = struck.0; step = step.0; target = place.0; value = value.0 }, value.1)

abbrev pub is_same : Side → Side → Bool
is_same Lead Lead = true
is_same Lead Trail = false
is_same Trail Lead = false
is_same Trail Trail = true

-- whether an upset may stand behind another, if there is one
abbrev pub may_follow : Option Upset → Upset → Bool
may_follow None w = true
may_follow (Some u) w = is_same u.side w.side && nat_le u.step w.step

-- these bytes, behind an upset if there is one, are read as these upsets, and nothing is left
unfoldable pub Reads : Option Upset → List ℕ → List Upset → Type 0
Reads last bytes [] = ⊥
Reads last bytes (u ∷ []) = (upset bytes ≡ Some (u, [])) × (may_follow last u ≡ true)
Reads last bytes (u ∷ (w ∷ ws)) =
    (rest : List ℕ) × (upset bytes ≡ Some (u, 44 ∷ rest)) × (may_follow last u ≡ true) × Reads (Some u) rest (w ∷ ws)
