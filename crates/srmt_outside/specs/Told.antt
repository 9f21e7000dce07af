-- What an object of the outside tells of itself.
use Rattle.std.specs.Prelude.{◌≡◌, ℕ, List, ◌++◌, take, Option, option_map}

-- what is told grows at its end by `more`, and what is not told stays untold
abbrev pub Appends : {A : Type 0} → Option (List A) → Option (List A) → List A → Type 0
Appends before after more = after ≡ option_map (λ told. told ++ more) before

-- what is told grows at its end by some first part of `more`
abbrev pub AppendsPrefix : {A : Type 0} → Option (List A) → Option (List A) → List A → Type 0
AppendsPrefix before after more = (n : ℕ) × Appends before after (take n more)
