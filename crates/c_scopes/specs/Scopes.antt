-- The scopes of names (C11 6.2.1).
use Rattle.std.specs.Prelude.{◌≡◌, ℕ, List, [], ◌∷◌, Option, Some, None, if◌then◌else◌, bytes_eq}

module _ {M : Type 0} where
  -- what a name means by the declarations of a scope, the newest first
  abbrev pub found_in : List ℕ → List (List ℕ × M) → Option M
  found_in name [] = None
  found_in name (d ∷ rest) = if bytes_eq name d.0 then Some d.1 else found_in name rest

  abbrev pub or_else : Option M → Option M → Option M
  or_else None other = other
  or_else (Some m) other = Some m

  -- what a name means: that of the innermost scope that declares it (C11 6.2.1p4)
  abbrev pub meaning_of : List ℕ → List (List (List ℕ × M)) → Option M
  meaning_of name [] = None
  meaning_of name (scope ∷ outer) = or_else (found_in name scope) (meaning_of name outer)

  -- in the innermost scope a name means this from now on
  abbrev pub with_meaning : List ℕ → M → List (List (List ℕ × M)) → List (List (List ℕ × M))
  with_meaning name m [] = []
  with_meaning name m (scope ∷ outer) = ((name, m) ∷ scope) ∷ outer

  abbrev pub innermost : List (List (List ℕ × M)) → List (List ℕ × M)
  innermost [] = []
  innermost (scope ∷ outer) = scope

  abbrev pub outer_scopes : List (List (List ℕ × M)) → List (List (List ℕ × M))
  outer_scopes [] = []
  outer_scopes (scope ∷ outer) = outer

  -- the newest declaration of the innermost scope is gone
  abbrev pub ShrinksBy : List (List (List ℕ × M)) → List (List (List ℕ × M)) → Type 0
  ShrinksBy [] new = ⊥
  ShrinksBy ([] ∷ outer) new = ⊥
  ShrinksBy ((d ∷ scope) ∷ outer) new = new ≡ scope ∷ outer
