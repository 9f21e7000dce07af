-- Scopes whose declarations say in how many scopes they stand.
use Rattle.std.specs.Prelude.{◌≡◌, ℕ, suc, map, List, [], ◌∷◌, length}
use Rattle.std.specs.List.{AllByRecursion}
use Rattle.c_scopes.specs.declared.blocks.Located.{Located}

module _ {M : Type 0} where
  -- without the numbers
  abbrev pub meanings_in : List (List (List ℕ × Located M)) → List (List (List ℕ × M))
  meanings_in scopes = map (map (λ d. (d.0, d.1.meaning))) scopes

  -- so many scopes, and the declarations of each say how many it is in, itself counted
  abbrev pub AreLocated : ℕ → List (List (List ℕ × Located M)) → Type 0
  AreLocated depth [] = depth ≡ 0
  AreLocated depth (scope ∷ outer) = (depth ≡ suc (length outer)) × AllByRecursion (λ d. d.1.depth ≡ suc (length outer)) scope × AreLocated (length outer) outer
