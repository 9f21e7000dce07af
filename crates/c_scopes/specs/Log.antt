-- The log of declarations, which leads back from what names mean now.
use Rattle.std.specs.Prelude.{◌≡◌, ℕ, ◌<◌, map, List, [], ◌∷◌, ◌++◌, ◌⊎◌, length, take, Option, Some, None, slice_get, slice_index_or}
use Rattle.std.specs.Map.{keys_of}
use Rattle.std.specs.declared.vec.Vec.{Vec}
use Rattle.std.specs.declared.alloc.Global.{Global}
use Rattle.c_scopes.specs.declared.scopes.Entry.{Entry}
use Rattle.c_scopes.specs.declared.scopes.Entry.TheVariants.{Begin, Declared}
use Rattle.c_scopes.specs.declared.scopes.Change.{Change}
use Rattle.c_scopes.specs.Scopes.{meaning_of, with_meaning}

module _ {M : Type 0} where
  -- the names of a map, and what they mean
  abbrev pub names_of : List (Vec ℕ Global × Option M) → List (List ℕ)
  names_of entries = map (λ k. k.items) (keys_of entries)

  abbrev pub meanings_of : List (Vec ℕ Global × Option M) → List (Option M)
  meanings_of entries = map (λ e. e.1) entries

  abbrev pub step : List (List ℕ) → List (List (List ℕ × M)) → Entry M → List (List (List ℕ × M))
  step names scopes Begin = [] ∷ scopes
  step names scopes (Declared c) = with_meaning (slice_index_or names c.name []) c.meaning scopes

  -- the scopes behind those of earlier entries
  unfoldable pub scopes_from : List (List ℕ) → List (List (List ℕ × M)) → List (Entry M) → List (List (List ℕ × M))
  scopes_from names scopes [] = scopes
  scopes_from names scopes (e ∷ log) = scopes_from names (step names scopes e) log

  abbrev pub scopes_of : List (List ℕ) → List (Entry M) → List (List (List ℕ × M))
  scopes_of names log = scopes_from names [] log

  -- the log begins with a scope
  abbrev pub Starts : List (Entry M) → Type 0
  Starts [] = Unit {0}
  Starts (Begin ∷ log) = Unit {0}
  Starts (Declared c ∷ log) = ⊥

  pub record LeadsBack (names : List (List ℕ)) (current : List (Option M)) (log : List (Entry M)) : Type 0 where
    pub sized : length current ≡ length names
    pub starts : Starts log
    -- each name stands once
    pub apart : (i j : ℕ) → i < length names → j < length names → slice_index_or names i [] ≡ slice_index_or names j [] → i ≡ j
    -- what each name means now
    pub now : (i : ℕ) → i < length names → slice_index_or current i None ≡ meaning_of (slice_index_or names i []) (scopes_of names log)
    -- each declared name is known
    pub known : (k : ℕ) (c : Change M) → slice_get log k ≡ Some (Declared c) → c.name < length names
    -- what it meant before
    pub back : (k : ℕ) (c : Change M) → slice_get log k ≡ Some (Declared c)
        → c.before ≡ meaning_of (slice_index_or names c.name []) (scopes_of names (take k log))

  -- the map is the same, or has one more name, which means nothing yet
  abbrev pub IsNamed : List (Vec ℕ Global × Option M) → List (Vec ℕ Global × Option M) → List ℕ → Type 0
  IsNamed old new name =
      (new ≡ old) ⊎
      ((names_of new ≡ names_of old ++ name ∷ []) × (meanings_of new ≡ meanings_of old ++ None ∷ [])
      × ((i : ℕ) → i < length (names_of old) → slice_index_or (names_of old) i [] ≡ name → ⊥))
