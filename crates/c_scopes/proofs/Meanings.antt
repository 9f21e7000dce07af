-- What names mean as declarations come and go.
use Rattle.std.proofs.Common.{◌≡◌, ◌≢◌, ℕ, zero, suc, ◌<◌, Bool, true, false, if◌then◌else◌, List, [], ◌∷◌, ◌++◌, length, Some, None, slice_get, get_or, refl, sym, ◌∙◌, ap}
use Rattle.std.proofs.lemmas.List.{get_or_append_left}
use Rattle.std.specs.Str.{bytes_eq}
use Rattle.std.proofs.lemmas.Slice.Eq.{bytes_eq-Decides}
use Rattle.c_scopes.specs.declared.scopes.Entry.{Entry}
use Rattle.c_scopes.specs.declared.scopes.Entry.TheVariants.{Begin, Declared}
use Rattle.c_scopes.specs.declared.scopes.Change.{Change}
use Rattle.c_scopes.specs.Scopes.{found_in, or_else, meaning_of, with_meaning}
use Rattle.c_scopes.specs.Log.{step, scopes_from, scopes_of}

pub itself : (n : List ℕ) → bytes_eq n n ≡ true
itself n = (bytes_eq-Decides n n).1 refl

pub differ : (n m : List ℕ) → n ≢ m → bytes_eq n m ≡ false
differ n m e = by (bytes_eq n m) refl
  where
    by : (b : Bool) → bytes_eq n m ≡ b → bytes_eq n m ≡ false
    by true h = absurd (e ((bytes_eq-Decides n m).0 h))
    by false h = h

module _ {M : Type 0} where
  -- a declared name means what it was declared to
  pub meaning-same : (n : List ℕ) (m : M) (scope : List (List ℕ × M)) (outer : List (List (List ℕ × M))) → meaning_of n (with_meaning n m (scope ∷ outer)) ≡ Some m
  meaning-same n m scope outer = ap (λ b. or_else (if b then Some m else found_in n scope) (meaning_of n outer)) (itself n)

  -- and other names what they did
  pub meaning-other : (n k : List ℕ) (m : M) (scopes : List (List (List ℕ × M))) → n ≢ k → meaning_of n (with_meaning k m scopes) ≡ meaning_of n scopes
  meaning-other n k m [] e = refl
  meaning-other n k m (scope ∷ outer) e = ap (λ b. or_else (if b then Some m else found_in n scope) (meaning_of n outer)) (differ n k e)

  pub scopes_from-append : (names : List (List ℕ)) (s : List (List (List ℕ × M))) (xs ys : List (Entry M)) → scopes_from names s (xs ++ ys) ≡ scopes_from names (scopes_from names s xs) ys
  unfolding scopes_from
  scopes_from-append names s [] ys = refl
  scopes_from-append names s (x ∷ xs) ys = scopes_from-append names (step names s x) xs ys

  pub scopes-push : (names : List (List ℕ)) (log : List (Entry M)) (e : Entry M) → scopes_of names (log ++ e ∷ []) ≡ step names (scopes_of names log) e
  unfolding scopes_from
  scopes-push names log e = scopes_from-append names [] log (e ∷ [])

  -- each declared name is among the first so many
  pub Knows : ℕ → List (Entry M) → Type 0
  Knows size log = (k : ℕ) (c : Change M) → slice_get log k ≡ Some (Declared c) → c.name < size

  -- more names change nothing
  pub scopes-grow : (names more : List (List ℕ)) (s : List (List (List ℕ × M))) (log : List (Entry M))
      → ((k : ℕ) (c : Change M) → slice_get log k ≡ Some (Declared c) → c.name < length names)
      → scopes_from (names ++ more) s log ≡ scopes_from names s log
  unfolding scopes_from
  scopes-grow names more s [] known = refl
  scopes-grow names more s (Begin ∷ log) known = scopes-grow names more ([] ∷ s) log (λ k c e. known (suc k) c e)
  scopes-grow names more s (Declared c ∷ log) known =
      ap (λ n. scopes_from (names ++ more) (with_meaning n c.meaning s) log) (get_or_append_left names more [] c.name (known zero c refl))
      ∙ scopes-grow names more (step names s (Declared c)) log (λ k d e. known (suc k) d e)

  -- a name that is not among them means nothing
  pub scopes-absent : (names : List (List ℕ)) (n : List ℕ) → ((i : ℕ) → i < length names → get_or names i [] ≢ n)
      → (s : List (List (List ℕ × M))) → meaning_of n s ≡ None → (log : List (Entry M))
      → ((k : ℕ) (c : Change M) → slice_get log k ≡ Some (Declared c) → c.name < length names)
      → meaning_of n (scopes_from names s log) ≡ None
  unfolding scopes_from
  scopes-absent names n absent s none [] known = none
  scopes-absent names n absent s none (Begin ∷ log) known = scopes-absent names n absent ([] ∷ s) none log (λ k c e. known (suc k) c e)
  scopes-absent names n absent s none (Declared c ∷ log) known =
      scopes-absent names n absent (step names s (Declared c))
      (meaning-other n (get_or names c.name []) c.meaning s (λ e. absent c.name (known zero c refl) (sym e)) ∙ none)
      log (λ k d e. known (suc k) d e)

  -- a log that begins with a scope has one
  pub has-scope : (names : List (List ℕ)) (s : List (List ℕ × M)) (o : List (List (List ℕ × M))) (log : List (Entry M))
      → (t : List (List ℕ × M)) × (p : List (List (List ℕ × M))) × (scopes_from names (s ∷ o) log ≡ t ∷ p)
  unfolding scopes_from
  has-scope names s o [] = (s, o, refl)
  has-scope names s o (Begin ∷ log) = has-scope names [] (s ∷ o) log
  has-scope names s o (Declared c ∷ log) = has-scope names ((get_or names c.name [], c.meaning) ∷ s) o log
