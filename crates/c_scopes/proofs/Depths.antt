-- What scopes with numbers say of scopes without.
use Rattle.std.proofs.Common.{arith, ◌≡◌, ◌≢◌, ℕ, suc, ◌+◌, ◌≤◌, Bool, true, false, if◌then◌else◌, map, List, [], ◌∷◌, length, Option, Some, None, refl, sym, ◌∙◌, ap, subst}
use Rattle.std.specs.Str.{bytes_eq}
use Rattle.std.specs.List.{AllByRecursion}
use Rattle.c_scopes.specs.declared.blocks.Located.{Located}
use Rattle.c_scopes.specs.declared.scopes.Entry.{Entry}
use Rattle.c_scopes.specs.declared.scopes.Entry.TheVariants.{Begin, Declared}
use Rattle.c_scopes.specs.Scopes.{found_in, or_else, meaning_of, innermost}
use Rattle.c_scopes.specs.Log.{step, scopes_from}
use Rattle.c_scopes.specs.Depths.{meanings_in, AreLocated}
use Rattle.c_scopes.proofs.Pushed.{some_is, none_is_not}

-- a log has at least as many entries as scopes
pub scopes-few : {M : Type 0} (names : List (List ℕ)) (s : List (List (List ℕ × M))) (log : List (Entry M)) → length (scopes_from names s log) ≤ length s + length log
unfolding scopes_from
scopes-few names s [] = omega arith
scopes-few names s (Begin ∷ log) = let h = scopes-few names ([] ∷ s) log in omega arith
scopes-few names [] (Declared c ∷ log) = let h = scopes-few names [] log in omega arith
scopes-few names (x ∷ s) (Declared c ∷ log) = let h = scopes-few names (step names (x ∷ s) (Declared c)) log in omega arith

module _ {M : Type 0} where
  abbrev pub meaning_at : Option (Located M) → Option M
  meaning_at None = None
  meaning_at (Some l) = Some l.meaning

  found-at : (n : List ℕ) (scope : List (List ℕ × Located M)) → found_in n (map (λ d. (d.0, d.1.meaning)) scope) ≡ meaning_at (found_in n scope)
  found-at n [] = refl
  found-at n (d ∷ scope) = by (bytes_eq n d.0) (found-at n scope)
    where
      by : (b : Bool) → found_in n (map (λ e. (e.0, e.1.meaning)) scope) ≡ meaning_at (found_in n scope)
          → (if b then Some d.1.meaning else found_in n (map (λ e. (e.0, e.1.meaning)) scope)) ≡ meaning_at (if b then Some d.1 else found_in n scope)
      by true h = refl
      by false h = h

  pub meaning-at : (n : List ℕ) (scopes : List (List (List ℕ × Located M))) → meaning_of n (meanings_in scopes) ≡ meaning_at (meaning_of n scopes)
  meaning-at n [] = refl
  meaning-at n (scope ∷ outer) = by (found_in n scope) (found-at n scope) (meaning-at n outer)
    where
      by : (o : Option (Located M)) → found_in n (map (λ d. (d.0, d.1.meaning)) scope) ≡ meaning_at o → meaning_of n (meanings_in outer) ≡ meaning_at (meaning_of n outer)
          → or_else (found_in n (map (λ d. (d.0, d.1.meaning)) scope)) (meaning_of n (meanings_in outer)) ≡ meaning_at (or_else o (meaning_of n outer))
      by None h k = ap (λ o. or_else o (meaning_of n (meanings_in outer))) h ∙ k
      by (Some l) h k = ap (λ o. or_else o (meaning_of n (meanings_in outer))) h

  -- what is found in a scope says in how many it is
  found-deep : (depth : ℕ) (n : List ℕ) (scope : List (List ℕ × Located M)) → AllByRecursion (λ d. d.1.depth ≡ depth) scope → (l : Located M) → found_in n scope ≡ Some l → l.depth ≡ depth
  found-deep depth n [] all l e = none_is_not e
  found-deep depth n (d ∷ scope) all l e = by (bytes_eq n d.0) refl (λ h. found-deep depth n scope all.1 l (sym (ap (λ b. if b then Some d.1 else found_in n scope) h) ∙ e))
    where
      by : (b : Bool) → bytes_eq n d.0 ≡ b → (bytes_eq n d.0 ≡ false → l.depth ≡ depth) → l.depth ≡ depth
      by true h rest = subst (λ x. x.depth ≡ depth) (some_is (sym (ap (λ b. if b then Some d.1 else found_in n scope) h) ∙ e)) all.0
      by false h rest = rest h

  deep : (depth : ℕ) (n : List ℕ) (scopes : List (List (List ℕ × Located M))) → AreLocated depth scopes → (l : Located M) → meaning_of n scopes ≡ Some l → l.depth ≤ depth
  deep depth n [] at l e = none_is_not e
  deep depth n (scope ∷ outer) at l e = by (found_in n scope) refl (λ h. deep (length outer) n outer at.2 l (sym (ap (λ o. or_else o (meaning_of n outer)) h) ∙ e))
    where
      by : (o : Option (Located M)) → found_in n scope ≡ o → (found_in n scope ≡ None → l.depth ≤ length outer) → l.depth ≤ depth
      by None h rest = let k = rest h in let d = at.0 in omega arith
      by (Some x) h rest =
          let same : x ≡ l = some_is (sym (ap (λ o. or_else o (meaning_of n outer)) h) ∙ e) in
          let k = found-deep (suc (length outer)) n scope at.1 l (h ∙ ap Some same) in
          let d = at.0 in omega arith

  -- what is known of the innermost scope from what a name means
  pub here-none : (n : List ℕ) (scopes : List (List (List ℕ × Located M))) → meaning_of n scopes ≡ None → found_in n (innermost (meanings_in scopes)) ≡ None
  here-none n [] e = refl
  here-none n (scope ∷ outer) e = by (found_in n scope) (found-at n scope) refl
    where
      by : (o : Option (Located M)) → found_in n (map (λ d. (d.0, d.1.meaning)) scope) ≡ meaning_at o → found_in n scope ≡ o → found_in n (map (λ d. (d.0, d.1.meaning)) scope) ≡ None
      by None h k = h
      by (Some l) h k = none_is_not (sym e ∙ ap (λ o. or_else o (meaning_of n outer)) k)

  pub here-found : (depth : ℕ) (n : List ℕ) (scopes : List (List (List ℕ × Located M))) → AreLocated depth scopes → (l : Located M) → meaning_of n scopes ≡ Some l → l.depth ≡ depth
      → found_in n (innermost (meanings_in scopes)) ≡ Some l.meaning
  here-found depth n [] at l e d = none_is_not e
  here-found depth n (scope ∷ outer) at l e d = by (found_in n scope) (found-at n scope) refl
    where
      by : (o : Option (Located M)) → found_in n (map (λ x. (x.0, x.1.meaning)) scope) ≡ meaning_at o → found_in n scope ≡ o → found_in n (map (λ x. (x.0, x.1.meaning)) scope) ≡ Some l.meaning
      by None h k =
          let less = deep (length outer) n outer at.2 l (sym (ap (λ o. or_else o (meaning_of n outer)) k) ∙ e) in
          let is = at.0 in absurd (omega arith)
      by (Some x) h k = h ∙ ap (λ z. Some z.meaning) (some_is (sym (ap (λ o. or_else o (meaning_of n outer)) k) ∙ e))

  pub here-other : (depth : ℕ) (n : List ℕ) (scopes : List (List (List ℕ × Located M))) → AreLocated depth scopes → (l : Located M) → meaning_of n scopes ≡ Some l → l.depth ≢ depth
      → found_in n (innermost (meanings_in scopes)) ≡ None
  here-other depth n [] at l e d = refl
  here-other depth n (scope ∷ outer) at l e d = by (found_in n scope) (found-at n scope) refl
    where
      by : (o : Option (Located M)) → found_in n (map (λ x. (x.0, x.1.meaning)) scope) ≡ meaning_at o → found_in n scope ≡ o → found_in n (map (λ x. (x.0, x.1.meaning)) scope) ≡ None
      by None h k = h
      by (Some x) h k =
          let same : x ≡ l = some_is (sym (ap (λ o. or_else o (meaning_of n outer)) k) ∙ e) in
          absurd (d (found-deep (suc (length outer)) n scope at.1 l (k ∙ ap Some same) ∙ sym at.0))

  pub located-length : (depth : ℕ) (scopes : List (List (List ℕ × Located M))) → AreLocated depth scopes → depth ≡ length scopes
  located-length depth [] at = at
  located-length depth (scope ∷ outer) at = at.0
