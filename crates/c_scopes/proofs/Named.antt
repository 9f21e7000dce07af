-- The names of a map, and what is found of them.
use Rattle.std.proofs.Common.{rules, arith, ◌≡◌, ◌≢◌, ℕ, zero, suc, ◌+◌, ◌<◌, Bool, true, false, cond, map, List, [], ◌∷◌, ◌++◌, length, length-append, take, Option, Some, None, slice_get, get_or, set, position, ◌⊎◌, inl, inr, refl, sym, ◌∙◌, ap, subst, true≢false, Vec, Global}
use Rattle.std.specs.Str.{bytes_eq}
use Rattle.std.specs.Map.{keys_of, lookup}
use Rattle.indexmap.specs.IndexMap.{set_value_at}
use Rattle.std.proofs.lemmas.List.{get_or_append_left}
use Rattle.std.proofs.lemmas.List.Quantifiers.{position-Some}
use Rattle.std.proofs.lemmas.Slice.Eq.{bytes_eq-Decides}
use Rattle.c_scopes.specs.declared.scopes.Entry.{Entry}
use Rattle.c_scopes.specs.Scopes.{meaning_of}
use Rattle.c_scopes.specs.Log.{names_of, meanings_of, scopes_of, LeadsBack, IsNamed}
use Rattle.std.proofs.lemmas.Bool.Decides.{leb_tells}
use Rattle.c_scopes.proofs.Pushed.{none_is_not}
use Rattle.c_scopes.proofs.Meanings.{scopes-grow, scopes-absent}

-- whether a key has these bytes
abbrev pub test_of : List ℕ → Vec ℕ Global → Bool
test_of n k = bytes_eq n k.items

in-take : {A : Type 0} (xs : List A) (k j : ℕ) (x : A) → slice_get (take k xs) j ≡ Some x → slice_get xs j ≡ Some x
in-take [] zero j x e = none_is_not e
in-take [] (suc k) j x e = none_is_not e
in-take (y ∷ xs) zero j x e = none_is_not e
in-take (y ∷ xs) (suc k) zero x e = e
in-take (y ∷ xs) (suc k) (suc j) x e = in-take xs k j x e

more-or-last : (n i : ℕ) → i < n + 1 → (i < n) ⊎ (i ≡ n)
more-or-last n i h = elim (leb_tells n i) [ inl k ↦ inr (omega arith) | inr k ↦ inl k.1 ]

pub last-of : {A : Type 0} (xs : List A) (x d : A) → get_or (xs ++ x ∷ []) (length xs) d ≡ x
last-of [] x d = refl
last-of (y ∷ xs) x d = last-of xs x d

apart-more : (names : List (List ℕ)) (name : List ℕ)
    → ((i j : ℕ) → i < length names → j < length names → get_or names i [] ≡ get_or names j [] → i ≡ j)
    → ((i : ℕ) → i < length names → get_or names i [] ≡ name → ⊥)
    → (i j : ℕ) → (i < length names) ⊎ (i ≡ length names) → (j < length names) ⊎ (j ≡ length names)
    → get_or (names ++ name ∷ []) i [] ≡ get_or (names ++ name ∷ []) j [] → i ≡ j
apart-more names name apart absent i j (inl h) (inl k) e =
    apart i j h k (sym (get_or_append_left names (name ∷ []) [] i h) ∙ e ∙ get_or_append_left names (name ∷ []) [] j k)
apart-more names name apart absent i j (inl h) (inr k) e =
    absurd (absent i h (sym (get_or_append_left names (name ∷ []) [] i h) ∙ e ∙ ap (λ z. get_or (names ++ name ∷ []) z []) k ∙ last-of names name []))
apart-more names name apart absent i j (inr h) (inl k) e =
    absurd (absent j k (sym (get_or_append_left names (name ∷ []) [] j k) ∙ sym e ∙ ap (λ z. get_or (names ++ name ∷ []) z []) h ∙ last-of names name []))
apart-more names name apart absent i j (inr h) (inr k) e = h ∙ sym k

module _ {M : Type 0} where
  -- what is found under a name
  pub looked : (n : List ℕ) (es : List (Vec ℕ Global × Option M)) →
      ((i : ℕ) × (i < length (names_of es)) × (get_or (names_of es) i [] ≡ n) × (lookup (test_of n) es ≡ Some (get_or (meanings_of es) i None)))
      ⊎ ((lookup (test_of n) es ≡ None) × ((i : ℕ) → i < length (names_of es) → get_or (names_of es) i [] ≢ n))
  looked n [] = inr (refl, λ i h e. absurd (none-below i h))
    where
      none-below : (i : ℕ) → i < 0 → ⊥
      none-below i h = omega arith
  looked n (x ∷ es) = by (bytes_eq n x.0.items) refl (looked n es)
    where
      by : (b : Bool) → bytes_eq n x.0.items ≡ b →
          ((i : ℕ) × (i < length (names_of es)) × (get_or (names_of es) i [] ≡ n) × (lookup (test_of n) es ≡ Some (get_or (meanings_of es) i None)))
          ⊎ ((lookup (test_of n) es ≡ None) × ((i : ℕ) → i < length (names_of es) → get_or (names_of es) i [] ≢ n))
          → ((i : ℕ) × (i < length (names_of (x ∷ es))) × (get_or (names_of (x ∷ es)) i [] ≡ n) × (lookup (test_of n) (x ∷ es) ≡ Some (get_or (meanings_of (x ∷ es)) i None)))
          ⊎ ((lookup (test_of n) (x ∷ es) ≡ None) × ((i : ℕ) → i < length (names_of (x ∷ es)) → get_or (names_of (x ∷ es)) i [] ≢ n))
      by true e rest = inl (zero, omega arith, sym ((bytes_eq-Decides n x.0.items).0 e), ap (λ b. cond b (Some x.1) (lookup (test_of n) es)) e)
      by false e (inl h) = inl (suc h.0, omega-suc h.0 (length (names_of es)) h.1, h.2, ap (λ b. cond b (Some x.1) (lookup (test_of n) es)) e ∙ h.3)
        where
          omega-suc : (a b : ℕ) → a < b → suc a < suc b
          omega-suc a b k = omega arith
      by false e (inr h) = inr (ap (λ b. cond b (Some x.1) (lookup (test_of n) es)) e ∙ h.0, others)
        where
          others : (i : ℕ) → i < length (names_of (x ∷ es)) → get_or (names_of (x ∷ es)) i [] ≢ n
          others zero k same = true≢false (sym ((bytes_eq-Decides n x.0.items).1 (sym same)) ∙ e)
          others (suc i) k same = h.1 i (omega arith) same

  -- the name at the place at which one is found
  pub position-name : (n : List ℕ) (es : List (Vec ℕ Global × Option M)) (i : ℕ) → position (test_of n) (keys_of es) ≡ Some i
      → (i < length (keys_of es)) × (get_or (names_of es) i [] ≡ n)
  position-name n [] i e = absurd (none-below i (position-Some {X = ℕ} (λ k. true) [] i 0 (nowhere i e)).0)
    where
      none-below : (k : ℕ) → k < 0 → ⊥
      none-below k h = omega arith

      nowhere : (k : ℕ) → position (test_of n) (keys_of {X = Option M} []) ≡ Some k → position {X = ℕ} (λ j. true) [] ≡ Some k
      nowhere k h = h
  position-name n (x ∷ es) i e =
      let p = position-Some (test_of n) (keys_of (x ∷ es)) i x.0 e in
      (p.0, at (keys_of (x ∷ es)) i x.0 p.0 ∙ sym ((bytes_eq-Decides n (get_or (keys_of (x ∷ es)) i x.0).items).0 p.1))
    where
      at : (ks : List (Vec ℕ Global)) (j : ℕ) (d : Vec ℕ Global) → j < length ks → get_or (map (λ k. k.items) ks) j [] ≡ (get_or ks j d).items
      at [] j d h = absurd (below j h)
        where
          below : (k : ℕ) → k < 0 → ⊥
          below k l = omega arith
      at (k ∷ ks) zero d h = refl
      at (k ∷ ks) (suc j) d h = at ks j d (omega arith)

  pub meanings-set : (es : List (Vec ℕ Global × Option M)) (i : ℕ) (w : Option M) → meanings_of (set_value_at es i w) ≡ set (meanings_of es) i w
  meanings-set [] i w = search rules
  meanings-set (x ∷ es) zero w = search rules
  meanings-set (x ∷ es) (suc i) w = ap (λ ms. x.1 ∷ ms) (meanings-set es i w)

  pub names-set : (es : List (Vec ℕ Global × Option M)) (i : ℕ) (w : Option M) → names_of (set_value_at es i w) ≡ names_of es
  names-set [] i w = search rules
  names-set (x ∷ es) zero w = search rules
  names-set (x ∷ es) (suc i) w = ap (λ ns. x.0.items ∷ ns) (names-set es i w)

  now-more : (names : List (List ℕ)) (current : List (Option M)) (name : List ℕ) (log : List (Entry M)) → LeadsBack names current log
      → ((i : ℕ) → i < length names → get_or names i [] ≡ name → ⊥)
      → (i : ℕ) → (i < length names) ⊎ (i ≡ length names)
      → get_or (current ++ None ∷ []) i None ≡ meaning_of (get_or (names ++ name ∷ []) i []) (scopes_of (names ++ name ∷ []) log)
  now-more names current name log before absent i (inl h) =
      get_or_append_left current (None ∷ []) None i (subst (λ z. i < z) (sym before.sized) h)
      ∙ before.now i h
      ∙ ap (λ n. meaning_of n (scopes_of names log)) (sym (get_or_append_left names (name ∷ []) [] i h))
      ∙ ap (meaning_of (get_or (names ++ name ∷ []) i [])) (sym (scopes-grow names (name ∷ []) [] log before.known))
  now-more names current name log before absent i (inr h) =
      ap (λ z. get_or (current ++ None ∷ []) z None) (h ∙ sym before.sized) ∙ last-of current None None
      ∙ sym (scopes-absent names name absent [] refl log before.known)
      ∙ ap (λ n. meaning_of n (scopes_of names log)) (sym (last-of names name []) ∙ ap (λ z. get_or (names ++ name ∷ []) z []) (sym h))
      ∙ ap (meaning_of (get_or (names ++ name ∷ []) i [])) (sym (scopes-grow names (name ∷ []) [] log before.known))

  -- a log leads back where a name is added that means nothing yet
  pub named : (old new : List (Vec ℕ Global × Option M)) (n : List ℕ) (log : List (Entry M)) → IsNamed old new n
      → LeadsBack (names_of old) (meanings_of old) log → LeadsBack (names_of new) (meanings_of new) log × (scopes_of (names_of new) log ≡ scopes_of (names_of old) log)
  named old new n log (inl same) leads =
      (subst (λ es. LeadsBack (names_of es) (meanings_of es) log) (sym same) leads, ap (λ es. scopes_of (names_of es) log) same)
  named old new n log (inr more) leads =
      let names = names_of old in
      let grown : scopes_of (names ++ n ∷ []) log ≡ scopes_of names log = scopes-grow names (n ∷ []) [] log leads.known in (
        subst (λ ns. LeadsBack ns (meanings_of new) log) (sym more.0)
            (subst (λ ms. LeadsBack (names ++ n ∷ []) ms log) (sym more.1) (longer names (meanings_of old) n log leads more.2)),
        ap (λ ns. scopes_of ns log) more.0 ∙ grown,
      )
    where
      longer : (names : List (List ℕ)) (current : List (Option M)) (name : List ℕ) (entries : List (Entry M)) → LeadsBack names current entries
          → ((i : ℕ) → i < length names → get_or names i [] ≡ name → ⊥) → LeadsBack (names ++ name ∷ []) (current ++ None ∷ []) entries
      longer names current name entries before absent = record {
        sized = length-append current (None ∷ []) ∙ ap (λ n. n + 1) before.sized ∙ sym (length-append names (name ∷ []));
        starts = before.starts;
        apart = λ i j h k e. apart-more names name before.apart absent i j (more-or-last (length names) i (subst (λ z. i < z) (length-append names (name ∷ [])) h)) (more-or-last (length names) j (subst (λ z. j < z) (length-append names (name ∷ [])) k)) e;
        now = λ i h. now-more names current name entries before absent i (more-or-last (length names) i (subst (λ z. i < z) (length-append names (name ∷ [])) h));
        known = λ k c e. let within = before.known k c e in subst (λ z. c.name < z) (sym (length-append names (name ∷ []))) (omega arith);
        back = λ k c e.
            let within = before.known k c e in
            before.back k c e
            ∙ ap (λ n. meaning_of n (scopes_of names (take k entries))) (sym (get_or_append_left names (name ∷ []) [] c.name within))
            ∙ ap (meaning_of (get_or (names ++ name ∷ []) c.name [])) (sym (scopes-grow names (name ∷ []) [] (take k entries) (λ j d f. before.known j d (in-take entries k j _ f))));
      }

module _ {M : Type 0} where
  abbrev pub flat : Option (Option M) → Option M
  flat None = None
  flat (Some m) = m

  -- what is found under a name is what it means
  pub found : (es : List (Vec ℕ Global × Option M)) (log : List (Entry M)) → LeadsBack (names_of es) (meanings_of es) log → (n : List ℕ)
      → flat (lookup (test_of n) es) ≡ meaning_of n (scopes_of (names_of es) log)
  found es log leads n = by (looked n es)
    where
      by : ((i : ℕ) × (i < length (names_of es)) × (get_or (names_of es) i [] ≡ n) × (lookup (test_of n) es ≡ Some (get_or (meanings_of es) i None)))
          ⊎ ((lookup (test_of n) es ≡ None) × ((i : ℕ) → i < length (names_of es) → get_or (names_of es) i [] ≢ n))
          → flat (lookup (test_of n) es) ≡ meaning_of n (scopes_of (names_of es) log)
      by (inl h) = ap flat h.3 ∙ leads.now h.0 h.1 ∙ ap (λ k. meaning_of k (scopes_of (names_of es) log)) h.2
      by (inr h) = ap flat h.0 ∙ sym (scopes-absent (names_of es) n h.1 [] refl log leads.known)

  -- a new entry behind the others
  pub names-push : (es new : List (Vec ℕ Global × Option M)) (k : Vec ℕ Global) → new ≡ es ++ (k, None) ∷ [] → names_of new ≡ names_of es ++ k.items ∷ []
  names-push es new k e = ap names_of e ∙ by es
    where
      by : (xs : List (Vec ℕ Global × Option M)) → names_of (xs ++ (k, None) ∷ []) ≡ names_of xs ++ k.items ∷ []
      by [] = refl
      by (x ∷ xs) = ap (λ ns. x.0.items ∷ ns) (by xs)

  pub meanings-push : (es new : List (Vec ℕ Global × Option M)) (k : Vec ℕ Global) → new ≡ es ++ (k, None) ∷ [] → meanings_of new ≡ meanings_of es ++ None ∷ []
  meanings-push es new k e = ap meanings_of e ∙ by es
    where
      by : (xs : List (Vec ℕ Global × Option M)) → meanings_of (xs ++ (k, None) ∷ []) ≡ meanings_of xs ++ None ∷ []
      by [] = refl
      by (x ∷ xs) = ap (λ ms. x.1 ∷ ms) (by xs)

  -- a name that is not found is not there
  pub absent-name : (n : List ℕ) (es : List (Vec ℕ Global × Option M)) → lookup (test_of n) es ≡ None → (i : ℕ) → i < length (names_of es) → get_or (names_of es) i [] ≢ n
  absent-name n es none i within = by (looked n es)
    where
      by : ((j : ℕ) × (j < length (names_of es)) × (get_or (names_of es) j [] ≡ n) × (lookup (test_of n) es ≡ Some (get_or (meanings_of es) j None)))
          ⊎ ((lookup (test_of n) es ≡ None) × ((j : ℕ) → j < length (names_of es) → get_or (names_of es) j [] ≢ n))
          → get_or (names_of es) i [] ≢ n
      by (inl h) = none_is_not (sym none ∙ h.3)
      by (inr h) = h.1 i within
