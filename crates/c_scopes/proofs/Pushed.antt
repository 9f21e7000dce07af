-- The log leads back as entries come and go.
use Rattle.std.proofs.Common.{arith, ◌≡◌, ◌≢◌, ℕ, zero, suc, ◌<◌, ◌≤◌, Bool, true, false, List, [], ◌∷◌, ◌++◌, length, take, Option, Some, None, slice_get, get_or, set, length-set, ◌⊎◌, inl, inr, nat_eq, refl, sym, ◌∙◌, ap, subst, true≢false}
use Rattle.std.proofs.lemmas.List.{get_or-set_same, get_or-set_other, take-append-le}
use Rattle.std.proofs.lemmas.Option.{slice_get_within}
use Rattle.std.proofs.lemmas.Bool.{eqb-true, eq-eqb}
use Rattle.c_scopes.specs.declared.scopes.Entry.{Entry}
use Rattle.c_scopes.specs.declared.scopes.Entry.TheVariants.{Begin, Declared}
use Rattle.c_scopes.specs.declared.scopes.Change.{Change}
use Rattle.c_scopes.specs.Scopes.{meaning_of, with_meaning}
use Rattle.c_scopes.specs.Log.{step, scopes_from, scopes_of, Starts, LeadsBack}
use Rattle.c_scopes.proofs.Meanings.{meaning-same, meaning-other, scopes-push, has-scope}

pub some_is : {A : Type 0} {x y : A} → Some x ≡ Some y → x ≡ y
some_is {x = x} e = ap (λ o. elim o [ Some z ↦ z | None ↦ x ]) e

pub none_is_not : {A B : Type 0} {x : A} → None ≡ Some x → B
none_is_not e = absurd (true≢false (ap (λ o. elim o [ Some z ↦ false | None ↦ true ]) e))

place-in-push : {A : Type 0} (xs : List A) (x : A) (n : ℕ) (z : A) → slice_get (xs ++ x ∷ []) n ≡ Some z → (slice_get xs n ≡ Some z) ⊎ ((n ≡ length xs) × (z ≡ x))
place-in-push [] x zero z e = inr (refl, sym (some_is e))
place-in-push [] x (suc n) z e = none_is_not e
place-in-push (y ∷ xs) x zero z e = inl e
place-in-push (y ∷ xs) x (suc n) z e = elim (place-in-push xs x n z e) [ inl h ↦ inl h | inr h ↦ inr (ap suc h.0, h.1) ]

front : {A : Type 0} (xs : List A) (x : A) (n : ℕ) (z : A) → slice_get xs n ≡ Some z → slice_get (xs ++ x ∷ []) n ≡ Some z
front [] x n z e = none_is_not e
front (y ∷ xs) x zero z e = e
front (y ∷ xs) x (suc n) z e = front xs x n z e

pub last : {A : Type 0} (xs : List A) (x : A) → slice_get (xs ++ x ∷ []) (length xs) ≡ Some x
last [] x = refl
last (y ∷ xs) x = last xs x

all-taken : {A : Type 0} (xs : List A) → take (length xs) xs ≡ xs
all-taken [] = refl
all-taken (x ∷ xs) = ap (λ ys. x ∷ ys) (all-taken xs)

taken : {A : Type 0} (xs : List A) (x : A) (n : ℕ) → n ≤ length xs → take n (xs ++ x ∷ []) ≡ take n xs
taken xs x n h = take-append-le n xs (x ∷ []) h

is-begin : {M : Type 0} → Entry M → Bool
is-begin Begin = true
is-begin (Declared c) = false

change-in : {M : Type 0} → Change M → Entry M → Change M
change-in d Begin = d
change-in d (Declared c) = c

-- the names of two numbers that differ
other-name : (names : List (List ℕ)) → ((i j : ℕ) → i < length names → j < length names → get_or names i [] ≡ get_or names j [] → i ≡ j)
    → (i j : ℕ) → i < length names → j < length names → i ≢ j → get_or names i [] ≢ get_or names j []
other-name names apart i j h k ne e = ne (apart i j h k e)

module _ {M : Type 0} where
  starts-begin : (log : List (Entry M)) → Starts log → Starts (log ++ Begin ∷ [])
  starts-begin [] s = tt
  starts-begin (Begin ∷ log) s = tt
  starts-begin (Declared c ∷ log) s = s

  starts-behind : (x : Entry M) (log : List (Entry M)) (e : Entry M) → Starts (x ∷ log) → Starts ((x ∷ log) ++ e ∷ [])
  starts-behind Begin log e s = tt
  starts-behind (Declared c) log e s = s

  starts-front : (log : List (Entry M)) (e : Entry M) → Starts (log ++ e ∷ []) → Starts log
  starts-front [] e s = tt
  starts-front (Begin ∷ log) e s = tt
  starts-front (Declared c ∷ log) e s = s

  -- a scope begins
  pub opened : (names : List (List ℕ)) (current : List (Option M)) (log : List (Entry M)) → LeadsBack names current log → LeadsBack names current (log ++ Begin ∷ [])
  unfolding is-begin
  opened names current log leads = record {
    sized = leads.sized;
    starts = starts-begin log leads.starts;
    apart = leads.apart;
    now = λ i h. leads.now i h ∙ sym (ap (meaning_of (get_or names i [])) (scopes-push names log Begin));
    known = λ k c e. elim (place-in-push log Begin k (Declared c) e) [
      | inl h ↦ leads.known k c h
      | inr h ↦ absurd (true≢false (sym (ap is-begin h.1)))
    ];
    back = λ k c e. elim (place-in-push log Begin k (Declared c) e) [
      | inl h ↦ let within = slice_get_within log k _ h in
          leads.back k c h ∙ ap (λ l. meaning_of (get_or names c.name []) (scopes_of names l)) (sym (taken log Begin k (omega arith)))
      | inr h ↦ absurd (true≢false (sym (ap is-begin h.1)))
    ];
  }

  -- a scope that has just begun goes away
  pub begun-undone : (names : List (List ℕ)) (current : List (Option M)) (log : List (Entry M)) → LeadsBack names current (log ++ Begin ∷ []) → LeadsBack names current log
  begun-undone names current log leads = record {
    sized = leads.sized;
    starts = starts-front log Begin leads.starts;
    apart = leads.apart;
    now = λ i h. leads.now i h ∙ ap (meaning_of (get_or names i [])) (scopes-push names log Begin);
    known = λ k c e. leads.known k c (front log Begin k _ e);
    back = λ k c e. let within = slice_get_within log k _ e in
        leads.back k c (front log Begin k _ e) ∙ ap (λ l. meaning_of (get_or names c.name []) (scopes_of names l)) (taken log Begin k (omega arith));
  }

  -- what each name means after a write
  written : (names : List (List ℕ)) (current : List (Option M)) (n : ℕ) (m : Option M) (log : List (Entry M)) (new : List (List (List ℕ × M)))
      → length current ≡ length names
      → ((i : ℕ) → i < length names → i ≢ n → get_or current i None ≡ meaning_of (get_or names i []) new)
      → n < length names → m ≡ meaning_of (get_or names n []) new
      → (i : ℕ) → i < length names → get_or (set current n m) i None ≡ meaning_of (get_or names i []) new
  written names current n m log new sized others within here i h = by (nat_eq i n) refl
    where
      by : (b : Bool) → nat_eq i n ≡ b → get_or (set current n m) i None ≡ meaning_of (get_or names i []) new
      by true e =
          let same = eqb-true i n e in
          subst (λ k. get_or (set current n m) k None ≡ meaning_of (get_or names k []) new) (sym same)
          (get_or-set_same current n m None (subst (λ s. n < s) (sym sized) within) ∙ here)
      by false e =
          let ne : i ≢ n = λ same. true≢false (sym (eq-eqb i n same) ∙ e) in
          get_or-set_other current n i m None ne ∙ others i h ne

  -- a name is declared
  pub declared : (names : List (List ℕ)) (current : List (Option M)) (x : Entry M) (log : List (Entry M)) (c : Change M)
      → LeadsBack names current (x ∷ log) → c.name < length names → c.before ≡ meaning_of (get_or names c.name []) (scopes_of names (x ∷ log))
      → LeadsBack names (set current c.name (Some c.meaning)) ((x ∷ log) ++ Declared c ∷ [])
  unfolding scopes_from change-in
  declared names current (Declared d) log c leads within before = absurd leads.starts
  declared names current Begin log c leads within before =
      let old = Begin ∷ log in
      let scope = has-scope names [] [] log in
      let now = scopes-push names old (Declared c) in
      record {
        sized = length-set current c.name (Some c.meaning) ∙ leads.sized;
        starts = tt;
        apart = leads.apart;
        now = λ i h. written names current c.name (Some c.meaning) old (step names (scopes_of names old) (Declared c)) leads.sized
            (λ j k ne. leads.now j k ∙ sym (meaning-other _ _ c.meaning (scopes_of names old) (other-name names leads.apart j c.name k within ne)))
            within
            (sym (ap (λ s. meaning_of (get_or names c.name []) (with_meaning (get_or names c.name []) c.meaning s)) scope.2
            ∙ meaning-same (get_or names c.name []) c.meaning scope.0 scope.1))
            i h ∙ sym (ap (meaning_of (get_or names i [])) now);
        known = λ k d e. elim (place-in-push old (Declared c) k (Declared d) e) [
          | inl h ↦ leads.known k d h
          | inr h ↦ subst (λ z. z.name < length names) (sym (ap (change-in c) h.1)) within
        ];
        back = λ k d e. elim (place-in-push old (Declared c) k (Declared d) e) [
          | inl h ↦ let inside = slice_get_within old k _ h in
              leads.back k d h ∙ ap (λ l. meaning_of (get_or names d.name []) (scopes_of names l)) (sym (taken old (Declared c) k (omega arith)))
          | inr h ↦
              let same : d ≡ c = ap (change-in c) h.1 in
              subst (λ z. z.before ≡ meaning_of (get_or names z.name []) (scopes_of names (take k (old ++ Declared c ∷ [])))) (sym same)
              (before ∙ ap (λ l. meaning_of (get_or names c.name []) (scopes_of names l))
              (sym (ap (λ j. take j (old ++ Declared c ∷ [])) h.0 ∙ taken old (Declared c) (length old) (omega arith) ∙ all-taken old)))
        ];
      }

  -- a declaration goes away
  pub declared-undone : (names : List (List ℕ)) (current : List (Option M)) (log : List (Entry M)) (c : Change M)
      → LeadsBack names current (log ++ Declared c ∷ []) → LeadsBack names (set current c.name c.before) log
  declared-undone names current log c leads =
      let at = last log (Declared c) in
      let within = leads.known (length log) c at in
      let before = leads.back (length log) c at ∙ ap (λ l. meaning_of (get_or names c.name []) (scopes_of names l)) (taken log (Declared c) (length log) (omega arith) ∙ all-taken log) in
      let now = scopes-push names log (Declared c) in
      record {
        sized = length-set current c.name c.before ∙ leads.sized;
        starts = starts-front log (Declared c) leads.starts;
        apart = leads.apart;
        now = written names current c.name c.before log (scopes_of names log) leads.sized
            (λ j k ne. leads.now j k ∙ ap (meaning_of (get_or names j [])) now ∙ meaning-other _ _ c.meaning (scopes_of names log) (other-name names leads.apart j c.name k within ne))
            within before;
        known = λ k d e. leads.known k d (front log (Declared c) k _ e);
        back = λ k d e. let inside = slice_get_within log k _ e in
            leads.back k d (front log (Declared c) k _ e) ∙ ap (λ l. meaning_of (get_or names d.name []) (scopes_of names l)) (taken log (Declared c) k (omega arith));
      }
