-- Fronts of byte lists: the longest in a set is one, and the longest whose bytes pass a test.
use Rattle.std.proofs.Common.{◌≡◌, ℕ, suc, ◌+◌, ◌<◌, ◌⊎◌, Bool, true, false, [], ◌∷◌, ◌++◌, length, take, drop, refl, ap, sym, ◌∙◌, subst, inl, inr, arith, append-nil}
use Rattle.std.specs.List.{prefix_len, list_all}
use Rattle.std.proofs.lemmas.Bool.{cond_both, and_from, and_parts, and_left}
use Rattle.c_lexer.specs.Tokens.{Bytes, IsLongest}

pub one_plus : (n : ℕ) → 1 + n ≡ suc n
one_plus n = omega arith

-- of two fronts of one list, one is a front of the other
pub front_cases : (a b c d : Bytes) → a ++ b ≡ c ++ d → ((more : Bytes) × (c ≡ a ++ more) × (b ≡ more ++ d)) ⊎ ((more : Bytes) × (a ≡ c ++ more) × (d ≡ more ++ b))
front_cases [] b c d e = inl (c, refl, e)
front_cases (x ∷ a) b [] d e = inr (x ∷ a, refl, sym e)
front_cases (x ∷ a) b (y ∷ c) d e =
    let heads : x ≡ y = cc in
    let tails : a ++ b ≡ c ++ d = cc in
    elim (front_cases a b c d tails) [
      | inl w ↦ inl (w.0, (let t = w.1 in cc), w.2)
      | inr w ↦ inr (w.0, (let t = w.1 in cc), w.2)
    ]

longer_is_same : (S : Bytes → Type 0) (w rest more tail : Bytes) → IsLongest S w rest → S (w ++ more) → rest ≡ more ++ tail → w ≡ w ++ more
longer_is_same S w rest [] tail l s e = sym (append-nil w)
longer_is_same S w rest (b ∷ more) tail l s e = absurd (l.1 (b ∷ more) tail (omega arith) e s)

-- the longest front in a set is one
pub longest_same : (S : Bytes → Type 0) (w rest v tail : Bytes) → IsLongest S w rest → IsLongest S v tail → w ++ rest ≡ v ++ tail → w ≡ v
longest_same S w rest v tail l m e =
    elim (front_cases w rest v tail e) as (λ _. w ≡ v) [
      | inl c ↦ longer_is_same S w rest c.0 tail l (subst S c.1 m.0) c.2 ∙ sym c.1
      | inr c ↦ c.1 ∙ sym (longer_is_same S v tail c.0 rest m (subst S c.1 l.0) c.2)
    ]

-- ---- the bytes from the front on that pass a test

pub all_prefix : (p : ℕ → Bool) (bytes : Bytes) → list_all p (take (prefix_len p bytes) bytes) ≡ true
all_prefix p [] = refl
all_prefix p (b ∷ bytes) =
    cond_both (p b) (1 + prefix_len p bytes) 0 (λ n. list_all p (take n (b ∷ bytes)) ≡ true)
    (λ e. rw (one_plus (prefix_len p bytes)) (and_from (p b) _ e (all_prefix p bytes)))
    (λ e. refl)

-- what follows them does not begin with bytes that pass
pub past_prefix : (p : ℕ → Bool) (bytes more tail : Bytes) → 0 < length more → drop (prefix_len p bytes) bytes ≡ more ++ tail → list_all p more ≡ false
past_prefix p bytes [] tail h e = absurd (omega arith)
past_prefix p [] (c ∷ more) tail h e = absurd (cc)
past_prefix p (b ∷ bytes) (c ∷ more) tail h e =
    cond_both (p b) (1 + prefix_len p bytes) 0 (λ n. drop n (b ∷ bytes) ≡ (c ∷ more) ++ tail → list_all p (c ∷ more) ≡ false)
    (λ t. rw (one_plus (prefix_len p bytes)) (past_prefix p bytes (c ∷ more) tail h))
    (λ t i. let same : b ≡ c = cc in and_left (p c) (list_all p more) (ap p (sym same) ∙ t))
    e

pub list_all-append : (p : ℕ → Bool) (a b : Bytes) → list_all p (a ++ b) ≡ true → list_all p b ≡ true
list_all-append p [] b e = e
list_all-append p (x ∷ a) b e = list_all-append p a b (and_parts (p x) (list_all p (a ++ b)) e).1

-- bytes that pass, before the end or a byte that does not
pub prefix_len-stops : (p : ℕ → Bool) (a b : Bytes) → list_all p a ≡ true → prefix_len p b ≡ 0 → prefix_len p (a ++ b) ≡ length a
prefix_len-stops p [] b e stop = stop
prefix_len-stops p (x ∷ a) b e stop =
    let parts = and_parts (p x) (list_all p a) e in
    rw (parts.0, prefix_len-stops p a b parts.1 stop) (one_plus (length a))
