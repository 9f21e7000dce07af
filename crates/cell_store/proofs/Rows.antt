-- The lines of a table by their numbers.
use Rattle.std.proofs.Common.{ℕ, ◌<◌, ◌≤◌, ◌≡◌, ◌≢◌, zero, suc, List, [], ◌∷◌, length, get_or, Some, None, cond, eqb, refl, ap, subst, ◌∙◌, ◌⊎◌, ⊎_elim, arith}
use Rattle.std.proofs.lemmas.Bool.{ne_eqb, eq-eqb, cases_lt}
use Rattle.std.proofs.lemmas.List.{get_or_default}
use Rattle.cell_store.specs.declared.table.Row.{Row}
use Rattle.cell_store.specs.Flat.{AreLaid, row_of}

-- no number is below the least
pub from_least : (rows : List Row) (start least end fresh : ℕ) → AreLaid start least rows end fresh → (d : Row) (k : ℕ) → k < length rows → least ≤ (get_or rows k d).number
from_least [] start least end fresh laid d k h = absurd (omega arith)
from_least (row ∷ rows) start least end fresh laid d zero h = laid.1
from_least (row ∷ rows) start least end fresh laid d (suc k) h =
    omega (arith, laid.1, from_least rows _ _ end fresh laid.3 d k (omega arith))

-- the numbers rise
pub rising : (rows : List Row) (start least end fresh : ℕ) → AreLaid start least rows end fresh → (d e : Row) (i j : ℕ) → i < j → j < length rows → (get_or rows i d).number < (get_or rows j e).number
rising [] start least end fresh laid d e i j below within = absurd (omega arith)
rising (row ∷ rows) start least end fresh laid d e i zero below within = absurd (omega arith)
rising (row ∷ rows) start least end fresh laid d e zero (suc j) below within =
    omega (arith, from_least rows _ _ end fresh laid.3 e j (omega arith))
rising (row ∷ rows) start least end fresh laid d e (suc i) (suc j) below within =
    rising rows _ _ end fresh laid.3 d e i j (omega arith) (omega arith)

-- below a line whose number is below n, and above one whose number is above it
pub all_below : (rows : List Row) (end fresh : ℕ) → AreLaid 0 0 rows end fresh → (d e : Row) (k m n : ℕ) → k ≤ m → m < length rows → (get_or rows m e).number < n → (get_or rows k d).number < n
all_below rows end fresh laid d e k m n below within less = ⊎_elim
    (λ lt. omega (arith, rising rows 0 0 end fresh laid d e k m lt within))
    (λ le. let eq : m ≡ k = omega arith in subst (λ (i : ℕ). (get_or rows i d).number < n) eq (rw (get_or_default rows m d e within) less))
    (cases_lt k m)

pub all_above : (rows : List Row) (end fresh : ℕ) → AreLaid 0 0 rows end fresh → (d e : Row) (k m n : ℕ) → m ≤ k → k < length rows → n < (get_or rows m e).number → n < (get_or rows k d).number
all_above rows end fresh laid d e k m n above within more = ⊎_elim
    (λ lt. omega (arith, rising rows 0 0 end fresh laid e d m k lt within))
    (λ le. let eq : m ≡ k = omega arith in subst (λ (i : ℕ). n < (get_or rows i d).number) eq (rw (get_or_default rows m d e (omega arith)) more))
    (cases_lt m k)

-- the line at a place is the one of its number
pub row_of_at : (rows : List Row) (start least end fresh : ℕ) → AreLaid start least rows end fresh → (d : Row) (k number : ℕ) → k < length rows → (get_or rows k d).number ≡ number → row_of rows number ≡ Some (get_or rows k d)
row_of_at [] start least end fresh laid d k number within is = absurd (omega arith)
row_of_at (row ∷ rows) start least end fresh laid d zero number within is =
    ap (λ b. cond b (Some row) (row_of rows number)) (eq-eqb row.number number is)
row_of_at (row ∷ rows) start least end fresh laid d (suc k) number within is =
    let other : eqb row.number number ≡ _ =
    ne_eqb row.number number (λ e. absurd (omega (arith, from_least rows _ _ end fresh laid.3 d k (omega arith)))) in
    ap (λ b. cond b (Some row) (row_of rows number)) other ∙ row_of_at rows _ _ end fresh laid.3 d k number (omega arith) is

-- where no line has the number there is none
pub row_of_none : (rows : List Row) (number : ℕ) → ((k : ℕ) (d : Row) → k < length rows → (get_or rows k d).number ≢ number) → row_of rows number ≡ None
row_of_none [] number none = refl
row_of_none (row ∷ rows) number none =
    ap (λ b. cond b (Some row) (row_of rows number)) (ne_eqb row.number number (none 0 row (omega arith)))
    ∙ row_of_none rows number (λ k d h. none (suc k) d (omega arith))

-- where all lines are below the number or above it, none has it
pub row_of_apart : (rows : List Row) (low high number : ℕ) → high ≤ low → ((k : ℕ) (d : Row) → k < low → (get_or rows k d).number < number) → ((k : ℕ) (d : Row) → high ≤ k → k < length rows → number < (get_or rows k d).number) → row_of rows number ≡ None
row_of_apart rows low high number met below above = row_of_none rows number (λ k d h. apart k d h (cases_lt k low))
  where
    apart : (k : ℕ) (d : Row) → k < length rows → (k < low) ⊎ (low ≤ k) → (get_or rows k d).number ≢ number
    apart k d h s e = ⊎_elim {C = ⊥} (λ lt. omega (arith, below k d lt)) (λ le. omega (arith, above k d (omega arith) h)) s
