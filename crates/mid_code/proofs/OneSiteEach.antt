-- No two instructions have one site.
use Rattle.std.proofs.Common.{inl, inr, ◌⊎◌, ◌≡◌, ◌≢◌, ℕ, zero, suc, ◌+◌, ◌-◌, ◌<◌, ◌≤◌, List, [], ◌∷◌, take, Some, Bool, true, false, refl, sym, ap, ◌∙◌, subst, arith}
use Rattle.std.specs.Prelude.{slice_get, sum_by, option_and_then, nat_lt, if◌then◌else◌}
use Rattle.std.proofs.lemmas.Bool.{cases_lt, ltb-true, ltb-false}
use Rattle.std.proofs.lemmas.List.Sums.{sum_by-cons}
use Rattle.srmt_base.specs.declared.word.Site.{Site}
use Rattle.mid_code.specs.Valid.{IsValid}
use Rattle.mid_code.specs.Classes.{Sharing, Both, Alone, Echoed, SharedProgram, site_of, sites_of, site_count, class_of, classes_from, all_classes_from, all_sharings, instruction_sites, all_sites, wrappers_before, wrapper_site}
use Rattle.mid_code.specs.CodeLaws.{site_with, site_in, site_at, HasOneOfEach}
use Rattle.mid_code.proofs.Naming.{whole}

-- an instruction with a site, and the number of that site
record Sited (base : ℕ) (rows : List (List Sharing)) (index place n : ℕ) : Type 0 where
  row : List Sharing
  found : slice_get rows index ≡ Some row
  sharing : Sharing
  at : slice_get row place ≡ Some sharing
  takes : sites_of sharing ≡ 1
  is : n ≡ base + sum_by site_count (take index rows) + site_count (take place row)

class_sited : (site n : ℕ) (s : Sharing) → site_with (class_of site s) ≡ Some (site_of n) → (sites_of s ≡ 1) × (n ≡ site)
class_sited site n Both h = absurd (cc)
class_sited site n Alone h = (refl, let same : site_of n ≡ site_of site = cc in ap (λ (s : Site). s.0) same)
class_sited site n Echoed h = (refl, let same : site_of n ≡ site_of site = cc in ap (λ (s : Site). s.0) same)

record SitedIn (base : ℕ) (row : List Sharing) (place n : ℕ) : Type 0 where
  sharing : Sharing
  at : slice_get row place ≡ Some sharing
  takes : sites_of sharing ≡ 1
  is : n ≡ base + site_count (take place row)

row_sited : (base : ℕ) (row : List Sharing) (place n : ℕ) → option_and_then site_with (slice_get (classes_from base row) place) ≡ Some (site_of n) → SitedIn base row place n
row_sited base [] place n h = absurd (cc)
row_sited base (t ∷ ts) zero n h =
    let one = class_sited base n t h in
    record { sharing = t; at = refl; takes = one.0; is = omega (arith, one.1) }
row_sited base (t ∷ ts) (suc p) n h =
    let rest = row_sited (base + sites_of t) ts p n h in
    record { sharing = rest.sharing; at = rest.at; takes = rest.takes; is = omega (arith, rest.is) }

sited : (base : ℕ) (rows : List (List Sharing)) (index place n : ℕ) → site_in (all_classes_from base rows) index place ≡ Some (site_of n) → Sited base rows index place n
sited base [] index place n h = absurd (cc)
sited base (t ∷ ts) zero place n h =
    let one = row_sited base t place n h in
    record { row = t; found = refl; sharing = one.sharing; at = one.at; takes = one.takes; is = omega (arith, one.is) }
sited base (t ∷ ts) (suc index) place n h =
    let rest = sited (base + site_count t) ts index place n h in
    record {
      row = rest.row;
      found = rest.found;
      sharing = rest.sharing;
      at = rest.at;
      takes = rest.takes;
      is = omega (arith, rest.is, sum_by-cons site_count t (take index ts));
    }

-- sites rise from place to place, and from function to function
row_rises : (row : List Sharing) (place further : ℕ) (s : Sharing) → slice_get row place ≡ Some s → place < further → site_count (take place row) + sites_of s ≤ site_count (take further row)
row_rises [] place further s at more = absurd (cc)
row_rises (t ∷ ts) place zero s at more = absurd (omega arith)
row_rises (t ∷ ts) zero (suc q) s at more = let same : t ≡ s = cc in omega (arith, ap sites_of same)
row_rises (t ∷ ts) (suc p) (suc q) s at more = omega (arith, row_rises ts p q s at (omega arith))

row_within : (row : List Sharing) (place : ℕ) (s : Sharing) → slice_get row place ≡ Some s → site_count (take place row) + sites_of s ≤ site_count row
row_within [] place s at = absurd (cc)
row_within (t ∷ ts) zero s at = let same : t ≡ s = cc in omega (arith, ap sites_of same)
row_within (t ∷ ts) (suc p) s at = omega (arith, row_within ts p s at)

rows_rise : (rows : List (List Sharing)) (index further : ℕ) (row : List Sharing) → slice_get rows index ≡ Some row → index < further → sum_by site_count (take index rows) + site_count row ≤ sum_by site_count (take further rows)
rows_rise [] index further row at more = absurd (cc)
rows_rise (t ∷ ts) index zero row at more = absurd (omega arith)
rows_rise (t ∷ ts) zero (suc j) row at more = let same : t ≡ row = cc in omega (arith, ap site_count same, sum_by-cons site_count t (take j ts))
rows_rise (t ∷ ts) (suc i) (suc j) row at more =
    omega (arith, rows_rise ts i j row at (omega arith), sum_by-cons site_count t (take i ts), sum_by-cons site_count t (take j ts))

rows_within : (rows : List (List Sharing)) (index : ℕ) (row : List Sharing) → slice_get rows index ≡ Some row → sum_by site_count (take index rows) + site_count row ≤ sum_by site_count rows
rows_within [] index row at = absurd (cc)
rows_within (t ∷ ts) zero row at = let same : t ≡ row = cc in omega (arith, ap site_count same, sum_by-cons site_count t ts)
rows_within (t ∷ ts) (suc i) row at = omega (arith, rows_within ts i row at, sum_by-cons site_count t (take i ts), sum_by-cons site_count t ts)

-- of two instructions with one site neither comes before the other
module _ (base : ℕ) (rows : List (List Sharing)) where
  not_later : (i p j q n : ℕ) → Sited base rows i p n → Sited base rows j q n → i < j → ⊥
  not_later i p j q n first second more =
      omega (arith, rows_rise rows i j first.row first.found more, row_within first.row p first.sharing first.at, first.takes, first.is, second.is)

  not_further : (i p q n : ℕ) → Sited base rows i p n → Sited base rows i q n → p < q → ⊥
  not_further i p q n first second more =
      let same : first.row ≡ second.row = one_row (sym first.found ∙ second.found) in
      omega (arith, row_rises first.row p q first.sharing first.at more, first.takes, first.is, second.is, ap (λ (r : List Sharing). site_count (take q r)) same)
    where
      one_row : {a b : List Sharing} → Some a ≡ Some b → a ≡ b
      one_row e = cc

  one_place : (i p q n : ℕ) → Sited base rows i p n → Sited base rows i q n → p ≡ q
  one_place i p q n first second =
      elim (cases_lt p q) as (λ _. p ≡ q) [
        | inl more ↦ absurd (not_further i p q n first second more)
        | inr past ↦
            elim (cases_lt q p) as (λ _. p ≡ q) [
              | inl less ↦ absurd (not_further i q p n second first less)
              | inr least ↦ omega arith
            ]
      ]

  one_instruction : (i p j q n : ℕ) → Sited base rows i p n → Sited base rows j q n → (i ≡ j) × (p ≡ q)
  one_instruction i p j q n first second =
      elim (cases_lt i j) as (λ _. (i ≡ j) × (p ≡ q)) [
        | inl more ↦ absurd (not_later i p j q n first second more)
        | inr past ↦
            elim (cases_lt j i) as (λ _. (i ≡ j) × (p ≡ q)) [
              | inl less ↦ absurd (not_later j q i p n second first less)
              | inr least ↦
                  let same : i ≡ j = omega arith in
                  (same, one_place i p q n first (subst (λ k. Sited base rows k q n) (sym same) second))
            ]
      ]

at_row : (p : SharedProgram) (function place site : ℕ) → site_at p function place ≡ Some (site_of site) → (before : ℕ) × (function ≡ suc before) × Sited 1 (all_sharings p) before place site
at_row p zero place site h = absurd (cc)
at_row p (suc before) place site h = (before, refl, sited 1 (all_sharings p) before place site h)

-- wrappers are numbered by their functions, but for `main`
abbrev Below : ℕ → ℕ → ℕ → Type 0
Below main function before = (before + 1 ≡ function) × (function < main)

abbrev Above : ℕ → ℕ → ℕ → Type 0
Above main function before = (before + 2 ≡ function) × (main < function)

less_than : (a b : ℕ) → a ≤ b → a ≢ b → a < b
less_than a b most other =
    elim (cases_lt a b) as (λ _. a < b) [
      | inl less ↦ less
      | inr past ↦ absurd (other (omega arith))
    ]

numbered : (main function : ℕ) (less : Bool) → nat_lt main function ≡ less → 1 ≤ main → 1 ≤ function → function ≢ main →
    Below main function (if less then function - 2 else function - 1) ⊎ Above main function (if less then function - 2 else function - 1)
numbered main function true is some_main some other =
    let more : main < function = ltb-true main function is in
    inr (omega (arith, more), more)
numbered main function false is some_main some other =
    let less : function < main = less_than function main (ltb-false main function is) other in
    inl (omega arith, less)

wrapper_numbered : (p : SharedProgram) (function : ℕ) → 1 ≤ p.program.main → 1 ≤ function → function ≢ p.program.main →
    Below p.program.main function (wrappers_before p.program function) ⊎ Above p.program.main function (wrappers_before p.program function)
wrapper_numbered p function some_main some other = numbered p.program.main function (nat_lt p.program.main function) refl some_main some other

wrapped_within : (p : SharedProgram) (function : ℕ) → 1 ≤ p.program.main → p.program.main ≤ p.program.main_functions → 1 ≤ function → function ≤ p.program.main_functions → function ≢ p.program.main →
    (instruction_sites p < wrapper_site p function) × (wrapper_site p function ≤ all_sites p)
wrapped_within p function some_main main some protected other =
    elim (wrapper_numbered p function some_main some other) as (λ _. (instruction_sites p < wrapper_site p function) × (wrapper_site p function ≤ all_sites p)) [
      | inl below ↦ (omega arith, omega (arith, below.0, below.1))
      | inr above ↦ (omega arith, omega (arith, above.0, above.1))
    ]

same_function : (main f g b c : ℕ) → b ≡ c → Below main f b ⊎ Above main f b → Below main g c ⊎ Above main g c → f ≡ g
same_function main f g b c e (inl first) (inl second) = omega (arith, first.0, second.0)
same_function main f g b c e (inl first) (inr second) = absurd (omega (arith, first.0, first.1, second.0, second.1))
same_function main f g b c e (inr first) (inl second) = absurd (omega (arith, first.0, first.1, second.0, second.1))
same_function main f g b c e (inr first) (inr second) = omega (arith, first.0, second.0)

pub one_of_each : (p : SharedProgram) → IsValid p.program → HasOneOfEach p
one_of_each p valid = record { alone = alone; first = first; wrapped = wrapped; wrapped_alone = wrapped_alone } where
  alone : (function place other further site : ℕ) → site_at p function place ≡ Some (site_of site) → site_at p other further ≡ Some (site_of site) → (function ≡ other) × (place ≡ further)
  alone function place other further site h k =
      let one = at_row p function place site h in
      let two = at_row p other further site k in
      let same = one_instruction 1 (all_sharings p) one.0 place two.0 further site one.2 two.2 in
      (one.1 ∙ ap suc same.0 ∙ sym two.1, same.1)

  first : (function place site : ℕ) → site_at p function place ≡ Some (site_of site) → (1 ≤ site) × (site ≤ instruction_sites p)
  first function place site h =
      let one = at_row p function place site h in
      (omega (arith, one.2.is), omega (arith, one.2.is, one.2.takes, row_within one.2.row place one.2.sharing one.2.at, rows_within (all_sharings p) one.0 one.2.row one.2.found))

  wrapped : (function : ℕ) → 1 ≤ function → function ≤ p.program.main_functions → function ≢ p.program.main → (instruction_sites p < wrapper_site p function) × (wrapper_site p function ≤ all_sites p)
  wrapped function some protected other = let k = whole p.program valid in wrapped_within p function k.some_main k.main some protected other

  wrapped_alone : (function other : ℕ) → 1 ≤ function → 1 ≤ other → function ≢ p.program.main → other ≢ p.program.main → wrapper_site p function ≡ wrapper_site p other → function ≡ other
  wrapped_alone function other some some_other differs other_differs same =
      let k = whole p.program valid in
      same_function p.program.main function other (wrappers_before p.program function) (wrappers_before p.program other) (omega (arith, same))
      (wrapper_numbered p function k.some_main some differs) (wrapper_numbered p other k.some_main some_other other_differs)
