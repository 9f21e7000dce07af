-- The digits at the front of some bytes, and the value that they have.
use Rattle.std.proofs.Common.{◌≡◌, ℕ, zero, suc, ◌+◌, ◌<◌, ◌≤◌, ◌^◌, Bool, true, false, cond, nat_lt, nat_le, ◌&&◌, ◌==◌, slice_index, List, [], ◌∷◌, ◌++◌, length, take, get_or, Some, None, refl, ap, subst, arith}
use Rattle.std.proofs.Math.Numerals.{one-add}
use Rattle.std.specs.Char.{is_ascii_digit, digit_value}
use Rattle.std.specs.List.{prefix_len}
use Rattle.std.specs.Fmt.{decimal}
use Rattle.std.specs.Str.Parse.{AllDigits, digits_value}
use Rattle.std.proofs.lemmas.Bool.Decides.{nat_tests}
use Rattle.std.proofs.lemmas.Str.{digit_value_digit}
use Rattle.std.proofs.lemmas.Str.Parse.{digit_from_value, IsNumeralModel}
use Rattle.std.proofs.lemmas.Fmt.{decimal_is_IsNumeral, first_decimal, decimal_digit, decimal-digits_value}
use Rattle.upset.specs.Reading.{value_of}

-- whether the first byte passes the test
abbrev pub begins : (ℕ → Bool) → List ℕ → Bool
begins test [] = false
begins test (c ∷ cs) = test c

-- a digit has a value below 10, and what has one is a digit
digit_value_below : (c : ℕ) → is_ascii_digit c ≡ true → digit_value c < 10
digit_value_below c e = grind (arith, nat_tests, digit_value_digit)

digit_test : (c : ℕ) → digit_value c < 10 → is_ascii_digit c ≡ true
digit_test c h = let k = digit_from_value c h in grind (arith, nat_tests)

-- the digits at the front are digits
pub front_digits : (bs : List ℕ) → AllDigits 10 (take (prefix_len is_ascii_digit bs) bs)
front_digits [] = tt
front_digits (c ∷ cs) = by (is_ascii_digit c) refl (front_digits cs)
  where
    by : (b : Bool) → is_ascii_digit c ≡ b → AllDigits 10 (take (prefix_len is_ascii_digit cs) cs) → AllDigits 10 (take (cond b (1 + prefix_len is_ascii_digit cs) 0) (c ∷ cs))
    by true e others = rw one-add (digit_value_below c e, others)
    by false e others = tt

-- digits, and behind them no digit, are the digits at the front
pub prefix_len-digits : (ds rest : List ℕ) → AllDigits 10 ds → begins is_ascii_digit rest ≡ false → prefix_len is_ascii_digit (ds ++ rest) ≡ length ds
prefix_len-digits [] [] h e = refl
prefix_len-digits [] (c ∷ cs) h e = ap (λ b. cond b (1 + prefix_len is_ascii_digit cs) 0) e
prefix_len-digits (d ∷ ds) rest h e =
    let first = ap (λ b. cond b (1 + prefix_len is_ascii_digit (ds ++ rest)) 0) (digit_test d h.0) in
    let others = prefix_len-digits ds rest h.1 e in
    omega (arith, first, others)

own : IsNumeralModel (AllDigits 10) (digits_value 10)
own = record { to = λ ds h. h; from = λ ds h. h; same = λ ds h. refl }

-- a number of 64 bits has digits
pub decimal_digits : (v : ℕ) → v < 2 ^ 64 → (0 < length (decimal v)) × AllDigits 10 (decimal v) × (digits_value 10 (decimal v) ≡ v)
decimal_digits v h = let n = decimal_is_IsNumeral v h in (n.0.0, n.0.1, n.1)

guards : (a b : Bool) (x v : ℕ) → cond a None (cond b (Some x) None) ≡ Some v → (a ≡ false) × (b ≡ true) × (x ≡ v)
guards true b x v e = absurd cc
guards false true x v e = (refl, refl, cc)
guards false false x v e = absurd cc

-- what a number in range is
pub record IsValue (least most v : ℕ) (ds : List ℕ) : Type 0 where
  pub spelled : decimal v ≡ ds
  pub from : least ≤ v
  pub upto : v ≤ most

-- digits with a value are the decimal of that value
pub value_takes : (ds : List ℕ) (least most v : ℕ) → most < 2 ^ 64 → AllDigits 10 ds → value_of least most ds ≡ Some v → IsValue least most v ds
unfolding value_of
value_takes ds least most v fits h e =
    let x = digits_value 10 ds in
    let g = guards (nat_lt 1 (length ds) && slice_index ds 0 == 48) (nat_lt 0 (length ds) && (nat_le least x && nat_le x most)) x v e in
    let some : 0 < length ds = grind (arith, nat_tests, g.1) in
    let low : least ≤ x = grind (arith, nat_tests, g.1) in
    let high : x ≤ most = grind (arith, nat_tests, g.1) in
    let lead : get_or ds 0 0 ≡ 48 → length ds ≡ 1 = λ z. grind (arith, nat_tests, g.0) in
    let same = decimal-digits_value own ds h some lead (omega arith) in
    subst (λ n. IsValue least most n ds) g.2 (record { spelled = same; from = low; upto = high })

-- no 0 stands before another digit in a decimal
no_lead : (v : ℕ) → v < 2 ^ 64 → (nat_lt 1 (length (decimal v)) && slice_index (decimal v) 0 == 48) ≡ false
no_lead zero h = let e = decimal_digit 0 (omega arith) in rw e refl
no_lead (suc n) h = let high = first_decimal (suc n) (omega arith) (omega arith) in grind (arith, nat_tests)

-- the decimal of a value has that value
pub value_of-decimal : (least most v : ℕ) → most < 2 ^ 64 → least ≤ v → v ≤ most → value_of least most (decimal v) ≡ Some v
unfolding value_of
value_of-decimal least most v fits low high =
    let d = decimal_digits v (omega arith) in
    let one : (nat_lt 1 (length (decimal v)) && slice_index (decimal v) 0 == 48) ≡ false = no_lead v (omega arith) in
    let two : (nat_lt 0 (length (decimal v)) && (nat_le least (digits_value 10 (decimal v)) && nat_le (digits_value 10 (decimal v)) most)) ≡ true = grind (arith, nat_tests, d) in
    rw (one, two, d.2) refl
