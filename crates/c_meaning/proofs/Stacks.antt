-- A list whose end is split off, against the same in the other order.
use Rattle.std.proofs.Common.{◌≡◌, ℕ, ◌-◌, ◌≤◌, ◌<◌, ◌⊎◌, inl, inr, List, ◌++◌, length, take, drop, reverse, ap, sym, ◌∙◌, arith}
use Rattle.std.proofs.lemmas.Bool.{cases_lt}
use Rattle.std.proofs.lemmas.List.{length-drop, length-reverse, take-append-drop, take_at, take_all, drop_at, reverse-append, reverse-reverse}
use Rattle.std.proofs.Math.ListN.{drop_of_length-le}

module _ {A : Type 0} (xs : List A) (at n : ℕ) (at-is : at ≡ length xs - n) where
  turned : reverse xs ≡ reverse (drop at xs) ++ reverse (take at xs)
  turned = ap reverse (sym (take-append-drop at xs)) ∙ reverse-append (take at xs) (drop at xs)

  turned_length : n ≤ length xs → length (reverse (drop at xs)) ≡ n
  turned_length few = omega (arith, length-reverse (drop at xs), length-drop at xs, at-is, few)

  start : length xs < n → at ≡ 0
  start many = omega (arith, at-is, many)

  reversed_length : length xs < n → length (reverse xs) ≤ n
  reversed_length many = omega (arith, length-reverse xs, many)

  pub taken_in_order : drop at xs ≡ reverse (take n (reverse xs))
  taken_in_order = by_length (cases_lt (length xs) n)
    where
      by_length : (length xs < n) ⊎ (n ≤ length xs) → drop at xs ≡ reverse (take n (reverse xs))
      by_length (inl many) =
          ap (λ k. drop k xs) (start many) ∙ sym (reverse-reverse xs) ∙ ap reverse (sym (take_all n (reverse xs) (reversed_length many)))
      by_length (inr few) =
          sym (reverse-reverse (drop at xs))
          ∙ ap reverse (sym (take_at (reverse (drop at xs)) (reverse (take at xs)) n (turned_length few)) ∙ ap (take n) (sym turned))

  pub left_in_order : reverse (take at xs) ≡ drop n (reverse xs)
  left_in_order = by_length (cases_lt (length xs) n)
    where
      by_length : (length xs < n) ⊎ (n ≤ length xs) → reverse (take at xs) ≡ drop n (reverse xs)
      by_length (inl many) = ap (λ k. reverse (take k xs)) (start many) ∙ sym (drop_of_length-le (reverse xs) (reversed_length many))
      by_length (inr few) =
          sym (drop_at (reverse (drop at xs)) (reverse (take at xs)) n (turned_length few)) ∙ ap (drop n) (sym turned)
