-- The longest punctuator.
use Rattle.std.proofs.Common.{◌≡◌, ℕ, suc, ◌+◌, ◌≤◌, ◌<◌, ◌⊎◌, Bool, true, false, not, ◌&&◌, ◌||◌, cond, eqb, ltb, leb, get_or, IsSome, is_some, List, [], ◌∷◌, ◌++◌, length, take, drop, Option, Some, None, refl, ap, sym, ◌∙◌, inl, inr, arith, length-append, length-take-le, append_assoc}
use Rattle.std.specs.List.{list_all, position, position_or_len}
use Rattle.std.specs.Char.{is_ascii_digit}
use Rattle.std.specs.Str.{bytes_eq}
use Rattle.std.proofs.lemmas.List.{take_at, take-append-drop}
use Rattle.std.proofs.lemmas.Slice.Eq.{bytes_eq-Decides}
use Rattle.std.proofs.lemmas.Bool.{and_parts, or_cases, not-true, ltb-true, leb-true, le-leb, cases_order}
use Rattle.c_lexer.specs.declared.token.TheConstants.{PUNCTUATORS}
use Rattle.c_lexer.specs.Tokens.{Bytes, IsLongest, NoFront, IsPunctuator, punctuator_place, is_blank, begins_name, is_quote}
use Rattle.c_lexer.specs.Scan.{punctuator_of_length, punctuator, or_else, is_second}
use Rattle.c_lexer.proofs.Choices.{chosen, map_some}

-- what is true of each entry of a table is true of one that is found
pub at_place : {X : Type 0} (p q : X → Bool) (xs : List X) → position_or_len p xs < length xs → list_all q xs ≡ true → (x : X) × (p x ≡ true) × (q x ≡ true)
at_place {X = X} p q [] h e = absurd (omega arith)
at_place {X = X} p q (x ∷ xs) h e =
    let parts = and_parts (q x) (list_all q xs) e in
    by_test (p x) refl h parts.0 (λ k. at_place p q xs k parts.1)
  where
    by_test : (t : Bool) → p x ≡ t → cond (not t) (1 + position_or_len p xs) 0 < suc (length xs) → q x ≡ true
        → (position_or_len p xs < length xs → (y : X) × (p y ≡ true) × (q y ≡ true)) → (y : X) × (p y ≡ true) × (q y ≡ true)
    by_test true f k g later = (x, f, g)
    by_test false f k g later = later (omega arith)

pub place_fits : {X : Type 0} (p : X → Bool) (xs : List X) (i : ℕ) → position p xs ≡ Some i → position_or_len p xs < length xs
place_fits p xs i e =
    elim (chosen (ltb (position_or_len p xs) (length xs)) (Some (position_or_len p xs)) None (Some i) e) as (λ _. position_or_len p xs < length xs)
    [ inl w ↦ ltb-true (position_or_len p xs) (length xs) w.0 | inr w ↦ absurd (let t = w.1 in cc) ]

-- the byte begins something other than a punctuator
unfoldable pub begins_other : ℕ → Bool
begins_other b = is_blank b || begins_name b || is_ascii_digit b || is_quote b || eqb b 35

-- what each punctuator is: one to three bytes, of which the first begins nothing else
is_mark : Bytes → Bool
is_mark word = ltb 0 (length word) && (leb (length word) 3 && not (begins_other (get_or word 0 0)))

all_marks : list_all (λ entry. is_mark entry.now) PUNCTUATORS ≡ true
unfolding is_mark begins_other
all_marks = refl

place_is_mark : (word : Bytes) (i : ℕ) → punctuator_place word ≡ Some i → is_mark word ≡ true
unfolding punctuator_place
place_is_mark word i e =
    let found = at_place (λ entry. bytes_eq entry.now word) (λ entry. is_mark entry.now) PUNCTUATORS (place_fits (λ entry. bytes_eq entry.now word) PUNCTUATORS i e) all_marks in
    ap is_mark (sym ((bytes_eq-Decides found.0.now word).0 found.1)) ∙ found.2

pub some_is : {A : Type 0} (o : Option A) → IsSome o → (x : A) × (o ≡ Some x)
some_is None h = absurd (cc)
some_is (Some x) h = (x, refl)

pub record Mark (word : Bytes) : Type 0 where
  pub some : 0 < length word
  pub short : length word ≤ 3
  pub other : begins_other (get_or word 0 0) ≡ false

pub mark_is : (word : Bytes) → IsPunctuator word → Mark word
unfolding is_mark
mark_is word h =
    let e = place_is_mark word (some_is (punctuator_place word) h).0 (some_is (punctuator_place word) h).1 in
    let outer = and_parts (ltb 0 (length word)) _ e in
    let inner = and_parts (leb (length word) 3) _ outer.1 in
    record { some = ltb-true 0 (length word) outer.0; short = leb-true (length word) 3 inner.0; other = not-true _ inner.1 }

-- a punctuator at the front is found by its length
of_length_front : (word tail : Bytes) (i : ℕ) → punctuator_place word ≡ Some i → punctuator_of_length (length word) (word ++ tail) ≡ Some (i, length word)
unfolding punctuator_of_length
of_length_front word tail i e =
    rw (le-leb (length word) (length (word ++ tail)) (omega (arith, length-append word tail)), take_at word tail (length word) refl, e) refl

of_length_is : (len : ℕ) (bytes : Bytes) (f : ℕ × ℕ) → punctuator_of_length len bytes ≡ Some f → (punctuator_place (take len bytes) ≡ Some f.0) × (f.1 ≡ len) × (len ≤ length bytes)
unfolding punctuator_of_length
of_length_is len bytes f e =
    elim (chosen (leb len (length bytes)) _ _ _ e) [
      | inl w ↦
          let m = map_some (λ place. (place, len)) (punctuator_place (take len bytes)) f w.1 in
          (m.1 ∙ ap (λ p. Some p.0) m.2, sym (ap (λ p. p.1) m.2), leb-true len (length bytes) w.0)
      | inr w ↦ absurd (let t = w.1 in cc)
    ]

-- one that is found is the longest, where no longer length finds one
longest_of : (len : ℕ) (bytes : Bytes) (f : ℕ × ℕ) → punctuator_of_length len bytes ≡ Some f → ((m : ℕ) → len < m → m ≤ 3 → punctuator_of_length m bytes ≡ None)
    → IsLongest IsPunctuator (take f.1 bytes) (drop f.1 bytes) × (punctuator_place (take f.1 bytes) ≡ Some f.0) × (f.1 ≤ length bytes)
longest_of len bytes f e none =
    let is = of_length_is len bytes f e in
    let place : punctuator_place (take f.1 bytes) ≡ Some f.0 = rw is.1 is.0 in (
      (
        ap is_some place,
        λ more tail h i s.
            let word : Bytes = take f.1 bytes ++ more in
            let whole : bytes ≡ word ++ tail = sym (take-append-drop f.1 bytes) ∙ ap (λ t. take f.1 bytes ++ t) i ∙ sym (append_assoc (take f.1 bytes) more tail) in
            let found = some_is (punctuator_place word) s in
            let len_is : length word ≡ f.1 + length more = omega (arith, length-append (take f.1 bytes) more, length-take-le f.1 bytes (omega (arith, is.1, is.2))) in
            let again : punctuator_of_length (length word) bytes ≡ Some (found.0, length word) = ap (punctuator_of_length (length word)) whole ∙ of_length_front word tail found.0 found.1 in
            let nothing = none (length word) (omega (arith, len_is, is.1)) (mark_is word s).short in
            absurd (cc),
      ),
      place,
      omega (arith, is.1, is.2),
    )

pub clash : {A : Type 0} {o : Option A} {x : A} → o ≡ None → o ≡ Some x → ⊥
clash e i = absurd (cc)

or_else-some : (a b : Option (ℕ × ℕ)) (f : ℕ × ℕ) → or_else a b ≡ Some f → (a ≡ Some f) ⊎ ((a ≡ None) × (b ≡ Some f))
or_else-some None b f e = inr (refl, e)
or_else-some (Some x) b f e = inl e

or_else-none : (a b : Option (ℕ × ℕ)) → or_else a b ≡ None → (a ≡ None) × (b ≡ None)
or_else-none None b e = (refl, e)
or_else-none (Some x) b e = absurd (cc)

pub mark_longest : (bytes : Bytes) (f : ℕ × ℕ) → punctuator bytes ≡ Some f
    → IsLongest IsPunctuator (take f.1 bytes) (drop f.1 bytes) × (punctuator_place (take f.1 bytes) ≡ Some f.0) × (f.1 ≤ length bytes)
unfolding punctuator
mark_longest bytes f e =
    elim (or_else-some _ _ f e) [
      | inl three ↦ longest_of 3 bytes f three (λ m h i. absurd (omega arith))
      | inr w ↦ elim (or_else-some _ _ f w.1) [
        | inl two ↦ longest_of 2 bytes f two (λ m h i. let is : m ≡ 3 = omega arith in rw is w.0)
        | inr v ↦ longest_of 1 bytes f v.1 (λ m h i. elim (cases_order m 3) [
          | inl is ↦ rw is w.0
          | inr o ↦ let is : m ≡ 2 = elim o [ inl l ↦ omega arith | inr g ↦ absurd (omega arith) ] in rw is v.0
        ])
      ]
    ]

pub mark_none : (bytes : Bytes) → punctuator bytes ≡ None → NoFront IsPunctuator bytes
unfolding punctuator
mark_none bytes e = λ word rest i s.
    let outer = or_else-none (punctuator_of_length 3 bytes) (or_else (punctuator_of_length 2 bytes) (punctuator_of_length 1 bytes)) e in
    let both = or_else-none (punctuator_of_length 2 bytes) (punctuator_of_length 1 bytes) outer.1 in
    let found = some_is (punctuator_place word) s in
    let again : punctuator_of_length (length word) bytes ≡ Some (found.0, length word) = ap (punctuator_of_length (length word)) i ∙ of_length_front word rest found.0 found.1 in
    let mark = mark_is word s in
    elim (cases_order (length word) 2) [
      | inl is ↦ clash (ap (λ n. punctuator_of_length n bytes) is ∙ both.0) again
      | inr o ↦ elim o [
        | inl less ↦ let is : length word ≡ 1 = omega (arith, mark.some) in clash (ap (λ n. punctuator_of_length n bytes) is ∙ both.1) again
        | inr more ↦ let is : length word ≡ 3 = omega (arith, mark.short) in clash (ap (λ n. punctuator_of_length n bytes) is ∙ outer.0) again
      ]
    ]

-- ---- punctuators of one byte

-- a word of one byte, or one whose second byte goes on with a punctuator
is_short_or_seconded : Bytes → Bool
is_short_or_seconded word = leb (length word) 1 || is_second (get_or word 1 0)

all_seconded : list_all (λ entry. is_short_or_seconded entry.now) PUNCTUATORS ≡ true
unfolding is_short_or_seconded
all_seconded = refl

place_is_seconded : (word : Bytes) (i : ℕ) → punctuator_place word ≡ Some i → is_short_or_seconded word ≡ true
unfolding punctuator_place
place_is_seconded word i e =
    let found = at_place (λ entry. bytes_eq entry.now word) (λ entry. is_short_or_seconded entry.now) PUNCTUATORS (place_fits (λ entry. bytes_eq entry.now word) PUNCTUATORS i e) all_seconded in
    ap is_short_or_seconded (sym ((bytes_eq-Decides found.0.now word).0 found.1)) ∙ found.2

second_of_front : (n : ℕ) (bytes : Bytes) → get_or (take (suc (suc n)) bytes) 1 0 ≡ get_or bytes 1 0
second_of_front n [] = refl
second_of_front n (a ∷ []) = refl
second_of_front n (a ∷ b ∷ bytes) = refl

none_longer : (n : ℕ) (bytes : Bytes) (o : Option (ℕ × ℕ)) → is_second (get_or bytes 1 0) ≡ false → punctuator_of_length (suc (suc n)) bytes ≡ o → o ≡ None
unfolding is_short_or_seconded
none_longer n bytes None s e = refl
none_longer n bytes (Some f) s e =
    let is = of_length_is (suc (suc n)) bytes f e in
    let long : length (take (suc (suc n)) bytes) ≡ suc (suc n) = length-take-le (suc (suc n)) bytes is.2 in
    elim (or_cases (leb (length (take (suc (suc n)) bytes)) 1) (is_second (get_or (take (suc (suc n)) bytes) 1 0)) (place_is_seconded (take (suc (suc n)) bytes) f.0 is.0)) [
      | inl short ↦ absurd (let l = leb-true (length (take (suc (suc n)) bytes)) 1 short in omega arith)
      | inr second ↦ absurd (let t : true ≡ false = sym second ∙ ap is_second (second_of_front n bytes) ∙ s in cc)
    ]

-- where the second byte is that of no punctuator, one at the front has one byte
pub alone : (bytes : Bytes) → is_second (get_or bytes 1 0) ≡ false → punctuator bytes ≡ punctuator_of_length 1 bytes
unfolding punctuator
alone bytes s = rw (none_longer 1 bytes (punctuator_of_length 3 bytes) s refl, none_longer 0 bytes (punctuator_of_length 2 bytes) s refl) refl
