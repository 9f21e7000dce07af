-- The bytes that a body means, one after the other.
use Rattle.std.proofs.Common.{◌≡◌, ℕ, zero, suc, ◌≤◌, ◌<◌, true, false, eqb, nat_lt, get_or, [], ◌∷◌, ◌++◌, length, drop, Option, Some, None, option_map, option_and_then, is_some, refl, ap, sym, ◌∙◌, inl, inr, arith, length-drop, append_assoc, append-nil}
use Rattle.std.proofs.lemmas.List.{drop_all, nil_from_length}
use Rattle.c_lexer.specs.Tokens.{Bytes, escape, escape_byte, byte_of, octal_len, hexadecimal_len, first_byte, decoded_within, decoded, sole, one_byte, Means}
use Rattle.c_lexer.proofs.Choices.{chosen, bind_same, map_some}

byte_of-len : (value len : ℕ) (f : ℕ × ℕ) → byte_of value len ≡ Some f → f.1 ≡ len
byte_of-len value len f e =
    elim (chosen (nat_lt value 256) (Some (value, len)) None (Some f) e) as (λ _. f.1 ≡ len) [ inl w ↦ cc | inr w ↦ absurd (cc) ]

escape_moves : (bytes : Bytes) (f : ℕ × ℕ) → escape bytes ≡ Some f → 1 ≤ f.1
unfolding escape
escape_moves bytes f e =
    elim (chosen (nat_lt 0 (octal_len bytes)) _ _ _ e) as (λ _. 1 ≤ f.1) [
      | inl w ↦ omega (arith, byte_of-len _ _ f w.1)
      | inr w ↦ elim (chosen (nat_lt 0 (hexadecimal_len bytes)) _ _ _ w.1) as (λ _. 1 ≤ f.1) [
        | inl v ↦ omega (arith, byte_of-len _ _ f v.1)
        | inr v ↦ let m = map_some (λ b. (b, 2)) (escape_byte (get_or bytes 0 0)) f v.1 in omega (arith, ap (λ p. p.1) m.2)
      ]
    ]

pub first_byte_moves : (body : Bytes) (f : ℕ × ℕ) → first_byte body ≡ Some f → 1 ≤ f.1
first_byte_moves [] f e = absurd (cc)
first_byte_moves (b ∷ bytes) f e =
    elim (chosen (eqb b 92) _ _ _ e) as (λ _. 1 ≤ f.1)
    [ inl w ↦ escape_moves bytes f w.1 | inr w ↦ let same : f.1 ≡ 1 = cc in omega arith ]

-- what is left after the first byte is shorter
shorter : (n k : ℕ) (bytes : Bytes) → 1 ≤ k → length bytes ≤ suc n → length (drop k bytes) ≤ n
shorter n k bytes h fits = omega (arith, length-drop k bytes)

-- a bound that is large enough does not matter
within_same : (n m : ℕ) (body : Bytes) → length body ≤ n → length body ≤ m → decoded_within n body ≡ decoded_within m body
within_same n m [] h i = refl
within_same zero m (b ∷ bytes) h i = absurd (omega arith)
within_same (suc n) zero (b ∷ bytes) h i = absurd (omega arith)
within_same (suc n) (suc m) (b ∷ bytes) h i =
    bind_same (first_byte (b ∷ bytes)) _ _
    (λ f e. ap (λ o. option_map (λ others. f.0 ∷ others) o)
    (within_same n m (drop f.1 (b ∷ bytes)) (shorter n f.1 (b ∷ bytes) (first_byte_moves (b ∷ bytes) f e) h) (shorter m f.1 (b ∷ bytes) (first_byte_moves (b ∷ bytes) f e) i)))

pub decoded-nil : decoded [] ≡ Some []
unfolding decoded
decoded-nil = refl

-- a body whose first byte is no byte means nothing
pub decoded_stops : (body : Bytes) → 0 < length body → first_byte body ≡ None → decoded body ≡ None
unfolding decoded
decoded_stops [] h e = absurd (omega arith)
decoded_stops (b ∷ bytes) h e = ap (option_and_then _) e

-- what a body means begins with its first byte
pub decoded_goes : (body : Bytes) (f : ℕ × ℕ) → first_byte body ≡ Some f → decoded body ≡ option_map (λ others. f.0 ∷ others) (decoded (drop f.1 body))
unfolding decoded
decoded_goes [] f e = absurd (cc)
decoded_goes (b ∷ bytes) f e =
    ap (option_and_then _) e
    ∙ ap (option_map (λ others. f.0 ∷ others)) (within_same (length bytes) (length (drop f.1 (b ∷ bytes))) (drop f.1 (b ∷ bytes)) (shorter (length bytes) f.1 (b ∷ bytes) (first_byte_moves (b ∷ bytes) f e) (omega arith)) (omega arith))

-- no byte more than a value, and none where there is a second
sole_after : (value : ℕ) (o : Option Bytes) → ((others : Bytes) → o ≡ Some others → 0 < length others) → option_and_then sole (option_map (λ others. value ∷ others) o) ≡ None
sole_after value None h = refl
sole_after value (Some []) h = absurd (omega (arith, h [] refl))
sole_after value (Some (b ∷ others)) h = refl

decoded_more : (body : Bytes) → 0 < length body → (bytes : Bytes) → decoded body ≡ Some bytes → 0 < length bytes
decoded_more body h bytes e = by_first (first_byte body) refl
  where
    by_first : (o : Option (ℕ × ℕ)) → first_byte body ≡ o → 0 < length bytes
    by_first None f = absurd (let s = decoded_stops body h f in cc)
    by_first (Some first) f =
        let m = map_some (λ others. first.0 ∷ others) (decoded (drop first.1 body)) bytes (sym (decoded_goes body first f) ∙ e) in
        omega (arith, ap length m.2)

pub one_byte_none : (body : Bytes) → first_byte body ≡ None → one_byte body ≡ None
unfolding one_byte decoded
one_byte_none [] e = refl
one_byte_none (b ∷ bytes) e = ap (option_and_then sole) (decoded_stops (b ∷ bytes) (omega arith) e)

pub one_byte_all : (body : Bytes) (f : ℕ × ℕ) → first_byte body ≡ Some f → f.1 ≡ length body → one_byte body ≡ Some f.0
unfolding one_byte
one_byte_all body f e whole =
    ap (option_and_then sole) (decoded_goes body f e ∙ ap (λ rest. option_map (λ others. f.0 ∷ others) (decoded rest)) (drop_all f.1 body (omega arith)) ∙ ap (option_map (λ others. f.0 ∷ others)) decoded-nil)

pub one_byte_more : (body : Bytes) (f : ℕ × ℕ) → first_byte body ≡ Some f → f.1 < length body → one_byte body ≡ None
unfolding one_byte
one_byte_more body f e more =
    ap (option_and_then sole) (decoded_goes body f e)
    ∙ sole_after f.0 (decoded (drop f.1 body)) (decoded_more (drop f.1 body) (omega (arith, length-drop f.1 body)))

is_some_map : {A B : Type 0} (f : A → B) (o : Option A) → is_some (option_map f o) ≡ is_some o
is_some_map f None = refl
is_some_map f (Some x) = refl

pub is_some_goes : (body : Bytes) (f : ℕ × ℕ) → first_byte body ≡ Some f → is_some (decoded (drop f.1 body)) ≡ is_some (decoded body)
is_some_goes body f e = sym (is_some_map (λ others. f.0 ∷ others) (decoded (drop f.1 body))) ∙ ap is_some (sym (decoded_goes body f e))

pub is_some_end : (body : Bytes) → length body ≡ 0 → is_some (decoded body) ≡ true
is_some_end body e = rw (nil_from_length body e, decoded-nil) refl

pub is_some_stops : (body : Bytes) → 0 < length body → first_byte body ≡ None → is_some (decoded body) ≡ false
is_some_stops body h e = ap is_some (decoded_stops body h e)

map_append : (kept : Bytes) (value : ℕ) (o : Option Bytes) → option_map (λ others. (kept ++ (value ∷ [])) ++ others) o ≡ option_map (λ others. kept ++ others) (option_map (λ others. value ∷ others) o)
map_append kept value None = refl
map_append kept value (Some others) = ap Some (append_assoc kept (value ∷ []) others)

map_nil : (o : Option Bytes) → option_map (λ others. [] ++ others) o ≡ o
map_nil None = refl
map_nil (Some others) = refl

-- what is decoded so far goes on with what the rest means
pub decoded_from : (body : Bytes) → option_map (λ others. [] ++ others) (decoded body) ≡ decoded body
decoded_from body = map_nil (decoded body)

pub decoded_past : (kept body : Bytes) (f : ℕ × ℕ) → first_byte body ≡ Some f → option_map (λ others. (kept ++ (f.0 ∷ [])) ++ others) (decoded (drop f.1 body)) ≡ option_map (λ others. kept ++ others) (decoded body)
decoded_past kept body f e = map_append kept f.0 (decoded (drop f.1 body)) ∙ ap (option_map (λ others. kept ++ others)) (sym (decoded_goes body f e))

pub decoded_end : (kept body : Bytes) → length body ≡ 0 → option_map (λ others. kept ++ others) (decoded body) ≡ Some kept
decoded_end kept body e = rw (nil_from_length body e, decoded-nil) (ap Some (append-nil kept))

pub decoded_fails : (kept body : Bytes) → 0 < length body → first_byte body ≡ None → option_map (λ others. kept ++ others) (decoded body) ≡ None
decoded_fails kept body h e = ap (option_map (λ others. kept ++ others)) (decoded_stops body h e)

-- ---- the function gives what a body means

no_first : (body : Bytes) {b : ℕ} {bytes : Bytes} → first_byte body ≡ None → decoded body ≡ Some (b ∷ bytes) → ⊥
no_first [] f e = absurd (let s = decoded-nil in cc)
no_first (c ∷ body) f e = absurd (let s = decoded_stops (c ∷ body) (omega arith) f in cc)

heads_same : (a b : ℕ) (s t : Bytes) → a ∷ s ≡ b ∷ t → (a ≡ b) × (s ≡ t)
heads_same a b s t e = (cc, cc)

pub decoded_means : (bytes body : Bytes) → decoded body ≡ Some bytes → Means body bytes
decoded_means [] [] e = refl
decoded_means [] (b ∷ body) e = absurd (omega (arith, decoded_more (b ∷ body) (omega arith) [] e))
decoded_means (b ∷ bytes) body e = by_first (first_byte body) refl (λ k i. decoded_means bytes (drop k body) i)
  where
    by_first : (o : Option (ℕ × ℕ)) → first_byte body ≡ o → ((k : ℕ) → decoded (drop k body) ≡ Some bytes → Means (drop k body) bytes) → Means body (b ∷ bytes)
    by_first None f later = absurd (no_first body f e)
    by_first (Some first) f later =
        let m = map_some (λ others. first.0 ∷ others) (decoded (drop first.1 body)) (b ∷ bytes) (sym (decoded_goes body first f) ∙ e) in
        let same = heads_same first.0 b m.0 bytes m.2 in
        (first.1, f ∙ ap (λ v. Some (v, first.1)) same.0, later first.1 (m.1 ∙ ap Some same.1))

pub means_decoded : (bytes body : Bytes) → Means body bytes → decoded body ≡ Some bytes
means_decoded [] body m = ap decoded m ∙ decoded-nil
means_decoded (b ∷ bytes) body m = decoded_goes body (b, m.0) m.1 ∙ ap (option_map (λ others. b ∷ others)) (means_decoded bytes (drop m.0 body) m.2)
