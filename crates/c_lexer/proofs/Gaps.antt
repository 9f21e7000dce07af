-- What follows a gap.
use Rattle.std.proofs.Common.{◌≡◌, ℕ, zero, suc, ◌-◌, ◌<◌, cond, nat_lt, [], ◌∷◌, drop, refl, ap, arith}
use Rattle.std.proofs.lemmas.Bool.{lt-ltb}
use Rattle.c_lexer.specs.Tokens.{Bytes}
use Rattle.c_lexer.specs.Scan.{gap_part, past_gap_from, past_gap}

past_gap_from-drop : (n : ℕ) (bytes : Bytes) → past_gap_from n bytes ≡ past_gap_from 0 (drop n bytes)
past_gap_from-drop zero bytes = refl
past_gap_from-drop (suc n) [] = refl
past_gap_from-drop (suc n) (b ∷ bytes) = past_gap_from-drop n bytes

pub drop-cons : (n b : ℕ) (bytes : Bytes) → 0 < n → drop (n - 1) bytes ≡ drop n (b ∷ bytes)
drop-cons zero b bytes h = absurd (omega arith)
drop-cons (suc n) b bytes h = let e : suc n - 1 ≡ n = omega arith in ap (λ k. drop k bytes) e

pub gap_part-nil : gap_part [] ≡ 0
unfolding gap_part
gap_part-nil = refl

pub past_gap_stops : (bytes : Bytes) → gap_part bytes ≡ 0 → past_gap bytes ≡ bytes
unfolding past_gap
past_gap_stops [] h = refl
past_gap_stops (b ∷ bytes) h = ap (λ n. cond (nat_lt 0 n) (past_gap_from (n - 1) bytes) (b ∷ bytes)) h

pub past_gap_goes : (bytes : Bytes) → 0 < gap_part bytes → past_gap (drop (gap_part bytes) bytes) ≡ past_gap bytes
unfolding past_gap
past_gap_goes [] h = absurd (omega (arith, gap_part-nil))
past_gap_goes (b ∷ bytes) h = rw (lt-ltb 0 (gap_part (b ∷ bytes)) h, past_gap_from-drop (gap_part (b ∷ bytes) - 1) bytes, drop-cons (gap_part (b ∷ bytes)) b bytes h) refl
