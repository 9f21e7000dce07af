-- Where a quoted token ends.
use Rattle.std.proofs.Common.{◌≡◌, ℕ, ◌+◌, Bool, true, false, not, ◌&&◌, ◌||◌, eqb, [], ◌∷◌, ◌++◌, length, Some, None, refl, ap, sym, ◌∙◌, subst, inl, inr, arith}
use Rattle.std.proofs.lemmas.Bool.{and_parts, and_from, eqb-true, not-true, or_parts, cond-false}
use Rattle.c_lexer.specs.Tokens.{Bytes, is_body, is_plain, is_line_feed}
use Rattle.c_lexer.specs.Scan.{closing}
use Rattle.c_lexer.proofs.Choices.{chosen}

-- the tests that a plain byte fails
pub plain_parts : (quote b : ℕ) → is_plain quote b ≡ true → (eqb b quote ≡ false) × (eqb b 92 ≡ false) × (is_line_feed b ≡ false)
plain_parts quote b e =
    let outer = or_parts (eqb b quote || eqb b 92) (is_line_feed b) (not-true _ e) in
    let both = or_parts (eqb b quote) (eqb b 92) outer.0 in
    (both.0, both.1, outer.1)

plain_from : (quote b : ℕ) → eqb b quote ≡ false → eqb b 92 ≡ false → is_line_feed b ≡ false → is_plain quote b ≡ true
plain_from quote b e f g = rw (e, f, g) refl

-- a body is read up to the quote behind it
pub closing_body : (quote at : ℕ) (body rest : Bytes) → eqb 92 quote ≡ false → is_line_feed quote ≡ false → eqb quote quote ≡ true → is_body quote body ≡ true
    → closing quote false at (body ++ (quote ∷ rest)) ≡ Some (at + length body)
closing_body quote at [] rest slash line same e = rw (line, same) (ap Some (omega arith))
closing_body quote at (b ∷ []) rest slash line same e =
    let p = plain_parts quote b e in
    rw (p.2, p.0, p.1, line, same) refl
closing_body quote at (b ∷ c ∷ body) rest slash line same e =
    elim (chosen (eqb b 92) (not (is_line_feed c) && is_body quote body) (is_plain quote b && is_body quote (c ∷ body)) true e) as (λ _. closing quote false at ((b ∷ c ∷ body) ++ (quote ∷ rest)) ≡ Some (at + length (b ∷ c ∷ body))) [
      | inl w ↦
          let parts = and_parts (not (is_line_feed c)) (is_body quote body) w.1 in
          let is_slash = eqb-true b 92 w.0 in
          rw (is_slash, slash, not-true _ parts.0) (closing_body quote (at + 1 + 1) body rest slash line same parts.1 ∙ ap Some (omega arith))
      | inr w ↦
          let parts = and_parts (is_plain quote b) (is_body quote (c ∷ body)) w.1 in
          let p = plain_parts quote b parts.0 in
          rw (p.2, p.0, p.1) (closing_body quote (at + 1) (c ∷ body) rest slash line same parts.1 ∙ ap Some (omega arith))
    ]

-- the bytes so far are a body, behind a `\` where one stands before them
abbrev pub body_behind : ℕ → Bool → Bytes → Bool
body_behind quote true body = is_body quote (92 ∷ body)
body_behind quote false body = is_body quote body

body_cons : (quote b : ℕ) (body : Bytes) → is_plain quote b ≡ true → is_body quote body ≡ true → is_body quote (b ∷ body) ≡ true
body_cons quote b [] p e = p
body_cons quote b (c ∷ body) p e = cond-false (eqb b 92) _ _ (plain_parts quote b p).1 ∙ and_from (is_plain quote b) (is_body quote (c ∷ body)) p e

-- one byte more that is no quote
by_slash : (quote at n b : ℕ) (bytes : Bytes) → is_line_feed b ≡ false → eqb b quote ≡ false → (t : Bool) → eqb b 92 ≡ t
    → (body rest : Bytes) × (body_behind quote t body ≡ true) × (bytes ≡ body ++ (quote ∷ rest)) × (n ≡ at + 1 + length body)
    → (body rest : Bytes) × (body_behind quote false body ≡ true) × ((b ∷ bytes) ≡ body ++ (quote ∷ rest)) × (n ≡ at + length body)
by_slash quote at n b bytes line other true e later =
    (b ∷ later.0, later.1, subst (λ x. is_body quote (x ∷ later.0) ≡ true) (sym (eqb-true b 92 e)) later.2, ap (λ t. b ∷ t) later.3, omega (arith, later.4))
by_slash quote at n b bytes line other false e later =
    (b ∷ later.0, later.1, body_cons quote b later.0 (plain_from quote b other e line) later.2, ap (λ t. b ∷ t) later.3, omega (arith, later.4))

-- what is read is a body, and the quote stands behind it
pub closing_is : (quote at n : ℕ) (is_escaped : Bool) (bytes : Bytes) → closing quote is_escaped at bytes ≡ Some n
    → (body rest : Bytes) × (body_behind quote is_escaped body ≡ true) × (bytes ≡ body ++ (quote ∷ rest)) × (n ≡ at + length body)
closing_is quote at n is_escaped [] e = absurd (cc)
closing_is quote at n true (b ∷ bytes) e =
    elim (chosen (is_line_feed b) None (closing quote false (at + 1) bytes) (Some n) e) [
      | inl w ↦ absurd (let t = w.1 in cc)
      | inr w ↦
          let later = closing_is quote (at + 1) n false bytes w.1 in
          (b ∷ later.0, later.1, rw w.0 later.2, ap (λ t. b ∷ t) later.3, omega (arith, later.4))
    ]
closing_is quote at n false (b ∷ bytes) e =
    elim (chosen (is_line_feed b) None _ (Some n) e) [
      | inl w ↦ absurd (let t = w.1 in cc)
      | inr w ↦
          elim (chosen (eqb b quote) (Some at) (closing quote (eqb b 92) (at + 1) bytes) (Some n) w.1) [
            | inl v ↦
                let same : at ≡ n = let t = v.1 in cc in
                ([], bytes, refl, ap (λ c. c ∷ bytes) (eqb-true b quote v.0), omega arith)
            | inr v ↦ by_slash quote at n b bytes w.0 v.0 (eqb b 92) refl (closing_is quote (at + 1) n (eqb b 92) bytes v.1)
          ]
    ]
