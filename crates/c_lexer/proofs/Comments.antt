-- Where a block comment ends.
use Rattle.std.proofs.Common.{◌≡◌, ℕ, suc, ◌+◌, ◌≤◌, Bool, true, false, ◌&&◌, cond, eqb, get_or, [], ◌∷◌, ◌++◌, length, take, drop, Option, Some, None, refl, ap, sym, ◌∙◌, subst, inl, inr, arith, length-append, length-drop, append_assoc}
use Rattle.std.proofs.lemmas.List.{take_at, take-append-le, take-append-drop}
use Rattle.std.proofs.lemmas.Bool.{and_parts, eqb-true, cases_order}
use Rattle.c_lexer.specs.Tokens.{Bytes, IsShortest, IsBlockComment, NoFront}
use Rattle.c_lexer.specs.Scan.{comment_end}
use Rattle.c_lexer.proofs.Choices.{chosen}

-- a found end is one
pub comment_end-is : (at n : ℕ) (bytes : Bytes) → comment_end at bytes ≡ Some n → (body rest : Bytes) × (bytes ≡ body ++ (42 ∷ 47 ∷ rest)) × (n ≡ at + length body + 2)
comment_end-is at n [] e = absurd (cc)
comment_end-is at n (b ∷ []) e =
    elim (chosen (eqb b 42 && false) (Some (at + 2)) None (Some n) e)
    [ inl w ↦ absurd (let t = (and_parts (eqb b 42) false w.0).1 in cc) | inr w ↦ absurd (let t = w.1 in cc) ]
comment_end-is at n (b ∷ c ∷ bytes) e =
    elim (chosen (eqb b 42 && eqb c 47) (Some (at + 2)) (comment_end (at + 1) (c ∷ bytes)) (Some n) e) [
      | inl w ↦
          let star = eqb-true b 42 (and_parts (eqb b 42) (eqb c 47) w.0).0 in
          let slash = eqb-true c 47 (and_parts (eqb b 42) (eqb c 47) w.0).1 in
          let same : at + 2 ≡ n = let t = w.1 in cc in
          ([], bytes, cc, omega arith)
      | inr w ↦
          let later = comment_end-is (at + 1) n (c ∷ bytes) w.1 in
          (b ∷ later.0, later.1, ap (λ t. b ∷ t) later.2, omega (arith, later.3))
    ]

early_or_later : (t : Bool) (at len : ℕ) (o : Option ℕ) → (n : ℕ) × (o ≡ Some n) × (n ≤ at + 1 + len + 2)
    → (n : ℕ) × (cond t (Some (at + 2)) o ≡ Some n) × (n ≤ at + suc len + 2)
early_or_later true at len o later = (at + 2, refl, omega arith)
early_or_later false at len o later = (later.0, later.1, omega (arith, later.2))

-- where there is an end, one is found, that one or an earlier one
pub comment_end-early : (at : ℕ) (body rest : Bytes) → (n : ℕ) × (comment_end at (body ++ (42 ∷ 47 ∷ rest)) ≡ Some n) × (n ≤ at + length body + 2)
comment_end-early at [] rest = (at + 2, refl, omega arith)
comment_end-early at (b ∷ body) rest =
    let later = comment_end-early (at + 1) body rest in
    early_or_later (eqb b 42 && eqb (get_or (body ++ (42 ∷ 47 ∷ rest)) 0 0) 47) at (length body) _ later

-- ---- against the set of block comments

-- a block comment at the front, by what follows its first two bytes
block_split : (word rest bytes : Bytes) → IsBlockComment word → (47 ∷ 42 ∷ bytes) ≡ word ++ rest → (body : Bytes) × (bytes ≡ body ++ (42 ∷ 47 ∷ rest)) × (length word ≡ length body + 4)
block_split word rest bytes w e =
    let body = w.0 in
    let whole : (47 ∷ 42 ∷ bytes) ≡ 47 ∷ 42 ∷ ((body ++ (42 ∷ 47 ∷ [])) ++ rest) = e ∙ ap (λ v. v ++ rest) w.1 in
    let behind : bytes ≡ (body ++ (42 ∷ 47 ∷ [])) ++ rest = cc in
    (body, behind ∙ append_assoc body (42 ∷ 47 ∷ []) rest, omega (arith, ap length w.1, length-append body (42 ∷ 47 ∷ [])))

-- what is found is the shortest block comment
pub comment_shortest : (n : ℕ) (bytes : Bytes) → comment_end 2 bytes ≡ Some n → IsShortest IsBlockComment (take n (47 ∷ 42 ∷ bytes))
comment_shortest n bytes e =
    let found = comment_end-is 2 n bytes e in
    let body = found.0 in
    let word : Bytes = 47 ∷ 42 ∷ (body ++ (42 ∷ 47 ∷ [])) in
    let len : length word ≡ n = omega (arith, length-append body (42 ∷ 47 ∷ []), found.3) in
    let whole : (47 ∷ 42 ∷ bytes) ≡ word ++ found.1 = ap (λ t. 47 ∷ 42 ∷ t) (found.2 ∙ sym (append_assoc body (42 ∷ 47 ∷ []) found.1)) in
    let is_word : take n (47 ∷ 42 ∷ bytes) ≡ word = ap (take n) whole ∙ take_at word found.1 n len in
    subst (IsShortest IsBlockComment) (sym is_word) (
      (body, refl),
      λ front more h i s.
          let split = block_split front (more ++ found.1) bytes s (whole ∙ ap (λ t. t ++ found.1) i ∙ append_assoc front more found.1) in
          let early = comment_end-early 2 split.0 (more ++ found.1) in
          let again : comment_end 2 bytes ≡ Some early.0 = ap (comment_end 2) split.1 ∙ early.1 in
          let same : n ≡ early.0 = cc in
          omega (arith, early.2, split.2, ap length i, length-append front more),
    )

pub comment_end-fits : (at n : ℕ) (bytes : Bytes) → comment_end at bytes ≡ Some n → n ≤ at + length bytes
comment_end-fits at n bytes e =
    let found = comment_end-is at n bytes e in
    omega (arith, ap length found.2, length-append found.0 (42 ∷ 47 ∷ found.1), found.3)

found_len : (word rest bytes : Bytes) (n : ℕ) → IsShortest IsBlockComment word → (47 ∷ 42 ∷ bytes) ≡ word ++ rest → n ≤ length word
    → IsBlockComment (take n (47 ∷ 42 ∷ bytes)) → n ≤ 2 + length bytes → n ≡ length word
found_len word rest bytes n w e le s fits =
    elim (cases_order n (length word)) as (λ _. n ≡ length word) [
      | inl same ↦ same
      | inr o ↦ elim o as (λ _. n ≡ length word) [
        | inl less ↦
            let front : take n (47 ∷ 42 ∷ bytes) ≡ take n word = ap (take n) e ∙ take-append-le n word rest le in
            let parts : word ≡ take n word ++ drop n word = sym (take-append-drop n word) in
            absurd (w.1 (take n word) (drop n word) (omega (arith, length-drop n word)) parts (subst IsBlockComment front s))
        | inr more ↦ absurd (omega arith)
      ]
    ]

-- the shortest block comment is found, whatever follows it
pub comment_found : (word rest bytes : Bytes) → IsShortest IsBlockComment word → (47 ∷ 42 ∷ bytes) ≡ word ++ rest → comment_end 2 bytes ≡ Some (length word)
comment_found word rest bytes w e =
    let split = block_split word rest bytes w.0 e in
    let early = comment_end-early 2 split.0 rest in
    let found : comment_end 2 bytes ≡ Some early.0 = ap (comment_end 2) split.1 ∙ early.1 in
    let shortest = comment_shortest early.0 bytes found in
    found ∙ ap Some (found_len word rest bytes early.0 w e (omega (arith, early.2, split.2)) shortest.0 (comment_end-fits 2 early.0 bytes found))

-- no end, no block comment
pub comment_none : (bytes : Bytes) → comment_end 2 bytes ≡ None → NoFront IsBlockComment (47 ∷ 42 ∷ bytes)
comment_none bytes e = λ word rest i w.
    let split = block_split word rest bytes w i in
    let early = comment_end-early 2 split.0 rest in
    absurd (let again = ap (comment_end 2) split.1 ∙ early.1 in cc)
