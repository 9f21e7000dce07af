-- Names, numbers and line comments: each is the longest of its kind.
use Rattle.std.proofs.Common.{◌≡◌, ℕ, suc, ◌+◌, ◌<◌, Bool, true, false, not, [], ◌∷◌, ◌++◌, length, take, drop, refl, ap, sym, ◌∙◌, arith}
use Rattle.std.specs.List.{prefix_len, list_all}
use Rattle.std.specs.Char.{is_ascii_digit}
use Rattle.std.proofs.lemmas.Bool.{cond_both, and_from, and_left, false≢true}
use Rattle.std.proofs.lemmas.Bool.Decides.{nat_tests}
use Rattle.c_lexer.specs.Tokens.{Bytes, IsLongest, IsName, IsNumber, IsLineComment, begins_name, continues_name, continues_number, goes_on, is_line_feed}
use Rattle.c_lexer.specs.Scan.{number_len, line_len}
use Rattle.c_lexer.proofs.Fronts.{one_plus, all_prefix, past_prefix, list_all-append}

pub name_continues : (b : ℕ) → begins_name b ≡ true → continues_name b ≡ true
name_continues b e = grind (arith, nat_tests)

-- the length of the name that these bytes begin
pub name_longest : (b : ℕ) (bytes : Bytes) → begins_name b ≡ true
    → IsLongest IsName (take (prefix_len continues_name (b ∷ bytes)) (b ∷ bytes)) (drop (prefix_len continues_name (b ∷ bytes)) (b ∷ bytes))
name_longest b bytes e =
    rw (name_continues b e, one_plus (prefix_len continues_name bytes)) (
      (e, all_prefix continues_name bytes),
      λ more tail h i s. absurd (false≢true (sym (past_prefix continues_name bytes more tail h i) ∙ list_all-append continues_name (take (prefix_len continues_name bytes) bytes) more s.1)),
    )

pub line_longest : (bytes : Bytes)
    → IsLongest IsLineComment (take (line_len (47 ∷ 47 ∷ bytes)) (47 ∷ 47 ∷ bytes)) (drop (line_len (47 ∷ 47 ∷ bytes)) (47 ∷ 47 ∷ bytes))
line_longest bytes =
    let p : ℕ → Bool = λ b. not (is_line_feed b) in
    rw (one_plus (1 + prefix_len p bytes), one_plus (prefix_len p bytes)) (
      (take (prefix_len p bytes) bytes, refl, all_prefix p bytes),
      λ more tail h i s.
          let same : take (prefix_len p bytes) bytes ++ more ≡ s.0 = let t = s.1 in cc in
          absurd (false≢true (sym (past_prefix p bytes more tail h i) ∙ list_all-append p (take (prefix_len p bytes) bytes) more (ap (list_all p) same ∙ s.2))),
    )

pub goes_on_all : (last : ℕ) (bytes : Bytes) → goes_on last (take (number_len last bytes) bytes) ≡ true
goes_on_all last [] = refl
goes_on_all last (b ∷ bytes) =
    cond_both (continues_number last b) (suc (number_len b bytes)) 0 (λ n. goes_on last (take n (b ∷ bytes)) ≡ true)
    (λ e. and_from (continues_number last b) _ e (goes_on_all b bytes))
    (λ e. refl)

pub goes_on_past : (last : ℕ) (bytes more tail : Bytes) → 0 < length more → drop (number_len last bytes) bytes ≡ more ++ tail
    → goes_on last (take (number_len last bytes) bytes ++ more) ≡ false
goes_on_past last bytes [] tail h e = absurd (omega arith)
goes_on_past last [] (c ∷ more) tail h e = absurd (cc)
goes_on_past last (b ∷ bytes) (c ∷ more) tail h e =
    cond_both (continues_number last b) (suc (number_len b bytes)) 0 (λ n. drop n (b ∷ bytes) ≡ (c ∷ more) ++ tail → goes_on last (take n (b ∷ bytes) ++ (c ∷ more)) ≡ false)
    (λ t i. rw t (goes_on_past b bytes (c ∷ more) tail h i))
    (λ t i. let same : b ≡ c = cc in and_left (continues_number last c) (goes_on c more) (ap (continues_number last) (sym same) ∙ t))
    e

-- the length of the number that these bytes begin
pub number_longest : (b : ℕ) (bytes : Bytes) → is_ascii_digit b ≡ true
    → IsLongest IsNumber (take (number_len b bytes + 1) (b ∷ bytes)) (drop (number_len b bytes + 1) (b ∷ bytes))
number_longest b bytes e =
    let one : number_len b bytes + 1 ≡ suc (number_len b bytes) = omega arith in
    rw one ((e, goes_on_all b bytes), λ more tail h i s. absurd (false≢true (sym (goes_on_past b bytes more tail h i) ∙ s.1)))
