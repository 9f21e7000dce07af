-- How the kinds of tokens that have one spelling are spelled (C11 6.4.1, 6.4.6).
use Rattle.std.specs.Prelude.{◌≡◌, ℕ, ◌-◌, nat_le, if◌then◌else◌, ◌==◌, List, map, slice_get, Option, Some, None, option_map}
use Rattle.std.specs.List.{slice_split}
use Rattle.c_lexer.specs.declared.token.TheConstants.{KEYWORDS, PUNCTUATORS}
use Rattle.c_expr.specs.Codes.{keyword, punct}

-- the spelling of a keyword or a punctuator
abbrev pub spelled : ℕ → Option (List ℕ)
spelled k =
    if nat_le (punct 0) k then option_map (λ entry. entry.now) (slice_get PUNCTUATORS (k - punct 0))
    else (if nat_le (keyword 0) k then option_map (λ entry. entry.now) (slice_get KEYWORDS (k - keyword 0)) else None)

-- these kinds are spelled as the words of a text, which spaces part
abbrev pub AreSpelled : List ℕ → List ℕ → Type 0
AreSpelled ks text = map spelled ks ≡ map Some (slice_split (λ b. b == 32) text)
