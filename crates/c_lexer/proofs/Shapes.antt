-- Each keyword has one of the shapes that are looked for.
use Rattle.std.proofs.Common.{◌≡◌, ℕ, Bool, true, false, get_or, length, Option, Some, None, refl, ap, sym, ◌∙◌}
use Rattle.std.specs.List.{list_all}
use Rattle.std.specs.Str.{bytes_eq}
use Rattle.std.proofs.lemmas.Slice.Eq.{bytes_eq-Decides}
use Rattle.std.proofs.lemmas.Bool.{false≢true}
use Rattle.c_lexer.specs.declared.token.TheConstants.{KEYWORDS}
use Rattle.c_lexer.specs.Tokens.{Bytes, keyword_place}
use Rattle.c_lexer.specs.Scan.{is_shaped}
use Rattle.c_lexer.proofs.Marks.{at_place, place_fits}

shape_of : Bytes → Bool
shape_of word = is_shaped (get_or word 0 0) (length word)

all_shaped : list_all (λ entry. shape_of entry.now) KEYWORDS ≡ true
unfolding shape_of
all_shaped = refl

place_is_shaped : (word : Bytes) (i : ℕ) → keyword_place word ≡ Some i → shape_of word ≡ true
unfolding keyword_place
place_is_shaped word i e =
    let found = at_place (λ entry. bytes_eq entry.now word) (λ entry. shape_of entry.now) KEYWORDS (place_fits (λ entry. bytes_eq entry.now word) KEYWORDS i e) all_shaped in
    ap shape_of (sym ((bytes_eq-Decides found.0.now word).0 found.1)) ∙ found.2

none_from : (word : Bytes) (o : Option ℕ) → keyword_place word ≡ o → shape_of word ≡ false → None ≡ o
none_from word None e s = refl
none_from word (Some i) e s = absurd (false≢true (sym s ∙ place_is_shaped word i e))

-- a word of another shape is no keyword
pub unshaped : (word : Bytes) → is_shaped (get_or word 0 0) (length word) ≡ false → None ≡ keyword_place word
unfolding shape_of
unshaped word s = none_from word (keyword_place word) refl s
