-- Tokens and line comments hold no line feed.
use Rattle.std.proofs.Common.{◌≡◌, ℕ, ◌+◌, ◌<◌, Bool, true, false, not, ◌&&◌, cond, eqb, [], ◌∷◌, ◌++◌, length, take, drop, Ok, Some, refl, ap, sym, ◌∙◌, inl, inr, arith}
use Rattle.std.specs.List.{list_all}
use Rattle.std.specs.Char.{is_ascii_digit}
use Rattle.std.specs.Str.{bytes_eq}
use Rattle.std.proofs.lemmas.Bool.{and_parts, eqb-true, not-true}
use Rattle.std.proofs.lemmas.Bool.Decides.{nat_tests}
use Rattle.std.proofs.lemmas.List.Sums.{sum_by-append}
use Rattle.std.proofs.lemmas.Slice.Eq.{bytes_eq-Decides}
use Rattle.c_lexer.specs.declared.token.TokenKind.{TokenKind}
use Rattle.c_lexer.specs.declared.token.TokenKind.TheVariants.{Keyword, Name, Number, Character, Text, Punct}
use Rattle.c_lexer.specs.declared.token.TheConstants.{PUNCTUATORS}
use Rattle.c_lexer.specs.declared.piece.Piece.{Piece}
use Rattle.c_lexer.specs.declared.piece.Piece.TheVariants.{Blank, LineComment, BlockComment, Include, Lexeme}
use Rattle.c_lexer.specs.Tokens.{Bytes, IsName, IsNumber, IsQuoted, IsLineComment, IsToken, IsPiece, begins_name, continues_name, continues_number, goes_on, is_line_feed, is_body, is_plain, line_feeds, punctuator_place}
use Rattle.c_lexer.specs.Scan.{front, feeds_of}
use Rattle.c_lexer.proofs.Choices.{chosen}
use Rattle.c_lexer.proofs.Marks.{at_place, place_fits}
use Rattle.c_lexer.proofs.Quotes.{plain_parts}
use Rattle.c_lexer.proofs.Sources.{found_piece}

all_none : (p : ℕ → Bool) (bytes : Bytes) → ((b : ℕ) → p b ≡ true → is_line_feed b ≡ false) → list_all p bytes ≡ true → line_feeds bytes ≡ 0
all_none p [] h e = refl
all_none p (b ∷ bytes) h e =
    let parts = and_parts (p b) (list_all p bytes) e in
    rw (h b parts.0) (all_none p bytes h parts.1)

feeds_behind : (bytes more : Bytes) → line_feeds bytes ≡ 0 → line_feeds (bytes ++ more) ≡ line_feeds more
feeds_behind bytes more e =
    let both : line_feeds (bytes ++ more) ≡ line_feeds bytes + line_feeds more = sum_by-append (λ b. cond (is_line_feed b) 1 0) bytes more in
    omega arith

begins_none : (b : ℕ) → begins_name b ≡ true → is_line_feed b ≡ false
begins_none b e = grind (arith, nat_tests)

continues_none : (b : ℕ) → continues_name b ≡ true → is_line_feed b ≡ false
continues_none b e = grind (arith, nat_tests)

digit_none : (b : ℕ) → is_ascii_digit b ≡ true → is_line_feed b ≡ false
digit_none b e = grind (arith, nat_tests)

number_none : (last b : ℕ) → continues_number last b ≡ true → is_line_feed b ≡ false
number_none last b e = grind (arith, nat_tests)

goes_none : (last : ℕ) (bytes : Bytes) → goes_on last bytes ≡ true → line_feeds bytes ≡ 0
goes_none last [] e = refl
goes_none last (b ∷ bytes) e =
    let parts = and_parts (continues_number last b) (goes_on b bytes) e in
    rw (number_none last b parts.0) (goes_none b bytes parts.1)

body_none : (quote : ℕ) (body : Bytes) → is_body quote body ≡ true → line_feeds body ≡ 0
body_none quote [] e = refl
body_none quote (b ∷ []) e = rw (plain_parts quote b e).2 refl
body_none quote (b ∷ c ∷ body) e =
    elim (chosen (eqb b 92) (not (is_line_feed c) && is_body quote body) (is_plain quote b && is_body quote (c ∷ body)) true e) as (λ _. line_feeds (b ∷ c ∷ body) ≡ 0) [
      | inl w ↦
          let parts = and_parts (not (is_line_feed c)) (is_body quote body) w.1 in
          rw (eqb-true b 92 w.0, not-true _ parts.0) (body_none quote body parts.1)
      | inr w ↦
          let parts = and_parts (is_plain quote b) (is_body quote (c ∷ body)) w.1 in
          rw (plain_parts quote b parts.0).2 (body_none quote (c ∷ body) parts.1)
    ]

name_none : (word : Bytes) → IsName word → line_feeds word ≡ 0
name_none [] h = absurd h
name_none (b ∷ bytes) h = rw (begins_none b h.0) (all_none continues_name bytes continues_none h.1)

constant_none : (word : Bytes) → IsNumber word → line_feeds word ≡ 0
constant_none [] h = absurd h
constant_none (b ∷ bytes) h = rw (digit_none b h.0) (goes_none b bytes h.1)

quoted_none : (quote : ℕ) (word : Bytes) → is_line_feed quote ≡ false → IsQuoted quote word → line_feeds word ≡ 0
quoted_none quote word q h =
    let one : line_feeds (quote ∷ []) ≡ 0 = rw q refl in
    ap line_feeds h.2 ∙ feeds_behind (quote ∷ []) (h.0 ++ (quote ∷ [])) one ∙ feeds_behind h.0 (quote ∷ []) (body_none quote h.0 h.1) ∙ one

has_none : Bytes → Bool
has_none word = eqb (line_feeds word) 0

marks_none : list_all (λ entry. has_none entry.now) PUNCTUATORS ≡ true
unfolding has_none
marks_none = refl

mark_none : (word : Bytes) (i : ℕ) → punctuator_place word ≡ Some i → line_feeds word ≡ 0
unfolding punctuator_place has_none
mark_none word i e =
    let found = at_place (λ entry. bytes_eq entry.now word) (λ entry. has_none entry.now) PUNCTUATORS (place_fits (λ entry. bytes_eq entry.now word) PUNCTUATORS i e) marks_none in
    ap line_feeds (sym ((bytes_eq-Decides found.0.now word).0 found.1)) ∙ eqb-true (line_feeds found.0.now) 0 found.2

token_none : (kind : TokenKind) (word rest : Bytes) → IsToken kind word rest → line_feeds word ≡ 0
token_none (Keyword i) word rest h = name_none word h.0.0
token_none Name word rest h = name_none word h.0.0
token_none (Number ty value) word rest h = constant_none word h.0.0
token_none (Character value) word rest h = quoted_none 39 word refl h.0
token_none Text word rest h = quoted_none 34 word refl h.0
token_none (Punct i) word rest h = mark_none word i h.1

comment_none : (word : Bytes) → IsLineComment word → line_feeds word ≡ 0
comment_none word h = ap line_feeds h.1 ∙ all_none (λ b. not (is_line_feed b)) h.0 (λ b e. not-true _ e) h.2

piece_feeds : (first : Bool) (piece : Piece) (word rest : Bytes) → IsPiece first piece word rest → feeds_of piece word ≡ line_feeds word
piece_feeds first Blank word rest h = refl
piece_feeds first LineComment word rest h = sym (comment_none word h.0)
piece_feeds first BlockComment word rest h = refl
piece_feeds first Include word rest h = refl
piece_feeds first (Lexeme kind) word rest h = sym (token_none kind word rest h)

-- the line behind a piece that is found
pub line_now : (first : Bool) (at line : ℕ) (bytes word : Bytes) (piece : Piece) (n then_line : ℕ) → 0 < length bytes → front first at bytes ≡ Ok (piece, n) → word ≡ take n bytes
    → then_line ≡ line + feeds_of piece word → then_line ≡ line + line_feeds word
line_now first at line bytes word piece n then_line some found front_is e =
    e ∙ ap (λ k. line + k) (ap (feeds_of piece) front_is ∙ piece_feeds first piece (take n bytes) (drop n bytes) (found_piece first at bytes piece n some found) ∙ ap line_feeds (sym front_is))
