-- What each function of the code finds at the front of the bytes, list to list. No public clause rests on these
-- functions: the laws in proofs/ tie them to the sets of `Tokens`, in both directions.
use Rattle.std.specs.Prelude.{ℕ, suc, zero, ◌+◌, ◌-◌, Bool, true, false, not, ◌&&◌, ◌||◌, if◌then◌else◌, ◌==◌, nat_lt, nat_le, List, [], ◌∷◌, length, take, drop, slice_index, Option, Some, None, option_map, option_and_then, unwrap_or, ok_or, Result, Ok, Err, codes}
use Rattle.std.specs.Char.{is_ascii_digit}
use Rattle.std.specs.List.{prefix_len}
use Rattle.c_lexer.specs.declared.token.Token.{Token}
use Rattle.c_lexer.specs.declared.token.TokenKind.{TokenKind}
use Rattle.c_lexer.specs.declared.token.TokenKind.TheVariants.{Keyword, Name, Number, Character, Text, Punct}
use Rattle.c_lexer.specs.declared.token.LexRefusal.{LexRefusal}
use Rattle.c_lexer.specs.declared.token.LexRefusal.TheVariants.{BadByte, OpenComment, OpenText, BadText, BadNumber, LiteralTooWide, Directive}
use Rattle.c_lexer.specs.declared.piece.Piece.{Piece}
use Rattle.c_lexer.specs.declared.piece.Piece.TheVariants.{Blank, LineComment, BlockComment, Include, Lexeme}
use Rattle.c_lexer.specs.Tokens.{Bytes, begins_with, is_blank, is_line_feed, is_blank_in_line, begins_name, continues_name, keyword_place, punctuator_place, continues_number, is_constant, constant_type, constant_value, is_quote, decoded, one_byte, character_value, line_feeds}

-- a piece, and how many bytes it has
abbrev pub Found : Type 0
Found = Result (Piece × ℕ) LexRefusal

-- ---- blanks and comments

-- the place behind the first `*/`, counted from a place
abbrev pub comment_end : ℕ → Bytes → Option ℕ
comment_end at [] = None
comment_end at (b ∷ bytes) = if b == 42 && slice_index bytes 0 == 47 then Some (at + 2) else comment_end (at + 1) bytes

-- the length of a line without its line feed
abbrev pub line_len : Bytes → ℕ
line_len bytes = prefix_len (λ b. not (is_line_feed b)) bytes

-- the block comment that these bytes begin
unfoldable pub block_comment : ℕ → Bytes → Found
block_comment at bytes = ok_or (option_map (λ end. (BlockComment, end)) (comment_end 2 (drop 2 bytes))) (OpenComment at)

-- ---- the two lines of the preprocessor

-- the length of the blank or block comment at the front, or 0
unfoldable pub gap_part : Bytes → ℕ
gap_part bytes =
    if is_blank_in_line (slice_index bytes 0) then 1
    else (if begins_with (codes "/*") bytes then unwrap_or (comment_end 2 (drop 2 bytes)) 0 else 0)

-- what follows the gap at the front; the number counts the bytes that are left of a part
abbrev pub past_gap_from : ℕ → Bytes → Bytes
past_gap_from left [] = []
past_gap_from (suc left) (b ∷ bytes) = past_gap_from left bytes
past_gap_from zero (b ∷ bytes) = if nat_lt 0 (gap_part (b ∷ bytes)) then past_gap_from (gap_part (b ∷ bytes) - 1) bytes else b ∷ bytes

unfoldable pub past_gap : Bytes → Bytes
past_gap bytes = past_gap_from 0 bytes

-- what follows a text at the front
abbrev pub past_text : Bytes → Bytes → Option Bytes
past_text text bytes = if begins_with text bytes then Some (drop (length text) bytes) else None

unfoldable pub past_header : Bytes → Option Bytes
past_header bytes = if begins_with (codes "<stdio.h>") bytes then Some (drop 9 bytes) else past_text (codes "<stdlib.h>") bytes

unfoldable pub past_comment : Bytes → Bytes
past_comment bytes = if begins_with (codes "//") bytes then drop (line_len bytes) bytes else bytes

abbrev pub ends_line : Bytes → Bool
ends_line [] = true
ends_line (b ∷ bytes) = is_line_feed b

abbrev pub at_line_end : Bytes → Option Bytes
at_line_end rest = if ends_line rest then Some rest else None

-- what follows an `#include` line whose `#` the bytes follow
unfoldable pub past_include : Bytes → Option Bytes
past_include bytes =
    option_and_then (λ word. option_and_then (λ header. at_line_end (past_comment (past_gap header))) (past_header (past_gap word))) (past_text (codes "include") (past_gap bytes))

-- the `#include` line that these bytes begin with their `#`
unfoldable pub directive : ℕ → Bytes → Found
directive at bytes = ok_or (option_map (λ rest. (Include, length bytes - length rest)) (past_include (drop 1 bytes))) (Directive at)

-- ---- tokens

-- a keyword begins with this byte and has this length
abbrev pub is_shaped : ℕ → ℕ → Bool
is_shaped first len =
    if first == 97 || first == 103 || first == 108 then len == 4
    else (if first == 98 || first == 119 then len == 5
    else (if first == 99 then len == 4 || len == 5 || len == 8
    else (if first == 100 then len == 2 || len == 6 || len == 7
    else (if first == 101 then len == 4 || len == 6
    else (if first == 102 then len == 3 || len == 5
    else (if first == 105 then len == 2 || len == 3 || len == 6
    else (if first == 114 then len == 6 || len == 8
    else (if first == 115 then len == 5 || len == 6
    else (if first == 116 then len == 7
    else (if first == 117 then len == 5 || len == 8
    else (if first == 118 then len == 4 || len == 8
    else (if first == 95 then nat_le 5 len else false))))))))))))

abbrev pub name_kind : Option ℕ → TokenKind
name_kind None = Name
name_kind (Some place) = Keyword place

-- the name or keyword that these bytes begin
unfoldable pub name : Bytes → Found
name bytes = let len = prefix_len continues_name bytes in Ok (Lexeme (name_kind (keyword_place (take len bytes))), len)

-- how many bytes go on with a number whose last byte is this
abbrev pub number_len : ℕ → Bytes → ℕ
number_len last [] = 0
number_len last (b ∷ bytes) = if continues_number last b then suc (number_len b bytes) else 0

-- what a number is
unfoldable pub number_kind : ℕ → Bytes → Result TokenKind LexRefusal
number_kind at word = if is_constant word then ok_or (option_map (λ ty. Number ty (constant_value word)) (constant_type word)) (LiteralTooWide at) else Err (BadNumber at)

-- a token of a length, or the refusal
abbrev pub with_len : ℕ → Result TokenKind LexRefusal → Found
with_len len (Ok kind) = Ok (Lexeme kind, len)
with_len len (Err refusal) = Err refusal

-- the number that these bytes begin
unfoldable pub number : ℕ → Bytes → Found
number at bytes = let len = number_len (slice_index bytes 0) (drop 1 bytes) + 1 in with_len len (number_kind at (take len bytes))

-- the place of the closing quote, counted from a place, where a `\` may stand before the first byte
abbrev pub closing : ℕ → Bool → ℕ → Bytes → Option ℕ
closing quote is_escaped at [] = None
closing quote is_escaped at (b ∷ bytes) =
    if is_line_feed b then None
    else (if is_escaped then closing quote false (at + 1) bytes
    else (if b == quote then Some at else closing quote (b == 92) (at + 1) bytes))

-- what a body is between these quotes
unfoldable pub quoted_kind : ℕ → ℕ → Bytes → Result TokenKind LexRefusal
quoted_kind at quote body =
    if quote == 39 then ok_or (option_map (λ b. Character (character_value b)) (one_byte body)) (BadText at)
    else ok_or (option_map (λ bytes. Text) (decoded body)) (BadText at)

abbrev pub closed : ℕ → ℕ → Bytes → Option ℕ → Found
closed at quote bytes None = Err (OpenText at)
closed at quote bytes (Some len) = with_len (len + 2) (quoted_kind at quote (take len bytes))

-- the quoted token that these bytes begin
unfoldable pub quoted : ℕ → Bytes → Found
quoted at bytes = closed at (slice_index bytes 0) (drop 1 bytes) (closing (slice_index bytes 0) false 0 (drop 1 bytes))

-- the punctuator of a length at the front
unfoldable pub punctuator_of_length : ℕ → Bytes → Option (ℕ × ℕ)
punctuator_of_length len bytes = if nat_le len (length bytes) then option_map (λ place. (place, len)) (punctuator_place (take len bytes)) else None

-- the second bytes of punctuators
abbrev pub is_second : ℕ → Bool
is_second b = b == 61 || b == 62 || b == 60 || b == 43 || b == 45 || b == 38 || b == 124 || b == 46

abbrev pub or_else : Option (ℕ × ℕ) → Option (ℕ × ℕ) → Option (ℕ × ℕ)
or_else None other = other
or_else (Some found) other = Some found

-- the longest punctuator at the front, of which none is longer than three bytes
unfoldable pub punctuator : Bytes → Option (ℕ × ℕ)
punctuator bytes = or_else (punctuator_of_length 3 bytes) (or_else (punctuator_of_length 2 bytes) (punctuator_of_length 1 bytes))

unfoldable pub mark : ℕ → Bytes → Found
mark at bytes = ok_or (option_map (λ found. (Lexeme (Punct found.0), found.1)) (punctuator bytes)) (BadByte at)

-- ---- the piece at the front

unfoldable pub front : Bool → ℕ → Bytes → Found
front first at bytes =
    let b = slice_index bytes 0 in
    if is_blank b then Ok (Blank, 1)
    else (if begins_name b then name bytes
    else (if is_ascii_digit b then number at bytes
    else (if is_quote b then quoted at bytes
    else (if begins_with (codes "//") bytes then Ok (LineComment, line_len bytes)
    else (if begins_with (codes "/*") bytes then block_comment at bytes
    else (if first && b == 35 then directive at bytes else mark at bytes))))))

-- the line feeds of a piece, of which a line comment and a token have none
abbrev pub feeds_of : Piece → Bytes → ℕ
feeds_of Blank word = line_feeds word
feeds_of LineComment word = 0
feeds_of BlockComment word = line_feeds word
feeds_of Include word = line_feeds word
feeds_of (Lexeme kind) word = 0

-- the token that a piece is, if it is one
abbrev pub token_at : Piece → ℕ → ℕ → ℕ → List Token
token_at Blank start line end = []
token_at LineComment start line end = []
token_at BlockComment start line end = []
token_at Include start line end = []
token_at (Lexeme kind) start line end = record { kind = kind; start = start; end = end; line = line } ∷ []
