-- What the tokens of a source are (C11 6.4, in the accepted subset), and why a source has none.
--
-- A source is cut into pieces from the left: blanks, comments, the two `#include` lines, and tokens. What is a
-- piece is said by sets of spellings; a piece is the longest front of the remaining bytes in its set, a comment
-- the shortest. A source with no such cut has exactly one fault, at its first place that has no piece.
use Rattle.std.specs.Prelude.{◌≡◌, ℕ, suc, zero, ◌+◌, ◌-◌, ◌*◌, ◌^◌, ◌<◌, ◌≤◌, ◌⊎◌, Bool, true, false, not, ◌&&◌, ◌||◌, if◌then◌else◌, ◌==◌, nat_eq, nat_lt, IsTrue, IsSome, List, [], ◌∷◌, ◌++◌, length, take, drop, fold, count_by, position, slice_index, Option, Some, None, option_map, option_and_then, codes, bytes_eq}
use Rattle.std.specs.Char.{is_ascii_alphabetic, is_ascii_alphanumeric, is_ascii_digit, is_digit, digit_value}
use Rattle.std.specs.Int.{is_in_range}
use Rattle.std.specs.List.{list_all, prefix_len, starts_with, concat, AllByRecursion}
use Rattle.srmt_base.specs.declared.ty.Ty.{Ty}
use Rattle.srmt_base.specs.declared.ty.Ty.TheVariants.{Int, UInt}
use Rattle.c_lexer.specs.declared.token.Token.{Token}
use Rattle.c_lexer.specs.declared.token.TokenKind.{TokenKind}
use Rattle.c_lexer.specs.declared.token.TokenKind.TheVariants.{Keyword, Name, Number, Character, Text, Punct}
use Rattle.c_lexer.specs.declared.token.LexRefusal.{LexRefusal}
use Rattle.c_lexer.specs.declared.token.LexRefusal.TheVariants.{BadByte, OpenComment, OpenText, BadText, BadNumber, LiteralTooWide, Directive, Memory}
use Rattle.c_lexer.specs.declared.token.TheConstants.{KEYWORDS, PUNCTUATORS}
use Rattle.c_lexer.specs.declared.piece.Piece.{Piece}
use Rattle.c_lexer.specs.declared.piece.Piece.TheVariants.{Blank, LineComment, BlockComment, Include, Lexeme}

abbrev pub Bytes : Type 0
Bytes = List ℕ

-- ---- fronts

-- the word is in the set, and no longer front of the word and the rest is
abbrev pub IsLongest : (Bytes → Type 0) → Bytes → Bytes → Type 0
IsLongest S word rest = S word × ((more tail : Bytes) → 0 < length more → rest ≡ more ++ tail → S (word ++ more) → ⊥)

-- the word is in the set, and no shorter front of the word is
abbrev pub IsShortest : (Bytes → Type 0) → Bytes → Type 0
IsShortest S word = S word × ((front more : Bytes) → 0 < length more → word ≡ front ++ more → S front → ⊥)

-- no front of the bytes is in the set
abbrev pub NoFront : (Bytes → Type 0) → Bytes → Type 0
NoFront S bytes = (word rest : Bytes) → bytes ≡ word ++ rest → S word → ⊥

abbrev pub begins_with : Bytes → Bytes → Bool
begins_with text bytes = starts_with nat_eq bytes text

-- ---- blanks and comments (C11 6.4p3, 6.4.9)

-- a space, or one of tab, line feed, vertical tab, form feed and carriage return
abbrev pub is_blank : ℕ → Bool
is_blank b = b == 32 || is_in_range 9 13 b

abbrev pub is_line_feed : ℕ → Bool
is_line_feed b = b == 10

-- `//`, and bytes other than a line feed
abbrev pub IsLineComment : Bytes → Type 0
IsLineComment word = (body : Bytes) × (word ≡ codes "//" ++ body) × IsTrue (list_all (λ b. not (is_line_feed b)) body)

-- `/*`, any bytes, and `*/`
abbrev pub IsBlockComment : Bytes → Type 0
IsBlockComment word = (body : Bytes) × (word ≡ codes "/*" ++ body ++ codes "*/")

abbrev pub begins_comment : Bytes → Bool
begins_comment bytes = begins_with (codes "//") bytes || begins_with (codes "/*") bytes

-- ---- the two lines of the preprocessor that are read, as blanks

-- a blank that does not end the line
abbrev pub is_blank_in_line : ℕ → Bool
is_blank_in_line b = is_blank b && not (is_line_feed b)

-- what may stand between the parts of such a line: blanks, and block comments, which may hold line feeds
abbrev pub IsGapPart : Bytes → Type 0
IsGapPart word = ((b : ℕ) × IsTrue (is_blank_in_line b) × (word ≡ b ∷ [])) ⊎ IsShortest IsBlockComment word

abbrev pub IsGap : Bytes → Type 0
IsGap word = (parts : List Bytes) × AllByRecursion IsGapPart parts × (word ≡ concat parts)

abbrev pub IsHeader : Bytes → Type 0
IsHeader word = (word ≡ codes "<stdio.h>") ⊎ (word ≡ codes "<stdlib.h>")

-- `#include <stdio.h>` or `#include <stdlib.h>`, with gaps round its parts, and perhaps a line comment
pub record IsInclude (word : Bytes) : Type 0 where
  pub before : Bytes
  pub between : Bytes
  pub header : Bytes
  pub after : Bytes
  pub comment : Bytes
  pub parts : word ≡ codes "#" ++ (before ++ (codes "include" ++ (between ++ (header ++ (after ++ comment)))))
  pub is_before : IsGap before
  pub is_between : IsGap between
  pub is_header : IsHeader header
  pub is_after : IsGap after
  pub is_comment : (comment ≡ []) ⊎ IsLineComment comment

-- the end of the source, or a line feed
abbrev pub EndsLine : Bytes → Type 0
EndsLine [] = Unit {0}
EndsLine (b ∷ rest) = IsTrue (is_line_feed b)

-- ---- names and keywords (C11 6.4.1, 6.4.2.1)

abbrev pub begins_name : ℕ → Bool
begins_name b = is_ascii_alphabetic b || b == 95

abbrev pub continues_name : ℕ → Bool
continues_name b = is_ascii_alphanumeric b || b == 95

-- letters, digits and underscores, no digit first
abbrev pub IsName : Bytes → Type 0
IsName [] = ⊥
IsName (b ∷ bytes) = IsTrue (begins_name b) × IsTrue (list_all continues_name bytes)

-- the first place of a word in the table of keywords, from 0
unfoldable pub keyword_place : Bytes → Option ℕ
keyword_place word = position (λ entry. bytes_eq entry.now word) KEYWORDS

-- ---- punctuators (C11 6.4.6)

-- the first place of a word in the table of punctuators, from 0
unfoldable pub punctuator_place : Bytes → Option ℕ
punctuator_place word = position (λ entry. bytes_eq entry.now word) PUNCTUATORS

abbrev pub IsPunctuator : Bytes → Type 0
IsPunctuator word = IsSome (punctuator_place word)

-- ---- numbers

-- `e E p P`, behind which a sign goes on
abbrev pub is_exponent : ℕ → Bool
is_exponent b = b == 101 || b == 69 || b == 112 || b == 80

-- the byte goes on with a number whose last byte so far is this
abbrev pub continues_number : ℕ → ℕ → Bool
continues_number last b = continues_name b || b == 46 || ((b == 43 || b == 45) && is_exponent last)

abbrev pub goes_on : ℕ → Bytes → Bool
goes_on last [] = true
goes_on last (b ∷ bytes) = continues_number last b && goes_on b bytes

-- a preprocessing number that begins with a digit (C11 6.4.8), whether it is an integer constant or not
abbrev pub IsNumber : Bytes → Type 0
IsNumber [] = ⊥
IsNumber (b ∷ bytes) = IsTrue (is_ascii_digit b) × IsTrue (goes_on b bytes)

-- The parts of an integer constant (C11 6.4.4.1): `u` or `U` at its end, a base, and digits.
abbrev pub is_suffixed : Bytes → Bool
is_suffixed word = let last = slice_index word (length word - 1) in last == 117 || last == 85

abbrev pub unsuffixed : Bytes → Bytes
unsuffixed word = if is_suffixed word then take (length word - 1) word else word

-- `0x` or `0X` makes it hexadecimal, a `0` alone octal
abbrev pub base_of : Bytes → ℕ
base_of body = if slice_index body 0 == 48 then (if slice_index body 1 == 120 || slice_index body 1 == 88 then 16 else 8) else 10

abbrev pub digits_of : Bytes → Bytes
digits_of body = if base_of body == 16 then drop 2 body else body

-- at least one digit, and each of the base
unfoldable pub is_constant : Bytes → Bool
is_constant word =
    let body = unsuffixed word in
    nat_lt 0 (length (digits_of body)) && list_all (λ b. is_digit b (base_of body)) (digits_of body)

abbrev pub value_in : ℕ → Bytes → ℕ
value_in base digits = fold (λ n b. n * base + digit_value b) 0 digits

unfoldable pub constant_value : Bytes → ℕ
constant_value word = value_in (base_of (unsuffixed word)) (digits_of (unsuffixed word))

-- The first of `int` and `unsigned int` that holds the value, where a decimal constant without suffix has `int`
-- alone to choose from, and a constant with a suffix `unsigned int` alone.
abbrev pub type_for : Bool → ℕ → ℕ → Option Ty
type_for suffixed base value =
    if not suffixed && nat_lt value (2 ^ 31) then Some Int
    else (if (suffixed || not (base == 10)) && nat_lt value (2 ^ 32) then Some UInt else None)

unfoldable pub constant_type : Bytes → Option Ty
constant_type word = type_for (is_suffixed word) (base_of (unsuffixed word)) (constant_value word)

-- ---- character constants and texts (C11 6.4.4.4, 6.4.5)

-- a byte that stands for itself between these quotes
abbrev pub is_plain : ℕ → ℕ → Bool
is_plain quote b = not (b == quote || b == 92 || is_line_feed b)

-- what may stand between two quotes: plain bytes, and pairs of `\` and a byte other than a line feed
abbrev pub is_body : ℕ → Bytes → Bool
is_body quote [] = true
is_body quote (b ∷ []) = is_plain quote b
is_body quote (b ∷ c ∷ bytes) = if b == 92 then not (is_line_feed c) && is_body quote bytes else is_plain quote b && is_body quote (c ∷ bytes)

abbrev pub IsQuoted : ℕ → Bytes → Type 0
IsQuoted quote word = (body : Bytes) × IsTrue (is_body quote body) × (word ≡ quote ∷ (body ++ quote ∷ []))

-- what stands between the quotes of a quoted token
abbrev pub inner : Bytes → Bytes
inner word = take (length word - 2) (drop 1 word)

-- the byte that a letter or a mark after `\` means: `\n \t \r \a \b \f \v`, and `\\ \' \" \?` for themselves
abbrev pub escape_byte : ℕ → Option ℕ
escape_byte c =
    if c == 110 then Some 10 else (if c == 116 then Some 9 else (if c == 114 then Some 13 else (if c == 97 then Some 7
    else (if c == 98 then Some 8 else (if c == 102 then Some 12 else (if c == 118 then Some 11
    else (if c == 92 || c == 39 || c == 34 || c == 63 then Some c else None)))))))

-- a value and the number of bytes that spell it, where the value is a byte
abbrev pub byte_of : ℕ → ℕ → Option (ℕ × ℕ)
byte_of value len = if nat_lt value 256 then Some (value, len) else None

-- how many octal digits the bytes begin with, up to three
unfoldable pub octal_len : Bytes → ℕ
octal_len bytes = prefix_len (λ b. is_digit b 8) (take 3 bytes)

-- how many hexadecimal digits follow the `x` that the bytes begin with
unfoldable pub hexadecimal_len : Bytes → ℕ
hexadecimal_len bytes = if slice_index bytes 0 == 120 then prefix_len (λ b. is_digit b 16) (drop 1 bytes) else 0

-- What an escape means whose `\` these bytes follow, and how many bytes spell it with the `\`: up to three octal
-- digits, `x` and all hexadecimal digits that follow, or a letter or mark.
unfoldable pub escape : Bytes → Option (ℕ × ℕ)
escape bytes =
    if nat_lt 0 (octal_len bytes) then byte_of (value_in 8 (take (octal_len bytes) bytes)) (octal_len bytes + 1)
    else (if nat_lt 0 (hexadecimal_len bytes) then byte_of (value_in 16 (take (hexadecimal_len bytes) (drop 1 bytes))) (hexadecimal_len bytes + 2)
    else option_map (λ b. (b, 2)) (escape_byte (slice_index bytes 0)))

-- the first byte that a body means, and how many bytes spell it
abbrev pub first_byte : Bytes → Option (ℕ × ℕ)
first_byte [] = None
first_byte (b ∷ bytes) = if b == 92 then escape bytes else Some (b, 1)

-- A body means these bytes, one after the other.
abbrev pub Means : Bytes → Bytes → Type 0
Means body [] = body ≡ []
Means body (b ∷ bytes) = (len : ℕ) × (first_byte body ≡ Some (b, len)) × Means (drop len body) bytes

-- The same as a function, for which a body has at most so many bytes; each byte takes one at least.
abbrev pub decoded_within : ℕ → Bytes → Option Bytes
decoded_within n [] = Some []
decoded_within zero (b ∷ bytes) = None
decoded_within (suc n) (b ∷ bytes) =
    option_and_then (λ first. option_map (λ others. first.0 ∷ others) (decoded_within n (drop first.1 (b ∷ bytes)))) (first_byte (b ∷ bytes))

-- the bytes that a body means, if there are any: where each escape is known and below 256
unfoldable pub decoded : Bytes → Option Bytes
decoded body = decoded_within (length body) body

-- a byte as a `char`, which is signed, modulo 2^32
abbrev pub character_value : ℕ → ℕ
character_value b = if nat_lt b 128 then b else b + (2 ^ 32 - 2 ^ 8)

abbrev pub sole : Bytes → Option ℕ
sole [] = None
sole (b ∷ []) = Some b
sole (b ∷ c ∷ bytes) = None

-- the byte that a body means, where it means exactly one
unfoldable pub one_byte : Bytes → Option ℕ
one_byte body = option_and_then sole (decoded body)

-- ---- pieces

-- The word is a token of a kind, and the rest follows it.
abbrev pub IsToken : TokenKind → Bytes → Bytes → Type 0
IsToken (Keyword i) word rest = IsLongest IsName word rest × (keyword_place word ≡ Some i)
IsToken Name word rest = IsLongest IsName word rest × (keyword_place word ≡ None)
IsToken (Number ty value) word rest = IsLongest IsNumber word rest × IsTrue (is_constant word) × (constant_type word ≡ Some ty) × (value ≡ constant_value word)
IsToken (Character value) word rest = IsQuoted 39 word × (b : ℕ) × (one_byte (inner word) ≡ Some b) × (value ≡ character_value b)
IsToken Text word rest = IsQuoted 34 word × IsSome (decoded (inner word))
IsToken (Punct i) word rest = IsLongest IsPunctuator word rest × (punctuator_place word ≡ Some i) × (begins_comment (word ++ rest) ≡ false)

-- The word is a piece, and the rest follows it. It matters whether only blanks and comments stand before it on
-- its line.
abbrev pub IsPiece : Bool → Piece → Bytes → Bytes → Type 0
IsPiece first Blank word rest = (b : ℕ) × IsTrue (is_blank b) × (word ≡ b ∷ [])
IsPiece first LineComment word rest = IsLongest IsLineComment word rest
IsPiece first BlockComment word rest = IsShortest IsBlockComment word
IsPiece first Include word rest = IsTrue first × IsInclude word × EndsLine rest
IsPiece first (Lexeme kind) word rest = IsToken kind word rest

-- Whether only blanks and comments stand on the line up to the end of a piece. A line feed in a comment does not
-- begin a line here (C11 5.1.1.2).
abbrev pub first_after : Bool → Piece → Bytes → Bool
first_after first Blank word = first || bytes_eq word (10 ∷ [])
first_after first LineComment word = first
first_after first BlockComment word = first
first_after first Include word = first
first_after first (Lexeme kind) word = false

-- The bytes are these pieces in a row, and then a rest of which this holds.
abbrev pub Cuts : (Bool → Bytes → Type 0) → Bool → List (Piece × Bytes) → Bytes → Type 0
Cuts Stops first [] bytes = Stops first bytes
Cuts Stops first (p ∷ ps) bytes = (rest : Bytes) × (bytes ≡ p.1 ++ rest) × IsPiece first p.0 p.1 rest × Cuts Stops (first_after first p.0 p.1) ps rest

-- ---- the tokens of a source

abbrev pub line_feeds : Bytes → ℕ
line_feeds bytes = count_by is_line_feed bytes

-- the tokens among pieces that begin at a place and on a line
abbrev pub tokens_of : ℕ → ℕ → List (Piece × Bytes) → List Token
tokens_of at line [] = []
tokens_of at line ((Lexeme kind, word) ∷ ps) = record { kind = kind; start = at; end = at + length word; line = line } ∷ tokens_of (at + length word) (line + line_feeds word) ps
tokens_of at line ((piece, word) ∷ ps) = tokens_of (at + length word) (line + line_feeds word) ps

-- how many bytes the pieces have
abbrev pub length_of : List (Piece × Bytes) → ℕ
length_of [] = 0
length_of (p ∷ ps) = length p.1 + length_of ps

abbrev pub AtEnd : Bool → Bytes → Type 0
AtEnd first rest = rest ≡ []

-- a part of a source has these tokens, where it begins at a place, on a line, and first on this line or not
abbrev pub LexesFrom : Bool → ℕ → ℕ → Bytes → List Token → Type 0
LexesFrom first at line bytes tokens = (ps : List (Piece × Bytes)) × Cuts AtEnd first ps bytes × (tokens ≡ tokens_of at line ps)

-- A source has these tokens.
abbrev pub Lexes : Bytes → List Token → Type 0
Lexes bytes tokens = LexesFrom true 0 1 bytes tokens

-- ---- the fault of a source

abbrev pub is_quote : ℕ → Bool
is_quote b = b == 39 || b == 34

-- the byte begins no piece
abbrev pub IsStray : Bool → Bytes → Type 0
IsStray first [] = ⊥
IsStray first (b ∷ bytes) = ((is_blank b || begins_name b || is_ascii_digit b || is_quote b || (first && b == 35)) ≡ false) × NoFront IsPunctuator (b ∷ bytes)

-- quotes with no character, more than one, or one that does not exist
abbrev pub IsBadQuoted : Bytes → Type 0
IsBadQuoted word = (IsQuoted 39 word × (one_byte (inner word) ≡ None)) ⊎ (IsQuoted 34 word × (decoded (inner word) ≡ None))

-- These bytes, at a place, begin with no piece, for the reason of the refusal and at its place.
abbrev pub IsFault : Bool → ℕ → Bytes → LexRefusal → Type 0
IsFault first at bytes (BadByte place) = (place ≡ at) × IsStray first bytes
IsFault first at bytes (OpenComment place) = (place ≡ at) × IsTrue (begins_with (codes "/*") bytes) × NoFront IsBlockComment bytes
IsFault first at bytes (OpenText place) = (place ≡ at) × IsTrue (is_quote (slice_index bytes 0)) × NoFront (IsQuoted (slice_index bytes 0)) bytes
IsFault first at bytes (BadText place) = (place ≡ at) × ((word rest : Bytes) × (bytes ≡ word ++ rest) × IsBadQuoted word)
IsFault first at bytes (BadNumber place) = (place ≡ at) × ((word rest : Bytes) × (bytes ≡ word ++ rest) × IsLongest IsNumber word rest × (is_constant word ≡ false))
IsFault first at bytes (LiteralTooWide place) = (place ≡ at) × ((word rest : Bytes) × (bytes ≡ word ++ rest) × IsLongest IsNumber word rest × IsTrue (is_constant word) × (constant_type word ≡ None))
IsFault first at bytes (Directive place) = (place ≡ at) × IsTrue first × IsTrue (begins_with (codes "#") bytes) × ((word rest : Bytes) → bytes ≡ word ++ rest → IsInclude word → EndsLine rest → ⊥)
IsFault first at bytes Memory = ⊥

abbrev pub RefusesFrom : Bool → ℕ → Bytes → LexRefusal → Type 0
RefusesFrom first at bytes refusal = (ps : List (Piece × Bytes)) × Cuts (λ here rest. IsFault here (at + length_of ps) rest refusal) first ps bytes

-- A source has this fault, at its first place that begins no piece.
abbrev pub Refuses : Bytes → LexRefusal → Type 0
Refuses bytes refusal = RefusesFrom true 0 bytes refusal

-- the bytes of a text token of a source: what stands between its quotes, with the escapes read
abbrev pub text_bytes : Bytes → Token → Option Bytes
text_bytes source token = decoded (inner (take (token.end - token.start) (drop token.start source)))

-- the tokens lie in a part of the source, one behind the other
abbrev pub LieWithin : ℕ → ℕ → List Token → Type 0
LieWithin from to [] = Unit {0}
LieWithin from to (t ∷ ts) = (from ≤ t.start) × (t.start < t.end) × (t.end ≤ to) × LieWithin t.end to ts

-- each text among the tokens of a source has its bytes
abbrev pub HaveBytes : Bytes → List Token → Type 0
HaveBytes source tokens = AllByRecursion (λ t. t.kind ≡ Text → IsSome (text_bytes source t)) tokens
