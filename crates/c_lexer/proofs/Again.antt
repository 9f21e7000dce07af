-- A piece or a fault at the front is what is found there, so there is one at most.
use Rattle.std.proofs.Common.{◌≡◌, ℕ, suc, ◌+◌, ◌-◌, ◌≤◌, Bool, true, false, not, ◌&&◌, ◌||◌, cond, eqb, get_or, [], ◌∷◌, ◌++◌, length, take, drop, codes, Option, Some, None, option_map, ok_or, Ok, Err, refl, ap, sym, ◌∙◌, subst, inl, inr, arith, length-append, length-take-le, append_assoc}
use Rattle.std.specs.List.{prefix_len}
use Rattle.std.specs.Char.{is_ascii_digit}
use Rattle.std.proofs.lemmas.List.{take_at, take-append-drop}
use Rattle.std.proofs.lemmas.Bool.{cond-true, cond-false, false_from_ne_true, false≢true, or_parts, or_from, and_right}
use Rattle.std.proofs.lemmas.List.Sums.{prefix_len-le-length}
use Rattle.std.proofs.lemmas.Bool.Decides.{nat_tests}
use Rattle.srmt_base.specs.declared.ty.Ty.{Ty}
use Rattle.c_lexer.specs.declared.token.TokenKind.{TokenKind}
use Rattle.c_lexer.specs.declared.token.TokenKind.TheVariants.{Keyword, Name, Number, Character, Text, Punct}
use Rattle.c_lexer.specs.declared.token.LexRefusal.{LexRefusal}
use Rattle.c_lexer.specs.declared.token.LexRefusal.TheVariants.{BadByte, OpenComment, OpenText, BadText, BadNumber, LiteralTooWide, Directive, Memory}
use Rattle.c_lexer.specs.declared.piece.Piece.{Piece}
use Rattle.c_lexer.specs.declared.piece.Piece.TheVariants.{Blank, LineComment, BlockComment, Include, Lexeme}
use Rattle.c_lexer.specs.Tokens.{Bytes, IsLongest, IsShortest, NoFront, IsName, IsNumber, IsQuoted, IsPunctuator, IsInclude, IsLineComment, IsBlockComment, EndsLine, IsToken, IsPiece, IsFault, IsBadQuoted, IsStray, begins_with, begins_comment, is_blank, is_line_feed, begins_name, continues_name, keyword_place, punctuator_place, is_constant, constant_type, constant_value, continues_number, is_quote, inner, decoded, one_byte, character_value}
use Rattle.c_lexer.specs.Scan.{comment_end, line_len, block_comment, past_include, directive, name_kind, name, number_len, number_kind, with_len, number, closing, quoted_kind, closed, quoted, punctuator, mark, front}
use Rattle.c_lexer.proofs.Fronts.{longest_same}
use Rattle.c_lexer.proofs.Comments.{comment_shortest, comment_found}
use Rattle.c_lexer.proofs.Names.{name_longest, number_longest, line_longest}
use Rattle.c_lexer.proofs.Quotes.{closing_is, closing_body}
use Rattle.c_lexer.proofs.Marks.{mark_is, mark_longest, mark_none, begins_other, some_is}
use Rattle.c_lexer.proofs.Includes.{begins_with-is, past_include-is, past_include-of}
use Rattle.c_lexer.proofs.Pieces.{quote_is, quote_mark, inner-is}

-- the longest word is what stands before its length
same_len : (S : Bytes → Type 0) (n : ℕ) (word rest bytes : Bytes) → bytes ≡ word ++ rest → n ≤ length bytes → IsLongest S word rest → IsLongest S (take n bytes) (drop n bytes) → n ≡ length word
same_len S n word rest bytes e le l m =
    let same : word ≡ take n bytes = longest_same S word rest (take n bytes) (drop n bytes) l m (sym e ∙ sym (take-append-drop n bytes)) in
    sym (length-take-le n bytes le) ∙ ap length (sym same)

-- ---- the tests of the front exclude one another

blank_low : (b : ℕ) → is_blank b ≡ true → b ≤ 32
blank_low b e = grind (arith, nat_tests)

name_high : (b : ℕ) → begins_name b ≡ true → 65 ≤ b
name_high b e = grind (arith, nat_tests)

digit_low : (b : ℕ) → is_ascii_digit b ≡ true → 48 ≤ b
digit_low b e = grind (arith, nat_tests)

digit_high : (b : ℕ) → is_ascii_digit b ≡ true → b ≤ 57
digit_high b e = grind (arith, nat_tests)

name_not_blank : (b : ℕ) → begins_name b ≡ true → is_blank b ≡ false
name_not_blank b e = false_from_ne_true (is_blank b) (λ i. omega (arith, name_high b e, blank_low b i))

digit_not_blank : (b : ℕ) → is_ascii_digit b ≡ true → is_blank b ≡ false
digit_not_blank b e = false_from_ne_true (is_blank b) (λ i. omega (arith, digit_low b e, blank_low b i))

digit_not_name : (b : ℕ) → is_ascii_digit b ≡ true → begins_name b ≡ false
digit_not_name b e = false_from_ne_true (begins_name b) (λ i. omega (arith, digit_high b e, name_high b i))

-- ---- which case the front goes by

front_blank : (first : Bool) (at b : ℕ) (bytes : Bytes) → is_blank b ≡ true → front first at (b ∷ bytes) ≡ Ok (Blank, 1)
unfolding front
front_blank first at b bytes e = cond-true (is_blank b) _ _ e

front_name : (first : Bool) (at b : ℕ) (bytes : Bytes) → begins_name b ≡ true → front first at (b ∷ bytes) ≡ name (b ∷ bytes)
unfolding front
front_name first at b bytes e = cond-false (is_blank b) _ _ (name_not_blank b e) ∙ cond-true (begins_name b) _ _ e

front_number : (first : Bool) (at b : ℕ) (bytes : Bytes) → is_ascii_digit b ≡ true → front first at (b ∷ bytes) ≡ number at (b ∷ bytes)
unfolding front
front_number first at b bytes e = cond-false (is_blank b) _ _ (digit_not_blank b e) ∙ cond-false (begins_name b) _ _ (digit_not_name b e) ∙ cond-true (is_ascii_digit b) _ _ e

front_quoted : (first : Bool) (at b : ℕ) (bytes : Bytes) → is_quote b ≡ true → front first at (b ∷ bytes) ≡ quoted at (b ∷ bytes)
unfolding front
front_quoted first at b bytes e = elim (quote_is b e) as (λ _. front first at (b ∷ bytes) ≡ quoted at (b ∷ bytes)) [ inl w ↦ rw w refl | inr w ↦ rw w refl ]

front_line : (first : Bool) (at : ℕ) (bytes : Bytes) → front first at (47 ∷ 47 ∷ bytes) ≡ Ok (LineComment, line_len (47 ∷ 47 ∷ bytes))
unfolding front
front_line first at bytes = refl

front_block : (first : Bool) (at : ℕ) (bytes : Bytes) → front first at (47 ∷ 42 ∷ bytes) ≡ ok_or (option_map (λ end. (BlockComment, end)) (comment_end 2 bytes)) (OpenComment at)
unfolding front block_comment
front_block first at bytes = refl

front_hash : (first : Bool) (at : ℕ) (bytes : Bytes) → first ≡ true → front first at (35 ∷ bytes) ≡ ok_or (option_map (λ rest. (Include, length (35 ∷ bytes) - length rest)) (past_include bytes)) (Directive at)
unfolding front directive
front_hash first at bytes e = rw e refl

front_mark : (first : Bool) (at b : ℕ) (bytes : Bytes) → (is_blank b || begins_name b || is_ascii_digit b || is_quote b || (first && eqb b 35)) ≡ false → begins_comment (b ∷ bytes) ≡ false
    → front first at (b ∷ bytes) ≡ mark at (b ∷ bytes)
unfolding front
front_mark first at b bytes other comment =
    let hash = or_parts (is_blank b || begins_name b || is_ascii_digit b || is_quote b) (first && eqb b 35) other in
    let quote = or_parts (is_blank b || begins_name b || is_ascii_digit b) (is_quote b) hash.0 in
    let digit = or_parts (is_blank b || begins_name b) (is_ascii_digit b) quote.0 in
    let named = or_parts (is_blank b) (begins_name b) digit.0 in
    let block = or_parts (begins_with (codes "//") (b ∷ bytes)) (begins_with (codes "/*") (b ∷ bytes)) comment in
    cond-false (is_blank b) _ _ named.0 ∙ cond-false (begins_name b) _ _ named.1 ∙ cond-false (is_ascii_digit b) _ _ digit.1 ∙ cond-false (is_quote b) _ _ quote.1
    ∙ cond-false (begins_with (codes "//") (b ∷ bytes)) _ _ block.0 ∙ cond-false (begins_with (codes "/*") (b ∷ bytes)) _ _ block.1 ∙ cond-false (first && eqb b 35) _ _ hash.1

-- ---- names and numbers

name_len_fits : (b : ℕ) (bytes : Bytes) → prefix_len continues_name (b ∷ bytes) ≤ length (b ∷ bytes)
name_len_fits b bytes = prefix_len-le-length continues_name (b ∷ bytes)

name_again : (o : Option ℕ) (first : Bool) (at : ℕ) (word rest : Bytes) → IsLongest IsName word rest → keyword_place word ≡ o
    → front first at (word ++ rest) ≡ Ok (Lexeme (name_kind o), length word)
unfolding name
name_again o first at [] rest l e = absurd l.0
name_again o first at (b ∷ word) rest l e =
    let bytes = word ++ rest in
    let len : prefix_len continues_name (b ∷ bytes) ≡ length (b ∷ word) =
    same_len IsName (prefix_len continues_name (b ∷ bytes)) (b ∷ word) rest (b ∷ bytes) refl (name_len_fits b bytes) l (name_longest b bytes l.0.0) in
    front_name first at b bytes l.0.0
    ∙ ap (λ n. Ok (Lexeme (name_kind (keyword_place (take n (b ∷ bytes)))), n)) len
    ∙ ap (λ w. Ok (Lexeme (name_kind (keyword_place w)), length (b ∷ word))) (take_at (b ∷ word) rest (length (b ∷ word)) refl)
    ∙ ap (λ k. Ok (Lexeme (name_kind k), length (b ∷ word))) e

fits_if : (t : Bool) (n m : ℕ) → n ≤ m → cond t (suc n) 0 ≤ suc m
fits_if true n m h = omega arith
fits_if false n m h = omega arith

number_len_fits : (last : ℕ) (bytes : Bytes) → number_len last bytes ≤ length bytes
number_len_fits last [] = omega arith
number_len_fits last (b ∷ bytes) = fits_if (continues_number last b) (number_len b bytes) (length bytes) (number_len_fits b bytes)

number_again : (first : Bool) (at : ℕ) (word rest : Bytes) → IsLongest IsNumber word rest → front first at (word ++ rest) ≡ with_len (length word) (number_kind at word)
unfolding number
number_again first at [] rest l = absurd l.0
number_again first at (b ∷ word) rest l =
    let bytes = word ++ rest in
    let len : number_len b bytes + 1 ≡ length (b ∷ word) =
    same_len IsNumber (number_len b bytes + 1) (b ∷ word) rest (b ∷ bytes) refl (omega (arith, number_len_fits b bytes)) l (number_longest b bytes l.0.0) in
    front_number first at b bytes l.0.0
    ∙ ap (λ n. with_len n (number_kind at (take n (b ∷ bytes)))) len
    ∙ ap (λ w. with_len (length (b ∷ word)) (number_kind at w)) (take_at (b ∷ word) rest (length (b ∷ word)) refl)

bad_number : (at : ℕ) (word : Bytes) → is_constant word ≡ false → number_kind at word ≡ Err (BadNumber at)
unfolding number_kind
bad_number at word e = cond-false (is_constant word) _ _ e

typed_number : (at : ℕ) (word : Bytes) (o : Option Ty) → is_constant word ≡ true → constant_type word ≡ o → number_kind at word ≡ ok_or (option_map (λ ty. Number ty (constant_value word)) o) (LiteralTooWide at)
unfolding number_kind
typed_number at word o c e = cond-true (is_constant word) _ _ c ∙ ap (λ t. ok_or (option_map (λ ty. Number ty (constant_value word)) t) (LiteralTooWide at)) e

-- ---- quoted tokens

quoted_again : (quote : ℕ) (first : Bool) (at : ℕ) (word rest : Bytes) → is_quote quote ≡ true → IsQuoted quote word
    → front first at (word ++ rest) ≡ with_len (length word) (quoted_kind at quote (inner word))
unfolding quoted
quoted_again quote first at word rest q w =
    let body = w.0 in
    let m = quote_mark quote q in
    let whole : word ++ rest ≡ quote ∷ (body ++ (quote ∷ rest)) = ap (λ t. t ++ rest) w.2 ∙ ap (λ t. quote ∷ t) (append_assoc body (quote ∷ []) rest) in
    let closes = closing_body quote 0 body rest m.slash m.line m.same w.1 in
    let zero_len : 0 + length body ≡ length body = omega arith in
    let len : length body + 2 ≡ length word = omega (arith, ap length w.2, length-append body (quote ∷ [])) in
    ap (front first at) whole ∙ front_quoted first at quote (body ++ (quote ∷ rest)) q
    ∙ ap (closed at quote (body ++ (quote ∷ rest))) (closes ∙ ap Some zero_len)
    ∙ ap (λ t. with_len (length body + 2) (quoted_kind at quote t)) (take_at body (quote ∷ rest) (length body) refl)
    ∙ ap (λ n. with_len n (quoted_kind at quote body)) len
    ∙ ap (λ t. with_len (length word) (quoted_kind at quote t)) (sym (inner-is quote body) ∙ ap inner (sym w.2))

character_kind : (at : ℕ) (body : Bytes) (o : Option ℕ) → one_byte body ≡ o → quoted_kind at 39 body ≡ ok_or (option_map (λ b. Character (character_value b)) o) (BadText at)
unfolding quoted_kind
character_kind at body o e = ap (λ t. ok_or (option_map (λ b. Character (character_value b)) t) (BadText at)) e

text_kind : (at : ℕ) (body : Bytes) (o : Option Bytes) → decoded body ≡ o → quoted_kind at 34 body ≡ ok_or (option_map (λ decoding. Text) o) (BadText at)
unfolding quoted_kind
text_kind at body o e = ap (λ t. ok_or (option_map (λ decoding. Text) t) (BadText at)) e

-- ---- punctuators

place_one : (i j : ℕ) (o : Option ℕ) → o ≡ Some i → o ≡ Some j → i ≡ j
place_one i j o e f = cc

found_mark : (at i : ℕ) (word rest : Bytes) → IsLongest IsPunctuator word rest → punctuator_place word ≡ Some i → (o : Option (ℕ × ℕ)) → punctuator (word ++ rest) ≡ o
    → mark at (word ++ rest) ≡ Ok (Lexeme (Punct i), length word)
unfolding mark
found_mark at i word rest l e None f = absurd (mark_none (word ++ rest) f word rest refl l.0)
found_mark at i word rest l e (Some found) f =
    let m = mark_longest (word ++ rest) found f in
    let len : found.1 ≡ length word = same_len IsPunctuator found.1 word rest (word ++ rest) refl m.2 l m.0 in
    let place : punctuator_place word ≡ Some found.0 = ap punctuator_place (sym (ap (λ n. take n (word ++ rest)) len ∙ take_at word rest (length word) refl)) ∙ m.1 in
    let same : found.0 ≡ i = place_one found.0 i (punctuator_place word) place e in
    ap (λ o. ok_or (option_map (λ p. (Lexeme (Punct p.0), p.1)) o) (BadByte at)) f ∙ ap (λ n. Ok (Lexeme (Punct n), found.1)) same ∙ ap (λ n. Ok (Lexeme (Punct i), n)) len

mark_again : (first : Bool) (at i : ℕ) (word rest : Bytes) → IsLongest IsPunctuator word rest → punctuator_place word ≡ Some i → begins_comment (word ++ rest) ≡ false
    → front first at (word ++ rest) ≡ Ok (Lexeme (Punct i), length word)
unfolding begins_other
mark_again first at i [] rest l e c = let m = mark_is [] l.0 in absurd (omega (arith, m.some))
mark_again first at i (b ∷ word) rest l e c =
    let m = mark_is (b ∷ word) l.0 in
    let parts = or_parts (is_blank b || begins_name b || is_ascii_digit b || is_quote b) (eqb b 35) m.other in
    front_mark first at b (word ++ rest) (or_from _ _ parts.0 (and_right first (eqb b 35) parts.1)) c
    ∙ found_mark at i (b ∷ word) rest l e (punctuator ((b ∷ word) ++ rest)) refl

-- ---- a piece

line_again : (first : Bool) (at : ℕ) (word rest : Bytes) → IsLongest IsLineComment word rest → front first at (word ++ rest) ≡ Ok (LineComment, length word)
line_again first at word rest l =
    let bytes = l.0.0 ++ rest in
    let whole : word ++ rest ≡ 47 ∷ 47 ∷ bytes = ap (λ t. t ++ rest) l.0.1 in
    let len : line_len (47 ∷ 47 ∷ bytes) ≡ length word =
    same_len IsLineComment (line_len (47 ∷ 47 ∷ bytes)) word rest (47 ∷ 47 ∷ bytes) (sym whole) (prefix_len-le-length (λ b. not (is_line_feed b)) (47 ∷ 47 ∷ bytes)) l (line_longest bytes) in
    ap (front first at) whole ∙ front_line first at bytes ∙ ap (λ n. Ok (LineComment, n)) len

block_again : (first : Bool) (at : ℕ) (word rest : Bytes) → IsShortest IsBlockComment word → front first at (word ++ rest) ≡ Ok (BlockComment, length word)
block_again first at word rest w =
    let bytes = (w.0.0 ++ (42 ∷ 47 ∷ [])) ++ rest in
    let whole : word ++ rest ≡ 47 ∷ 42 ∷ bytes = ap (λ t. t ++ rest) w.0.1 in
    ap (front first at) whole ∙ front_block first at bytes
    ∙ ap (λ o. ok_or (option_map (λ end. (BlockComment, end)) o) (OpenComment at)) (comment_found word rest bytes w (sym whole))

include_at : (first : Bool) (at : ℕ) (word rest bytes : Bytes) → first ≡ true → IsInclude word → EndsLine rest → (35 ∷ bytes) ≡ word ++ rest → front first at (35 ∷ bytes) ≡ Ok (Include, length word)
include_at first at word rest bytes f i ends whole =
    let len : length (35 ∷ bytes) - length rest ≡ length word = omega (arith, ap length whole, length-append word rest) in
    front_hash first at bytes f
    ∙ ap (λ o. ok_or (option_map (λ t. (Include, length (35 ∷ bytes) - length t)) o) (Directive at)) (past_include-of word rest bytes i ends whole)
    ∙ ap (λ n. Ok (Include, n)) len

include_again : (first : Bool) (at : ℕ) (word rest : Bytes) → first ≡ true → IsInclude word → EndsLine rest → front first at (word ++ rest) ≡ Ok (Include, length word)
include_again first at word rest f i ends =
    let whole : (35 ∷ drop 1 (word ++ rest)) ≡ word ++ rest = rw i.parts refl in
    ap (front first at) (sym whole) ∙ include_at first at word rest (drop 1 (word ++ rest)) f i ends whole

token_again : (first : Bool) (at : ℕ) (kind : TokenKind) (word rest : Bytes) → IsToken kind word rest → front first at (word ++ rest) ≡ Ok (Lexeme kind, length word)
token_again first at (Keyword i) word rest t = name_again (Some i) first at word rest t.0 t.1
token_again first at Name word rest t = name_again None first at word rest t.0 t.1
token_again first at (Number ty value) word rest t =
    number_again first at word rest t.0 ∙ ap (with_len (length word)) (typed_number at word (Some ty) t.1 t.2) ∙ ap (λ v. Ok (Lexeme (Number ty v), length word)) (sym t.3)
token_again first at (Character value) word rest t =
    quoted_again 39 first at word rest refl t.0 ∙ ap (with_len (length word)) (character_kind at (inner word) (Some t.1) t.2) ∙ ap (λ v. Ok (Lexeme (Character v), length word)) (sym t.3)
token_again first at Text word rest t =
    let d = some_is (decoded (inner word)) t.1 in
    quoted_again 34 first at word rest refl t.0 ∙ ap (with_len (length word)) (text_kind at (inner word) (Some d.0) d.1)
token_again first at (Punct i) word rest t = mark_again first at i word rest t.0 t.1 t.2

pub piece_again : (first : Bool) (at : ℕ) (piece : Piece) (word rest : Bytes) → IsPiece first piece word rest → front first at (word ++ rest) ≡ Ok (piece, length word)
piece_again first at Blank word rest p = rw p.2 (front_blank first at p.0 rest p.1)
piece_again first at LineComment word rest p = line_again first at word rest p
piece_again first at BlockComment word rest p = block_again first at word rest p
piece_again first at Include word rest p = include_again first at word rest p.0 p.1 p.2
piece_again first at (Lexeme kind) word rest p = token_again first at kind word rest p

-- ---- a fault

slash_mark : IsPunctuator (47 ∷ [])
unfolding punctuator_place
slash_mark = refl

no_comment : (bytes : Bytes) → NoFront IsPunctuator bytes → begins_comment bytes ≡ false
no_comment bytes never = or_from _ _
    (false_from_ne_true (begins_with (codes "//") bytes) (λ e. never (47 ∷ []) (47 ∷ drop 2 bytes) (begins_with-is (codes "//") bytes e) slash_mark))
    (false_from_ne_true (begins_with (codes "/*") bytes) (λ e. never (47 ∷ []) (42 ∷ drop 2 bytes) (begins_with-is (codes "/*") bytes e) slash_mark))

stray_mark : (at : ℕ) (bytes : Bytes) (o : Option (ℕ × ℕ)) → punctuator bytes ≡ o → NoFront IsPunctuator bytes → mark at bytes ≡ Err (BadByte at)
unfolding mark
stray_mark at bytes None e never = ap (λ o. ok_or (option_map (λ found. (Lexeme (Punct found.0), found.1)) o) (BadByte at)) e
stray_mark at bytes (Some f) e never = absurd (never (take f.1 bytes) (drop f.1 bytes) (sym (take-append-drop f.1 bytes)) (mark_longest bytes f e).0.0)

stray_again : (first : Bool) (at : ℕ) (bytes : Bytes) → IsStray first bytes → front first at bytes ≡ Err (BadByte at)
stray_again first at [] s = absurd s
stray_again first at (b ∷ bytes) s = front_mark first at b bytes s.0 (no_comment (b ∷ bytes) s.1) ∙ stray_mark at (b ∷ bytes) (punctuator (b ∷ bytes)) refl s.1

open_none : (bytes : Bytes) (o : Option ℕ) → comment_end 2 bytes ≡ o → NoFront IsBlockComment (47 ∷ 42 ∷ bytes) → o ≡ None
open_none bytes None e never = refl
open_none bytes (Some n) e never = absurd (never (take n (47 ∷ 42 ∷ bytes)) (drop n (47 ∷ 42 ∷ bytes)) (sym (take-append-drop n (47 ∷ 42 ∷ bytes))) (comment_shortest n bytes e).0)

open_again : (first : Bool) (at : ℕ) (bytes : Bytes) → begins_with (codes "/*") bytes ≡ true → NoFront IsBlockComment bytes → front first at bytes ≡ Err (OpenComment at)
open_again first at bytes e never =
    let whole = begins_with-is (codes "/*") bytes e in
    ap (front first at) whole ∙ front_block first at (drop 2 bytes)
    ∙ ap (λ o. ok_or (option_map (λ end. (BlockComment, end)) o) (OpenComment at)) (open_none (drop 2 bytes) (comment_end 2 (drop 2 bytes)) refl (subst (NoFront IsBlockComment) whole never))

unclosed_none : (quote : ℕ) (bytes : Bytes) (o : Option ℕ) → closing quote false 0 bytes ≡ o → NoFront (IsQuoted quote) (quote ∷ bytes) → o ≡ None
unclosed_none quote bytes None e never = refl
unclosed_none quote bytes (Some n) e never =
    let found = closing_is quote 0 n false bytes e in
    absurd (never (quote ∷ (found.0 ++ (quote ∷ []))) found.1 (ap (λ t. quote ∷ t) (found.3 ∙ sym (append_assoc found.0 (quote ∷ []) found.1))) (found.0, found.2, refl))

unclosed_again : (first : Bool) (at : ℕ) (bytes : Bytes) → is_quote (get_or bytes 0 0) ≡ true → NoFront (IsQuoted (get_or bytes 0 0)) bytes → front first at bytes ≡ Err (OpenText at)
unfolding quoted
unclosed_again first at [] q never = absurd (false≢true q)
unclosed_again first at (b ∷ bytes) q never = front_quoted first at b bytes q ∙ ap (closed at b bytes) (unclosed_none b bytes (closing b false 0 bytes) refl never)

bad_text_again : (first : Bool) (at : ℕ) (word rest : Bytes) → IsBadQuoted word → front first at (word ++ rest) ≡ Err (BadText at)
bad_text_again first at word rest (inl w) = quoted_again 39 first at word rest refl w.0 ∙ ap (with_len (length word)) (character_kind at (inner word) None w.1)
bad_text_again first at word rest (inr w) = quoted_again 34 first at word rest refl w.0 ∙ ap (with_len (length word)) (text_kind at (inner word) None w.1)

other_none : (bytes : Bytes) (o : Option Bytes) → past_include bytes ≡ o → ((word rest : Bytes) → (35 ∷ bytes) ≡ word ++ rest → IsInclude word → EndsLine rest → ⊥) → o ≡ None
other_none bytes None e never = refl
other_none bytes (Some rest) e never =
    let found = past_include-is bytes rest e in
    absurd (never (35 ∷ found.0) rest (ap (λ t. 35 ∷ t) found.2) found.1 found.3)

directive_again : (first : Bool) (at : ℕ) (bytes : Bytes) → first ≡ true → begins_with (codes "#") bytes ≡ true → ((word rest : Bytes) → bytes ≡ word ++ rest → IsInclude word → EndsLine rest → ⊥)
    → front first at bytes ≡ Err (Directive at)
directive_again first at bytes f e never =
    let whole = begins_with-is (codes "#") bytes e in
    ap (front first at) whole ∙ front_hash first at (drop 1 bytes) f
    ∙ ap (λ o. ok_or (option_map (λ rest. (Include, length (35 ∷ drop 1 bytes) - length rest)) o) (Directive at))
    (other_none (drop 1 bytes) (past_include (drop 1 bytes)) refl (λ word rest i. never word rest (whole ∙ i)))

pub fault_again : (first : Bool) (at : ℕ) (bytes : Bytes) (refusal : LexRefusal) → IsFault first at bytes refusal → front first at bytes ≡ Err refusal
fault_again first at bytes (BadByte place) f = stray_again first at bytes f.1 ∙ ap (λ n. Err (BadByte n)) (sym f.0)
fault_again first at bytes (OpenComment place) f = open_again first at bytes f.1 f.2 ∙ ap (λ n. Err (OpenComment n)) (sym f.0)
fault_again first at bytes (OpenText place) f = unclosed_again first at bytes f.1 f.2 ∙ ap (λ n. Err (OpenText n)) (sym f.0)
fault_again first at bytes (BadText place) f =
    let w = f.1 in
    ap (front first at) w.2 ∙ bad_text_again first at w.0 w.1 w.3 ∙ ap (λ n. Err (BadText n)) (sym f.0)
fault_again first at bytes (BadNumber place) f =
    let w = f.1 in
    ap (front first at) w.2 ∙ number_again first at w.0 w.1 w.3 ∙ ap (with_len (length w.0)) (bad_number at w.0 w.4) ∙ ap (λ n. Err (BadNumber n)) (sym f.0)
fault_again first at bytes (LiteralTooWide place) f =
    let w = f.1 in
    ap (front first at) w.2 ∙ number_again first at w.0 w.1 w.3 ∙ ap (with_len (length w.0)) (typed_number at w.0 None w.4 w.5) ∙ ap (λ n. Err (LiteralTooWide n)) (sym f.0)
fault_again first at bytes (Directive place) f = directive_again first at bytes f.1 f.2 f.3 ∙ ap (λ n. Err (Directive n)) (sym f.0)
fault_again first at bytes Memory f = absurd f
