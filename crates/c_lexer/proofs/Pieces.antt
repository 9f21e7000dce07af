-- What is found at the front is a piece or a fault.
use Rattle.std.proofs.Common.{◌≡◌, ℕ, suc, ◌+◌, ◌-◌, ◌⊎◌, Bool, true, false, ◌&&◌, ◌||◌, eqb, is_some, [], ◌∷◌, ◌++◌, length, take, drop, codes, Option, Some, None, option_map, ok_or, Ok, Err, refl, ap, sym, ◌∙◌, subst, inl, inr, arith, length-append, append_assoc}
use Rattle.std.specs.List.{prefix_len}
use Rattle.std.specs.Char.{is_ascii_digit}
use Rattle.std.proofs.lemmas.List.{take_at, drop_at, take-append-drop}
use Rattle.std.proofs.lemmas.Bool.{cond_both, eqb-true, or_cases, or_from, and_parts}
use Rattle.srmt_base.specs.declared.ty.Ty.{Ty}
use Rattle.c_lexer.specs.declared.token.TokenKind.TheVariants.{Number, Character, Text, Punct}
use Rattle.c_lexer.specs.declared.token.LexRefusal.TheVariants.{BadByte, OpenComment, BadText, BadNumber, LiteralTooWide, Directive}
use Rattle.c_lexer.specs.declared.piece.Piece.TheVariants.{LineComment, BlockComment, Include, Lexeme}
use Rattle.c_lexer.specs.Tokens.{Bytes, IsLongest, NoFront, IsName, IsNumber, IsQuoted, IsInclude, EndsLine, IsToken, IsPiece, IsFault, begins_with, begins_comment, is_blank, is_line_feed, begins_name, continues_name, keyword_place, is_constant, constant_type, constant_value, is_quote, inner, decoded, one_byte, character_value}
use Rattle.c_lexer.specs.Scan.{Found, comment_end, line_len, block_comment, past_include, directive, name_kind, name, number_len, number_kind, with_len, number, closing, quoted_kind, closed, quoted, punctuator, mark, front}
use Rattle.c_lexer.proofs.Comments.{comment_shortest, comment_none}
use Rattle.c_lexer.proofs.Names.{name_longest, number_longest, line_longest}
use Rattle.c_lexer.proofs.Quotes.{closing_is, closing_body}
use Rattle.c_lexer.proofs.Marks.{mark_longest, mark_none}
use Rattle.c_lexer.proofs.Includes.{begins_with-is, past_include-is, past_include-of}

-- a piece that is found stands at the front, a refusal is the fault there
abbrev pub Right : Bool → ℕ → Bytes → Found → Type 0
Right first at bytes (Ok found) = IsPiece first found.0 (take found.1 bytes) (drop found.1 bytes)
Right first at bytes (Err refusal) = IsFault first at bytes refusal

-- ---- names and numbers

pub name_token : (o : Option ℕ) (word rest : Bytes) → keyword_place word ≡ o → IsLongest IsName word rest → IsToken (name_kind o) word rest
name_token None word rest e l = (l, e)
name_token (Some place) word rest e l = (l, e)

name_right : (first : Bool) (at b : ℕ) (bytes : Bytes) → begins_name b ≡ true → Right first at (b ∷ bytes) (name (b ∷ bytes))
unfolding name
name_right first at b bytes e =
    let len = prefix_len continues_name (b ∷ bytes) in
    name_token (keyword_place (take len (b ∷ bytes))) (take len (b ∷ bytes)) (drop len (b ∷ bytes)) refl (name_longest b bytes e)

typed_right : (first : Bool) (at len : ℕ) (bytes : Bytes) (o : Option Ty) → IsLongest IsNumber (take len bytes) (drop len bytes) → is_constant (take len bytes) ≡ true → constant_type (take len bytes) ≡ o
    → Right first at bytes (with_len len (ok_or (option_map (λ ty. Number ty (constant_value (take len bytes))) o) (LiteralTooWide at)))
typed_right first at len bytes None l c e = (refl, (take len bytes, drop len bytes, sym (take-append-drop len bytes), l, c, e))
typed_right first at len bytes (Some ty) l c e = (l, c, e, refl)

number_right : (first : Bool) (at b : ℕ) (bytes : Bytes) → is_ascii_digit b ≡ true → Right first at (b ∷ bytes) (number at (b ∷ bytes))
unfolding number number_kind
number_right first at b bytes e =
    let len = number_len b bytes + 1 in
    let word = take len (b ∷ bytes) in
    cond_both (is_constant word) (ok_or (option_map (λ ty. Number ty (constant_value word)) (constant_type word)) (LiteralTooWide at)) (Err (BadNumber at)) (λ k. Right first at (b ∷ bytes) (with_len len k))
    (λ c. typed_right first at len (b ∷ bytes) (constant_type word) (number_longest b bytes e) c refl)
    (λ c. (refl, (word, drop len (b ∷ bytes), sym (take-append-drop len (b ∷ bytes)), number_longest b bytes e, c)))

-- ---- quoted tokens

pub record IsMark (quote : ℕ) : Type 0 where
  pub quotes : is_quote quote ≡ true
  pub slash : eqb 92 quote ≡ false
  pub line : is_line_feed quote ≡ false
  pub same : eqb quote quote ≡ true

pub quote_is : (b : ℕ) → is_quote b ≡ true → (b ≡ 39) ⊎ (b ≡ 34)
quote_is b e = elim (or_cases (eqb b 39) (eqb b 34) e) [ inl w ↦ inl (eqb-true b 39 w) | inr w ↦ inr (eqb-true b 34 w) ]

pub quote_mark : (b : ℕ) → is_quote b ≡ true → IsMark b
quote_mark b e = elim (quote_is b e) as (λ _. IsMark b) [
  | inl w ↦ subst IsMark (sym w) record { quotes = refl; slash = refl; line = refl; same = refl }
  | inr w ↦ subst IsMark (sym w) record { quotes = refl; slash = refl; line = refl; same = refl }
]

pub inner-is : (quote : ℕ) (body : Bytes) → inner (quote ∷ (body ++ (quote ∷ []))) ≡ body
inner-is quote body =
    let len : suc (length (body ++ (quote ∷ []))) - 2 ≡ length body = omega (arith, length-append body (quote ∷ [])) in
    rw len (take_at body (quote ∷ []) (length body) refl)

-- the bytes up to a closing quote, and what stands between the quotes
quoted_word : (quote len : ℕ) (bytes : Bytes) → IsMark quote → closing quote false 0 bytes ≡ Some len
    → IsQuoted quote (take (len + 2) (quote ∷ bytes)) × (inner (take (len + 2) (quote ∷ bytes)) ≡ take len bytes)
quoted_word quote len bytes m e =
    let found = closing_is quote 0 len false bytes e in
    let body = found.0 in
    let size : len ≡ length body = omega (arith, found.4) in
    let word : Bytes = quote ∷ (body ++ (quote ∷ [])) in
    let whole : (quote ∷ bytes) ≡ word ++ found.1 = ap (λ t. quote ∷ t) (found.3 ∙ sym (append_assoc body (quote ∷ []) found.1)) in
    let is_word : take (len + 2) (quote ∷ bytes) ≡ word = ap (take (len + 2)) whole ∙ take_at word found.1 (len + 2) (omega (arith, length-append body (quote ∷ []))) in
    let is_inner : take len bytes ≡ body = ap (take len) found.3 ∙ take_at body (quote ∷ found.1) len (sym size) in
    (subst (IsQuoted quote) (sym is_word) (body, found.2, refl), ap inner is_word ∙ inner-is quote body ∙ sym is_inner)

character_right : (first : Bool) (at len : ℕ) (bytes : Bytes) (o : Option ℕ) → IsQuoted 39 (take len bytes) → one_byte (inner (take len bytes)) ≡ o
    → Right first at bytes (with_len len (ok_or (option_map (λ b. Character (character_value b)) o) (BadText at)))
character_right first at len bytes None q e = (refl, (take len bytes, drop len bytes, sym (take-append-drop len bytes), inl (q, e)))
character_right first at len bytes (Some b) q e = (q, b, e, refl)

text_right : (first : Bool) (at len : ℕ) (bytes : Bytes) (o : Option Bytes) → IsQuoted 34 (take len bytes) → decoded (inner (take len bytes)) ≡ o
    → Right first at bytes (with_len len (ok_or (option_map (λ decoding. Text) o) (BadText at)))
text_right first at len bytes None q e = (refl, (take len bytes, drop len bytes, sym (take-append-drop len bytes), inr (q, e)))
text_right first at len bytes (Some decoding) q e = (q, ap is_some e)

pub no_quoted : (quote : ℕ) (bytes : Bytes) → IsMark quote → closing quote false 0 bytes ≡ None → NoFront (IsQuoted quote) (quote ∷ bytes)
no_quoted quote bytes m e = λ word rest i w.
    let body = w.0 in
    let whole : (quote ∷ bytes) ≡ quote ∷ ((body ++ (quote ∷ [])) ++ rest) = i ∙ ap (λ t. t ++ rest) w.2 in
    let behind : bytes ≡ (body ++ (quote ∷ [])) ++ rest = cc in
    let again = ap (closing quote false 0) (behind ∙ append_assoc body (quote ∷ []) rest) ∙ closing_body quote 0 body rest m.slash m.line m.same w.1 in
    absurd (let nothing = e in cc)

closed_right : (first : Bool) (at b : ℕ) (bytes : Bytes) (o : Option ℕ) → is_quote b ≡ true → closing b false 0 bytes ≡ o → Right first at (b ∷ bytes) (closed at b bytes o)
unfolding quoted_kind
closed_right first at b bytes None q e = (refl, q, no_quoted b bytes (quote_mark b q) e)
closed_right first at b bytes (Some len) q e =
    elim (quote_is b q) as (λ _. Right first at (b ∷ bytes) (closed at b bytes (Some len))) [
      | inl is ↦
          let word = quoted_word b len bytes (quote_mark b q) e in
          subst (λ c. IsQuoted c (take (len + 2) (c ∷ bytes)) × (inner (take (len + 2) (c ∷ bytes)) ≡ take len bytes) → Right first at (c ∷ bytes) (closed at c bytes (Some len))) (sym is)
          (λ w. subst (λ body. Right first at (39 ∷ bytes) (with_len (len + 2) (ok_or (option_map (λ d. Character (character_value d)) (one_byte body)) (BadText at)))) w.1
          (character_right first at (len + 2) (39 ∷ bytes) (one_byte (inner (take (len + 2) (39 ∷ bytes)))) w.0 refl))
          word
      | inr is ↦
          let word = quoted_word b len bytes (quote_mark b q) e in
          subst (λ c. IsQuoted c (take (len + 2) (c ∷ bytes)) × (inner (take (len + 2) (c ∷ bytes)) ≡ take len bytes) → Right first at (c ∷ bytes) (closed at c bytes (Some len))) (sym is)
          (λ w. subst (λ body. Right first at (34 ∷ bytes) (with_len (len + 2) (ok_or (option_map (λ d. Text) (decoded body)) (BadText at)))) w.1
          (text_right first at (len + 2) (34 ∷ bytes) (decoded (inner (take (len + 2) (34 ∷ bytes)))) w.0 refl))
          word
    ]

quoted_right : (first : Bool) (at b : ℕ) (bytes : Bytes) → is_quote b ≡ true → Right first at (b ∷ bytes) (quoted at (b ∷ bytes))
unfolding quoted
quoted_right first at b bytes q = closed_right first at b bytes (closing b false 0 bytes) q refl

-- ---- comments, include lines, punctuators

line_right : (first : Bool) (at : ℕ) (bytes : Bytes) → begins_with (codes "//") bytes ≡ true → Right first at bytes (Ok (LineComment, line_len bytes))
line_right first at bytes e = subst (λ t. Right first at t (Ok (LineComment, line_len t))) (sym (begins_with-is (codes "//") bytes e)) (line_longest (drop 2 bytes))

ended_right : (first : Bool) (at : ℕ) (bytes : Bytes) (o : Option ℕ) → comment_end 2 bytes ≡ o
    → Right first at (47 ∷ 42 ∷ bytes) (ok_or (option_map (λ end. (BlockComment, end)) o) (OpenComment at))
ended_right first at bytes None e = (refl, refl, comment_none bytes e)
ended_right first at bytes (Some end) e = comment_shortest end bytes e

block_right : (first : Bool) (at : ℕ) (bytes : Bytes) → begins_with (codes "/*") bytes ≡ true → Right first at bytes (block_comment at bytes)
unfolding block_comment
block_right first at bytes e = subst (λ t. Right first at t (block_comment at t)) (sym (begins_with-is (codes "/*") bytes e)) (ended_right first at (drop 2 bytes) (comment_end 2 (drop 2 bytes)) refl)

included_right : (first : Bool) (at : ℕ) (bytes : Bytes) (o : Option Bytes) → first ≡ true → past_include bytes ≡ o
    → Right first at (35 ∷ bytes) (ok_or (option_map (λ rest. (Include, length (35 ∷ bytes) - length rest)) o) (Directive at))
included_right first at bytes None f e = (refl, f, refl, λ word rest i w ends. absurd (let again = past_include-of word rest bytes w ends i in cc))
included_right first at bytes (Some rest) f e =
    let found = past_include-is bytes rest e in
    let word : Bytes = 35 ∷ found.0 in
    let whole : (35 ∷ bytes) ≡ word ++ rest = ap (λ t. 35 ∷ t) found.2 in
    let len : length word ≡ length (35 ∷ bytes) - length rest = omega (arith, ap length whole, length-append word rest) in
    let is_word : take (length (35 ∷ bytes) - length rest) (35 ∷ bytes) ≡ word = ap (take _) whole ∙ take_at word rest (length (35 ∷ bytes) - length rest) len in
    let is_rest : drop (length (35 ∷ bytes) - length rest) (35 ∷ bytes) ≡ rest = ap (drop _) whole ∙ drop_at word rest (length (35 ∷ bytes) - length rest) len in
    (f, subst IsInclude (sym is_word) found.1, subst EndsLine (sym is_rest) found.3)

directive_right : (first : Bool) (at : ℕ) (bytes : Bytes) → first ≡ true → Right first at (35 ∷ bytes) (directive at (35 ∷ bytes))
unfolding directive
directive_right first at bytes f = included_right first at bytes (past_include bytes) f refl

marked_right : (first : Bool) (at b : ℕ) (bytes : Bytes) (o : Option (ℕ × ℕ)) → punctuator (b ∷ bytes) ≡ o
    → (is_blank b || begins_name b || is_ascii_digit b || is_quote b || (first && eqb b 35)) ≡ false → begins_comment (b ∷ bytes) ≡ false
    → Right first at (b ∷ bytes) (ok_or (option_map (λ found. (Lexeme (Punct found.0), found.1)) o) (BadByte at))
marked_right first at b bytes None e other comment = (refl, (other, mark_none (b ∷ bytes) e))
marked_right first at b bytes (Some f) e other comment =
    let m = mark_longest (b ∷ bytes) f e in
    (m.0, m.1, ap begins_comment (take-append-drop f.1 (b ∷ bytes)) ∙ comment)

-- ---- the piece at the front

hash_right : (first : Bool) (at b : ℕ) (bytes : Bytes) → (first && eqb b 35) ≡ true → Right first at (b ∷ bytes) (directive at (b ∷ bytes))
hash_right first at b bytes e =
    let parts = and_parts first (eqb b 35) e in
    subst (λ c. Right first at (c ∷ bytes) (directive at (c ∷ bytes))) (sym (eqb-true b 35 parts.1)) (directive_right first at bytes parts.0)

pub front_right : (first : Bool) (at b : ℕ) (bytes : Bytes) → Right first at (b ∷ bytes) (front first at (b ∷ bytes))
unfolding front mark
front_right first at b bytes =
    let P = Right first at (b ∷ bytes) in
    cond_both (is_blank b) _ _ P (λ e. (b, e, refl))
    (λ blank. cond_both (begins_name b) _ _ P (λ e. name_right first at b bytes e)
    (λ named. cond_both (is_ascii_digit b) _ _ P (λ e. number_right first at b bytes e)
    (λ digit. cond_both (is_quote b) _ _ P (λ e. quoted_right first at b bytes e)
    (λ quote. cond_both (begins_with (codes "//") (b ∷ bytes)) _ _ P (λ e. line_right first at (b ∷ bytes) e)
    (λ line. cond_both (begins_with (codes "/*") (b ∷ bytes)) _ _ P (λ e. block_right first at (b ∷ bytes) e)
    (λ block. cond_both (first && eqb b 35) _ _ P (λ e. hash_right first at b bytes e)
    (λ hash. marked_right first at b bytes (punctuator (b ∷ bytes)) refl
    (or_from _ _ (or_from _ _ (or_from _ _ (or_from _ _ blank named) digit) quote) hash) (or_from _ _ line block))))))))
