-- The two `#include` lines.
use Rattle.std.proofs.Common.{◌≡◌, ℕ, zero, suc, ◌+◌, ◌≤◌, ◌<◌, ◌⊎◌, true, false, not, eqb, List, [], ◌∷◌, ◌++◌, length, take, drop, codes, nat_eq, Option, Some, None, unwrap_or, refl, ap, sym, ◌∙◌, subst, inl, inr, arith, length-drop, append_assoc}
use Rattle.std.specs.List.{prefix_len, concat, AllByRecursion}
use Rattle.std.specs.Cmp.Lexicographic.{pointwise}
use Rattle.std.proofs.lemmas.List.{drop_at, take-append-drop}
use Rattle.std.proofs.lemmas.Bool.{and_parts, eqb-true, cond_both, cond-true, cases_order}
use Rattle.c_lexer.specs.Tokens.{Bytes, IsLineComment, IsGapPart, IsGap, IsHeader, IsInclude, EndsLine, begins_with, is_line_feed, is_blank_in_line}
use Rattle.c_lexer.specs.Scan.{comment_end, line_len, gap_part, past_gap, past_text, past_header, past_comment, at_line_end, past_include}
use Rattle.c_lexer.proofs.Choices.{chosen, bind_some}
use Rattle.c_lexer.proofs.Fronts.{prefix_len-stops}
use Rattle.c_lexer.proofs.Gaps.{gap_part-nil, past_gap_stops, past_gap_goes}
use Rattle.c_lexer.proofs.Comments.{comment_shortest, comment_found, comment_end-fits}
use Rattle.c_lexer.proofs.Names.{line_longest}

-- what begins with a text is the text and the rest
pub begins_with-is : (text bytes : Bytes) → begins_with text bytes ≡ true → bytes ≡ text ++ drop (length text) bytes
begins_with-is [] bytes e = refl
begins_with-is (x ∷ text) [] e = absurd (cc)
begins_with-is (x ∷ text) (y ∷ bytes) e =
    let parts = and_parts (eqb x y) (pointwise nat_eq text (take (length text) bytes)) e in
    ap (λ b. b ∷ bytes) (sym (eqb-true x y parts.0)) ∙ ap (λ t. x ∷ t) (begins_with-is text bytes parts.1)

-- ---- gaps

part_of_comment : (o : Option ℕ) (bytes : Bytes) → comment_end 2 bytes ≡ o → 0 < unwrap_or o 0
    → IsGapPart (take (unwrap_or o 0) (47 ∷ 42 ∷ bytes)) × (unwrap_or o 0 ≤ length (47 ∷ 42 ∷ bytes))
part_of_comment None bytes e h = absurd (omega arith)
part_of_comment (Some n) bytes e h = (inr (comment_shortest n bytes e), omega (arith, comment_end-fits 2 n bytes e))

abbrev IsPart : Bytes → ℕ → Type 0
IsPart bytes n = 0 < n → IsGapPart (take n bytes) × (n ≤ length bytes)

part_of_text : (bytes : Bytes) → begins_with (codes "/*") bytes ≡ true → IsPart bytes (unwrap_or (comment_end 2 (drop 2 bytes)) 0)
part_of_text bytes e = subst (λ t. IsPart t (unwrap_or (comment_end 2 (drop 2 t)) 0)) (sym (begins_with-is (codes "/*") bytes e))
    (part_of_comment (comment_end 2 (drop 2 bytes)) (drop 2 bytes) refl)

gap_part-is : (bytes : Bytes) → IsPart bytes (gap_part bytes)
unfolding gap_part
gap_part-is [] = λ h. absurd (omega arith)
gap_part-is (b ∷ bytes) =
    cond_both (is_blank_in_line b) 1 _ (IsPart (b ∷ bytes)) (λ e h. (inl (b, e, refl), omega arith))
    (λ e. cond_both (begins_with (codes "/*") (b ∷ bytes)) _ 0 (IsPart (b ∷ bytes)) (λ i. part_of_text (b ∷ bytes) i) (λ i h. absurd (omega arith)))

-- what is passed over is a gap
past_gap-within : (n : ℕ) (bytes : Bytes) → length bytes ≤ n → (gap : Bytes) × IsGap gap × (bytes ≡ gap ++ past_gap bytes)
past_gap-within zero [] h = ([], ([], tt, refl), sym (past_gap_stops [] gap_part-nil))
past_gap-within zero (b ∷ bytes) h = absurd (omega arith)
past_gap-within (suc n) bytes h =
    elim (cases_order (gap_part bytes) 0) [
      | inl none ↦ ([], ([], tt, refl), sym (past_gap_stops bytes none))
      | inr o ↦ elim o [
        | inl less ↦ absurd (omega arith)
        | inr some ↦
            let len = gap_part bytes in
            let part = gap_part-is bytes some in
            let later = past_gap-within n (drop len bytes) (omega (arith, length-drop len bytes, part.1)) in (
              take len bytes ++ later.0,
              (take len bytes ∷ later.1.0, (part.0, later.1.1), ap (λ t. take len bytes ++ t) later.1.2),
              sym (take-append-drop len bytes) ∙ ap (λ t. take len bytes ++ t) (later.2 ∙ ap (λ t. later.0 ++ t) (past_gap_goes bytes some))
                  ∙ sym (append_assoc (take len bytes) later.0 (past_gap bytes)),
            )
      ]
    ]

pub past_gap-is : (bytes : Bytes) → (gap : Bytes) × IsGap gap × (bytes ≡ gap ++ past_gap bytes)
past_gap-is bytes = past_gap-within (length bytes) bytes (omega arith)

gap_part-blank : (b : ℕ) (rest : Bytes) → is_blank_in_line b ≡ true → gap_part (b ∷ rest) ≡ 1
unfolding gap_part
gap_part-blank b rest e = cond-true (is_blank_in_line b) 1 _ e

gap_part-comment : (bytes : Bytes) → gap_part (47 ∷ 42 ∷ bytes) ≡ unwrap_or (comment_end 2 bytes) 0
unfolding gap_part
gap_part-comment bytes = refl

-- a part is seen whatever follows it
gap_part-of : (part rest : Bytes) → IsGapPart part → (gap_part (part ++ rest) ≡ length part) × (0 < length part)
gap_part-of part rest (inl w) = (rw w.2 (gap_part-blank w.0 rest w.1), omega (arith, ap length w.2))
gap_part-of part rest (inr w) =
    let body = w.0.0 in
    let whole : part ++ rest ≡ 47 ∷ 42 ∷ ((body ++ (42 ∷ 47 ∷ [])) ++ rest) = ap (λ t. t ++ rest) w.0.1 in (
      ap gap_part whole ∙ gap_part-comment ((body ++ (42 ∷ 47 ∷ [])) ++ rest)
          ∙ ap (λ o. unwrap_or o 0) (comment_found part rest ((body ++ (42 ∷ 47 ∷ [])) ++ rest) w (sym whole)),
      omega (arith, ap length w.0.1),
    )

past_parts : (parts : List Bytes) (rest : Bytes) → AllByRecursion IsGapPart parts → gap_part rest ≡ 0 → past_gap (concat parts ++ rest) ≡ rest
past_parts [] rest a e = past_gap_stops rest e
past_parts (part ∷ parts) rest a e =
    let tail = concat parts ++ rest in
    let len = gap_part-of part tail a.0 in
    let goes = past_gap_goes (part ++ tail) (omega (arith, len.0, len.1)) in
    ap past_gap (append_assoc part (concat parts) rest) ∙ sym goes ∙ ap past_gap (ap (λ n. drop n (part ++ tail)) len.0 ∙ drop_at part tail (length part) refl) ∙ past_parts parts rest a.1 e

-- a gap is passed over, before what begins none
pub past_gap-of : (gap rest : Bytes) → IsGap gap → gap_part rest ≡ 0 → past_gap (gap ++ rest) ≡ rest
past_gap-of gap rest g e = ap (λ t. past_gap (t ++ rest)) g.2 ∙ past_parts g.0 rest g.1 e

-- ---- what begins no gap

no_gap_word : (rest : Bytes) → gap_part (codes "include" ++ rest) ≡ 0
unfolding gap_part
no_gap_word rest = refl

no_gap_header : (header rest : Bytes) → IsHeader header → gap_part (header ++ rest) ≡ 0
unfolding gap_part
no_gap_header header rest (inl e) = rw e refl
no_gap_header header rest (inr e) = rw e refl

no_gap_end : (rest : Bytes) → EndsLine rest → gap_part rest ≡ 0
unfolding gap_part
no_gap_end [] e = refl
no_gap_end (b ∷ rest) e = rw (eqb-true b 10 e) refl

no_gap_comment : (body rest : Bytes) → gap_part ((codes "//" ++ body) ++ rest) ≡ 0
unfolding gap_part
no_gap_comment body rest = refl

no_gap_line : (comment rest : Bytes) → ((comment ≡ []) ⊎ IsLineComment comment) → EndsLine rest → gap_part (comment ++ rest) ≡ 0
no_gap_line comment rest (inl e) ends = rw e (no_gap_end rest ends)
no_gap_line comment rest (inr w) ends = rw w.1 (no_gap_comment w.0 rest)

regroup : (a b c d e f rest : Bytes) → a ++ (b ++ (c ++ (d ++ (e ++ (f ++ rest))))) ≡ (a ++ (b ++ (c ++ (d ++ (e ++ f))))) ++ rest
regroup a b c d e f rest = sym (simp append_assoc)

-- ---- the parts of the line

past_text-is : (text bytes rest : Bytes) → past_text text bytes ≡ Some rest → bytes ≡ text ++ rest
past_text-is text bytes rest e =
    elim (chosen (begins_with text bytes) (Some (drop (length text) bytes)) None (Some rest) e) as (λ _. bytes ≡ text ++ rest) [
      | inl w ↦ let same : drop (length text) bytes ≡ rest = let t = w.1 in cc in begins_with-is text bytes w.0 ∙ ap (λ t. text ++ t) same
      | inr w ↦ absurd (let t = w.1 in cc)
    ]

past_header-is : (bytes rest : Bytes) → past_header bytes ≡ Some rest → (header : Bytes) × IsHeader header × (bytes ≡ header ++ rest)
unfolding past_header
past_header-is bytes rest e =
    elim (chosen (begins_with (codes "<stdio.h>") bytes) (Some (drop 9 bytes)) (past_text (codes "<stdlib.h>") bytes) (Some rest) e) [
      | inl w ↦ let same : drop 9 bytes ≡ rest = let t = w.1 in cc in
          (codes "<stdio.h>", inl refl, begins_with-is (codes "<stdio.h>") bytes w.0 ∙ ap (λ t. codes "<stdio.h>" ++ t) same)
      | inr w ↦ (codes "<stdlib.h>", inr refl, past_text-is (codes "<stdlib.h>") bytes rest w.1)
    ]

past_header-of : (header rest : Bytes) → IsHeader header → past_header (header ++ rest) ≡ Some rest
unfolding past_header
past_header-of header rest (inl e) = rw e refl
past_header-of header rest (inr e) = rw e refl

past_comment-is : (bytes : Bytes) → (comment : Bytes) × ((comment ≡ []) ⊎ IsLineComment comment) × (bytes ≡ comment ++ past_comment bytes)
unfolding past_comment
past_comment-is bytes =
    cond_both (begins_with (codes "//") bytes) (drop (line_len bytes) bytes) bytes (λ t. (comment : Bytes) × ((comment ≡ []) ⊎ IsLineComment comment) × (bytes ≡ comment ++ t))
    (λ e.
    let whole = begins_with-is (codes "//") bytes e in
    let is_comment = subst (λ t. IsLineComment (take (line_len t) t)) (sym whole) (line_longest (drop 2 bytes)).0 in
    (take (line_len bytes) bytes, inr is_comment, sym (take-append-drop (line_len bytes) bytes)))
    (λ e. ([], inl refl, refl))

line_stops : (rest : Bytes) → EndsLine rest → prefix_len (λ b. not (is_line_feed b)) rest ≡ 0
line_stops [] e = refl
line_stops (b ∷ rest) e = rw e refl

no_comment : (rest : Bytes) → EndsLine rest → begins_with (codes "//") rest ≡ false
no_comment [] e = refl
no_comment (b ∷ rest) e = rw (eqb-true b 10 e) refl

past_comment-of : (comment rest : Bytes) → ((comment ≡ []) ⊎ IsLineComment comment) → EndsLine rest → past_comment (comment ++ rest) ≡ rest
unfolding past_comment
past_comment-of comment rest (inl e) ends = rw (e, no_comment rest ends) refl
past_comment-of comment rest (inr w) ends =
    let body = w.0 in
    let len : line_len (47 ∷ 47 ∷ (body ++ rest)) ≡ suc (suc (length body)) =
    ap (λ n. 1 + (1 + n)) (prefix_len-stops (λ b. not (is_line_feed b)) body rest w.2 (line_stops rest ends)) ∙ omega arith in
    rw (w.1, len) (drop_at body rest (length body) refl)

at_line_end-is : (bytes rest : Bytes) → at_line_end bytes ≡ Some rest → (bytes ≡ rest) × EndsLine rest
at_line_end-is [] rest e = let same : [] ≡ rest = cc in (same, subst EndsLine same tt)
at_line_end-is (b ∷ bytes) rest e =
    elim (chosen (is_line_feed b) (Some (b ∷ bytes)) None (Some rest) e) [
      | inl w ↦ let same : (b ∷ bytes) ≡ rest = let t = w.1 in cc in (same, subst EndsLine same w.0)
      | inr w ↦ absurd (let t = w.1 in cc)
    ]

at_line_end-of : (rest : Bytes) → EndsLine rest → at_line_end rest ≡ Some rest
at_line_end-of [] e = refl
at_line_end-of (b ∷ rest) e = rw e refl

-- ---- the line

pub past_include-is : (bytes rest : Bytes) → past_include bytes ≡ Some rest → (word : Bytes) × IsInclude (35 ∷ word) × (bytes ≡ word ++ rest) × EndsLine rest
unfolding past_include
past_include-is bytes rest e =
    let w = bind_some (past_text (codes "include") (past_gap bytes)) _ rest e in
    let h = bind_some (past_header (past_gap w.0)) _ rest w.2 in
    let before = past_gap-is bytes in
    let between = past_gap-is w.0 in
    let after = past_gap-is h.0 in
    let header = past_header-is (past_gap w.0) h.0 h.1 in
    let comment = past_comment-is (past_gap h.0) in
    let end = at_line_end-is (past_comment (past_gap h.0)) rest h.2 in (
      before.0 ++ (codes "include" ++ (between.0 ++ (header.0 ++ (after.0 ++ comment.0)))),
      record { before = before.0; between = between.0; header = header.0; after = after.0; comment = comment.0; parts = refl; is_before = before.1; is_between = between.1; is_header = header.1; is_after = after.1; is_comment = comment.1 },
      before.2 ∙ ap (λ t. before.0 ++ t) (past_text-is (codes "include") (past_gap bytes) w.0 w.1
          ∙ ap (λ t. codes "include" ++ t) (between.2 ∙ ap (λ t. between.0 ++ t) (header.2
          ∙ ap (λ t. header.0 ++ t) (after.2 ∙ ap (λ t. after.0 ++ t) (comment.2 ∙ ap (λ t. comment.0 ++ t) end.0)))))
          ∙ regroup before.0 (codes "include") between.0 header.0 after.0 comment.0 rest,
      end.1,
    )

pub past_include-of : (word rest bytes : Bytes) → IsInclude word → EndsLine rest → (35 ∷ bytes) ≡ word ++ rest → past_include bytes ≡ Some rest
unfolding past_include
past_include-of word rest bytes i ends e =
    let x3 = i.after ++ (i.comment ++ rest) in
    let x2 = i.between ++ (i.header ++ x3) in
    let whole : (35 ∷ bytes) ≡ 35 ∷ (i.before ++ (codes "include" ++ x2)) =
    e ∙ ap (λ t. t ++ rest) i.parts ∙ ap (λ t. 35 ∷ t) (sym (regroup i.before (codes "include") i.between i.header i.after i.comment rest)) in
    let behind : bytes ≡ i.before ++ (codes "include" ++ x2) = cc in
    rw (
      behind,
      past_gap-of i.before (codes "include" ++ x2) i.is_before (no_gap_word x2),
      past_gap-of i.between (i.header ++ x3) i.is_between (no_gap_header i.header x3 i.is_header),
      past_header-of i.header x3 i.is_header,
      past_gap-of i.after (i.comment ++ rest) i.is_after (no_gap_line i.comment rest i.is_comment ends),
      past_comment-of i.comment rest i.is_comment ends,
    )
    (at_line_end-of rest ends)
