-- What a token, a constant and a blank take of a spelling, and that no other does.
use Rattle.std.proofs.Common.{◌≡◌, ℕ, ◌<◌, ◌≤◌, true, false, List, [], ◌∷◌, ◌++◌, length, take, drop, Option, Some, None, nat_eq, refl, sym, ap, subst, ◌∙◌, arith, take-append-drop}
use Rattle.std.proofs.Math.Seq.{take-append_seam, drop-append_seam}
use Rattle.std.specs.Char.{is_ascii_digit, digit_value}
use Rattle.std.specs.Fmt.{decimal}
use Rattle.std.specs.List.{prefix_len, list_all}
use Rattle.std.specs.Str.Parse.{AllDigits}
use Rattle.std.proofs.lemmas.Str.Parse.{digit_from_value}
use Rattle.std.proofs.lemmas.Bool.{and_parts}
use Rattle.std.specs.Cmp.Lexicographic.{pointwise, bytes_decides}
use Rattle.std.proofs.lemmas.Option.{cond_some}
use Rattle.std.proofs.lemmas.Bool.Decides.{nat_tests}
use Rattle.first_form.specs.declared.source.Constant.{Constant}
use Rattle.first_form.specs.FirstForm.{is_blank, Piece, word, word_at, gap, Spells}
use Rattle.first_form.specs.Place.{Place}
use Rattle.first_form.specs.Reading.{◌>>=◌, begins, skip_blanks, space, token, value_of, constant}
use Rattle.first_form.proofs.Blanks.{IsVisible, Owes, gap_takes, gap_again, gap_begins}
use Rattle.first_form.proofs.Digits.{front_digits, prefix_len-digits, decimal_digits, value_takes, value_of-decimal}

pub bind_some : {A B : Type 0} (o : Option A) (f : A → Option B) (y : B) → (o >>= f) ≡ Some y → (x : A) × (o ≡ Some x) × (f x ≡ Some y)
bind_some (Some x) f y e = (x, refl, e)
bind_some None f y e = absurd cc

pub some_is : {A : Type 0} (x y : A) → Some x ≡ Some y → x ≡ y
some_is x y e = cc

-- pieces that stand at a place
pub record StandsAt (at : Place) (ps : List Piece) : Type 0 where
  pub spelled : Spells at.line ps at.bytes

-- a word begins with no blank
abbrev pub IsWord : List ℕ → Type 0
IsWord [] = ⊥
IsWord (c ∷ cs) = is_blank c ≡ false

visible_word : (w : List ℕ) (ps : List Piece) → IsWord w → IsVisible (word w ∷ ps)
visible_word [] ps h line bytes s = absurd h
visible_word (c ∷ cs) ps h line bytes s = ap (begins is_blank) s.1 ∙ h

visible_at : (l : ℕ) (w : List ℕ) (ps : List Piece) → IsWord w → IsVisible (word_at l w ∷ ps)
visible_at l [] ps h line bytes s = absurd h
visible_at l (c ∷ cs) ps h line bytes s = ap (begins is_blank) s.2 ∙ h

-- what a token gives
pub record IsToken (w : List ℕ) (at : Place) (line : ℕ) (after : Place) : Type 0 where
  pub line_is : line ≡ (skip_blanks at).line
  pub after_is : after.line ≡ (skip_blanks at).line
  pub bytes_are : (skip_blanks at).bytes ≡ w ++ after.bytes

pub token_is : (w : List ℕ) (at : Place) (line : ℕ) (after : Place) → token w at ≡ Some (line, after) → IsToken w at line after
unfolding token
token_is w at line after e =
    let bytes = (skip_blanks at).bytes in
    let c = cond_some (pointwise nat_eq (take (length w) bytes) w) ((skip_blanks at).line, record { line = (skip_blanks at).line; bytes = drop (length w) bytes }) (line, after) e in
    let front = sym (take-append-drop (length w) bytes) ∙ ap (λ x. x ++ drop (length w) bytes) ((bytes_decides _ _).0 c.0) in
    record { line_is = sym (ap (λ (x : ℕ × Place). x.0) c.1); after_is = sym (ap (λ (x : ℕ × Place). x.1.line) c.1); bytes_are = front ∙ ap (λ (x : ℕ × Place). w ++ x.1.bytes) c.1 }

token_from : (w : List ℕ) (at : Place) (rest : List ℕ) → (skip_blanks at).bytes ≡ w ++ rest → token w at ≡ Some ((skip_blanks at).line, record { line = (skip_blanks at).line; bytes = rest })
unfolding token
token_from w at rest e =
    let bytes = (skip_blanks at).bytes in
    let front : take (length w) bytes ≡ w = ap (take (length w)) e ∙ take-append_seam w rest in
    let test = (bytes_decides (take (length w) bytes) w).1 front in
    let end : drop (length w) bytes ≡ rest = ap (drop (length w)) e ∙ drop-append_seam w rest in
    rw (test, end) refl

module _ (w : List ℕ) (least : ℕ) (at : Place) (ps : List Piece) where
  -- a token that was read is spelled there
  pub word_takes : (line : ℕ) (after : Place) → Owes least at.bytes → token w at ≡ Some (line, after) → StandsAt after ps → StandsAt at (gap least ∷ word w ∷ ps)
  unfolding skip_blanks
  word_takes line after owes e s =
      let t = token_is w at line after e in
      record { spelled = gap_takes least at.line at.bytes (word w ∷ ps) owes (after.bytes, t.bytes_are, subst (λ l. Spells l ps after.bytes) t.after_is s.spelled) }

  pub line_takes : (line : ℕ) (after : Place) → Owes least at.bytes → token w at ≡ Some (line, after) → StandsAt after ps → StandsAt at (gap least ∷ word_at line w ∷ ps)
  unfolding skip_blanks
  line_takes line after owes e s =
      let t = token_is w at line after e in
      record { spelled = gap_takes least at.line at.bytes (word_at line w ∷ ps) owes (t.line_is, after.bytes, t.bytes_are, subst (λ l. Spells l ps after.bytes) t.after_is s.spelled) }

  -- a token that is spelled there is read
  pub word_again : IsWord w → StandsAt at (gap least ∷ word w ∷ ps) → (x : ℕ × Place) × (token w at ≡ Some x) × StandsAt x.1 ps
  unfolding skip_blanks
  word_again is s =
      let t = gap_again least at.line at.bytes (word w ∷ ps) (visible_word w ps is) s.spelled in
      (_, token_from w at t.0 t.1, record { spelled = t.2 })

  pub line_again : (line : ℕ) → IsWord w → StandsAt at (gap least ∷ word_at line w ∷ ps) → (after : Place) × (token w at ≡ Some (line, after)) × StandsAt after ps
  unfolding skip_blanks
  line_again line is s =
      let t = gap_again least at.line at.bytes (word_at line w ∷ ps) (visible_at line w ps is) s.spelled in
      (_, token_from w at t.1 t.2 ∙ ap (λ l. Some (l, record { line = (skip_blanks at).line; bytes = t.1 })) (sym t.0), record { spelled = t.3 })

-- a blank where one is owed
pub space_is : (at after : Place) → space at ≡ Some after → (begins is_blank at.bytes ≡ true) × (at ≡ after)
unfolding space
space_is at after e = cond_some (begins is_blank at.bytes) at after e

pub space_again : (at : Place) (ps : List Piece) → StandsAt at (gap 1 ∷ ps) → space at ≡ Some at
unfolding space
space_again at ps s = rw (gap_begins at.line at.bytes ps s.spelled) refl

-- what a constant gives
pub record IsConstant (c : Constant) (at after : Place) : Type 0 where
  pub most : c.value ≤ 2147483647
  pub line_is : c.line ≡ (skip_blanks at).line
  pub after_is : after.line ≡ (skip_blanks at).line
  pub bytes_are : (skip_blanks at).bytes ≡ decimal c.value ++ after.bytes

pub constant_is : (at : Place) (c : Constant) (after : Place) → constant at ≡ Some (c, after) → IsConstant c at after
unfolding constant
constant_is at c after e =
    let bytes = (skip_blanks at).bytes in
    let count = prefix_len is_ascii_digit bytes in
    let v = bind_some (value_of (take count bytes)) _ (c, after) e in
    let d = value_takes (take count bytes) v.0 (front_digits bytes) v.1 in
    let is = some_is _ _ v.2 in
    let value : v.0 ≡ c.value = ap (λ (x : Constant × Place). x.0.value) is in
    let rest : drop count bytes ≡ after.bytes = ap (λ (x : Constant × Place). x.1.bytes) is in
    record {
      most = subst (λ n. n ≤ 2147483647) value d.1;
      line_is = sym (ap (λ (x : Constant × Place). x.0.line) is);
      after_is = sym (ap (λ (x : Constant × Place). x.1.line) is);
      bytes_are = sym (take-append-drop count bytes) ∙ ap (λ ds. ds ++ drop count bytes) (sym d.0) ∙ ap (λ n. decimal n ++ drop count bytes) value ∙ ap (λ r. decimal c.value ++ r) rest;
    }

digit_no_blank : (c : ℕ) → digit_value c < 10 → is_blank c ≡ false
digit_no_blank c h = let k = digit_from_value c h in grind (arith, nat_tests)

digits_word : (ds : List ℕ) → 0 < length ds → AllDigits 10 ds → IsWord ds
digits_word [] some h = absurd (omega arith)
digits_word (c ∷ cs) some h = digit_no_blank c h.0

decimal_word : (v : ℕ) → v ≤ 2147483647 → IsWord (decimal v)
decimal_word v most = let d = decimal_digits v most in digits_word (decimal v) d.0 d.1

-- these pieces spell nothing that begins with a digit
abbrev pub EndsDigits : List Piece → Type 0
EndsDigits ps = (line : ℕ) (bytes : List ℕ) → Spells line ps bytes → begins is_ascii_digit bytes ≡ false

blank_no_digit : (c : ℕ) → is_blank c ≡ true → is_ascii_digit c ≡ false
blank_no_digit c h = grind (arith, nat_tests)

-- behind a constant stands a gap and then a word that begins with no digit
pub ends_digits : (c : ℕ) (w : List ℕ) (ps : List Piece) → is_ascii_digit c ≡ false → EndsDigits (gap 0 ∷ word (c ∷ w) ∷ ps)
ends_digits c w ps h line bytes s = ap (begins is_ascii_digit) s.2 ∙ by s.0 s.3
  where
    by : (blanks : List ℕ) → list_all is_blank blanks ≡ true → begins is_ascii_digit (blanks ++ s.1) ≡ false
    by [] all = ap (begins is_ascii_digit) s.5.1 ∙ h
    by (b ∷ bs) all = blank_no_digit b (and_parts (is_blank b) (list_all is_blank bs) all).0

constant_from : (at : Place) (value : ℕ) (rest : List ℕ) → value ≤ 2147483647 → begins is_ascii_digit rest ≡ false → (skip_blanks at).bytes ≡ decimal value ++ rest → constant at ≡ Some (record { value = value; line = (skip_blanks at).line }, record { line = (skip_blanks at).line; bytes = rest })
unfolding constant
constant_from at value rest most ends e =
    let d = decimal_digits value most in
    let count : prefix_len is_ascii_digit (skip_blanks at).bytes ≡ length (decimal value) = ap (prefix_len is_ascii_digit) e ∙ prefix_len-digits (decimal value) rest d.1 ends in
    let front : take (length (decimal value)) (skip_blanks at).bytes ≡ decimal value = ap (take (length (decimal value))) e ∙ take-append_seam (decimal value) rest in
    let end : drop (length (decimal value)) (skip_blanks at).bytes ≡ rest = ap (drop (length (decimal value))) e ∙ drop-append_seam (decimal value) rest in
    rw (count, front, end, value_of-decimal value most) refl

module _ (c : Constant) (least : ℕ) (at : Place) (ps : List Piece) where
  pub constant_takes : (after : Place) → Owes least at.bytes → constant at ≡ Some (c, after) → StandsAt after ps → StandsAt at (gap least ∷ word_at c.line (decimal c.value) ∷ ps)
  unfolding skip_blanks
  constant_takes after owes e s =
      let t = constant_is at c after e in
      record { spelled = gap_takes least at.line at.bytes (word_at c.line (decimal c.value) ∷ ps) owes (t.line_is, after.bytes, t.bytes_are, subst (λ l. Spells l ps after.bytes) t.after_is s.spelled) }

  pub constant_again : c.value ≤ 2147483647 → EndsDigits ps → StandsAt at (gap least ∷ word_at c.line (decimal c.value) ∷ ps) → (after : Place) × (constant at ≡ Some (c, after)) × StandsAt after ps
  unfolding skip_blanks
  constant_again most ends s =
      let t = gap_again least at.line at.bytes (word_at c.line (decimal c.value) ∷ ps) (visible_at c.line (decimal c.value) ps (decimal_word c.value most)) s.spelled in
      (_, constant_from at c.value t.1 most (ends _ _ t.3) t.2 ∙ ap (λ l. Some (record { value = c.value; line = l }, record { line = (skip_blanks at).line; bytes = t.1 })) (sym t.0), record { spelled = t.3 })
