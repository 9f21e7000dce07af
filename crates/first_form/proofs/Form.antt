-- The two laws: what is read is of the first form, and what is of the first form is read.
use Rattle.std.proofs.Common.{◌≡◌, ℕ, zero, suc, ◌≤◌, List, [], ◌∷◌, ◌++◌, length, get_or, ◌==◌, true, Option, Some, None, refl, sym, ap, subst, ◌∙◌, arith, inl, inr}
use Rattle.std.specs.Prelude.{codes}
use Rattle.std.proofs.lemmas.Bool.{eqb-true}
use Rattle.std.proofs.lemmas.List.{nil_from_length}
use Rattle.std.proofs.lemmas.List.Concat.{flat_map-cons}
use Rattle.std.proofs.lemmas.Option.{option_and_then_some, cond_some}
use Rattle.std.specs.List.{flat_map, AllByRecursion}
use Rattle.first_form.specs.declared.source.Constant.{Constant}
use Rattle.first_form.specs.declared.source.PutConstant.{PutConstant}
use Rattle.first_form.specs.declared.source.FirstForm.{FirstForm}
use Rattle.first_form.specs.FirstForm.{is_blank, Piece, word, word_at, gap, head_pieces, put_pieces, tail_pieces, IsFirstForm}
use Rattle.first_form.specs.Place.{Place}
use Rattle.first_form.specs.Reading.{◌>>=◌, begins, after_blanks, space, token, constant, head, put, puts, tail, first_form, skip_blanks}
use Rattle.first_form.proofs.Blanks.{gap_takes, gap_again}
use Rattle.first_form.proofs.Puts.{joined, puts_zero, puts_none, puts_first}
use Rattle.first_form.proofs.Tokens.{some_is, StandsAt, token_is, word_takes, line_takes, word_again, line_again, space_is, space_again, constant_is, constant_takes, constant_again, ends_digits}

-- int main(void) {

head_takes : (at : Place) (x : ℕ × Place) (ps : List Piece) → head at ≡ Some x → StandsAt x.1 ps → StandsAt at (head_pieces x.0 ++ ps)
unfolding head
head_takes at x ps e =
    option_and_then_some _ (token (codes "int") at) x e (λ int is0 e0.
    option_and_then_some _ (space int.1) x e0 (λ spaced is1 e1.
    option_and_then_some _ (token (codes "main") spaced) x e1 (λ main is2 e2.
    option_and_then_some _ (token (codes "(") main.1) x e2 (λ open_paren is3 e3.
    option_and_then_some _ (token (codes "void") open_paren.1) x e3 (λ void is4 e4.
    option_and_then_some _ (token (codes ")") void.1) x e4 (λ close_paren is5 e5.
    option_and_then_some _ (token (codes "{") close_paren.1) x e5 (λ brace is6 e6.
    subst (λ (y : ℕ × Place). StandsAt y.1 ps → StandsAt at (head_pieces y.0 ++ ps)) (some_is _ _ e6) (λ s.
    let s6 = word_takes (codes "{") 0 close_paren.1 ps brace.0 brace.1 (inl refl) is6 s in
    let s5 = word_takes (codes ")") 0 void.1 _ close_paren.0 close_paren.1 (inl refl) is5 s6 in
    let s4 = word_takes (codes "void") 0 open_paren.1 _ void.0 void.1 (inl refl) is4 s5 in
    let s3 = word_takes (codes "(") 0 main.1 _ open_paren.0 open_paren.1 (inl refl) is3 s4 in
    let b = space_is int.1 spaced is1 in
    let s2 = line_takes (codes "main") 1 int.1 _ main.0 main.1 (inr (refl, b.0)) (ap (token (codes "main")) b.1 ∙ is2) s3 in
    word_takes (codes "int") 0 at _ int.0 int.1 (inl refl) is0 s2))))))))

head_again : (at : Place) (line : ℕ) (ps : List Piece) → StandsAt at (head_pieces line ++ ps) → (after : Place) × (head at ≡ Some (line, after)) × StandsAt after ps
unfolding head
head_again at line ps s =
    let int = word_again (codes "int") 0 at _ refl s in
    let spaced = space_again int.0.1 _ int.2 in
    let main = line_again (codes "main") 1 int.0.1 _ line refl int.2 in
    let open_paren = word_again (codes "(") 0 main.0 _ refl main.2 in
    let void = word_again (codes "void") 0 open_paren.0.1 _ refl open_paren.2 in
    let close_paren = word_again (codes ")") 0 void.0.1 _ refl void.2 in
    let brace = word_again (codes "{") 0 close_paren.0.1 _ refl close_paren.2 in
    (brace.0.1, rw (int.1, spaced, main.1, open_paren.1, void.1, close_paren.1, brace.1), brace.2)

-- putchar(D);

pub put_takes : (at : Place) (x : PutConstant × Place) (ps : List Piece) → put at ≡ Some x → StandsAt x.1 ps → StandsAt at (put_pieces x.0 ++ ps) × (x.0.constant.value ≤ 2147483647)
unfolding put
put_takes at x ps e =
    option_and_then_some _ (token (codes "putchar") at) x e (λ name is0 e0.
    option_and_then_some _ (token (codes "(") name.1) x e0 (λ open_paren is1 e1.
    option_and_then_some _ (constant open_paren.1) x e1 (λ value is2 e2.
    option_and_then_some _ (token (codes ")") value.1) x e2 (λ close_paren is3 e3.
    option_and_then_some _ (token (codes ";") close_paren.1) x e3 (λ semicolon is4 e4.
    subst (λ (y : PutConstant × Place). StandsAt y.1 ps → StandsAt at (put_pieces y.0 ++ ps) × (y.0.constant.value ≤ 2147483647)) (some_is _ _ e4) (λ s.
    let s4 = word_takes (codes ";") 0 close_paren.1 ps semicolon.0 semicolon.1 (inl refl) is4 s in
    let s3 = word_takes (codes ")") 0 value.1 _ close_paren.0 close_paren.1 (inl refl) is3 s4 in
    let s2 = constant_takes value.0 0 open_paren.1 _ value.1 (inl refl) is2 s3 in
    let s1 = line_takes (codes "(") 0 name.1 _ open_paren.0 open_paren.1 (inl refl) is1 s2 in
    (line_takes (codes "putchar") 0 at _ name.0 name.1 (inl refl) is0 s1, (constant_is open_paren.1 value.0 value.1 is2).most)))))))

pub put_again : (at : Place) (p : PutConstant) (ps : List Piece) → p.constant.value ≤ 2147483647 → StandsAt at (put_pieces p ++ ps) → (after : Place) × (put at ≡ Some (p, after)) × StandsAt after ps
unfolding put
put_again at p ps most s =
    let name = line_again (codes "putchar") 0 at _ p.name_line refl s in
    let open_paren = line_again (codes "(") 0 name.0 _ p.paren_line refl name.2 in
    let value = constant_again p.constant 0 open_paren.0 _ most (ends_digits 41 [] (gap 0 ∷ word (codes ";") ∷ ps) refl) open_paren.2 in
    let close_paren = word_again (codes ")") 0 value.0 _ refl value.2 in
    let semicolon = word_again (codes ";") 0 close_paren.0.1 _ refl close_paren.2 in
    (semicolon.0.1, rw (name.1, open_paren.1, value.1, close_paren.1, semicolon.1), semicolon.2)

abbrev HoldsInt : PutConstant → Type 0
HoldsInt p = p.constant.value ≤ 2147483647

-- several of them are spelled where the first is, and behind it the others
put_on : (at : Place) (p : PutConstant) (others : List PutConstant) (ps : List Piece) → StandsAt at (put_pieces p ++ (flat_map put_pieces others ++ ps)) → StandsAt at (flat_map put_pieces (p ∷ others) ++ ps)
put_on at p others ps s = subst (λ (x : List Piece). StandsAt at (x ++ ps)) (sym (flat_map-cons put_pieces p others)) s

put_off : (at : Place) (p : PutConstant) (others : List PutConstant) (ps : List Piece) → StandsAt at (flat_map put_pieces (p ∷ others) ++ ps) → StandsAt at (put_pieces p ++ (flat_map put_pieces others ++ ps))
put_off at p others ps s = subst (λ (x : List Piece). StandsAt at (x ++ ps)) (flat_map-cons put_pieces p others) s

-- statements that were read are spelled there
record TakesPuts (limit : ℕ) (at : Place) (ps : List Piece) (read : List PutConstant) : Type 0 where
  spelled : StandsAt at (flat_map put_pieces read ++ ps)
  few : length read ≤ limit
  ints : AllByRecursion HoldsInt read

abbrev PutsTake : ℕ → Place → List Piece → List PutConstant × Place → Type 0
PutsTake limit at ps x = StandsAt x.1 ps → TakesPuts limit at ps x.0

puts_take : (limit : ℕ) (at : Place) (ps : List Piece) → PutsTake limit at ps (puts limit at)
puts_take zero at ps = subst (PutsTake 0 at ps) (sym (puts_zero at)) (λ s. record { spelled = s; few = omega arith; ints = tt })
puts_take (suc limit) at ps = by (put at) refl (λ after. puts_take limit after ps)
  where
    by : (o : Option (PutConstant × Place)) → put at ≡ o → ((after : Place) → PutsTake limit after ps (puts limit after)) → PutsTake (suc limit) at ps (puts (suc limit) at)
    by None e more = subst (PutsTake (suc limit) at ps) (sym (puts_none (suc limit) at e)) (λ s. record { spelled = s; few = omega arith; ints = tt })
    by (Some x) e more = subst (PutsTake (suc limit) at ps) (sym (puts_first limit at x.1 x.0 e)) (λ s.
        let others = more x.1 s in
        let first = put_takes at x _ e others.spelled in
        record { spelled = put_on at x.0 (puts limit x.1).0 ps first.0; few = omega (arith, others.few); ints = (first.1, others.ints) })

-- statements that are spelled there are read, where no other stands behind them
puts_again : (limit : ℕ) (read : List PutConstant) (at : Place) (ps : List Piece) → length read ≤ limit → AllByRecursion HoldsInt read → ((end : Place) → StandsAt end ps → put end ≡ None) → StandsAt at (flat_map put_pieces read ++ ps) → (after : Place) × (puts limit at ≡ (read, after)) × StandsAt after ps
puts_again limit [] at ps few ints ends s = (at, puts_none limit at (ends at s), s)
puts_again zero (p ∷ others) at ps few ints ends s = absurd (omega arith)
puts_again (suc limit) (p ∷ others) at ps few ints ends s =
    let first = put_again at p _ ints.0 (put_off at p others ps s) in
    let more = puts_again limit others first.0 ps (omega arith) ints.1 ends first.2 in
    (more.0, puts_first limit at first.0 p first.1 ∙ ap (joined (p ∷ [])) more.1, more.2)

-- return D; }

end_takes : (at : Place) → (length (skip_blanks at).bytes == 0) ≡ true → StandsAt at (gap 0 ∷ [])
unfolding skip_blanks
end_takes at e = record { spelled = gap_takes 0 at.line at.bytes [] (inl refl) (nil_from_length _ (eqb-true _ _ e)) }

end_again : (at : Place) → StandsAt at (gap 0 ∷ []) → (length (skip_blanks at).bytes == 0) ≡ true
unfolding skip_blanks
end_again at s =
    let nothing : (after_blanks at.line at.bytes).bytes ≡ [] = gap_again 0 at.line at.bytes [] (λ line bytes e. ap (begins is_blank) e) s.spelled in
    ap (λ bs. length bs == 0) nothing

tail_takes : (at : Place) (x : ℕ × Constant × ℕ) → tail at ≡ Some x → StandsAt at (tail_pieces x.0 x.1 x.2) × (x.1.value ≤ 2147483647)
unfolding tail
tail_takes at x e =
    option_and_then_some _ (token (codes "return") at) x e (λ word is0 e0.
    option_and_then_some _ (space word.1) x e0 (λ spaced is1 e1.
    option_and_then_some _ (constant spaced) x e1 (λ status is2 e2.
    option_and_then_some _ (token (codes ";") status.1) x e2 (λ semicolon is3 e3.
    option_and_then_some _ (token (codes "}") semicolon.1) x e3 (λ brace is4 e4.
    let ended = cond_some _ _ _ e4 in
    let b = space_is word.1 spaced is1 in
    let here = ap constant b.1 ∙ is2 in
    let s4 = line_takes (codes "}") 0 semicolon.1 _ brace.0 brace.1 (inl refl) is4 (end_takes brace.1 ended.0) in
    let s3 = word_takes (codes ";") 0 status.1 _ semicolon.0 semicolon.1 (inl refl) is3 s4 in
    let s2 = constant_takes status.0 1 word.1 _ status.1 (inr (refl, b.0)) here s3 in
    let s1 = line_takes (codes "return") 0 at _ word.0 word.1 (inl refl) is0 s2 in
    subst (λ (y : ℕ × Constant × ℕ). StandsAt at (tail_pieces y.0 y.1 y.2) × (y.1.value ≤ 2147483647)) ended.1 (s1, (constant_is word.1 status.0 status.1 here).most))))))

tail_again : (at : Place) (return_line : ℕ) (status : Constant) (end_line : ℕ) → status.value ≤ 2147483647 → StandsAt at (tail_pieces return_line status end_line) → tail at ≡ Some (return_line, status, end_line)
unfolding tail
tail_again at return_line status end_line most s =
    let word = line_again (codes "return") 0 at _ return_line refl s in
    let spaced = space_again word.0 _ word.2 in
    let value = constant_again status 1 word.0 _ most (ends_digits 59 [] (gap 0 ∷ word_at end_line (codes "}") ∷ gap 0 ∷ []) refl) word.2 in
    let semicolon = word_again (codes ";") 0 value.0 _ refl value.2 in
    let brace = line_again (codes "}") 0 semicolon.0.1 _ end_line refl semicolon.2 in
    rw (word.1, spaced, value.1, semicolon.1, brace.1, end_again brace.0 brace.2)

first_none : {A B : Type 0} (o : Option A) (f : A → Option B) → ((x : A) → o ≡ Some x → ⊥) → (o >>= f) ≡ None
first_none None f h = refl
first_none (Some x) f h = absurd (h x refl)

first_differs : (c d : ℕ) (xs ys : List ℕ) → (c ≡ d → ⊥) → c ∷ xs ≡ d ∷ ys → ⊥
first_differs c d xs ys h e = h (ap (λ bs. get_or bs 0 0) e)

-- where `return` stands, `putchar` does not
no_put : (at : Place) (return_line : ℕ) (ps : List Piece) → StandsAt at (gap 0 ∷ word_at return_line (codes "return") ∷ ps) → put at ≡ None
unfolding put
no_put at return_line ps s =
    let t = line_again (codes "return") 0 at ps return_line refl s in
    let stands = (token_is (codes "return") at return_line t.0 t.1).bytes_are in
    first_none (token (codes "putchar") at) _ (λ x e.
    let other = (token_is (codes "putchar") at x.0 x.1 e).bytes_are in
    first_differs 114 112 _ _ (λ z. omega arith) (sym stands ∙ other))

-- the whole source

pub first_form_takes : (bytes : List ℕ) (form : FirstForm) → first_form bytes ≡ Some form → IsFirstForm bytes form
unfolding first_form
first_form_takes bytes form e =
    let start : Place = record { line = 1; bytes = bytes } in
    option_and_then_some _ (head start) form e (λ main is0 e0.
    option_and_then_some _ (tail (puts 20000 main.1).1) form e0 (λ end is1 e1.
    let ended = tail_takes (puts 20000 main.1).1 end is1 in
    let body = puts_take 20000 main.1 _ ended.0 in
    let whole = head_takes start main _ is0 body.spelled in
    subst (IsFirstForm bytes) (some_is _ _ e1) (record { spelled = whole.spelled; puts = body.few; constants = body.ints; status = ended.1 })))

pub first_form_again : (bytes : List ℕ) (form : FirstForm) → IsFirstForm bytes form → first_form bytes ≡ Some form
unfolding first_form
first_form_again bytes form is =
    let start : Place = record { line = 1; bytes = bytes } in
    let main = head_again start form.main_line (flat_map put_pieces form.puts ++ tail_pieces form.return_line form.status form.end_line) (record { spelled = is.spelled }) in
    let body = puts_again 20000 form.puts main.0 (tail_pieces form.return_line form.status form.end_line) is.puts is.constants (λ end s. no_put end form.return_line _ s) main.2 in
    let end = tail_again body.0 form.return_line form.status form.end_line is.status body.2 in
    rw (main.1, body.1, end)
