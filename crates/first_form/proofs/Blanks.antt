-- The blanks at the front of some bytes, and a gap in a spelling.
use Rattle.std.proofs.Common.{◌≡◌, ℕ, ◌+◌, ◌≤◌, Bool, true, false, cond, ◌==◌, eqb, ◌⊎◌, inl, inr, List, [], ◌∷◌, ◌++◌, length, refl, sym, ap, subst, ◌∙◌, add-zero, arith}
use Rattle.std.specs.Prelude.{count_by}
use Rattle.std.specs.List.{list_all}
use Rattle.std.proofs.lemmas.Bool.{and_parts}
use Rattle.std.proofs.lemmas.List.Sums.{sum_by-cons}
use Rattle.first_form.specs.FirstForm.{is_blank, Piece, gap, Spells}
use Rattle.first_form.specs.Place.{Place}
use Rattle.first_form.specs.Reading.{begins, after_blanks}

-- how many lines end in these bytes
abbrev line_feeds : List ℕ → ℕ
line_feeds bs = count_by (λ c. c == 10) bs

-- these are the blanks at the front of the bytes:  what follows the blanks at their front
pub record IsSplit (line : ℕ) (bytes blanks : List ℕ) : Type 0 where
  pub front : bytes ≡ blanks ++ (after_blanks line bytes).bytes
  pub blank : list_all is_blank blanks ≡ true
  pub next : (after_blanks line bytes).line ≡ line + line_feeds blanks
  pub some : begins is_blank bytes ≡ true → 1 ≤ length blanks

line_feeds-cons : (c : ℕ) (cs : List ℕ) → line_feeds (c ∷ cs) ≡ cond (eqb c 10) 1 0 + line_feeds cs
line_feeds-cons c cs = sum_by-cons (λ x. cond (eqb x 10) 1 0) c cs

next_line : (b : Bool) (line n : ℕ) → cond b (line + 1) line + n ≡ line + (cond b 1 0 + n)
next_line true line n = omega arith
next_line false line n = omega arith

pub split : (line : ℕ) (bytes : List ℕ) → (blanks : List ℕ) × IsSplit line bytes blanks
split line [] = ([], record { front = refl; blank = refl; next = omega arith; some = λ e. absurd cc })
split line (c ∷ cs) = by (is_blank c) refl (split (cond (eqb c 10) (line + 1) line) cs)
  where
    by : (b : Bool) → is_blank c ≡ b → ((blanks : List ℕ) × IsSplit (cond (eqb c 10) (line + 1) line) cs blanks) → (blanks : List ℕ) × IsSplit line (c ∷ cs) blanks
    by true e rest = (
      c ∷ rest.0,
      record {
        front = rw e (ap (λ r. c ∷ r) rest.1.front);
        blank = rw e rest.1.blank;
        next = rw e (rest.1.next ∙ next_line (eqb c 10) line (line_feeds rest.0) ∙ ap (λ n. line + n) (sym (line_feeds-cons c rest.0)));
        some = λ z. omega arith;
      },
    )
    by false e rest = ([], record { front = rw e refl; blank = refl; next = rw e (omega arith); some = λ z. absurd cc })

-- blanks and what begins with no blank are split there
pub after_blanks-append : (line : ℕ) (blanks rest : List ℕ) → list_all is_blank blanks ≡ true → begins is_blank rest ≡ false → after_blanks line (blanks ++ rest) ≡ record { line = line + line_feeds blanks; bytes = rest }
after_blanks-append line [] [] h e = rw (add-zero line) refl
after_blanks-append line [] (c ∷ cs) h e = rw (e, add-zero line) refl
after_blanks-append line (b ∷ bs) rest h e =
    let two = and_parts (is_blank b) (list_all is_blank bs) h in
    let others = after_blanks-append (cond (eqb b 10) (line + 1) line) bs rest two.1 e in
    let ends = next_line (eqb b 10) line (line_feeds bs) ∙ ap (λ n. line + n) (sym (line_feeds-cons b bs)) in
    rw two.0 (others ∙ ap (λ n. record { line = n; bytes = rest }) ends)

begins-append : (blanks rest : List ℕ) → list_all is_blank blanks ≡ true → 1 ≤ length blanks → begins is_blank (blanks ++ rest) ≡ true
begins-append [] rest h some = absurd (omega arith)
begins-append (b ∷ bs) rest h some = (and_parts (is_blank b) (list_all is_blank bs) h).0

-- how many blanks a gap owes: none, or one where one stands there
abbrev pub Owes : ℕ → List ℕ → Type 0
Owes least bytes = (least ≡ 0) ⊎ ((least ≡ 1) × (begins is_blank bytes ≡ true))

enough : (least n : ℕ) (bytes : List ℕ) → Owes least bytes → (begins is_blank bytes ≡ true → 1 ≤ n) → least ≤ n
enough least n bytes (inl e) some = omega arith
enough least n bytes (inr e) some = omega (arith, e.0, some e.1)

-- A gap is spelled where what follows is spelled behind all blanks.
pub gap_takes : (least line : ℕ) (bytes : List ℕ) (ps : List Piece) → Owes least bytes → Spells (after_blanks line bytes).line ps (after_blanks line bytes).bytes → Spells line (gap least ∷ ps) bytes
gap_takes least line bytes ps owes h =
    let s = split line bytes in
    (s.0, (after_blanks line bytes).bytes, s.1.front, s.1.blank, enough least (length s.0) bytes owes s.1.some, subst (λ l. Spells l ps (after_blanks line bytes).bytes) s.1.next h)

-- these pieces spell nothing that begins with a blank
abbrev pub IsVisible : List Piece → Type 0
IsVisible ps = (line : ℕ) (bytes : List ℕ) → Spells line ps bytes → begins is_blank bytes ≡ false

-- A gap takes all blanks where what follows begins with none.
pub gap_again : (least line : ℕ) (bytes : List ℕ) (ps : List Piece) → IsVisible ps → Spells line (gap least ∷ ps) bytes → Spells (after_blanks line bytes).line ps (after_blanks line bytes).bytes
gap_again least line bytes ps visible h =
    let e = ap (after_blanks line) h.2 ∙ after_blanks-append line h.0 h.1 h.3 (visible _ _ h.5) in
    subst (λ (p : Place). Spells p.line ps p.bytes) (sym e) h.5

-- A gap of one blank or more begins with one.
pub gap_begins : (line : ℕ) (bytes : List ℕ) (ps : List Piece) → Spells line (gap 1 ∷ ps) bytes → begins is_blank bytes ≡ true
gap_begins line bytes ps h = ap (begins is_blank) h.2 ∙ begins-append h.0 h.1 h.3 h.4
