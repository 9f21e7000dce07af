-- A source: one list of tokens or one fault at most, and how a source goes on behind a piece.
use Rattle.std.proofs.Common.{◌≡◌, ℕ, ◌+◌, ◌≤◌, ◌<◌, ◌≢◌, ◌⊎◌, Bool, true, false, List, [], ◌∷◌, ◌++◌, length, take, drop, Result, Ok, Err, IfErr, MatchResult, refl, ap, sym, ◌∙◌, subst, inl, arith, append-nil, get_or, length-take-le, append_assoc}
use Rattle.std.proofs.lemmas.List.{take_at, drop_at, take-append-drop, nil_from_length}
use Rattle.c_lexer.specs.declared.token.Token.{Token}
use Rattle.c_lexer.specs.declared.token.LexRefusal.{LexRefusal}
use Rattle.c_lexer.specs.declared.token.LexRefusal.TheVariants.{BadByte, Memory}
use Rattle.c_lexer.specs.declared.piece.Piece.{Piece}
use Rattle.c_lexer.specs.declared.piece.Piece.TheVariants.{Blank, LineComment, BlockComment, Include, Lexeme}
use Rattle.c_lexer.specs.Tokens.{Bytes, IsPiece, IsFault, Cuts, AtEnd, is_blank, first_after, line_feeds, tokens_of, length_of, LexesFrom, Lexes, RefusesFrom, Refuses}
use Rattle.c_lexer.specs.Scan.{front, mark, punctuator, punctuator_of_length, token_at}
use Rattle.c_lexer.proofs.Pieces.{Right, front_right}
use Rattle.c_lexer.proofs.Again.{piece_again, fault_again}

-- nothing stands at the end
front_nil : (first : Bool) (at : ℕ) → front first at [] ≡ Err (BadByte at)
unfolding front mark punctuator punctuator_of_length
front_nil true at = refl
front_nil false at = refl

-- what stands at the front of the bytes is one piece
piece_once : (first : Bool) (p q : Piece) (word other rest tail bytes : Bytes) → bytes ≡ word ++ rest → bytes ≡ other ++ tail → IsPiece first p word rest → IsPiece first q other tail
    → (p ≡ q) × (word ≡ other) × (rest ≡ tail)
piece_once first p q word other rest tail bytes e f i j =
    let a : front first 0 bytes ≡ Ok (p, length word) = ap (front first 0) e ∙ piece_again first 0 p word rest i in
    let b : front first 0 bytes ≡ Ok (q, length other) = ap (front first 0) f ∙ piece_again first 0 q other tail j in
    let both : ◌≡◌ {A = Piece × ℕ} (p, length word) (q, length other) = cc in
    let kinds : p ≡ q = ap (λ x. x.0) both in
    let lengths : length word ≡ length other = ap (λ x. x.1) both in
    let whole : word ++ rest ≡ other ++ tail = sym e ∙ f in (
      kinds,
      sym (take_at word rest (length word) refl) ∙ ap (take (length word)) whole ∙ take_at other tail (length word) (sym lengths),
      sym (drop_at word rest (length word) refl) ∙ ap (drop (length word)) whole ∙ drop_at other tail (length word) (sym lengths),
    )

-- where this holds, no piece stands
abbrev pub Ends : (Bool → Bytes → Type 0) → Type 0
Ends Stops = (first : Bool) (bytes : Bytes) → Stops first bytes → (piece : Piece) (word rest : Bytes) → bytes ≡ word ++ rest → IsPiece first piece word rest → ⊥

pub AtEnd-ends : Ends AtEnd
AtEnd-ends = λ first bytes e piece word rest i p.
    absurd (let a = sym (front_nil first 0) ∙ ap (front first 0) (sym e ∙ i) ∙ piece_again first 0 piece word rest p in cc)

pub IsFault-ends : (at : ℕ) (refusal : LexRefusal) → Ends (λ first bytes. IsFault first at bytes refusal)
IsFault-ends at refusal = λ first bytes f piece word rest i p.
    absurd (let a = sym (fault_again first at bytes refusal f) ∙ ap (front first at) i ∙ piece_again first at piece word rest p in cc)

pair_same : (p q : Piece × Bytes) → p.0 ≡ q.0 → p.1 ≡ q.1 → p ≡ q
pair_same (a, b) (c, d) e f = cc

-- two cuts of one list are one, up to the same place
pub cuts_once : (S T : Bool → Bytes → Type 0) → Ends S → Ends T → (first : Bool) (ps qs : List (Piece × Bytes)) (bytes : Bytes) → Cuts S first ps bytes → Cuts T first qs bytes
    → (ps ≡ qs) × ((last : Bool) × (rest : Bytes) × S last rest × T last rest)
cuts_once S T s t first [] [] bytes c d = (refl, (first, bytes, c, d))
cuts_once S T s t first [] (q ∷ qs) bytes c d = absurd (s first bytes c q.0 q.1 d.0 d.1 d.2)
cuts_once S T s t first (p ∷ ps) [] bytes c d = absurd (t first bytes d p.0 p.1 c.0 c.1 c.2)
cuts_once S T s t first (p ∷ ps) (q ∷ qs) bytes c d =
    let same = piece_once first p.0 q.0 p.1 q.1 c.0 d.0 bytes c.1 d.1 c.2 d.2 in
    let heads : p ≡ q = pair_same p q same.0 same.1 in
    let rests : Cuts T (first_after first p.0 p.1) qs c.0 =
    subst (λ r. Cuts T (first_after first p.0 p.1) qs r) (sym same.2) (subst (λ x. Cuts T (first_after first x.0 x.1) qs d.0) (sym heads) d.3) in
    let later = cuts_once S T s t (first_after first p.0 p.1) ps qs c.0 c.3 rests in
    (let tails = later.0 in cc, later.1)

pub lexes_once : (first : Bool) (at line : ℕ) (bytes : Bytes) (tokens others : List Token) → LexesFrom first at line bytes tokens → LexesFrom first at line bytes others → tokens ≡ others
lexes_once first at line bytes tokens others l m =
    l.2 ∙ ap (tokens_of at line) (cuts_once AtEnd AtEnd AtEnd-ends AtEnd-ends first l.0 m.0 bytes l.1 m.1).0 ∙ sym m.2

pub refuses_once : (first : Bool) (at : ℕ) (bytes : Bytes) (refusal other : LexRefusal) → RefusesFrom first at bytes refusal → RefusesFrom first at bytes other → refusal ≡ other
refuses_once first at bytes refusal other l m =
    let both = cuts_once (λ here rest. IsFault here (at + length_of l.0) rest refusal) (λ here rest. IsFault here (at + length_of m.0) rest other)
    (IsFault-ends (at + length_of l.0) refusal) (IsFault-ends (at + length_of m.0) other) first l.0 m.0 bytes l.1 m.1 in
    let last = both.1 in
    let a = fault_again last.0 (at + length_of l.0) last.1 refusal last.2 in
    let b = ap (λ ps. front last.0 (at + length_of ps) last.1) both.0 ∙ fault_again last.0 (at + length_of m.0) last.1 other last.3 in
    cc

no_fault_at_end : (first : Bool) (at : ℕ) (refusal : LexRefusal) → IsFault first at [] refusal → ⊥
no_fault_at_end first at refusal f =
    let same : refusal ≡ BadByte at = let a = sym (fault_again first at [] refusal f) ∙ front_nil first at in cc in
    (subst (IsFault first at []) same f).1

pub lexes_or_refuses : (first : Bool) (at line : ℕ) (bytes : Bytes) (tokens : List Token) (refusal : LexRefusal) → LexesFrom first at line bytes tokens → RefusesFrom first at bytes refusal → ⊥
lexes_or_refuses first at line bytes tokens refusal l m =
    let both = cuts_once AtEnd (λ here rest. IsFault here (at + length_of m.0) rest refusal) AtEnd-ends (IsFault-ends (at + length_of m.0) refusal) first l.0 m.0 bytes l.1 m.1 in
    let last = both.1 in
    no_fault_at_end last.0 (at + length_of m.0) refusal (subst (λ t. IsFault last.0 (at + length_of m.0) t refusal) last.2 last.3)

-- ---- behind a piece

pub found_piece : (first : Bool) (at : ℕ) (bytes : Bytes) (piece : Piece) (n : ℕ) → 0 < length bytes → front first at bytes ≡ Ok (piece, n) → IsPiece first piece (take n bytes) (drop n bytes)
found_piece first at [] piece n h e = absurd (omega arith)
found_piece first at (b ∷ bytes) piece n h e = subst (Right first at (b ∷ bytes)) e (front_right first at b bytes)

pub found_fault : (first : Bool) (at : ℕ) (bytes : Bytes) (refusal : LexRefusal) → 0 < length bytes → front first at bytes ≡ Err refusal → IsFault first at bytes refusal
found_fault first at [] refusal h e = absurd (omega arith)
found_fault first at (b ∷ bytes) refusal h e = subst (Right first at (b ∷ bytes)) e (front_right first at b bytes)

-- the tokens of a piece and of what follows it
tokens_more : (piece : Piece) (word : Bytes) (at line n : ℕ) (ps : List (Piece × Bytes)) → length word ≡ n
    → tokens_of at line ((piece, word) ∷ ps) ≡ token_at piece at line (at + n) ++ tokens_of (at + n) (line + line_feeds word) ps
tokens_more Blank word at line n ps e = ap (λ k. tokens_of (at + k) (line + line_feeds word) ps) e
tokens_more LineComment word at line n ps e = ap (λ k. tokens_of (at + k) (line + line_feeds word) ps) e
tokens_more BlockComment word at line n ps e = ap (λ k. tokens_of (at + k) (line + line_feeds word) ps) e
tokens_more Include word at line n ps e = ap (λ k. tokens_of (at + k) (line + line_feeds word) ps) e
tokens_more (Lexeme kind) word at line n ps e = ap (λ k. record { kind = kind; start = at; end = at + k; line = line } ∷ tokens_of (at + k) (line + line_feeds word) ps) e

pub lexes_more : (first : Bool) (at line : ℕ) (bytes : Bytes) (piece : Piece) (n : ℕ) (tokens : List Token) → 0 < length bytes → n ≤ length bytes → front first at bytes ≡ Ok (piece, n)
    → LexesFrom (first_after first piece (take n bytes)) (at + n) (line + line_feeds (take n bytes)) (drop n bytes) tokens
    → LexesFrom first at line bytes (token_at piece at line (at + n) ++ tokens)
lexes_more first at line bytes piece n tokens h fits e l = (
  (piece, take n bytes) ∷ l.0,
  (drop n bytes, sym (take-append-drop n bytes), found_piece first at bytes piece n h e, l.1),
  ap (λ t. token_at piece at line (at + n) ++ t) l.2 ∙ sym (tokens_more piece (take n bytes) at line n l.0 (length-take-le n bytes fits)),
)

pub refuses_more : (first : Bool) (at : ℕ) (bytes : Bytes) (piece : Piece) (n : ℕ) (refusal : LexRefusal) → 0 < length bytes → n ≤ length bytes → front first at bytes ≡ Ok (piece, n)
    → RefusesFrom (first_after first piece (take n bytes)) (at + n) (drop n bytes) refusal → RefusesFrom first at bytes refusal
refuses_more first at bytes piece n refusal h fits e r =
    let place : at + n + length_of r.0 ≡ at + (length (take n bytes) + length_of r.0) = omega (arith, length-take-le n bytes fits) in (
      (piece, take n bytes) ∷ r.0,
      (
        drop n bytes,
        sym (take-append-drop n bytes),
        found_piece first at bytes piece n h e,
        subst (λ k. Cuts (λ here rest. IsFault here k rest refusal) (first_after first piece (take n bytes)) r.0 (drop n bytes)) place r.1,
      ),
    )

pub refuses_now : (first : Bool) (at : ℕ) (bytes : Bytes) (refusal : LexRefusal) → IsFault first at bytes refusal → RefusesFrom first at bytes refusal
refuses_now first at bytes refusal f = let place : at ≡ at + 0 = omega arith in ([], subst (λ k. IsFault first k bytes refusal) place f)

pub lexes_now : (first : Bool) (at line : ℕ) → LexesFrom first at line [] []
lexes_now first at line = ([], refl, refl)

-- what is kept so far and the tokens of the rest are the tokens of the source
abbrev pub GoesOn : Bytes → List Token → Bool → ℕ → ℕ → Bytes → Type 0
GoesOn source kept first at line rest = (tokens : List Token) → LexesFrom first at line rest tokens → Lexes source (kept ++ tokens)

-- a fault of the rest is the fault of the source
abbrev pub FailsOn : Bytes → Bool → ℕ → Bytes → Type 0
FailsOn source first at rest = (refusal : LexRefusal) → RefusesFrom first at rest refusal → Refuses source refusal

pub goes_on_past : (source : Bytes) (kept : List Token) (first : Bool) (at line : ℕ) (bytes : Bytes) (piece : Piece) (n : ℕ) → 0 < length bytes → n ≤ length bytes → front first at bytes ≡ Ok (piece, n)
    → GoesOn source kept first at line bytes
    → GoesOn source (kept ++ token_at piece at line (at + n)) (first_after first piece (take n bytes)) (at + n) (line + line_feeds (take n bytes)) (drop n bytes)
goes_on_past source kept first at line bytes piece n h fits e g = λ tokens l.
    subst (Lexes source) (sym (append_assoc kept (token_at piece at line (at + n)) tokens)) (g (token_at piece at line (at + n) ++ tokens) (lexes_more first at line bytes piece n tokens h fits e l))

pub fails_on_past : (source : Bytes) (first : Bool) (at : ℕ) (bytes : Bytes) (piece : Piece) (n : ℕ) → 0 < length bytes → n ≤ length bytes → front first at bytes ≡ Ok (piece, n)
    → FailsOn source first at bytes → FailsOn source (first_after first piece (take n bytes)) (at + n) (drop n bytes)
fails_on_past source first at bytes piece n h fits e g = λ refusal r. g refusal (refuses_more first at bytes piece n refusal h fits e r)

-- ---- one turn of the loop

pub goes_on_to : (source : Bytes) (kept now : List Token) (first then_first : Bool) (at end line then_line : ℕ) (bytes word rest : Bytes) (piece : Piece) (n : ℕ)
    → 0 < length bytes → n ≤ length bytes → front first at bytes ≡ Ok (piece, n) → word ≡ take n bytes → rest ≡ drop n bytes
    → then_first ≡ first_after first piece word → end ≡ at + length word → then_line ≡ line + line_feeds word → now ≡ kept ++ token_at piece at line end
    → GoesOn source kept first at line bytes → GoesOn source now then_first end then_line rest
goes_on_to source kept now first then_first at end line then_line bytes word rest piece n h fits e w r f p l k g =
    let size : length word ≡ n = ap length w ∙ length-take-le n bytes fits in
    let place : at + n ≡ end = omega arith in
    subst (λ t. GoesOn source t then_first end then_line rest) (sym k)
    (subst (λ t. GoesOn source (kept ++ token_at piece at line end) t end then_line rest) (ap (first_after first piece) (sym w) ∙ sym f)
    (subst (λ t. GoesOn source (kept ++ token_at piece at line end) (first_after first piece (take n bytes)) end t rest) (ap (λ t. line + line_feeds t) (sym w) ∙ sym l)
    (subst (λ t. GoesOn source (kept ++ token_at piece at line end) (first_after first piece (take n bytes)) end (line + line_feeds (take n bytes)) t) (sym r)
    (subst (λ t. GoesOn source (kept ++ token_at piece at line t) (first_after first piece (take n bytes)) t (line + line_feeds (take n bytes)) (drop n bytes)) place
    (goes_on_past source kept first at line bytes piece n h fits e g)))))

pub fails_on_to : (source : Bytes) (first then_first : Bool) (at end : ℕ) (bytes word rest : Bytes) (piece : Piece) (n : ℕ)
    → 0 < length bytes → n ≤ length bytes → front first at bytes ≡ Ok (piece, n) → word ≡ take n bytes → rest ≡ drop n bytes
    → then_first ≡ first_after first piece word → end ≡ at + length word
    → FailsOn source first at bytes → FailsOn source then_first end rest
fails_on_to source first then_first at end bytes word rest piece n h fits e w r f p g =
    let size : length word ≡ n = ap length w ∙ length-take-le n bytes fits in
    let place : at + n ≡ end = omega arith in
    subst (λ t. FailsOn source t end rest) (ap (first_after first piece) (sym w) ∙ sym f)
    (subst (λ t. FailsOn source (first_after first piece (take n bytes)) t rest) place
    (subst (λ t. FailsOn source (first_after first piece (take n bytes)) (at + n) t) (sym r)
    (fails_on_past source first at bytes piece n h fits e g)))

-- ---- a blank

pub blank_found : (first : Bool) (at b : ℕ) (bytes : Bytes) → b ≡ get_or bytes 0 0 → is_blank b ≡ true → front first at bytes ≡ Ok (Blank, 1)
unfolding front
blank_found first at b bytes same e = rw (sym same, e) refl

pub blank_word : (b : ℕ) (bytes : Bytes) → 0 < length bytes → b ≡ get_or bytes 0 0 → b ∷ [] ≡ take 1 bytes
blank_word b [] h same = absurd (omega arith)
blank_word b (c ∷ bytes) h same = ap (λ d. d ∷ []) same

-- ---- the answers

pub lexes_end : (source : Bytes) (kept : List Token) (first : Bool) (at line : ℕ) (rest : Bytes) → length rest ≡ 0 → GoesOn source kept first at line rest → Lexes source kept
lexes_end source kept first at line rest e g =
    subst (Lexes source) (append-nil kept) (g [] (subst (λ t. LexesFrom first at line t []) (sym (nil_from_length rest e)) (lexes_now first at line)))

pub refused_from : {V : Type 0} (source : Bytes) (r : Result V LexRefusal) (fault : LexRefusal) → r ≡ Err fault → Refuses source fault → IfErr r (λ refusal. refusal ≢ Memory → Refuses source refusal)
refused_from source r fault e f = rw e (λ other. f)

pub only_from : {V : Type 0} (P : V → Type 0) (source : Bytes) (r : Result V LexRefusal) (fault : LexRefusal) → r ≡ Err fault → Refuses source fault
    → (tokens : List Token) → Lexes source tokens → MatchResult r P (λ refusal. refusal ≡ Memory)
only_from P source r fault e f tokens l = rw e (absurd (lexes_or_refuses true 0 1 source tokens fault l f))

pub first_from : {V : Type 0} (source : Bytes) (r : Result V LexRefusal) (fault : LexRefusal) → r ≡ Err fault → Refuses source fault
    → (other : LexRefusal) → Refuses source other → MatchResult r (λ found. ⊥) (λ refusal. (refusal ≡ other) ⊎ (refusal ≡ Memory))
first_from source r fault e f other g = rw e (inl (refuses_once true 0 source fault other f g))
