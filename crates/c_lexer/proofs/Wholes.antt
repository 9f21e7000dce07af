-- Whole sources: each has tokens or a fault, and its tokens lie in it.
use Rattle.std.proofs.Common.{◌≡◌, ℕ, zero, suc, ◌+◌, ◌-◌, ◌≤◌, ◌<◌, ◌⊎◌, Bool, true, false, IsSome, List, [], ◌∷◌, ◌++◌, length, take, drop, Ok, Err, refl, ap, sym, ◌∙◌, subst, inl, inr, arith, length-append, length-drop}
use Rattle.std.proofs.lemmas.List.{take_at, drop_at, take-append-drop, drop-drop}
use Rattle.c_lexer.specs.declared.token.Token.{Token}
use Rattle.c_lexer.specs.declared.token.TokenKind.{TokenKind}
use Rattle.c_lexer.specs.declared.token.TokenKind.TheVariants.{Keyword, Name, Number, Character, Text, Punct}
use Rattle.c_lexer.specs.declared.token.LexRefusal.{LexRefusal}
use Rattle.c_lexer.specs.declared.piece.Piece.{Piece}
use Rattle.c_lexer.specs.declared.piece.Piece.TheVariants.{Blank, LineComment, BlockComment, Include, Lexeme}
use Rattle.c_lexer.specs.Tokens.{Bytes, IsToken, IsPiece, Cuts, AtEnd, first_after, line_feeds, tokens_of, LexesFrom, Lexes, RefusesFrom, Refuses, LieWithin, HaveBytes, decoded, inner}
use Rattle.c_lexer.specs.Scan.{Found, front, token_at}
use Rattle.c_lexer.proofs.Marks.{mark_is}
use Rattle.c_lexer.proofs.Again.{piece_again}
use Rattle.c_lexer.proofs.Sources.{found_piece, found_fault, lexes_more, refuses_more, refuses_now, lexes_now}

-- ---- a piece has a byte

token_some : (kind : TokenKind) (word rest : Bytes) → IsToken kind word rest → 0 < length word
token_some (Keyword i) [] rest t = absurd t.0.0
token_some (Keyword i) (b ∷ word) rest t = omega arith
token_some Name [] rest t = absurd t.0.0
token_some Name (b ∷ word) rest t = omega arith
token_some (Number ty value) [] rest t = absurd t.0.0
token_some (Number ty value) (b ∷ word) rest t = omega arith
token_some (Character value) word rest t = omega (arith, ap length t.0.2)
token_some Text word rest t = omega (arith, ap length t.0.2)
token_some (Punct i) word rest t = (mark_is word t.0.0).some

pub piece_some : (first : Bool) (piece : Piece) (word rest : Bytes) → IsPiece first piece word rest → 0 < length word
piece_some first Blank word rest p = omega (arith, ap length p.2)
piece_some first LineComment word rest p = omega (arith, ap length p.0.1)
piece_some first BlockComment word rest p = omega (arith, ap length p.0.1)
piece_some first Include word rest p = omega (arith, ap length p.1.parts)
piece_some first (Lexeme kind) word rest p = token_some kind word rest p

-- a piece that is found lies in the bytes
piece_fits : (first : Bool) (at : ℕ) (bytes : Bytes) (piece : Piece) (n : ℕ) → 0 < length bytes → front first at bytes ≡ Ok (piece, n) → (n ≤ length bytes) × (0 < n)
piece_fits first at bytes piece n h e =
    let p = found_piece first at bytes piece n h e in
    let again : front first at bytes ≡ Ok (piece, length (take n bytes)) = ap (front first at) (sym (take-append-drop n bytes)) ∙ piece_again first at piece (take n bytes) (drop n bytes) p in
    let both : ◌≡◌ {A = Piece × ℕ} (piece, n) (piece, length (take n bytes)) = cc in
    let same : n ≡ length (take n bytes) = ap (λ x. x.1) both in
    (omega (arith, ap length (take-append-drop n bytes), length-append (take n bytes) (drop n bytes)), omega (arith, piece_some first piece (take n bytes) (drop n bytes) p))

-- ---- each source has tokens or a fault

abbrev Reads : Bool → ℕ → ℕ → Bytes → Type 0
Reads first at line bytes = ((list : List Token) × LexesFrom first at line bytes list) ⊎ ((fault : LexRefusal) × RefusesFrom first at bytes fault)

reads_more : (first : Bool) (at line : ℕ) (bytes : Bytes) (piece : Piece) (n : ℕ) → 0 < length bytes → n ≤ length bytes → front first at bytes ≡ Ok (piece, n)
    → Reads (first_after first piece (take n bytes)) (at + n) (line + line_feeds (take n bytes)) (drop n bytes) → Reads first at line bytes
reads_more first at line bytes piece n h fits e (inl l) = inl (token_at piece at line (at + n) ++ l.0, lexes_more first at line bytes piece n l.0 h fits e l.1)
reads_more first at line bytes piece n h fits e (inr r) = inr (r.0, refuses_more first at bytes piece n r.0 h fits e r.1)

reads_by : (first : Bool) (at line : ℕ) (bytes : Bytes) → 0 < length bytes
    → ((piece : Piece) (n : ℕ) → 0 < n → n ≤ length bytes → Reads (first_after first piece (take n bytes)) (at + n) (line + line_feeds (take n bytes)) (drop n bytes))
    → (found : Found) → front first at bytes ≡ found → Reads first at line bytes
reads_by first at line bytes h later (Ok found) e =
    let fits = piece_fits first at bytes found.0 found.1 h e in
    reads_more first at line bytes found.0 found.1 h fits.0 e (later found.0 found.1 fits.1 fits.0)
reads_by first at line bytes h later (Err fault) e = inr (fault, refuses_now first at bytes fault (found_fault first at bytes fault h e))

reads_within : (len : ℕ) (first : Bool) (at line : ℕ) (bytes : Bytes) → length bytes ≤ len → Reads first at line bytes
reads_within len first at line [] h = inl ([], lexes_now first at line)
reads_within zero first at line (b ∷ bytes) h = absurd (omega arith)
reads_within (suc len) first at line (b ∷ bytes) h =
    reads_by first at line (b ∷ bytes) (omega arith)
    (λ piece n some fits. reads_within len (first_after first piece (take n (b ∷ bytes))) (at + n) (line + line_feeds (take n (b ∷ bytes))) (drop n (b ∷ bytes)) (omega (arith, length-drop n (b ∷ bytes))))
    (front first at (b ∷ bytes)) refl

pub lexes_or_fails : (source : Bytes) → ((list : List Token) × Lexes source list) ⊎ ((fault : LexRefusal) × Refuses source fault)
lexes_or_fails source = reads_within (length source) true 0 1 source (omega arith)

-- ---- the tokens lie in the source

lie_from : (low from to : ℕ) (tokens : List Token) → low ≤ from → LieWithin from to tokens → LieWithin low to tokens
lie_from low from to [] h l = tt
lie_from low from to (t ∷ tokens) h l = (omega (arith, l.0), l.1, l.2, l.3)

lie_within : (first : Bool) (at line to : ℕ) (ps : List (Piece × Bytes)) (bytes : Bytes) → Cuts AtEnd first ps bytes → at + length bytes ≡ to → LieWithin at to (tokens_of at line ps)
lie_within first at line to [] bytes c e = tt
lie_within first at line to ((Blank, word) ∷ ps) bytes c e =
    lie_from at (at + length word) to (tokens_of (at + length word) (line + line_feeds word) ps) (omega arith) (lie_within (first_after first Blank word) (at + length word) (line + line_feeds word) to ps c.0 c.3 (omega (arith, ap length c.1, length-append word c.0)))
lie_within first at line to ((LineComment, word) ∷ ps) bytes c e =
    lie_from at (at + length word) to (tokens_of (at + length word) (line + line_feeds word) ps) (omega arith) (lie_within (first_after first LineComment word) (at + length word) (line + line_feeds word) to ps c.0 c.3 (omega (arith, ap length c.1, length-append word c.0)))
lie_within first at line to ((BlockComment, word) ∷ ps) bytes c e =
    lie_from at (at + length word) to (tokens_of (at + length word) (line + line_feeds word) ps) (omega arith) (lie_within (first_after first BlockComment word) (at + length word) (line + line_feeds word) to ps c.0 c.3 (omega (arith, ap length c.1, length-append word c.0)))
lie_within first at line to ((Include, word) ∷ ps) bytes c e =
    lie_from at (at + length word) to (tokens_of (at + length word) (line + line_feeds word) ps) (omega arith) (lie_within (first_after first Include word) (at + length word) (line + line_feeds word) to ps c.0 c.3 (omega (arith, ap length c.1, length-append word c.0)))
lie_within first at line to ((Lexeme kind, word) ∷ ps) bytes c e = (
  omega arith,
  omega (arith, token_some kind word c.0 c.2),
  omega (arith, ap length c.1, length-append word c.0),
  lie_within false (at + length word) (line + line_feeds word) to ps c.0 c.3 (omega (arith, ap length c.1, length-append word c.0)),
)

pub lexes_within : (source : Bytes) (tokens : List Token) → Lexes source tokens → LieWithin 0 (length source) tokens
lexes_within source tokens l = subst (LieWithin 0 (length source)) (sym l.2) (lie_within true 0 1 (length source) l.0 source l.1 (omega arith))

-- ---- each text has its bytes

text_some : (kind : TokenKind) (word rest : Bytes) → IsToken kind word rest → kind ≡ Text → IsSome (decoded (inner word))
text_some (Keyword i) word rest t e = absurd (cc)
text_some Name word rest t e = absurd (cc)
text_some (Number ty value) word rest t e = absurd (cc)
text_some (Character value) word rest t e = absurd (cc)
text_some Text word rest t e = t.1
text_some (Punct i) word rest t e = absurd (cc)

behind : (source word rest : Bytes) (at : ℕ) → drop at source ≡ word ++ rest → drop (at + length word) source ≡ rest
behind source word rest at e = sym (drop-drop (length word) at source) ∙ ap (drop (length word)) e ∙ drop_at word rest (length word) refl

word_at : (source word rest : Bytes) (at : ℕ) → drop at source ≡ word ++ rest → take (at + length word - at) (drop at source) ≡ word
word_at source word rest at e =
    let len : at + length word - at ≡ length word = omega arith in
    rw (len, e) (take_at word rest (length word) refl)

have_bytes : (source : Bytes) (first : Bool) (at line : ℕ) (ps : List (Piece × Bytes)) (bytes : Bytes) → Cuts AtEnd first ps bytes → drop at source ≡ bytes → HaveBytes source (tokens_of at line ps)
have_bytes source first at line [] bytes c e = tt
have_bytes source first at line ((Blank, word) ∷ ps) bytes c e = have_bytes source (first_after first Blank word) (at + length word) (line + line_feeds word) ps c.0 c.3 (behind source word c.0 at (e ∙ c.1))
have_bytes source first at line ((LineComment, word) ∷ ps) bytes c e = have_bytes source (first_after first LineComment word) (at + length word) (line + line_feeds word) ps c.0 c.3 (behind source word c.0 at (e ∙ c.1))
have_bytes source first at line ((BlockComment, word) ∷ ps) bytes c e = have_bytes source (first_after first BlockComment word) (at + length word) (line + line_feeds word) ps c.0 c.3 (behind source word c.0 at (e ∙ c.1))
have_bytes source first at line ((Include, word) ∷ ps) bytes c e = have_bytes source (first_after first Include word) (at + length word) (line + line_feeds word) ps c.0 c.3 (behind source word c.0 at (e ∙ c.1))
have_bytes source first at line ((Lexeme kind, word) ∷ ps) bytes c e = (
  λ t. subst (λ w. IsSome (decoded (inner w))) (sym (word_at source word c.0 at (e ∙ c.1))) (text_some kind word c.0 c.2 t),
  have_bytes source false (at + length word) (line + line_feeds word) ps c.0 c.3 (behind source word c.0 at (e ∙ c.1)),
)

pub lexes_have : (source : Bytes) (tokens : List Token) → Lexes source tokens → HaveBytes source tokens
lexes_have source tokens l = subst (HaveBytes source) (sym l.2) (have_bytes source true 0 1 l.0 source l.1 refl)
