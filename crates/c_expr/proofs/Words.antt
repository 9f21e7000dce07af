-- Specifiers and pointers: what they begin with, and that they are found.
use Rattle.std.proofs.Common.{ℕ, suc, true, [], ◌∷◌, refl}
use Rattle.c_lexer.specs.declared.token.TokenKind.TheVariants.{Keyword, Punct}
use Rattle.c_tree.specs.declared.specifier.SpecifierWord.TheVariants.{Int}
use Rattle.c_expr.specs.Codes.{star, kinds, qualifiers, specifier_words, specifier_starts, open_paren, close_paren, comma}
use Rattle.c_expr.specs.Spelling.{Spelling, One, Sign, Is, Sequence, Grown, Further, Listed, In_parens, push}
use Rattle.c_expr.specs.Grammar.{IsSpecifier, IsSpecifiers, IsPointer, IsPointers}
use Rattle.c_expr.specs.Nodes.{specifier_node, pointer_node, qualified}
use Rattle.c_expr.specs.Reading.{Reader, listed, in_parens, specifier, specifiers, pointer, pointers}
use Rattle.c_expr.proofs.Sound.{Reads, reads_is}
use Rattle.c_expr.proofs.Starts.{Starts, starts_filled, starts_sequence, starts_one, starts_sign}
use Rattle.c_expr.proofs.Short.{reads_seq, reads_after, reads_map, reads_repeat, reads_one, reads_sign}

pub starts_specifier : Starts specifier_starts IsSpecifier
starts_specifier = starts_sequence specifier_starts (Sign specifier_words) (starts_sign specifier_words) (λ p. Is (specifier_node p.0 p.1))

pub starts_specifiers : Starts specifier_starts IsSpecifiers
starts_specifiers = starts_sequence specifier_starts IsSpecifier starts_specifier (λ x. Further IsSpecifier (x ∷ []))

pub starts_pointer : Starts (star ∷ []) IsPointer
starts_pointer = starts_sequence (star ∷ []) (One star) (starts_one star) (λ t. Grown (λ p q. qualified p q.1) (Sign qualifiers) (pointer_node t.line))

pub reads_specifier : (n : ℕ) → Reads n IsSpecifier specifier
unfolding specifier
reads_specifier n = reads_map (λ p. specifier_node p.0 p.1) (reads_sign n specifier_words (Keyword 17) (0, Int) refl)

pub reads_specifiers : (n : ℕ) → Reads n IsSpecifiers specifiers
unfolding specifiers
reads_specifiers n = reads_seq (reads_specifier n) (λ x. reads_repeat specifier_starts push (reads_specifier n) (starts_filled specifier_starts IsSpecifier starts_specifier) (x ∷ []))

pub reads_pointer : (n : ℕ) → Reads n IsPointer pointer
unfolding pointer
reads_pointer n = reads_seq (reads_one n star (Punct 11) refl) (λ t.
    reads_repeat (kinds qualifiers) (λ p q. qualified p q.1) (reads_sign n qualifiers (Keyword 4) (0, true) refl) (starts_filled (kinds qualifiers) (Sign qualifiers) (starts_sign qualifiers)) (pointer_node t.line))

pub reads_pointers : (n : ℕ) → Reads n IsPointers pointers
unfolding pointers
reads_pointers n = reads_repeat (star ∷ []) push (reads_pointer n) (starts_filled (star ∷ []) IsPointer starts_pointer) []

-- ---- lines over others

pub starts_comma : {A : Type 0} (S : Spelling A) → Starts (comma ∷ []) (Sequence (One comma) (λ _. S))
starts_comma S = starts_sequence (comma ∷ []) (One comma) (starts_one comma) (λ _. S)

pub reads_listed : {A : Type 0} {n : ℕ} {S : Spelling A} {R : Reader A} → Reads n S R → Reads n (Listed S) (listed R)
reads_listed {n = n} {S = S} {R = R} h = reads_seq h (λ x.
    reads_repeat (comma ∷ []) push (reads_seq (reads_one n comma (Punct 45) refl) (λ _. h)) (starts_filled (comma ∷ []) (Sequence (One comma) (λ _. S)) (starts_comma S)) (x ∷ []))

pub reads_in_parens : {A : Type 0} {n : ℕ} {S : Spelling A} {R : Reader A} → Reads n S R → Reads (suc n) (In_parens S) (in_parens R)
reads_in_parens {n = n} h = reads_after (reads_one (suc n) open_paren (Punct 2) refl) (λ _. reads_seq h (λ x. reads_seq (reads_one n close_paren (Punct 3) refl) (λ _. reads_is n x)))
