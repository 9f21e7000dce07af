-- The laws of readers in the short forms in which the lines of the grammar use them.
use Rattle.std.proofs.Common.{◌≡◌, ℕ, suc, false, List, [], refl, Option, Some, inl, inr}
use Rattle.c_lexer.specs.declared.token.Token.{Token}
use Rattle.c_lexer.specs.declared.token.TokenKind.{TokenKind}
use Rattle.c_expr.specs.Codes.{Table, of_kind, of_table}
use Rattle.c_expr.specs.Spelling.{Spelling, Means, One, Sign, Is, Sequence, Grown, ◌or◌}
use Rattle.c_expr.specs.Reading.{Reader, begins, and_then, token, one, sign, pure, choose, grown}
use Rattle.c_expr.proofs.Alike.{Heads, begins_alike}
use Rattle.c_expr.proofs.Sound.{Reads, reads_sequence, reads_is, reads_token, reads_choose, reads_wider, gap_token, gap_same}
use Rattle.c_expr.proofs.Repeat.{Filled, reads_grown}

pub reads_seq : {A B : Type 0} {n : ℕ} {S : Spelling A} {R : Reader A} {T : A → Spelling B} {f : A → Reader B} → Reads n S R → ((a : A) → Reads n (T a) (f a)) → Reads n (Sequence S T) (λ w. and_then (R w) f)
reads_seq {n = n} {S = S} {R = R} {T = T} {f = f} h g = reads_sequence n n S R T f h g (gap_same n S)

pub reads_after : {A B : Type 0} {n : ℕ} {o : Token → Option A} {T : A → Spelling B} {f : A → Reader B} → Reads (suc n) (Means o) (token o) → ((a : A) → Reads n (T a) (f a)) → Reads (suc n) (Sequence (Means o) T) (λ w. and_then (token o w) f)
reads_after {n = n} {o = o} {T = T} {f = f} h g = reads_sequence (suc n) n (Means o) (token o) T f h g (gap_token n o)

pub reads_map : {A B : Type 0} {n : ℕ} {S : Spelling A} {R : Reader A} (f : A → B) → Reads n S R → Reads n (Sequence S (λ x. Is (f x))) (λ w. and_then (R w) (λ x. pure (f x)))
reads_map {n = n} f h = reads_seq h (λ x. reads_is n (f x))

pub heads_begins : (ks : List ℕ) → Heads (begins ks)
heads_begins ks r s alike = begins_alike ks r s alike

pub reads_if : {A : Type 0} {n : ℕ} {S T : Spelling A} {R Q : Reader A} (ks : List ℕ) → Reads n S R → Reads n T Q → Reads n (S or T) (choose (begins ks) R Q)
reads_if {n = n} {S = S} {T = T} {R = R} {Q = Q} ks s t = reads_choose n (begins ks) S T R Q s t (heads_begins ks)

or_swap : {A : Type 0} (S T : Spelling A) (x : A) (w : List Token) → (S or T) x w → (T or S) x w
or_swap S T x w (inl h) = inr h
or_swap S T x w (inr h) = inl h

-- the other line first
pub reads_swap : {A : Type 0} {n : ℕ} {S T : Spelling A} {R : Reader A} → Reads n (S or T) R → Reads n (T or S) R
reads_swap {n = n} {S = S} {T = T} {R = R} h = reads_wider n (S or T) (T or S) R (or_swap S T) h

ends_begins : (ks : List ℕ) → begins ks [] ≡ false
unfolding begins
ends_begins ks = refl

pub reads_repeat : {A B : Type 0} {n : ℕ} {S : Spelling B} {r : Reader B} (ks : List ℕ) (grow : A → B → A) → Reads n S r → Filled S → (a : A) → Reads n (Grown grow S a) (grown (begins ks) grow r a)
reads_repeat {n = n} {S = S} {r = r} ks grow h filled a = reads_grown n (begins ks) grow S r h (heads_begins ks) (ends_begins ks) filled a

-- a token with a kind, for samples
abbrev pub of : TokenKind → Token
of kind = record { kind = kind; start = 0; end = 0; line = 0 }

pub reads_one : (n k : ℕ) (kind : TokenKind) → of_kind k (of kind) ≡ Some (of kind) → Reads n (One k) (one k)
reads_one n k kind e = reads_token n (of_kind k) (of kind) (of kind) e

pub reads_sign : {A : Type 0} (n : ℕ) (table : Table A) (kind : TokenKind) (p : ℕ × A) → of_table table (of kind) ≡ Some p → Reads n (Sign table) (sign table)
reads_sign n table kind p e = reads_token n (of_table table) p (of kind) e
