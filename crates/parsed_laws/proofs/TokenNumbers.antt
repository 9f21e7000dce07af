-- The number and character constants among the tokens of bytes have 32 bits.
use Rattle.std.proofs.Common.{◌≡◌, ℕ, zero, suc, ◌+◌, ◌-◌, ◌==◌, ◌^◌, ◌<◌, Bool, true, false, List, [], ◌∷◌, ◌++◌, length, take, drop, refl, sym, subst, Option, Some, None, arith}
use Rattle.std.specs.Prelude.{not, ◌&&◌, ◌||◌, if◌then◌else◌, nat_lt, slice_index, option_map, option_and_then, IsTrue}
use Rattle.std.proofs.lemmas.Bool.Decides.{nat_tests}
use Rattle.srmt_base.specs.declared.ty.Ty.{Ty}
use Rattle.srmt_base.specs.declared.ty.Ty.TheVariants.{Int, UInt}
use Rattle.c_lexer.specs.declared.token.Token.{Token}
use Rattle.c_lexer.specs.declared.token.TokenKind.{TokenKind}
use Rattle.c_lexer.specs.declared.token.TokenKind.TheVariants.{Keyword, Name, Number, Character, Text, Punct}
use Rattle.c_lexer.specs.declared.piece.Piece.{Piece}
use Rattle.c_lexer.specs.declared.piece.Piece.TheVariants.{Blank, LineComment, BlockComment, Include, Lexeme}
use Rattle.c_lexer.specs.Tokens.{Bytes, type_for, constant_type, constant_value, value_in, byte_of, octal_len, hexadecimal_len, escape, escape_byte, first_byte, decoded_within, decoded, character_value, sole, one_byte, inner, IsToken, first_after, Cuts, line_feeds, tokens_of, AtEnd, Lexes}
use Rattle.typing_rules.specs.Laws.{Each}
use Rattle.typing_rules.proofs.LanguageNodesMade.{if_has}
use Rattle.running_laws.specs.HasNumbers.{IsConstant}
use Rattle.parsed_laws.specs.Parsed.{IsByte, AreBytes}
use Rattle.parsed_laws.proofs.Fitting.{KindFits, TokenFits}

-- ---- numbers

type_fits : (suffixed : Bool) (base value : ℕ) (ty : Ty) → type_for suffixed base value ≡ Some ty → value < 2 ^ 32
type_fits suffixed base value ty e =
    go (not suffixed && nat_lt value (2 ^ 31)) ((suffixed || not (base == 10)) && nat_lt value (2 ^ 32))
    (λ h. small (not suffixed) h) (λ h. large (suffixed || not (base == 10)) h) e
  where
    small : (a : Bool) → IsTrue (a && nat_lt value (2 ^ 31)) → value < 2 ^ 32
    small true h = grind (arith, nat_tests)
    small false h = absurd cc

    large : (a : Bool) → IsTrue (a && nat_lt value (2 ^ 32)) → value < 2 ^ 32
    large true h = grind (arith, nat_tests)
    large false h = absurd cc

    go : (a b : Bool) → (IsTrue a → value < 2 ^ 32) → (IsTrue b → value < 2 ^ 32) → (if a then Some Int else (if b then Some UInt else None)) ≡ Some ty
        → value < 2 ^ 32
    go true b f g q = f refl
    go false true f g q = g refl
    go false false f g q = absurd cc

number_fits : (word : Bytes) (ty : Ty) → constant_type word ≡ Some ty → IsConstant (constant_value word)
unfolding constant_type
number_fits word ty e = type_fits _ _ (constant_value word) ty e

-- ---- characters

abbrev IsByteIf : Option ℕ → Type 0
IsByteIf None = Unit {0}
IsByteIf (Some b) = IsByte b

abbrev BeginsIf : Option (ℕ × ℕ) → Type 0
BeginsIf None = Unit {0}
BeginsIf (Some p) = IsByte p.0

abbrev AreBytesIf : Option Bytes → Type 0
AreBytesIf None = Unit {0}
AreBytesIf (Some bytes) = AreBytes bytes

byte_of_fits : (value len : ℕ) → BeginsIf (byte_of value len)
byte_of_fits value len = go (nat_lt value 256) (λ h. below h)
  where
    below : IsTrue (nat_lt value 256) → value < 256
    below h = grind (arith, nat_tests)

    go : (test : Bool) → (IsTrue test → value < 256) → BeginsIf (if test then Some (value, len) else None)
    go true f = f refl
    go false f = tt

escape_byte_fits : (c : ℕ) → IsByteIf (escape_byte c)
escape_byte_fits c =
    if_has IsByteIf (c == 110) (Some 10) _ (omega arith) (if_has IsByteIf (c == 116) (Some 9) _ (omega arith)
    (if_has IsByteIf (c == 114) (Some 13) _ (omega arith) (if_has IsByteIf (c == 97) (Some 7) _ (omega arith)
    (if_has IsByteIf (c == 98) (Some 8) _ (omega arith) (if_has IsByteIf (c == 102) (Some 12) _ (omega arith)
    (if_has IsByteIf (c == 118) (Some 11) _ (omega arith) (go (c == 92 || c == 39 || c == 34 || c == 63) (λ h. itself h))))))))
  where
    itself : IsTrue (c == 92 || c == 39 || c == 34 || c == 63) → c < 256
    itself h = grind (arith, nat_tests)

    go : (test : Bool) → (IsTrue test → c < 256) → IsByteIf (if test then Some c else None)
    go true f = f refl
    go false f = tt

marked_fits : (o : Option ℕ) → IsByteIf o → BeginsIf (option_map (λ b. (b, 2)) o)
marked_fits None h = tt
marked_fits (Some b) h = h

escape_fits : (bytes : Bytes) → BeginsIf (escape bytes)
unfolding escape
escape_fits bytes =
    let octal = byte_of (value_in 8 (take (octal_len bytes) bytes)) (octal_len bytes + 1) in
    let hexadecimal = byte_of (value_in 16 (take (hexadecimal_len bytes) (drop 1 bytes))) (hexadecimal_len bytes + 2) in
    let marked : Option (ℕ × ℕ) = option_map (λ b. (b, 2)) (escape_byte (slice_index bytes 0)) in
    if_has BeginsIf (nat_lt 0 (octal_len bytes)) octal (if nat_lt 0 (hexadecimal_len bytes) then hexadecimal else marked)
    (byte_of_fits (value_in 8 (take (octal_len bytes) bytes)) (octal_len bytes + 1))
    (if_has BeginsIf (nat_lt 0 (hexadecimal_len bytes)) hexadecimal marked
    (byte_of_fits (value_in 16 (take (hexadecimal_len bytes) (drop 1 bytes))) (hexadecimal_len bytes + 2))
    (marked_fits (escape_byte (slice_index bytes 0)) (escape_byte_fits (slice_index bytes 0))))

first_fits : (b : ℕ) (bytes : Bytes) → IsByte b → BeginsIf (first_byte (b ∷ bytes))
first_fits b bytes h = if_has BeginsIf (b == 92) (escape bytes) (Some (b, 1)) (escape_fits bytes) h

drop_fits : (n : ℕ) (bytes : Bytes) → AreBytes bytes → AreBytes (drop n bytes)
drop_fits zero bytes h = h
drop_fits (suc n) [] h = tt
drop_fits (suc n) (b ∷ bytes) h = drop_fits n bytes h.1

take_fits : (n : ℕ) (bytes : Bytes) → AreBytes bytes → AreBytes (take n bytes)
take_fits zero bytes h = tt
take_fits (suc n) [] h = tt
take_fits (suc n) (b ∷ bytes) h = (h.0, take_fits n bytes h.1)

decoded_fits : (n : ℕ) (body : Bytes) → AreBytes body → AreBytesIf (decoded_within n body)
decoded_fits n [] h = tt
decoded_fits zero (b ∷ bytes) h = tt
decoded_fits (suc n) (b ∷ bytes) h = go (first_byte (b ∷ bytes)) (first_fits b bytes h.0) (λ m. decoded_fits n (drop m (b ∷ bytes)) (drop_fits m (b ∷ bytes) h))
  where
    more : (c : ℕ) (o : Option Bytes) → IsByte c → AreBytesIf o → AreBytesIf (option_map (λ others. c ∷ others) o)
    more c None p q = tt
    more c (Some others) p q = (p, q)

    go : (o : Option (ℕ × ℕ)) → BeginsIf o → ((m : ℕ) → AreBytesIf (decoded_within n (drop m (b ∷ bytes))))
        → AreBytesIf (option_and_then (λ first. option_map (λ others. first.0 ∷ others) (decoded_within n (drop first.1 (b ∷ bytes)))) o)
    go None p f = tt
    go (Some first) p f = more first.0 (decoded_within n (drop first.1 (b ∷ bytes))) p (f first.1)

sole_fits : (o : Option Bytes) → AreBytesIf o → IsByteIf (option_and_then sole o)
sole_fits None h = tt
sole_fits (Some []) h = tt
sole_fits (Some (b ∷ [])) h = h.0
sole_fits (Some (b ∷ c ∷ bytes)) h = tt

one_fits : (body : Bytes) → AreBytes body → IsByteIf (one_byte body)
unfolding one_byte decoded
one_fits body h = sole_fits (decoded_within (length body) body) (decoded_fits (length body) body h)

value_fits : (b : ℕ) → IsByte b → IsConstant (character_value b)
value_fits b h = go (nat_lt b 128)
  where
    go : (test : Bool) → IsConstant (if test then b else b + (2 ^ 32 - 2 ^ 8))
    go true = omega (arith, h)
    go false = omega (arith, h)

character_fits : (word : Bytes) (b : ℕ) → AreBytes word → one_byte (inner word) ≡ Some b → IsConstant (character_value b)
character_fits word b h e =
    value_fits b (subst IsByteIf e (one_fits (inner word) (take_fits (length word - 2) (drop 1 word) (drop_fits 1 word h))))

-- ---- tokens

kind_fits : (kind : TokenKind) (word rest : Bytes) → AreBytes word → IsToken kind word rest → KindFits kind
kind_fits (Keyword i) word rest h t = tt
kind_fits Name word rest h t = tt
kind_fits (Number ty value) word rest h t = subst IsConstant (sym t.3) (number_fits word ty t.2)
kind_fits (Character value) word rest h t = subst IsConstant (sym t.3) (character_fits word t.1 h t.2)
kind_fits Text word rest h t = tt
kind_fits (Punct i) word rest h t = tt

front_fits : (xs ys : Bytes) → AreBytes (xs ++ ys) → AreBytes xs
front_fits [] ys h = tt
front_fits (x ∷ xs) ys h = (h.0, front_fits xs ys h.1)

back_fits : (xs ys : Bytes) → AreBytes (xs ++ ys) → AreBytes ys
back_fits [] ys h = h
back_fits (x ∷ xs) ys h = back_fits xs ys h.1

pieces_fit : (first : Bool) (at line : ℕ) (ps : List (Piece × Bytes)) (bytes : Bytes) → AreBytes bytes → Cuts AtEnd first ps bytes
    → Each TokenFits (tokens_of at line ps)
pieces_fit first at line [] bytes h c = tt
pieces_fit first at line ((Blank, word) ∷ ps) bytes h c =
    pieces_fit (first_after first Blank word) (at + length word) (line + line_feeds word) ps c.0 (back_fits word c.0 (subst AreBytes c.1 h)) c.3
pieces_fit first at line ((LineComment, word) ∷ ps) bytes h c =
    pieces_fit (first_after first LineComment word) (at + length word) (line + line_feeds word) ps c.0 (back_fits word c.0 (subst AreBytes c.1 h)) c.3
pieces_fit first at line ((BlockComment, word) ∷ ps) bytes h c =
    pieces_fit (first_after first BlockComment word) (at + length word) (line + line_feeds word) ps c.0 (back_fits word c.0 (subst AreBytes c.1 h)) c.3
pieces_fit first at line ((Include, word) ∷ ps) bytes h c =
    pieces_fit (first_after first Include word) (at + length word) (line + line_feeds word) ps c.0 (back_fits word c.0 (subst AreBytes c.1 h)) c.3
pieces_fit first at line ((Lexeme kind, word) ∷ ps) bytes h c =
    let both : AreBytes (word ++ c.0) = subst AreBytes c.1 h in (
      kind_fits kind word c.0 (front_fits word c.0 both) c.2,
      pieces_fit (first_after first (Lexeme kind) word) (at + length word) (line + line_feeds word) ps c.0 (back_fits word c.0 both) c.3,
    )

pub tokens_fit : (bytes : Bytes) (tokens : List Token) → AreBytes bytes → Lexes bytes tokens → Each TokenFits tokens
tokens_fit bytes tokens h lexed = subst (Each TokenFits) (sym lexed.2) (pieces_fit true 0 1 lexed.0 bytes h lexed.1)
