-- The bytes of a token, cut out of a source however long.
use Rattle.std.proofs.Common.{◌≡◌, ℕ, ◌-◌, List, [], length, take, drop, min, refl, ap, ◌∙◌, arith, Option}
use Rattle.std.specs.Option.{unwrap_or}
use Rattle.std.proofs.Math.Seq.{take-length}
use Rattle.std.proofs.lemmas.List.{take_min, drop_min}
use Rattle.c_lexer.specs.declared.token.Token.{Token}
use Rattle.c_lexer.specs.Tokens.{text_bytes, decoded, inner}
use Rattle.c_expr.specs.Nodes.{text_of}

pub part_is : (src : List ℕ) (start len : ℕ) → take (min len (length (drop (min start (length src)) src))) (drop (min start (length src)) src) ≡ take len (drop start src)
part_is src start len = take_min len (drop (min start (length src)) src) ∙ ap (take len) (drop_min start src)

whole : (part : List ℕ) → take (length part - 0) part ≡ part
whole part = let e : length part - 0 ≡ length part = omega arith in rw e (take-length part)

pub text_is : (src part : List ℕ) (t : Token) → part ≡ take (t.end - t.start) (drop t.start src) → text_bytes part (record { kind = t.kind; start = 0; end = length part; line = t.line }) ≡ text_bytes src t
text_is src part t e = ap (λ (p : List ℕ). decoded (inner p)) (whole part ∙ e)

pub text_of_is : (src : List ℕ) (t : Token) (found : Option (List ℕ)) → found ≡ text_bytes src t → unwrap_or found [] ≡ text_of src t
unfolding text_of
text_of_is src t found e = rw e refl
