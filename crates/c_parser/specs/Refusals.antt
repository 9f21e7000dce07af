-- Why the tokens of a source are no unit, and where.
use Rattle.std.specs.Prelude.{◌≡◌, ℕ, ◌<◌, Bool, false, not, if◌then◌else◌, List, [], ◌∷◌, ◌++◌, length, Some, IfSome}
use Rattle.c_lexer.specs.declared.token.Token.{Token}
use Rattle.c_lexer.specs.declared.token.TokenKind.{TokenKind}
use Rattle.c_lexer.specs.declared.token.TokenKind.TheVariants.{Keyword, Punct}
use Rattle.c_tree.specs.declared.unit.Unit.{Unit as TheUnit}
use Rattle.c_parser.specs.declared.refusal.ParseRefusal.{ParseRefusal}
use Rattle.c_parser.specs.declared.refusal.ParseRefusal.TheVariants.{Expected, LeftOut, TooDeep, Memory}
use Rattle.c_expr.specs.Codes.{keyword, one_of, specifier_starts, sizeof_word, do_word, else_word, for_word, if_word, while_word, break_word, continue_word, return_word}
use Rattle.c_expr.specs.Nodes.{Bytes}
use Rattle.c_parser.specs.Units.{Derives}
use Rattle.c_parser.specs.Nesting.{first_too_deep}

-- Tokens begin a unit where some tokens behind them complete one.
abbrev pub BeginsUnit : List Token → Bytes → Type 0
BeginsUnit tokens src = (more : List Token) × (unit : TheUnit) × Derives (tokens ++ more) src unit

-- The tokens stop being a unit in front of these last ones: those before begin a unit, and with the next one,
-- if there is one, they do not; or else the tokens end before a unit does.
abbrev pub Stops : List Token → Bytes → List Token → Type 0
Stops front src [] = (unit : TheUnit) → Derives front src unit → ⊥
Stops front src (t ∷ rest) = BeginsUnit (front ++ t ∷ []) src → ⊥

pub record RefusedAt (tokens : List Token) (src : Bytes) (front rest : List Token) : Type 0 where
  pub parts : tokens ≡ front ++ rest
  pub begins : BeginsUnit front src
  pub stops : Stops front src rest

-- the place of the first byte of the next token, or of the end of the source
abbrev pub place_in : Bytes → List Token → ℕ
place_in src [] = length src
place_in src (t ∷ rest) = t.start

-- the keywords that the grammar has
abbrev pub grammar_words : List ℕ
grammar_words = specifier_starts ++ sizeof_word ∷ if_word ∷ else_word ∷ while_word ∷ do_word ∷ for_word ∷ return_word ∷ break_word ∷ continue_word ∷ []

-- the places of the punctuators that it has not: `.`, `->` and `...`
abbrev pub left_out_marks : List ℕ
left_out_marks = 6 ∷ 7 ∷ 33 ∷ []

-- those, and the other keywords
abbrev pub is_left_out : TokenKind → Bool
is_left_out (Keyword i) = not (one_of grammar_words (keyword i))
is_left_out (Punct i) = one_of left_out_marks i
is_left_out _ = false

-- why the tokens stop in front of these
abbrev pub IsRefusalOf : Bytes → List Token → ParseRefusal → Type 0
IsRefusalOf src [] refusal = refusal ≡ Expected (length src)
IsRefusalOf src (t ∷ rest) refusal = refusal ≡ (if is_left_out t.kind then LeftOut t.start t.kind else Expected t.start)

-- no token up to and including the next one of these is nested too deeply
abbrev pub NoneTooDeep : List Token → List Token → Type 0
NoneTooDeep tokens front = IfSome (first_too_deep tokens) (λ deep. length front < deep)

-- The source is refused for this reason: the first token that is nested too deeply, where the tokens before it
-- begin a unit; or else where the tokens stop being a unit.
abbrev pub Refuses : List Token → Bytes → ParseRefusal → Type 0
Refuses tokens src (TooDeep place) = (front : List Token) × (t : Token) × (rest : List Token)
    × (tokens ≡ front ++ t ∷ rest) × (first_too_deep tokens ≡ Some (length front)) × BeginsUnit front src × (place ≡ t.start)
Refuses tokens src Memory = ⊥
Refuses tokens src refusal = (front rest : List Token) × RefusedAt tokens src front rest × NoneTooDeep tokens front × IsRefusalOf src rest refusal
