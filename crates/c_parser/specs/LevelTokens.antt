-- The operators of the open levels in other words: by what was read at each level.
use Rattle.std.specs.Prelude.{ℕ, ◌+◌, if◌then◌else◌, List, [], ◌∷◌, map}
use Rattle.c_lexer.specs.declared.token.Token.{Token}
use Rattle.c_expr.specs.Codes.{code, one_of, open_bracket, close_bracket, open_paren, close_paren, open_brace, close_brace, comma, semicolon}
use Rattle.c_parser.specs.Nesting.{Levels, found_by, behind, is_operator}

-- the kinds of the tokens that were read at each open level, the newest first
abbrev pub Read : Type 0
Read = List (List ℕ)

-- a bracket that closes is read at the level that surrounds what it closes; the file's level stays open
abbrev pub closing : ℕ → List ℕ → Read → Read
closing k l [] = (k ∷ l) ∷ []
closing k l (o ∷ os) = (k ∷ o) ∷ os

-- one token more; a bracket that opens is read at the level that surrounds the new one
unfoldable pub read_further : ℕ → Read → Read
read_further k [] = []
read_further k (l ∷ ls) =
    if one_of (open_paren ∷ open_bracket ∷ open_brace ∷ []) k then [] ∷ (k ∷ l) ∷ ls
    else (if one_of (close_paren ∷ close_bracket ∷ close_brace ∷ []) k then closing k l ls else (k ∷ l) ∷ ls)

abbrev pub read_all : Read → List Token → Read
read_all ls [] = ls
read_all ls (t ∷ rest) = read_all (read_further (code t) ls) rest

-- the operators that were read since the last `,`, `;`, `{` or `}`, or since the start
abbrev pub operators_since : List ℕ → ℕ
operators_since [] = 0
operators_since (k ∷ ks) =
    if one_of (comma ∷ semicolon ∷ open_brace ∷ close_brace ∷ []) k then 0
    else (if is_operator k then operators_since ks + 1 else operators_since ks)

-- the levels behind some tokens
abbrev pub levels_behind : Levels → List Token → Levels
levels_behind s [] = s
levels_behind s (t ∷ rest) = levels_behind (behind (code t) (found_by (code t) s)) rest

-- the operators of the open levels, the innermost first
abbrev pub operators_in : Levels → List ℕ
operators_in s = s.innermost.operators ∷ map (λ l. l.operators) s.others
