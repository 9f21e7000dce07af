-- How deeply a token is nested: a function of the tokens up to it, whether they spell anything or not.
use Rattle.std.specs.Prelude.{ℕ, suc, ◌+◌, ◌-◌, Bool, true, false, not, ◌||◌, ◌&&◌, if◌then◌else◌, ◌==◌, nat_lt, nat_le, List, [], ◌∷◌, Option, Some, None, option_map}
use Rattle.c_lexer.specs.declared.token.Token.{Token}
use Rattle.c_parser.specs.declared.nesting.Level.{Level}
use Rattle.c_expr.specs.Codes.{code, punct, one_of, open_bracket, close_bracket, open_paren, close_paren, open_brace, close_brace, comma, semicolon, sizeof_word, do_word, else_word, for_word, if_word, while_word}

abbrev pub started : Bool → Level
started brace = record { brace = brace; operators = 0; words = 0; dos = 0 }

-- The open levels in front of a token.
pub record Levels : Type 0 where
  pub innermost : Level
  pub others : List Level
  -- whether the token before is a `;` of the innermost level, or a `}` that closes a `{` of it
  pub ended : Bool

abbrev pub at_start : Levels
at_start = record { innermost = started false; others = []; ended = false }

-- the punctuators other than `, ; { } ) ]`, and `sizeof`
abbrev pub is_operator : ℕ → Bool
is_operator k = k == sizeof_word || (nat_le (punct 0) k && not (one_of (comma ∷ semicolon ∷ open_brace ∷ close_brace ∷ close_paren ∷ close_bracket ∷ []) k))

abbrev pub is_nesting_word : ℕ → Bool
is_nesting_word k = one_of (if_word ∷ else_word ∷ while_word ∷ do_word ∷ for_word ∷ []) k

-- What a `;` or `}` does, at sight of the token behind it: a `while` ends the newest open `do`; with no `do` open,
-- and no `else` behind it, it ends a statement.
abbrev pub behind_end : ℕ → Level → Level
behind_end k l =
    if nat_lt 0 l.dos then (if k == while_word then record l { dos = l.dos - 1 } else l)
    else (if k == else_word then l else record l { words = 0 })

abbrev pub settled : Level → Level → Bool → Level
settled l l' true = l'
settled l l' false = l

-- the levels as a token of a kind finds them
unfoldable pub found_by : ℕ → Levels → Levels
found_by k s = record { innermost = settled s.innermost (behind_end k s.innermost) s.ended; others = s.others; ended = false }

-- a bracket that opens begins a level inside the innermost
abbrev pub opened : Level → Bool → List Level → Levels
opened l brace others = record { innermost = started brace; others = l ∷ others; ended = false }

-- a `}` is read at the level that surrounds what it closes, and ends its operators
abbrev pub around_closed : Bool → Level → Level
around_closed true l = record l { operators = 0 }
around_closed false l = l

-- a bracket that closes leaves the level that surrounds the innermost; the file's level stays
abbrev pub closed : Level → Bool → List Level → Levels
closed l by_brace [] = record { innermost = around_closed by_brace l; others = []; ended = false }
closed l by_brace (o ∷ os) = record { innermost = around_closed by_brace o; others = os; ended = by_brace && l.brace }

abbrev pub counted : ℕ → Level → Level
counted k l =
    if is_nesting_word k then record l { words = l.words + 1; dos = (if k == do_word then l.dos + 1 else l.dos) }
    else (if is_operator k then record l { operators = l.operators + 1 }
    else (if one_of (comma ∷ semicolon ∷ open_brace ∷ []) k then record l { operators = 0 } else l))

-- the levels behind a token of a kind, which is read at the innermost
unfoldable pub behind : ℕ → Levels → Levels
behind k s =
    let here = counted k s.innermost in
    if one_of (open_paren ∷ open_bracket ∷ open_brace ∷ []) k then opened here (k == open_brace) s.others
    else (if one_of (close_paren ∷ close_bracket ∷ close_brace ∷ []) k then closed here (k == close_brace) s.others
    else record { innermost = here; others = s.others; ended = k == semicolon })

abbrev pub weight : Level → ℕ
weight l = l.operators + l.words

-- levels around others: their brackets, and the operators and words read at them
abbrev pub around : List Level → ℕ
around [] = 0
around (l ∷ ls) = suc (weight l) + around ls

-- the open brackets, and the operators and words of all open levels
unfoldable pub nesting_in : Levels → ℕ
nesting_in s = around s.others + weight s.innermost

-- the nesting of each token, the levels before the first being these
unfoldable pub nestings : Levels → List Token → List ℕ
nestings s [] = []
nestings s (t ∷ rest) = let here = found_by (code t) s in nesting_in here ∷ nestings (behind (code t) here) rest

abbrev pub max_nesting : ℕ
max_nesting = 400

-- the place of the first number that is too large
unfoldable pub first_above : List ℕ → Option ℕ
first_above [] = None
first_above (n ∷ ns) = if nat_lt max_nesting n then Some 0 else option_map (λ k. suc k) (first_above ns)

-- the first token that is nested too deeply, if there is one
unfoldable pub first_too_deep : List Token → Option ℕ
first_too_deep tokens = first_above (nestings at_start tokens)
