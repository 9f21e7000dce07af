-- The kinds of tokens by number, and the tables of operators and words (C11 6.4.1, 6.4.6, 6.5, 6.7).
use Rattle.std.specs.Prelude.{ℕ, zero, suc, ◌+◌, Bool, true, false, nat_le, ◌&&◌, ◌||◌, if◌then◌else◌, ◌==◌, List, [], ◌∷◌, Option, Some, None, option_map}
use Rattle.srmt_base.specs.declared.op.Op.{Op}
use Rattle.srmt_base.specs.declared.op.Op.TheVariants as o
use Rattle.c_lexer.specs.declared.token.Token.{Token}
use Rattle.c_lexer.specs.declared.token.TokenKind.{TokenKind}
use Rattle.c_lexer.specs.declared.token.TokenKind.TheVariants.{Keyword, Name, Number, Character, Text, Punct}
use Rattle.c_tree.specs.declared.operator.BinaryOp.{BinaryOp}
use Rattle.c_tree.specs.declared.operator.BinaryOp.TheVariants as b
use Rattle.c_tree.specs.declared.operator.CompoundOp.{CompoundOp}
use Rattle.c_tree.specs.declared.operator.CompoundOp.TheVariants as c
use Rattle.c_tree.specs.declared.operator.PrefixOp.{PrefixOp}
use Rattle.c_tree.specs.declared.operator.PrefixOp.TheVariants as p
use Rattle.c_tree.specs.declared.operator.PostfixOp.{PostfixOp}
use Rattle.c_tree.specs.declared.operator.PostfixOp.TheVariants as q
use Rattle.c_tree.specs.declared.specifier.SpecifierWord.{SpecifierWord}
use Rattle.c_tree.specs.declared.specifier.SpecifierWord.TheVariants as s

-- a number for each kind of token, whatever its value; there are fewer than 256 keywords
abbrev pub keyword : ℕ → ℕ
keyword i = 256 + i

abbrev pub punct : ℕ → ℕ
punct i = 512 + i

abbrev pub name : ℕ
name = 0

abbrev pub number : ℕ
number = 1

abbrev pub character : ℕ
character = 2

abbrev pub text : ℕ
text = 3

abbrev pub code_of : TokenKind → ℕ
code_of Name = name
code_of (Number ty value) = number
code_of (Character value) = character
code_of Text = text
code_of (Keyword i) = keyword i
code_of (Punct i) = punct i

abbrev pub code : Token → ℕ
code t = code_of t.kind

-- ---- punctuators, by their place in the lexer's table

abbrev pub open_bracket : ℕ
open_bracket = punct 0

abbrev pub close_bracket : ℕ
close_bracket = punct 1

abbrev pub open_paren : ℕ
open_paren = punct 2

abbrev pub close_paren : ℕ
close_paren = punct 3

abbrev pub open_brace : ℕ
open_brace = punct 4

abbrev pub close_brace : ℕ
close_brace = punct 5

abbrev pub star : ℕ
star = punct 11

abbrev pub question : ℕ
question = punct 30

abbrev pub colon : ℕ
colon = punct 31

abbrev pub semicolon : ℕ
semicolon = punct 32

abbrev pub equals : ℕ
equals = punct 34

abbrev pub comma : ℕ
comma = punct 45

-- ---- keywords, by their place in the lexer's table

abbrev pub break_word : ℕ
break_word = keyword 1

abbrev pub continue_word : ℕ
continue_word = keyword 5

abbrev pub do_word : ℕ
do_word = keyword 7

abbrev pub else_word : ℕ
else_word = keyword 9

abbrev pub for_word : ℕ
for_word = keyword 13

abbrev pub if_word : ℕ
if_word = keyword 15

abbrev pub return_word : ℕ
return_word = keyword 21

abbrev pub sizeof_word : ℕ
sizeof_word = keyword 24

abbrev pub while_word : ℕ
while_word = keyword 33

-- ---- tables

-- kinds of tokens with what they mean
abbrev pub Table : Type 0 → Type 0
Table A = List (ℕ × A)

-- what the table says of a kind, if it has it
abbrev pub meaning : {A : Type 0} → Table A → ℕ → Option A
meaning [] c = None
meaning (e ∷ es) c = if c == e.0 then Some e.1 else meaning es c

-- the kinds that the table has
abbrev pub kinds : {A : Type 0} → Table A → List ℕ
kinds [] = []
kinds (e ∷ es) = e.0 ∷ kinds es

-- whether the kind is one of these
abbrev pub one_of : List ℕ → ℕ → Bool
one_of [] c = false
one_of (k ∷ ks) c = c == k || one_of ks c

-- The operators between two operands, by level from 0, the tightest first (C11 6.5.5 to 6.5.14).
unfoldable pub binary_operators : ℕ → Table BinaryOp
binary_operators zero = (punct 11, b.Arithmetic o.Mul) ∷ (punct 16, b.Arithmetic o.Div) ∷ (punct 17, b.Arithmetic o.Rem) ∷ []
binary_operators (suc zero) = (punct 12, b.Arithmetic o.Add) ∷ (punct 13, b.Arithmetic o.Sub) ∷ []
binary_operators (suc (suc zero)) = (punct 18, b.Arithmetic o.Shl) ∷ (punct 19, b.Arithmetic o.Shr) ∷ []
binary_operators (suc (suc (suc zero))) = (punct 20, b.Arithmetic o.Lt) ∷ (punct 21, b.Arithmetic o.Gt) ∷ (punct 22, b.Arithmetic o.Le) ∷ (punct 23, b.Arithmetic o.Ge) ∷ []
binary_operators (suc (suc (suc (suc zero)))) = (punct 24, b.Arithmetic o.Eq) ∷ (punct 25, b.Arithmetic o.Ne) ∷ []
binary_operators (suc (suc (suc (suc (suc zero))))) = (punct 10, b.Arithmetic o.And) ∷ []
binary_operators (suc (suc (suc (suc (suc (suc zero)))))) = (punct 26, b.Arithmetic o.Xor) ∷ []
binary_operators (suc (suc (suc (suc (suc (suc (suc zero))))))) = (punct 27, b.Arithmetic o.Or) ∷ []
binary_operators (suc (suc (suc (suc (suc (suc (suc (suc zero)))))))) = (punct 28, b.And) ∷ []
binary_operators (suc (suc (suc (suc (suc (suc (suc (suc (suc zero))))))))) = (punct 29, b.Or) ∷ []
binary_operators (suc (suc (suc (suc (suc (suc (suc (suc (suc (suc more)))))))))) = []

-- how many levels there are
abbrev pub levels : ℕ
levels = 10

-- a kind from `&` to `||`, among which all of these operators are
abbrev pub is_among_binary : ℕ → Bool
is_among_binary k = nat_le (punct 10) k && nat_le k (punct 29)

-- The operators of assignment, of which all but the first are compound (C11 6.5.16).
abbrev pub assignment_operators : Table (Option CompoundOp)
assignment_operators =
    (punct 34, None) ∷ (punct 35, Some c.Mul) ∷ (punct 36, Some c.Div) ∷ (punct 37, Some c.Rem) ∷ (punct 38, Some c.Add) ∷ (punct 39, Some c.Sub)
    ∷ (punct 40, Some c.Shl) ∷ (punct 41, Some c.Shr) ∷ (punct 42, Some c.And) ∷ (punct 43, Some c.Xor) ∷ (punct 44, Some c.Or) ∷ []

-- `++` and `--` before a unary expression (C11 6.5.3.1)
abbrev pub step_operators : Table PrefixOp
step_operators = (punct 8, p.Increment) ∷ (punct 9, p.Decrement) ∷ []

-- the unary operators, before a cast expression (C11 6.5.3.2, 6.5.3.3)
abbrev pub unary_operators : Table PrefixOp
unary_operators =
    (punct 10, p.AddressOf) ∷ (punct 11, p.Indirection) ∷ (punct 12, p.Plus) ∷ (punct 13, p.Minus) ∷ (punct 14, p.Complement) ∷ (punct 15, p.Not) ∷ []

-- `++` and `--` behind a postfix expression (C11 6.5.2.4)
abbrev pub postfix_operators : Table PostfixOp
postfix_operators = (punct 8, q.Increment) ∷ (punct 9, q.Decrement) ∷ []

-- the words of specifiers (C11 6.7.1 to 6.7.3)
abbrev pub specifier_words : Table SpecifierWord
specifier_words =
    (keyword 25, s.Static) ∷ (keyword 11, s.Extern) ∷ (keyword 4, s.Const) ∷ (keyword 32, s.Volatile) ∷ (keyword 31, s.Void) ∷ (keyword 37, s.Bool)
    ∷ (keyword 3, s.Char) ∷ (keyword 22, s.Short) ∷ (keyword 17, s.Int) ∷ (keyword 23, s.Signed) ∷ (keyword 30, s.Unsigned) ∷ []

-- the qualifiers of a pointer, and whether each is `const` (C11 6.7.3)
abbrev pub qualifiers : Table Bool
qualifiers = (keyword 4, true) ∷ (keyword 32, false) ∷ []

-- ---- tokens that mean something

-- a token of a kind
abbrev pub of_kind : ℕ → Token → Option Token
of_kind k t = if code t == k then Some t else None

-- the line of a token of a table, and its meaning
abbrev pub of_table : {A : Type 0} → Table A → Token → Option (ℕ × A)
of_table table t = option_map (λ a. (t.line, a)) (meaning table (code t))

-- ---- what a part begins with

abbrev pub specifier_starts : List ℕ
specifier_starts = kinds specifier_words

-- what stands behind a postfix expression
abbrev pub postfix_starts : List ℕ
postfix_starts = open_bracket ∷ open_paren ∷ kinds postfix_operators

abbrev pub suffix_starts : List ℕ
suffix_starts = open_bracket ∷ open_paren ∷ []

-- a declarator that may or may not have a name
abbrev pub declarator_starts : List ℕ
declarator_starts = star ∷ open_bracket ∷ open_paren ∷ name ∷ []

-- a declarator that has none
abbrev pub abstract_starts : List ℕ
abstract_starts = star ∷ open_bracket ∷ open_paren ∷ []

-- what follows the `(` of a list of parameters, and of nothing else in a declarator
abbrev pub parameter_starts : List ℕ
parameter_starts = close_paren ∷ specifier_starts
