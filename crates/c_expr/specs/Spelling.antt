-- What a line of the grammar is made of. A spelling says of a value and a list of tokens that the tokens spell
-- the value.
use Rattle.std.specs.Prelude.{◌≡◌, ℕ, ◌⊎◌, List, [], ◌∷◌, ◌++◌, fold, Option, Some, None}
use Rattle.c_lexer.specs.declared.token.Token.{Token}
use Rattle.c_expr.specs.Codes.{Table, open_paren, close_paren, comma, of_kind, of_table}

abbrev pub Spelling : Type 0 → Type 1
Spelling A = A → List Token → Type 0

-- one token that means this
abbrev pub Means : {A : Type 0} → (Token → Option A) → Spelling A
Means f x w = (t : Token) × (w ≡ t ∷ []) × (f t ≡ Some x)

-- one token of a kind
abbrev pub One : ℕ → Spelling Token
One k = Means (of_kind k)

-- one token of a table: its line and its meaning
abbrev pub Sign : {A : Type 0} → Table A → Spelling (ℕ × A)
Sign table = Means (of_table table)

-- no token, and this value
abbrev pub Is : {A : Type 0} → A → Spelling A
Is a x w = (x ≡ a) × (w ≡ [])

-- one line, and behind it another that may depend on its value
pub record Sequence {A B : Type 0} (S : Spelling A) (T : A → Spelling B) (x : B) (w : List Token) : Type 0 where
  pub of : A
  pub front : List Token
  pub back : List Token
  pub parts : w ≡ front ++ back
  pub first : S of front
  pub second : T of x back

infixl 10 ◌>>=◌
abbrev pub ◌>>=◌ : {A B : Type 0} → Spelling A → (A → Spelling B) → Spelling B
S >>= T = Sequence S T

infixl 10 ◌>>◌
abbrev pub ◌>>◌ : {A B : Type 0} → Spelling A → Spelling B → Spelling B
S >> T = Sequence S (λ _. T)

infixr 11 ◌<$>◌
abbrev pub ◌<$>◌ : {A B : Type 0} → (A → B) → Spelling A → Spelling B
f <$> S = Sequence S (λ x. Is (f x))

-- one of two lines
infixr 9 ◌or◌
abbrev pub ◌or◌ : {A : Type 0} → Spelling A → Spelling A → Spelling A
(S or T) x w = S x w ⊎ T x w

-- no tokens
abbrev pub Never : {A : Type 0} → Spelling A
Never x w = ⊥

-- any number of values, one behind the other
abbrev pub Many : {A : Type 0} → Spelling A → Spelling (List A)
Many S [] w = w ≡ []
Many S (x ∷ xs) w = (front back : List Token) × (w ≡ front ++ back) × S x front × Many S xs back

-- what was spelled so far grows by any number of values, from the left
abbrev pub Grown : {A B : Type 0} → (A → B → A) → Spelling B → A → Spelling A
Grown grow S a x w = (ys : List _) × Many S ys w × (x ≡ fold grow a ys)

abbrev pub push : {A : Type 0} → List A → A → List A
push xs x = xs ++ x ∷ []

-- these values, and any number more
abbrev pub Further : {A : Type 0} → Spelling A → List A → Spelling (List A)
Further S xs = Grown push S xs

-- at least one
abbrev pub Some_of : {A : Type 0} → Spelling A → Spelling (List A)
Some_of S = S >>= (λ x. Further S (x ∷ []))

-- at least one, with commas between
abbrev pub Listed : {A : Type 0} → Spelling A → Spelling (List A)
Listed S = S >>= (λ x. Further (One comma >> S) (x ∷ []))

-- this line or nothing
abbrev pub Maybe : {A : Type 0} → Spelling A → Spelling (Option A)
Maybe S = (Some <$> S) or Is None

abbrev pub In_parens : {A : Type 0} → Spelling A → Spelling A
In_parens S = do
  One open_paren
  x ← S
  One close_paren
  Is x

-- the line of the first token
abbrev pub line_at : List Token → ℕ
line_at [] = 0
line_at (t ∷ rest) = t.line

-- with the line of its first token
abbrev pub Located : {A : Type 0} → (ℕ → Spelling A) → Spelling A
Located S x w = S (line_at w) x w
