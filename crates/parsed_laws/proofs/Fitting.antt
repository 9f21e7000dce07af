-- What the lines of a grammar spell of tokens whose numbers have 32 bits is such, where their parts are.
use Rattle.std.proofs.Common.{List, [], ◌∷◌, ◌++◌, sym, subst, Some, inl, inr}
use Rattle.std.specs.Prelude.{fold}
use Rattle.c_lexer.specs.declared.token.Token.{Token}
use Rattle.c_lexer.specs.declared.token.TokenKind.{TokenKind}
use Rattle.c_lexer.specs.declared.token.TokenKind.TheVariants.{Keyword, Name, Number, Character, Text, Punct}
use Rattle.c_expr.specs.Spelling.{Spelling, Is, Sequence, ◌<$>◌, ◌or◌, Never, Many, Grown, Further, Some_of, Listed, Maybe, In_parens, push}
use Rattle.typing_rules.specs.Laws.{Each}
use Rattle.typing_rules.proofs.Keeping.{each_append}
use Rattle.typing_laws.specs.LanguagePrograms.{IfThere}
use Rattle.running_laws.specs.HasNumbers.{IsConstant}
use Rattle.parsed_laws.proofs.Spelled.{Any}

abbrev pub KindFits : TokenKind → Type 0
KindFits (Keyword i) = Unit {0}
KindFits Name = Unit {0}
KindFits (Number ty value) = IsConstant value
KindFits (Character value) = IsConstant value
KindFits Text = Unit {0}
KindFits (Punct i) = Unit {0}

abbrev pub TokenFits : Token → Type 0
TokenFits t = KindFits t.kind

pub record Fits {A : Type 0} (P : A → Type 0) (S : Spelling A) : Type 0 where
  pub fits : (x : A) (w : List Token) → Each TokenFits w → S x w → P x

first_of : {A : Type 0} (P : A → Type 0) (xs ys : List A) → Each P (xs ++ ys) → Each P xs
first_of P [] ys h = tt
first_of P (x ∷ xs) ys h = (h.0, first_of P xs ys h.1)

second_of : {A : Type 0} (P : A → Type 0) (xs ys : List A) → Each P (xs ++ ys) → Each P ys
second_of P [] ys h = h
second_of P (x ∷ xs) ys h = second_of P xs ys h.1

pub fits_any : {A : Type 0} {S : Spelling A} → Fits Any S
fits_any = record { fits = λ x w t h. tt }

pub fits_is : {A : Type 0} {P : A → Type 0} {a : A} → P a → Fits P (Is a)
fits_is {P = P} p = record { fits = λ x w t h. subst P (sym h.0) p }

pub fits_never : {A : Type 0} {P : A → Type 0} → Fits P Never
fits_never = record { fits = λ x w t h. absurd h }

pub fits_bind : {A B : Type 0} {P : A → Type 0} {Q : B → Type 0} {S : Spelling A} {T : A → Spelling B}
    → Fits P S → ((a : A) → P a → Fits Q (T a)) → Fits Q (Sequence S T)
fits_bind s r = record {
  fits = λ x w t h.
      let parts : Each TokenFits (h.front ++ h.back) = subst (Each TokenFits) h.parts t in
      (r h.of (s.fits h.of h.front (first_of TokenFits h.front h.back parts) h.first)).fits x h.back (second_of TokenFits h.front h.back parts) h.second;
}

-- behind a part of which nothing is asked
pub fits_then : {A B : Type 0} {Q : B → Type 0} {S : Spelling A} {T : A → Spelling B} → ((a : A) → Fits Q (T a)) → Fits Q (Sequence S T)
fits_then r = fits_bind {P = Any} fits_any (λ a u. r a)

pub fits_map : {A B : Type 0} {P : A → Type 0} {Q : B → Type 0} {S : Spelling A} (f : A → B)
    → Fits P S → ((a : A) → P a → Q (f a)) → Fits Q (f <$> S)
fits_map f s g = fits_bind s (λ a p. fits_is (g a p))

pub fits_or : {A : Type 0} {P : A → Type 0} {S T : Spelling A} → Fits P S → Fits P T → Fits P (S or T)
fits_or s t = record { fits = λ x w k h. elim h [ inl p ↦ s.fits x w k p | inr p ↦ t.fits x w k p ] }

pub fits_maybe : {A : Type 0} {P : A → Type 0} {S : Spelling A} → Fits P S → Fits (IfThere P) (Maybe S)
fits_maybe s = fits_or (fits_map Some s (λ a p. p)) (fits_is tt)

pub fits_parens : {A : Type 0} {P : A → Type 0} {S : Spelling A} → Fits P S → Fits P (In_parens S)
fits_parens s = fits_then (λ t. fits_bind s (λ x p. fits_then (λ u. fits_is p)))

-- ---- lists

many_fit : {A : Type 0} {P : A → Type 0} {S : Spelling A} → Fits P S → (xs : List A) (w : List Token) → Each TokenFits w → Many S xs w → Each P xs
many_fit s [] w t h = tt
many_fit s (x ∷ xs) w t h =
    let parts : Each TokenFits (h.0 ++ h.1) = subst (Each TokenFits) h.2 t in
    (s.fits x h.0 (first_of TokenFits h.0 h.1 parts) h.3, many_fit s xs h.1 (second_of TokenFits h.0 h.1 parts) h.4)

folded : {A B : Type 0} (P : A → Type 0) (Q : B → Type 0) (grow : A → B → A) → ((a : A) (b : B) → P a → Q b → P (grow a b)) → (a : A) (ys : List B) → P a
    → Each Q ys → P (fold grow a ys)
folded P Q grow g a [] p h = p
folded P Q grow g a (y ∷ ys) p h = folded P Q grow g (grow a y) ys (g a y p h.0) h.1

pub fits_grown : {A B : Type 0} {P : A → Type 0} {Q : B → Type 0} {S : Spelling B} (grow : A → B → A) → ((a : A) (b : B) → P a → Q b → P (grow a b))
    → Fits Q S → (a : A) → P a → Fits P (Grown grow S a)
fits_grown {P = P} {Q = Q} grow g s a p =
    record { fits = λ x w t h. subst P (sym h.2) (folded P Q grow g a h.0 p (many_fit s h.0 w t h.1)) }

pub fits_further : {A : Type 0} {P : A → Type 0} {S : Spelling A} (xs : List A) → Each P xs → Fits P S → Fits (Each P) (Further S xs)
fits_further {P = P} xs each s = fits_grown {P = Each P} push (λ ys y p q. each_append P ys (y ∷ []) p (q, tt)) s xs each

pub fits_some : {A : Type 0} {P : A → Type 0} {S : Spelling A} → Fits P S → Fits (Each P) (Some_of S)
fits_some s = fits_bind s (λ x p. fits_further (x ∷ []) (p, tt) s)

pub fits_listed : {A : Type 0} {P : A → Type 0} {S : Spelling A} → Fits P S → Fits (Each P) (Listed S)
fits_listed s = fits_bind s (λ x p. fits_further (x ∷ []) (p, tt) (fits_then (λ t. s)))
