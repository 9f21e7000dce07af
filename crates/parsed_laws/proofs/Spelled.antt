-- What the lines of a grammar spell is such, where their parts are.
use Rattle.std.proofs.Common.{◌≤◌, List, [], ◌∷◌, length, sym, subst, Some, inl, inr, arith, length-append}
use Rattle.std.specs.Prelude.{fold}
use Rattle.c_lexer.specs.declared.token.Token.{Token}
use Rattle.c_expr.specs.Spelling.{Spelling, Is, Sequence, ◌<$>◌, ◌or◌, Never, Many, Further, Listed, Maybe, push}
use Rattle.typing_rules.specs.Laws.{Each}
use Rattle.typing_rules.proofs.Keeping.{each_append}
use Rattle.typing_laws.specs.LanguagePrograms.{IfThere}

pub record Spells {A : Type 0} (P : A → Type 0) (S : Spelling A) : Type 0 where
  pub spelled : (x : A) (w : List Token) → S x w → P x

-- nothing is asked of a value
abbrev pub Any : {A : Type 0} → A → Type 0
Any x = Unit {0}

pub spells_any : {A : Type 0} {S : Spelling A} → Spells Any S
spells_any = record { spelled = λ x w h. tt }

pub spells_is : {A : Type 0} {P : A → Type 0} {a : A} → P a → Spells P (Is a)
spells_is {P = P} p = record { spelled = λ x w h. subst P (sym h.0) p }

pub spells_never : {A : Type 0} {P : A → Type 0} → Spells P Never
spells_never = record { spelled = λ x w h. absurd h }

pub spells_bind : {A B : Type 0} {P : A → Type 0} {Q : B → Type 0} {S : Spelling A} {T : A → Spelling B}
    → Spells P S → ((a : A) → P a → Spells Q (T a)) → Spells Q (Sequence S T)
spells_bind s t = record { spelled = λ x w h. (t h.of (s.spelled h.of h.front h.first)).spelled x h.back h.second }

pub spells_map : {A B : Type 0} {P : A → Type 0} {Q : B → Type 0} {S : Spelling A} (f : A → B)
    → Spells P S → ((a : A) → P a → Q (f a)) → Spells Q (f <$> S)
spells_map f s g = spells_bind s (λ a p. spells_is (g a p))

pub spells_or : {A : Type 0} {P : A → Type 0} {S T : Spelling A} → Spells P S → Spells P T → Spells P (S or T)
spells_or s t = record { spelled = λ x w h. elim h [ inl p ↦ s.spelled x w p | inr p ↦ t.spelled x w p ] }

pub spells_maybe : {A : Type 0} {P : A → Type 0} {S : Spelling A} → Spells P S → Spells (IfThere P) (Maybe S)
spells_maybe s = spells_or (spells_map Some s (λ a p. p)) (spells_is tt)

-- ---- lists

many_are : {A : Type 0} {P : A → Type 0} {S : Spelling A} → Spells P S → (xs : List A) (w : List Token) → Many S xs w → Each P xs
many_are s [] w h = tt
many_are s (x ∷ xs) w h = (s.spelled x h.0 h.3, many_are s xs h.1 h.4)

pushed_are : {A : Type 0} (P : A → Type 0) (xs ys : List A) → Each P xs → Each P ys → Each P (fold push xs ys)
pushed_are P xs [] h k = h
pushed_are P xs (y ∷ ys) h k = pushed_are P (push xs y) ys (each_append P xs (y ∷ []) h (k.0, tt)) k.1

pub spells_further : {A : Type 0} {P : A → Type 0} {S : Spelling A} (xs : List A) → Each P xs → Spells P S → Spells (Each P) (Further S xs)
spells_further {P = P} xs each s =
    record { spelled = λ x w h. subst (Each P) (sym h.2) (pushed_are P xs h.0 each (many_are s h.0 w h.1)) }

pub spells_listed : {A : Type 0} {P : A → Type 0} {S : Spelling A} → Spells P S → Spells (Each P) (Listed S)
spells_listed s = spells_bind s (λ x p. spells_further (x ∷ []) (p, tt) (spells_bind spells_any (λ t u. s)))

-- a list with commas between is never empty
abbrev pub HasOne : {A : Type 0} → List A → Type 0
HasOne xs = 1 ≤ length xs

pushed_has_one : {A : Type 0} (xs ys : List A) → HasOne xs → HasOne (fold push xs ys)
pushed_has_one xs [] h = h
pushed_has_one xs (y ∷ ys) h = pushed_has_one (push xs y) ys (omega (arith, h, length-append xs (y ∷ [])))

pub spells_one : {A : Type 0} {S : Spelling A} → Spells HasOne (Listed S)
spells_one = record { spelled = λ x w h. subst HasOne (sym h.second.2) (pushed_has_one (h.of ∷ []) h.second.0 (omega arith)) }
