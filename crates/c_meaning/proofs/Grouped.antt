-- Longer chains of things that follow one another, and what is known of the result of one.
use Rattle.std.proofs.Common.{◌≡◌, Bool, true, false, refl, ◌∙◌}
use Rattle.source_meaning.specs.World.{World, Outcome, Gives, Ends, Doing, and_then, ◌>>=◌, either}
use Rattle.source_meaning.proofs.Associates.{then_then, then_same}

pub two_then : {A B C D : Type 0} (m : Doing A) (n : A → Doing B) (f : A → B → Doing C) (g : C → Doing D) (w : World)
    → ((m >>= (λ x. n x >>= f x)) >>= g) w ≡ (m >>= (λ x. n x >>= (λ y. f x y >>= g))) w
two_then m n f g w = then_then m (λ x. n x >>= f x) g w ∙ then_same m _ _ (λ x u. then_then (n x) (f x) g u) w

pub three_then : {A B C D E : Type 0} (m : Doing A) (n : A → Doing B) (o : A → B → Doing C) (f : A → B → C → Doing D) (g : D → Doing E) (w : World)
    → ((m >>= (λ x. n x >>= (λ y. o x y >>= f x y))) >>= g) w ≡ (m >>= (λ x. n x >>= (λ y. o x y >>= (λ z. f x y z >>= g)))) w
three_then m n o f g w =
    then_then m (λ x. n x >>= (λ y. o x y >>= f x y)) g w ∙ then_same m _ _ (λ x u. two_then (n x) (o x) (f x) g u) w

pub four_then : {A B C D E F : Type 0} (m : Doing A) (n : A → Doing B) (o : A → B → Doing C) (p : A → B → C → Doing D)
    (f : A → B → C → D → Doing E) (g : E → Doing F) (w : World)
    → ((m >>= (λ x. n x >>= (λ y. o x y >>= (λ z. p x y z >>= f x y z)))) >>= g) w
    ≡ (m >>= (λ x. n x >>= (λ y. o x y >>= (λ z. p x y z >>= (λ v. f x y z v >>= g))))) w
four_then m n o p f g w =
    then_then m (λ x. n x >>= (λ y. o x y >>= (λ z. p x y z >>= f x y z))) g w ∙
    then_same m _ _ (λ x u. three_then (n x) (o x) (p x) (f x) g u) w

pub five_then : {A B C D E F G : Type 0} (m : Doing A) (n : A → Doing B) (o : A → B → Doing C) (p : A → B → C → Doing D)
    (q : A → B → C → D → Doing E) (f : A → B → C → D → E → Doing F) (g : F → Doing G) (w : World)
    → ((m >>= (λ x. n x >>= (λ y. o x y >>= (λ z. p x y z >>= (λ v. q x y z v >>= f x y z v))))) >>= g) w
    ≡ (m >>= (λ x. n x >>= (λ y. o x y >>= (λ z. p x y z >>= (λ v. q x y z v >>= (λ r. f x y z v r >>= g)))))) w
five_then m n o p q f g w =
    then_then m (λ x. n x >>= (λ y. o x y >>= (λ z. p x y z >>= (λ v. q x y z v >>= f x y z v)))) g w ∙
    then_same m _ _ (λ x u. four_then (n x) (o x) (p x) (q x) (f x) g u) w

-- a choice whose test is known
pub either_first : {A : Type 0} (b : Bool) (m n : Doing A) (w : World) → b ≡ true → either b m n w ≡ m w
either_first true m n w h = refl
either_first false m n w h = cc

pub either_second : {A : Type 0} (b : Bool) (m n : Doing A) (w : World) → b ≡ false → either b m n w ≡ n w
either_second true m n w h = cc
either_second false m n w h = refl

-- a result, where the run goes on, is such
abbrev pub ResultIs : {A : Type 0} → (A → Type 0) → Outcome A → Type 0
ResultIs P (Gives a w) = P a
ResultIs P (Ends end events) = Unit {0}

pub result_then : {A B : Type 0} (P : A → Type 0) (Q : B → Type 0) (o : Outcome A) (f : A → Doing B)
    → ResultIs P o → ((a : A) (w : World) → P a → ResultIs Q (f a w)) → ResultIs Q (and_then o f)
result_then P Q (Gives a w) f h k = k a w h
result_then P Q (Ends end events) f h k = tt

-- nothing is known of what comes before
pub any_result : {A B : Type 0} (Q : B → Type 0) (o : Outcome A) (f : A → Doing B)
    → ((a : A) (w : World) → ResultIs Q (f a w)) → ResultIs Q (and_then o f)
any_result Q (Gives a w) f k = k a w
any_result Q (Ends end events) f k = tt

-- what follows a result that is such may use that it is
pub result_same : {A B : Type 0} (P : A → Type 0) (o : Outcome A) (f g : A → Doing B)
    → ResultIs P o → ((a : A) (w : World) → P a → f a w ≡ g a w) → and_then o f ≡ and_then o g
result_same P (Gives a w) f g h k = k a w h
result_same P (Ends end events) f g h k = refl
