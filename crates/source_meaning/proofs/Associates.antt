-- How things that follow one another are grouped does not matter.
use Rattle.std.proofs.Common.{◌≡◌, Bool, true, false, refl}
use Rattle.source_meaning.specs.World.{World, Outcome, Gives, Ends, Doing, and_then, ◌>>=◌, either}

pub outcome_then : {A B C : Type 0} (o : Outcome A) (f : A → Doing B) (g : B → Doing C)
    → and_then (and_then o f) g ≡ and_then o (λ a w. and_then (f a w) g)
outcome_then (Gives a w) f g = refl
outcome_then (Ends end events) f g = refl

pub then_then : {A B C : Type 0} (m : Doing A) (f : A → Doing B) (g : B → Doing C) (w : World)
    → ((m >>= f) >>= g) w ≡ (m >>= (λ a. f a >>= g)) w
then_then m f g w = outcome_then (m w) f g

outcome_same : {A B : Type 0} (o : Outcome A) (f g : A → Doing B) → ((a : A) (w : World) → f a w ≡ g a w) → and_then o f ≡ and_then o g
outcome_same (Gives a w) f g h = h a w
outcome_same (Ends end events) f g h = refl

-- what follows may be anything that comes to the same
pub then_same : {A B : Type 0} (m : Doing A) (f g : A → Doing B) → ((a : A) (w : World) → f a w ≡ g a w)
    → (w : World) → (m >>= f) w ≡ (m >>= g) w
then_same m f g h w = outcome_same (m w) f g h

-- what follows a choice follows each side of it
pub either_then : {A B : Type 0} (b : Bool) (m n : Doing A) (f : A → Doing B) (w : World)
    → ((either b m n) >>= f) w ≡ either b (m >>= f) (n >>= f) w
either_then true m n f w = refl
either_then false m n f w = refl
