-- How what the parts of a function give makes what the whole gives.
use Rattle.std.proofs.Common.{◌≡◌, ℕ, Bool as Test, true, false, Option, Some, None, Result, Ok, Err, refl, sym, ap, subst, inl, inr}
use Rattle.c_types.specs.Table.{Extends}
use Rattle.c_types.proofs.Grown.{Extends-refl, Extends-trans}
use Rattle.c_types.specs.Rules.{Ruled}
use Rattle.typing_rules.specs.declared.refusal.TypeRefusal.{TypeRefusal}
use Rattle.typing_rules.specs.declared.refusal.TypeRefusal.TheVariants.{Memory, Mismatch}
use Rattle.typing_rules.specs.Known as known
use Rattle.typing_rules.specs.Checking.{Checked, Checking, and_then, ◌>>=◌, pure, refuse, asks, makes, choose, needs, tests, ruled_by, given, from_result}
use Rattle.c_values.specs.Answers.{AnswersAt, Answers}
use Rattle.c_known.specs.declared.known.Known.{Known}
use Rattle.c_known.specs.Views.{Knows}
use Rattle.c_known.specs.Gives.{Standing, GivesAt, Gives, IsDone, IsSame}
use Rattle.c_known.specs.Refusals.{ruled_as, needed_as, given_as, RuledIs, IsGiven}

-- later in a table that has grown before
pub later-at : {X A : Type 0} (M : Standing X A) (old mid new : Known) (r : Result X TypeRefusal) (c : Checked A)
    → Extends old.types mid.types → GivesAt M mid new r c → GivesAt M old new r c
later-at M old mid new (Ok x) (Ok found) more g = record { grown = Extends-trans more g.grown; means = g.means; knows = g.knows }
later-at M old mid new (Ok x) (Err refusal) more g = g
later-at M old mid new (Err told) (Ok found) more g = g
later-at M old mid new (Err told) (Err refusal) more g = g

bind-at : {X A Y B : Type 0} (M : Standing X A) (N : Standing Y B) (old mid new : Known) (x : X) (r : Result Y TypeRefusal) (c : Checked A) (f : A → Checking B)
    → GivesAt M old mid (Ok x) c
    → ((a : A) → Extends old.types mid.types → M mid.types x a → Gives N mid new r (f a))
    → GivesAt N old new r (and_then c f)
bind-at M N old mid new x r (Ok found) f g next =
    later-at N old mid new r (f found.0 found.1) g.grown ((next found.0 g.grown g.means).at found.1 g.knows)
bind-at M N old mid new x r (Err refusal) f g next = absurd g

-- a call that gave something, and what comes after it
pub bind : {X A Y B : Type 0} (M : Standing X A) (N : Standing Y B) (old mid new : Known) (x : X) (r : Result Y TypeRefusal) (m : Checking A) (f : A → Checking B)
    → Gives M old mid (Ok x) m
    → ((a : A) → Extends old.types mid.types → M mid.types x a → Gives N mid new r (f a))
    → Gives N old new r (m >>= f)
bind M N old mid new x r m f g next = record { at = λ k knows. bind-at M N old mid new x r (m k) f (g.at k knows) next }

memory-comes : {Y B : Type 0} (N : Standing Y B) (old new : Known) (told : TypeRefusal) (c : Checked B) → told ≡ Memory → GivesAt {X = Y} {A = B} N old new (Err told) c
memory-comes N old new told (Ok p) h = h
memory-comes N old new told (Err q) h = inr h

told-at : {X A Y B : Type 0} (M : Standing X A) (N : Standing Y B) (old mid new : Known) (told : TypeRefusal) (c : Checked A) (f : A → Checking B)
    → GivesAt {X = X} {A = A} M old mid (Err told) c → GivesAt {X = Y} {A = B} N old new (Err told) (and_then c f)
told-at M N old mid new told (Ok found) f g = memory-comes N old new told (f found.0 found.1) g
told-at M N old mid new told (Err refusal) f g = g

-- a call that gave a refusal
pub told : {X A Y B : Type 0} (M : Standing X A) (N : Standing Y B) (old mid new : Known) (e : TypeRefusal) (m : Checking A) (f : A → Checking B)
    → Gives {X = X} {A = A} M old mid (Err e) m → Gives {X = Y} {A = B} N old new (Err e) (m >>= f)
told M N old mid new e m f g = record { at = λ k knows. told-at M N old mid new e (m k) f (g.at k knows) }

-- want of memory
pub memory-at : {X A : Type 0} (M : Standing X A) (old new : Known) (c : Checked A) → GivesAt {X = X} {A = A} M old new (Err Memory) c
memory-at M old new (Ok p) = refl
memory-at M old new (Err q) = inr refl

pub memory : {X A : Type 0} (M : Standing X A) (old new : Known) (m : Checking A) → Gives {X = X} {A = A} M old new (Err Memory) m
memory M old new m = record { at = λ k knows. memory-at M old new (m k) }

-- what is known stays as it is
pub pure-gives : {X A : Type 0} (M : Standing X A) (s : Known) (x : X) (a : A) → M s.types x a → Gives M s s (Ok x) (pure a)
pure-gives M s x a means = record { at = λ k knows. record { grown = Extends-refl s.types; means = means; knows = knows } }

pub refuse-gives : {X A : Type 0} (M : Standing X A) (old new : Known) (e : TypeRefusal) → Gives {X = X} {A = A} M old new (Err e) (refuse e)
refuse-gives M old new e = record { at = λ k knows. inl refl }

pub answers-at : {X A : Type 0} (M : Standing X A) (s : Known) (k : known.Known) (r : Result X TypeRefusal) (c : Checked A)
    → Knows s k → AnswersAt (M s.types) k r c → GivesAt M s s r c
answers-at M s k (Ok x) (Ok found) knows h = record { grown = Extends-refl s.types; means = h.0; knows = subst (Knows s) (sym h.1) knows }
answers-at M s k (Ok x) (Err refusal) knows h = h
answers-at M s k (Err e) (Ok found) knows h = h
answers-at M s k (Err e) (Err refusal) knows h = h

-- what is answered without a change of what is known is given
pub answers-give : {X A : Type 0} (M : Standing X A) (s : Known) (r : Result X TypeRefusal) (m : Checking A)
    → Answers (M s.types) r m → Gives M s s r m
answers-give M s r m h = record { at = λ k knows. answers-at M s k r (m k) knows (h k) }

-- a test that is the same in the code
pub choose-true : {X A : Type 0} (M : Standing X A) (old new : Known) (r : Result X TypeRefusal) (b : Test) (m n : Checking A)
    → b ≡ true → Gives M old new r m → Gives M old new r (choose b m n)
choose-true M old new r b m n e g = subst (λ c. Gives M old new r (choose c m n)) (sym e) g

pub choose-false : {X A : Type 0} (M : Standing X A) (old new : Known) (r : Result X TypeRefusal) (b : Test) (m n : Checking A)
    → b ≡ false → Gives M old new r n → Gives M old new r (choose b m n)
choose-false M old new r b m n e g = subst (λ c. Gives M old new r (choose c m n)) (sym e) g

-- what is asked, of all that is known
pub asks-gives : {X A : Type 0} (M : Standing X A) (s : Known) (x : X) (f : known.Known → A)
    → ((k : known.Known) → Knows s k → M s.types x (f k)) → Gives M s s (Ok x) (asks f)
asks-gives M s x f means = record { at = λ k knows. record { grown = Extends-refl s.types; means = means k knows; knows = knows } }

-- something else is known from now on
pub makes-gives : (old new : Known) (f : known.Known → known.Known) → Extends old.types new.types
    → ((k : known.Known) → Knows old k → Knows new (f k)) → Gives IsDone old new (Ok tt) (makes f)
makes-gives old new f more known = record { at = λ k knows. record { grown = more; means = tt; knows = known k knows } }

-- checking that does the same
pub gives-same : {X A : Type 0} (M : Standing X A) (old new : Known) (r : Result X TypeRefusal) (m n : Checking A)
    → ((k : known.Known) → m k ≡ n k) → Gives M old new r m → Gives M old new r n
gives-same M old new r m n e g = record { at = λ k knows. subst (GivesAt M old new r) (e k) (g.at k knows) }

and_then-twice : {A B C : Type 0} (c : Checked A) (f : A → Checking B) (g : B → Checking C)
    → and_then (and_then c f) g ≡ and_then c (λ a. f a >>= g)
and_then-twice (Ok p) f g = refl
and_then-twice (Err e) f g = refl

-- two steps before a third, as one before two
pub regroup : {X A B C : Type 0} (M : Standing X C) (old new : Known) (r : Result X TypeRefusal) (m : Checking A) (f : A → Checking B) (g : B → Checking C)
    → Gives M old new r ((m >>= f) >>= g) → Gives M old new r (m >>= (λ a. f a >>= g))
regroup M old new r m f g = gives-same M old new r ((m >>= f) >>= g) (m >>= (λ a. f a >>= g)) (λ k. and_then-twice (m k) f g)

-- a rule on types
pub ruled-gives : {X A : Type 0} (M : Standing X A) (s : Known) (line : ℕ) (r : Result X ℕ) (q : Ruled A)
    → RuledIs M s.types r q → Gives M s s (ruled_as line r) (ruled_by line q)
ruled-gives M s line (Ok x) (Ok a) h = pure-gives M s x a h
ruled-gives M s line (Ok x) (Err rule) h = absurd h
ruled-gives M s line (Err found) (Ok a) h = absurd h
ruled-gives M s line (Err found) (Err rule) h = record { at = λ k knows. inl (ap (Mismatch line) h) }

-- a rule on types that answers the same in the code
pub ruled-same : {A : Type 0} (s : Known) (line : ℕ) (r : Result A ℕ) (q : Ruled A) → r ≡ q → Gives IsSame s s (ruled_as line r) (ruled_by line q)
ruled-same s line r (Ok a) e = subst (λ x. Gives IsSame s s (ruled_as line x) (pure a)) (sym e) (pure-gives IsSame s a a refl)
ruled-same s line r (Err rule) e = subst (λ x. Gives IsSame s s (ruled_as line x) (refuse (Mismatch line rule))) (sym e) (refuse-gives IsSame s s (Mismatch line rule))

-- a test that has to hold
pub needs-gives : (s : Known) (b : Test) (e : TypeRefusal) → Gives IsDone s s (needed_as b e) (needs b e)
needs-gives s true e = pure-gives IsDone s tt tt tt
needs-gives s false e = refuse-gives IsDone s s e

-- a test of what is known that has to hold
pub tests-gives : (s : Known) (b : Test) (f : known.Known → Test) (e : TypeRefusal) → ((k : known.Known) → Knows s k → b ≡ f k) → Gives IsDone s s (needed_as b e) (tests f e)
tests-gives s b f e same =
    record { at = λ k knows. subst (λ c. GivesAt IsDone s s (needed_as b e) (needs c e k)) (same k knows) ((needs-gives s b e).at k knows) }

-- something that has to be there
pub given-gives : {X A : Type 0} (M : Standing X A) (s : Known) (x : Option X) (o : Option A) (e : TypeRefusal)
    → IsGiven M s.types x o → Gives M s s (given_as x e) (given o e)
given-gives M s None None e h = refuse-gives M s s e
given-gives M s None (Some a) e h = absurd h
given-gives M s (Some x) None e h = absurd h
given-gives M s (Some x) (Some a) e h = pure-gives M s x a h

-- a result that is found apart from what is known
pub result-gives : {X A : Type 0} (M : Standing X A) (s : Known) (r : Result X TypeRefusal) (q : Result A TypeRefusal)
    → ((k : known.Known) → GivesAt M s s r (from_result q k)) → Gives M s s r (from_result q)
result-gives M s r q h = record { at = λ k knows. h k }
