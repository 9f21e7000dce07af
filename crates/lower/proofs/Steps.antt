-- What calls emitted one after another makes what the whole emits.
use Rattle.std.proofs.Common.{◌≡◌, ℕ, List, Bool, true, false, Result, Ok, Err, refl, sym, ◌∙◌, ap, subst}
use Rattle.std.specs.Result.{IsErrAnd}
use Rattle.std.proofs.lemmas.Result.{err_from_is_err_and}
use Rattle.c_types.specs.declared.type_ref.Row.{Row}
use Rattle.lower.specs.declared.emitter.Emitter.{Emitter}
use Rattle.lower.specs.declared.refusal.LowerRefusal.{LowerRefusal}
use Rattle.lower.specs.declared.refusal.LowerRefusal.TheVariants.{TooManyRegisters, TooLong, Memory}
use Rattle.lower.specs.Emitting.{Made, Making, behind, and_then, ◌>>=◌, pure, either}
use Rattle.lower.specs.SoFar.{grown}
use Rattle.lower.specs.Drafts.{code_of}
use Rattle.lower.specs.Emits.{AllStand, allotted_view, Grows, Makes, EmitsAs, Emits}
use Rattle.lower.proofs.Growing.{grown-behind, grown-none}

-- ---- exits

-- what the exit of a `?` returns
pub exits : {T : Type 0} (r : Result T LowerRefusal) (e : LowerRefusal) → IsErrAnd r (λ y. y ≡ e) → r ≡ Err e
exits r e h = let p = err_from_is_err_and r h in p.1 ∙ ap Err p.2

-- want of memory is always an answer
pub memory : {X A : Type 0} {view : X → A} {rows : List Row} {old new : Emitter} {r : Result X LowerRefusal} {m : Making A} → r ≡ Err Memory
    → Emits view rows old new r m
memory {X} {A} {view} {rows} {old} {new} {r} {m} e = record { is = subst (λ s. EmitsAs view rows old new s m) (sym e) tt }

-- ---- steps

module _ {A B Y : Type 0} (next_view : Y → B) (rows : List Row) (old mid new : Emitter) where
  made-then : (a : A) (f : A → Making B) (y : Y) (c : Made A) (d : Result (Made B) ℕ)
      → Grows c.code (code_of old.code) (code_of mid.code) → Makes rows d (next_view y) mid new → Makes rows (behind c.code d) (next_view y) old new
  made-then a f y c (Ok m) first next = (
    next.0,
    next.1,
    (λ leads around. next.2 leads around ∙ ap (grown around m.code) (first leads around)
        ∙ grown-behind around c.code m.code (code_of old.code leads)),
    next.3,
  )
  made-then a f y c (Err line) first next = absurd next

  given-then : (a : A) (f : A → Making B) (y : Y) (c : Result (Made A) ℕ)
      → Makes rows c a old mid → (AllStand rows mid.allotted.types.keys → Makes rows (f a (allotted_view rows mid.allotted)) (next_view y) mid new)
      → Makes rows (and_then c f) (next_view y) old new
  given-then a f y (Ok c) first next =
      made-then a f y c (f c.given c.after) first.2
      (subst (λ (d : Result (Made B) ℕ). Makes rows d (next_view y) mid new) (λ i. f (sym first.0 i) (sym first.1 i)) (next first.3))
  given-then a f y (Err line) first next = absurd first

  refused-then : (a : A) (f : A → Making B) (line : ℕ) (c : Result (Made A) ℕ)
      → Makes rows c a old mid → (AllStand rows mid.allotted.types.keys → f a (allotted_view rows mid.allotted) ≡ Err line) → and_then c f ≡ Err line
  refused-then a f line (Ok c) first next = ap (behind c.code) ((λ i. f (first.0 i) (first.1 i)) ∙ next first.3)
  refused-then a f line (Err l) first next = absurd first

-- a call emitted something, and what comes after it emits the rest
pub step : {X A Y B : Type 0} {view : X → A} {next_view : Y → B} {rows : List Row} {old mid new : Emitter} {x : X} {r : Result Y LowerRefusal}
    {m : Making A} {w : Making B} (f : A → Making B)
    → w ≡ (m >>= f) → Emits view rows old mid (Ok x) m → Emits next_view rows mid new r (f (view x)) → Emits next_view rows old new r w
unfolding ◌>>=◌
step {X} {A} {Y} {B} {view} {next_view} {rows} {old} {mid} {new} {x} {r} {m} f is first next =
    subst (Emits next_view rows old new r) (sym is) (record { is = by r next.is })
  where
    by : (s : Result Y LowerRefusal) → EmitsAs next_view rows mid new s (f (view x)) → EmitsAs next_view rows old new s (m >>= f)
    by (Ok y) then = λ stand. given-then next_view rows old mid new (view x) f y (m (allotted_view rows old.allotted)) (first.is stand) then
    by (Err (TooManyRegisters line)) then =
        λ stand. refused-then next_view rows old mid new (view x) f line (m (allotted_view rows old.allotted)) (first.is stand) then
    by (Err (TooLong line)) then = then
    by (Err Memory) then = then

-- a call was refused, which the whole is then
pub stop : {X A Y B : Type 0} {view : X → A} {next_view : Y → B} {rows : List Row} {old mid new : Emitter} {r : Result Y LowerRefusal} {e : LowerRefusal}
    {m : Making A} {w : Making B} (f : A → Making B)
    → w ≡ (m >>= f) → r ≡ Err e → Emits view rows old mid (Err e) m → Emits next_view rows old new r w
unfolding ◌>>=◌
stop {X} {A} {Y} {B} {view} {next_view} {rows} {old} {mid} {new} {r} {e} {m} {w} f is out first =
    subst (λ s. Emits next_view rows old new s w) (sym out) (subst (Emits next_view rows old new (Err e)) (sym is) (record { is = by e first.is }))
  where
    by : (e : LowerRefusal) → EmitsAs view rows old mid (Err e) m → EmitsAs next_view rows old new (Err e) (m >>= f)
    by (TooManyRegisters line) h = λ stand. ap (λ c. and_then c f) (h stand)
    by (TooLong line) h = h
    by Memory h = h

-- nothing is emitted, and something is given
pub given : {Y B : Type 0} {view : Y → B} {rows : List Row} {s : Emitter} {y : Y} → Emits view rows s s (Ok y) (pure (view y))
given {Y} {B} {view} {rows} {s} {y} = record { is = λ stand. (refl, refl, (λ leads around. grown-none around (code_of s.code leads)), stand) }

pub same-making : {Y B : Type 0} {view : Y → B} {rows : List Row} {old new : Emitter} {r : Result Y LowerRefusal} {m w : Making B}
    → w ≡ m → Emits view rows old new r m → Emits view rows old new r w
same-making {Y} {B} {view} {rows} {old} {new} {r} is h = subst (Emits view rows old new r) (sym is) h

pub same-answer : {Y B : Type 0} {view : Y → B} {rows : List Row} {old new : Emitter} {r s : Result Y LowerRefusal} {m : Making B}
    → r ≡ s → Emits view rows old new s m → Emits view rows old new r m
same-answer {Y} {B} {view} {rows} {old} {new} {r} {s} {m} is h = subst (λ z. Emits view rows old new z m) (sym is) h

-- ---- two cases

pub first-of : {A : Type 0} {b : Bool} (m n : Making A) → b ≡ true → either b m n ≡ m
first-of m n is = ap (λ z. either z m n) is

pub second-of : {A : Type 0} {b : Bool} (m n : Making A) → b ≡ false → either b m n ≡ n
second-of m n is = ap (λ z. either z m n) is
