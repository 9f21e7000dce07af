-- What a construct makes whose parts are made apart: the code of each part stands in a place of its own.
use Rattle.std.proofs.Common.{◌≡◌, ℕ, ◌+◌, List, Result, Ok, Err, refl, sym, ap, subst, arith}
use Rattle.std.proofs.lemmas.List.{append-nil}
use Rattle.std.specs.Prelude.{⊤}
use Rattle.c_types.specs.declared.type_ref.Row.{Row}
use Rattle.lower.specs.declared.allotted.Allotted.{Allotted as CodeAllotted}
use Rattle.lower.specs.declared.body.Body.{Body}
use Rattle.lower.specs.declared.emitter.Emitter.{Emitter}
use Rattle.lower.specs.declared.refusal.LowerRefusal.{LowerRefusal}
use Rattle.lower.specs.declared.refusal.LowerRefusal.TheVariants.{TooManyRegisters, TooLong, Memory}
use Rattle.lower.specs.Emitting.{Code, ◌⨟◌, no_code, Made, Making, behind, and_then, ◌>>=◌, ◌>>◌, pure, apart, code_of as code_apart, wrapped, around_code}
use Rattle.lower.specs.Emitting.{emits_code}
use Rattle.lower.specs.Drafts.{code_of}
use Rattle.lower.specs.Emits.{AllStand, allotted_view, Grows, Makes, EmitsAs, Emits}
use Rattle.lower.specs.Runs.{SameObjects, GrowsAround, MakesAround, RunsAs, Runs}

-- ---- no code before and behind

pub before : (c : Code) → no_code ⨟ c ≡ c
before c = λ j around start. c around (start-is start j)
  where
    start-is : (n : ℕ) → n + 0 ≡ n
    start-is n = omega arith

pub after : (c : Code) → c ⨟ no_code ≡ c
after c = λ j around start. append-nil (c around start) j

behind-no_code : {A : Type 0} (r : Result (Made A) ℕ) → behind no_code r ≡ r
behind-no_code (Ok m) = λ j. Ok (record { given = m.given; code = before m.code j; after = m.after })
behind-no_code (Err line) = refl

-- ---- what is known of the code of a part

-- something is given, the registers are allotted, and of the code this is known
abbrev pub GivesMade : {A : Type 0} → List Row → Result (Made A) ℕ → A → CodeAllotted → (Code → Type 0) → Type 0
GivesMade rows (Err line) a new P = ⊥
GivesMade rows (Ok m) a new P = (m.given ≡ a) × (m.after ≡ allotted_view rows new) × P m.code × AllStand rows new.types.keys

abbrev pub GivesAs : {A B : Type 0} → (B → A) → List Row → CodeAllotted → CodeAllotted → (Code → Type 0) → Result B LowerRefusal → Making A → Type 0
GivesAs view rows old new P (Ok x) m = AllStand rows old.types.keys → GivesMade rows (m (allotted_view rows old)) (view x) new P
GivesAs view rows old new P (Err (TooManyRegisters line)) m = AllStand rows old.types.keys → m (allotted_view rows old) ≡ Err line
GivesAs view rows old new P (Err (TooLong line)) m = ⊥
GivesAs view rows old new P (Err Memory) m = ⊤

pub record Gives {A B : Type 0} (view : B → A) (rows : List Row) (old new : CodeAllotted) (P : Code → Type 0) (result : Result B LowerRefusal) (m : Making A)
    : Type 0 where
  pub is : GivesAs view rows old new P result m

-- what a statement runs
pub record Ran (old new : Body) (c : Code) : Type 0 where
  pub same : SameObjects old new
  pub grows : GrowsAround c old new

module _ {A B : Type 0} (view : B → A) (rows : List Row) where
  gives-ran : (old new : Body) (a : A) (m : Result (Made A) ℕ) → MakesAround rows m a old new → GivesMade rows m a new.out.allotted (Ran old new)
  gives-ran old new a (Ok m) h = (h.0, h.1, record { same = h.2; grows = h.3 }, h.4)
  gives-ran old new a (Err line) h = h

  ran-gives : (old new : Body) (a : A) (m : Result (Made A) ℕ) → GivesMade rows m a new.out.allotted (Ran old new) → MakesAround rows m a old new
  ran-gives old new a (Ok m) h = (h.0, h.1, h.2.same, h.2.grows, h.3)
  ran-gives old new a (Err line) h = h

pub by-runs : {A B : Type 0} {view : B → A} {rows : List Row} {old new : Body} {r : Result B LowerRefusal} {m : Making A}
    → Runs view rows old new r m → Gives view rows old.out.allotted new.out.allotted (Ran old new) r m
by-runs {A} {B} {view} {rows} {old} {new} {r} {m} h = record { is = by r h.is }
  where
    by : (s : Result B LowerRefusal) → RunsAs view rows old new s m → GivesAs view rows old.out.allotted new.out.allotted (Ran old new) s m
    by (Ok x) h = λ stand. gives-ran view rows old new (view x) (m (allotted_view rows old.out.allotted)) (h stand)
    by (Err (TooManyRegisters line)) h = h
    by (Err (TooLong line)) h = h
    by (Err Memory) h = h

pub to-runs : {A B : Type 0} {view : B → A} {rows : List Row} {old new : Body} {r : Result B LowerRefusal} {m : Making A}
    → Gives view rows old.out.allotted new.out.allotted (Ran old new) r m → Runs view rows old new r m
to-runs {A} {B} {view} {rows} {old} {new} {r} {m} h = record { is = by r h.is }
  where
    by : (s : Result B LowerRefusal) → GivesAs view rows old.out.allotted new.out.allotted (Ran old new) s m → RunsAs view rows old new s m
    by (Ok x) h = λ stand. ran-gives view rows old new (view x) (m (allotted_view rows old.out.allotted)) (h stand)
    by (Err (TooManyRegisters line)) h = h
    by (Err (TooLong line)) h = h
    by (Err Memory) h = h

-- what a value emits
pub record Grew (old new : Emitter) (c : Code) : Type 0 where
  pub grows : Grows c (code_of old.code) (code_of new.code)

pub by-emits : {A B : Type 0} {view : B → A} {rows : List Row} {old new : Emitter} {r : Result B LowerRefusal} {m : Making A}
    → Emits view rows old new r m → Gives view rows old.allotted new.allotted (Grew old new) r m
by-emits {A} {B} {view} {rows} {old} {new} {r} {m} h = record { is = by r h.is }
  where
    made-by : (a : A) (m : Result (Made A) ℕ) → Makes rows m a old new → GivesMade rows m a new.allotted (Grew old new)
    made-by a (Ok m) h = (h.0, h.1, record { grows = h.2 }, h.3)
    made-by a (Err line) h = h

    by : (s : Result B LowerRefusal) → EmitsAs view rows old new s m → GivesAs view rows old.allotted new.allotted (Grew old new) s m
    by (Ok x) h = λ stand. made-by (view x) (m (allotted_view rows old.allotted)) (h stand)
    by (Err (TooManyRegisters line)) h = h
    by (Err (TooLong line)) h = h
    by (Err Memory) h = h

-- ---- steps

module _ {A B : Type 0} (rows : List Row) (mid : CodeAllotted) (P : Code → Type 0) (f : A × Code → Making B) where
  apart-then : (a : A) (T : Result (Made B) ℕ → Type 0) (c : Result (Made A) ℕ) → GivesMade rows c a mid P
      → ((code : Code) → P code → AllStand rows mid.types.keys → T (f (a, code) (allotted_view rows mid))) → T (and_then (code_apart c) f)
  apart-then a T (Ok c) first next =
      subst T (sym (behind-no_code (f (c.given, c.code) c.after)))
      (subst T (λ j. f (sym first.0 j, c.code) (sym first.1 j)) (next c.code first.2 first.3))
  apart-then a T (Err line) first next = absurd first

-- a part is made apart, and the whole with its code
pub apart-step : {X A Y B : Type 0} {view : X → A} {next_view : Y → B} {rows : List Row} {old mid new : CodeAllotted} {P Q : Code → Type 0} {x : X}
    {y : Y} {m : Making A} {w : Making B} (f : A × Code → Making B)
    → w ≡ (apart m >>= f) → Gives view rows old mid P (Ok x) m → ((c : Code) → P c → Gives next_view rows mid new Q (Ok y) (f (view x, c)))
    → Gives next_view rows old new Q (Ok y) w
unfolding ◌>>=◌
apart-step {X} {A} {Y} {B} {view} {next_view} {rows} {old} {mid} {new} {P} {Q} {x} {y} {m} {w} f is first next =
    subst (Gives next_view rows old new Q (Ok y)) (sym is)
    (record {
      is = λ stand. apart-then rows mid P f (view x) (λ z. GivesMade rows z (next_view y) new Q) (m (allotted_view rows old)) (first.is stand)
          (λ c known. (next c known).is);
    })

-- a part is made apart, and the whole is refused, whatever the part's code
pub apart-pass : {X A Y B : Type 0} {view : X → A} {next_view : Y → B} {rows : List Row} {old mid new : CodeAllotted} {P Q : Code → Type 0} {x : X}
    {r : Result Y LowerRefusal} {m : Making A} {w : Making B} (f : A × Code → Making B)
    → w ≡ (apart m >>= f) → Gives view rows old mid P (Ok x) m → ((c : Code) → Gives next_view rows mid new Q r (f (view x, c)))
    → Gives next_view rows old new Q r w
unfolding ◌>>=◌
apart-pass {X} {A} {Y} {B} {view} {next_view} {rows} {old} {mid} {new} {P} {Q} {x} {r} {m} {w} f is first next =
    subst (Gives next_view rows old new Q r) (sym is) (record { is = by r (λ c. (next c).is) })
  where
    by : (s : Result Y LowerRefusal) → ((c : Code) → GivesAs next_view rows mid new Q s (f (view x, c))) → GivesAs next_view rows old new Q s (apart m >>= f)
    by (Ok y) then = λ stand.
        apart-then rows mid P f (view x) (λ z. GivesMade rows z (next_view y) new Q) (m (allotted_view rows old)) (first.is stand) (λ c known. then c)
    by (Err (TooManyRegisters line)) then = λ stand.
        apart-then rows mid P f (view x) (λ z. z ≡ Err line) (m (allotted_view rows old)) (first.is stand) (λ c known. then c)
    by (Err (TooLong line)) then = then no_code
    by (Err Memory) then = tt

-- a part is refused
pub apart-stop : {X A Y B : Type 0} {view : X → A} {next_view : Y → B} {rows : List Row} {old mid new : CodeAllotted} {P Q : Code → Type 0}
    {r : Result Y LowerRefusal} {e : LowerRefusal} {m : Making A} {w : Making B} (f : A × Code → Making B)
    → w ≡ (apart m >>= f) → r ≡ Err e → Gives view rows old mid P (Err e) m → Gives next_view rows old new Q r w
unfolding ◌>>=◌
apart-stop {X} {A} {Y} {B} {view} {next_view} {rows} {old} {mid} {new} {P} {Q} {r} {e} {m} {w} f is out first =
    subst (λ s. Gives next_view rows old new Q s w) (sym out) (subst (Gives next_view rows old new Q (Err e)) (sym is) (record { is = by e first.is }))
  where
    by : (e : LowerRefusal) → GivesAs view rows old mid P (Err e) m → GivesAs next_view rows old new Q (Err e) (apart m >>= f)
    by (TooManyRegisters line) h = λ stand. ap (λ c. and_then (code_apart c) f) (h stand)
    by (TooLong line) h = h
    by Memory h = h

-- the code of the parts comes together
pub together : {Y : Type 0} {next_view : Y → Unit {0}} {rows : List Row} {s : CodeAllotted} {Q : Code → Type 0} {y : Y} (c : Code)
    → Q c → Gives next_view rows s s Q (Ok y) (emits_code c)
together {Y} {next_view} {rows} {s} {Q} {y} c known = record { is = λ stand. (refl, refl, known, stand) }

-- and something is given
pub together-given : {Y A : Type 0} {next_view : Y → A} {rows : List Row} {s : CodeAllotted} {Q : Code → Type 0} {y : Y} (c : Code)
    → Q c → Gives next_view rows s s Q (Ok y) (emits_code c >> pure (next_view y))
unfolding ◌>>=◌
together-given {Y} {A} {next_view} {rows} {s} {Q} {y} c known = record { is = λ stand. (refl, refl, subst Q (sym (after c)) known, stand) }

-- what is allotted stays while code is led
pub gives-same : {Y B : Type 0} {view : Y → B} {rows : List Row} {old mid new next : CodeAllotted} {Q : Code → Type 0} {r : Result Y LowerRefusal}
    {m : Making B}
    → mid ≡ old → next ≡ new → Gives view rows mid next Q r m → Gives view rows old new Q r m
gives-same {Y} {B} {view} {rows} {old} {mid} {new} {next} {Q} {r} {m} first last h =
    subst (λ z. Gives view rows old z Q r m) last (subst (λ z. Gives view rows z next Q r m) first h)

pub gives-answer : {Y B : Type 0} {view : Y → B} {rows : List Row} {old new : CodeAllotted} {Q : Code → Type 0} {r s : Result Y LowerRefusal} {m : Making B}
    → r ≡ s → Gives view rows old new Q s m → Gives view rows old new Q r m
gives-answer {Y} {B} {view} {rows} {old} {new} {Q} {r} {s} {m} is h = subst (λ z. Gives view rows old new Q z m) (sym is) h

-- what is refused has no code
pub refused-any : {Y B : Type 0} {view : Y → B} {rows : List Row} {old mid new : CodeAllotted} {P Q : Code → Type 0} {e : LowerRefusal} {m : Making B}
    → Gives view rows old mid P (Err e) m → Gives view rows old new Q (Err e) m
refused-any {Y} {B} {view} {rows} {old} {mid} {new} {P} {Q} {e} {m} h = record { is = by e h.is }
  where
    by : (e : LowerRefusal) → GivesAs view rows old mid P (Err e) m → GivesAs view rows old new Q (Err e) m
    by (TooManyRegisters line) h = h
    by (TooLong line) h = h
    by Memory h = h

pub gives-memory : {Y B : Type 0} {view : Y → B} {rows : List Row} {old new : CodeAllotted} {Q : Code → Type 0} {r : Result Y LowerRefusal} {m : Making B}
    → r ≡ Err Memory → Gives view rows old new Q r m
gives-memory {Y} {B} {view} {rows} {old} {new} {Q} {r} {m} is = record { is = subst (λ s. GivesAs view rows old new Q s m) (sym is) tt }

-- a part whose code is put in another
pub wrap-step : {Y B : Type 0} {view : Y → B} {rows : List Row} {old new : CodeAllotted} {P Q : Code → Type 0} {r : Result Y LowerRefusal}
    {m : Making B} (g : Code → Code) → ((c : Code) → P c → Q (g c)) → Gives view rows old new P r m → Gives view rows old new Q r (wrapped g m)
wrap-step {Y} {B} {view} {rows} {old} {new} {P} {Q} {r} {m} g put h = record { is = by r h.is }
  where
    made-by : (b : B) (c : Result (Made B) ℕ) → GivesMade rows c b new P → GivesMade rows (around_code g c) b new Q
    made-by b (Ok c) h = (h.0, h.1, put c.code h.2, h.3)
    made-by b (Err line) h = h

    by : (s : Result Y LowerRefusal) → GivesAs view rows old new P s m → GivesAs view rows old new Q s (wrapped g m)
    by (Ok y) h = λ stand. made-by (view y) (m (allotted_view rows old)) (h stand)
    by (Err (TooManyRegisters line)) h = λ stand. ap (around_code g) (h stand)
    by (Err (TooLong line)) h = h
    by (Err Memory) h = h
