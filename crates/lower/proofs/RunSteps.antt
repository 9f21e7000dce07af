-- What statements lowered one after another make, as what calls emit makes what the whole emits.
use Rattle.std.proofs.Common.{◌≡◌, ℕ, List, ◌++◌, reverse, Result, Ok, Err, refl, sym, ◌∙◌, ap, subst}
use Rattle.c_types.specs.declared.type_ref.Row.{Row}
use Rattle.lower.specs.declared.body.Body.{Body}
use Rattle.lower.specs.declared.emitter.Emitter.{Emitter}
use Rattle.lower.specs.declared.refusal.LowerRefusal.{LowerRefusal}
use Rattle.lower.specs.declared.refusal.LowerRefusal.TheVariants.{TooManyRegisters, TooLong, Memory}
use Rattle.lower.specs.Emitting.{Code, ◌⨟◌, Made, Making, behind, and_then, ◌>>=◌, pure}
use Rattle.lower.specs.SoFar.{Leads, leads_of, grown}
use Rattle.lower.specs.Drafts.{code_of}
use Rattle.lower.specs.Emits.{AllStand, allotted_view, Makes, EmitsAs, Emits}
use Rattle.lower.specs.Runs.{around_of, SameObjects, GrowsAround, MakesAround, RunsAs, Runs}
use Rattle.lower.proofs.Growing.{grown-behind, grown-none}

-- ---- what stands around

pub around-same : (old mid : Body) → SameObjects old mid → (leads : List Leads) → around_of mid leads ≡ around_of old leads
around-same old mid same leads = λ i. record {
  break_at = (leads_of leads).break_at;
  continue_at = (leads_of leads).continue_at;
  in_loop = reverse (same.objects i);
  in_function = reverse (same.objects i) ++ reverse (same.outside i);
}

pub same-behind : (old mid new : Body) → SameObjects old mid → SameObjects mid new → SameObjects old new
same-behind old mid new first next = record { objects = next.objects ∙ first.objects; outside = next.outside ∙ first.outside }

pub grows-behind : (c d : Code) (old mid new : Body) → SameObjects old mid → GrowsAround c old mid → GrowsAround d mid new → GrowsAround (c ⨟ d) old new
grows-behind c d old mid new same first next = λ leads.
    next leads ∙ ap (λ a. grown a d (code_of mid.out.code leads)) (around-same old mid same leads)
    ∙ ap (grown (around_of old leads) d) (first leads) ∙ grown-behind (around_of old leads) c d (code_of old.out.code leads)

-- ---- steps

module _ {A B Y : Type 0} (next_view : Y → B) (rows : List Row) (old mid new : Body) where
  made-then : (a : A) (f : A → Making B) (y : Y) (c : Made A) (d : Result (Made B) ℕ)
      → SameObjects old mid → GrowsAround c.code old mid → MakesAround rows d (next_view y) mid new → MakesAround rows (behind c.code d) (next_view y) old new
  made-then a f y c (Ok m) same first next =
      (next.0, next.1, same-behind old mid new same next.2, grows-behind c.code m.code old mid new same first next.3, next.4)
  made-then a f y c (Err line) same first next = absurd next

  given-then : (a : A) (f : A → Making B) (y : Y) (c : Result (Made A) ℕ)
      → MakesAround rows c a old mid → (AllStand rows mid.out.allotted.types.keys → MakesAround rows (f a (allotted_view rows mid.out.allotted))
      (next_view y) mid new)
      → MakesAround rows (and_then c f) (next_view y) old new
  given-then a f y (Ok c) first next =
      made-then a f y c (f c.given c.after) first.2 first.3
      (subst (λ (d : Result (Made B) ℕ). MakesAround rows d (next_view y) mid new) (λ i. f (sym first.0 i) (sym first.1 i)) (next first.4))
  given-then a f y (Err line) first next = absurd first

  refused-then : (a : A) (f : A → Making B) (line : ℕ) (c : Result (Made A) ℕ)
      → MakesAround rows c a old mid → (AllStand rows mid.out.allotted.types.keys → f a (allotted_view rows mid.out.allotted) ≡ Err line)
      → and_then c f ≡ Err line
  refused-then a f line (Ok c) first next = ap (behind c.code) ((λ i. f (first.0 i) (first.1 i)) ∙ next first.4)
  refused-then a f line (Err l) first next = absurd first

-- a statement ran, and what comes after it runs the rest
pub run-step : {X A Y B : Type 0} {view : X → A} {next_view : Y → B} {rows : List Row} {old mid new : Body} {x : X} {r : Result Y LowerRefusal}
    {m : Making A} {w : Making B} (f : A → Making B)
    → w ≡ (m >>= f) → Runs view rows old mid (Ok x) m → Runs next_view rows mid new r (f (view x)) → Runs next_view rows old new r w
unfolding ◌>>=◌
run-step {X} {A} {Y} {B} {view} {next_view} {rows} {old} {mid} {new} {x} {r} {m} f is first next =
    subst (Runs next_view rows old new r) (sym is) (record { is = by r next.is })
  where
    by : (s : Result Y LowerRefusal) → RunsAs next_view rows mid new s (f (view x)) → RunsAs next_view rows old new s (m >>= f)
    by (Ok y) then = λ stand. given-then next_view rows old mid new (view x) f y (m (allotted_view rows old.out.allotted)) (first.is stand) then
    by (Err (TooManyRegisters line)) then =
        λ stand. refused-then next_view rows old mid new (view x) f line (m (allotted_view rows old.out.allotted)) (first.is stand) then
    by (Err (TooLong line)) then = then
    by (Err Memory) then = then

-- a statement was refused, which the whole is then
pub run-stop : {X A Y B : Type 0} {view : X → A} {next_view : Y → B} {rows : List Row} {old mid new : Body} {r : Result Y LowerRefusal} {e : LowerRefusal}
    {m : Making A} {w : Making B} (f : A → Making B)
    → w ≡ (m >>= f) → r ≡ Err e → Runs view rows old mid (Err e) m → Runs next_view rows old new r w
unfolding ◌>>=◌
run-stop {X} {A} {Y} {B} {view} {next_view} {rows} {old} {mid} {new} {r} {e} {m} {w} f is out first =
    subst (λ s. Runs next_view rows old new s w) (sym out) (subst (Runs next_view rows old new (Err e)) (sym is) (record { is = by e first.is }))
  where
    by : (e : LowerRefusal) → RunsAs view rows old mid (Err e) m → RunsAs next_view rows old new (Err e) (m >>= f)
    by (TooManyRegisters line) h = λ stand. ap (λ c. and_then c f) (h stand)
    by (TooLong line) h = h
    by Memory h = h

-- nothing is made, and something is given
pub run-given : {Y B : Type 0} {view : Y → B} {rows : List Row} {s : Body} {y : Y} → Runs view rows s s (Ok y) (pure (view y))
run-given {Y} {B} {view} {rows} {s} {y} = record {
  is = λ stand.
      (refl, refl, record { objects = refl; outside = refl }, (λ leads. grown-none (around_of s leads) (code_of s.out.code leads)), stand);
}

-- want of memory is always an answer
pub run-memory : {X A : Type 0} {view : X → A} {rows : List Row} {old new : Body} {r : Result X LowerRefusal} {m : Making A}
    → r ≡ Err Memory → Runs view rows old new r m
run-memory {X} {A} {view} {rows} {old} {new} {r} {m} e = record { is = subst (λ s. RunsAs view rows old new s m) (sym e) tt }

pub run-same : {Y B : Type 0} {view : Y → B} {rows : List Row} {old new : Body} {r : Result Y LowerRefusal} {m w : Making B}
    → w ≡ m → Runs view rows old new r m → Runs view rows old new r w
run-same {Y} {B} {view} {rows} {old} {new} {r} is h = subst (Runs view rows old new r) (sym is) h

pub run-answer : {Y B : Type 0} {view : Y → B} {rows : List Row} {old new : Body} {r s : Result Y LowerRefusal} {m : Making B}
    → r ≡ s → Runs view rows old new s m → Runs view rows old new r m
run-answer {Y} {B} {view} {rows} {old} {new} {r} {s} {m} is h = subst (λ z. Runs view rows old new z m) (sym is) h

-- ---- what is emitted while the same objects live

made-runs : {A : Type 0} (rows : List Row) (old new : Body) (a : A) (c : Result (Made A) ℕ)
    → SameObjects old new → Makes rows c a old.out new.out → MakesAround rows c a old new
made-runs rows old new a (Ok m) same h = (h.0, h.1, same, (λ leads. h.2 leads (around_of old leads)), h.3)
made-runs rows old new a (Err line) same h = h

pub emitted-runs : {X A : Type 0} {view : X → A} {rows : List Row} {old new : Body} {out out' : Emitter} {r : Result X LowerRefusal} {m : Making A}
    → SameObjects old new → old.out ≡ out → new.out ≡ out' → Emits view rows out out' r m → Runs view rows old new r m
emitted-runs {X} {A} {view} {rows} {old} {new} {out} {out'} {r} {m} same before after h =
    record {
      is = by r (subst (λ (o : Emitter). EmitsAs view rows o new.out r m) (sym before)
          (subst (λ (o : Emitter). EmitsAs view rows out o r m) (sym after) h.is));
    }
  where
    by : (s : Result X LowerRefusal) → EmitsAs view rows old.out new.out s m → RunsAs view rows old new s m
    by (Ok x) h = λ stand. made-runs rows old new (view x) (m (allotted_view rows old.out.allotted)) same (h stand)
    by (Err (TooManyRegisters line)) h = h
    by (Err (TooLong line)) h = h
    by (Err Memory) h = h

-- the same objects live where the code alone changed
pub same-objects : {old new : Body} → new.objects.items ≡ old.objects.items → new.outside.items ≡ old.outside.items → SameObjects old new
same-objects objects outside = record { objects = objects; outside = outside }

-- a call emitted something into the code of the body
pub emitted : {X A : Type 0} {view : X → A} {rows : List Row} {old : Body} {out : Emitter} {r : Result X LowerRefusal} {m : Making A}
    → Emits view rows old.out out r m → Runs view rows old (record old { out = out }) r m
emitted {X} {A} {view} {rows} {old} {out} {r} {m} h = emitted-runs (record { objects = refl; outside = refl }) refl refl h

-- a call emitted something into the code of the body, and what comes after it runs the rest
pub emit-step : {X A Y B : Type 0} {view : X → A} {next_view : Y → B} {rows : List Row} {old new : Body} {out : Emitter} {x : X} {r : Result Y LowerRefusal}
    {m : Making A} {w : Making B} (f : A → Making B)
    → w ≡ (m >>= f) → Emits view rows old.out out (Ok x) m → Runs next_view rows (record old { out = out }) new r (f (view x)) → Runs next_view rows old new r w
emit-step {X} {A} {Y} {B} {view} {next_view} {rows} {old} {new} {out} {x} {r} {m} f is first next =
    run-step {mid = record old { out = out }} f is (emitted first) next

-- a call into the code of the body was refused
pub emit-stop : {X A Y B : Type 0} {view : X → A} {next_view : Y → B} {rows : List Row} {old new : Body} {out out' : Emitter} {r : Result Y LowerRefusal}
    {e : LowerRefusal} {m : Making A} {w : Making B} (f : A → Making B)
    → w ≡ (m >>= f) → r ≡ Err e → old.out ≡ out' → Emits view rows out' out (Err e) m → Runs next_view rows old new r w
emit-stop {X} {A} {Y} {B} {view} {next_view} {rows} {old} {new} {out} {out'} {r} {e} {m} f is out-is before first =
    run-stop {mid = record old { out = out }} f is out-is (emitted-runs (record { objects = refl; outside = refl }) before refl first)
