-- What parts that begin objects, one after another, begin.
use Rattle.std.proofs.Common.{◌≡◌, ℕ, suc, ◌+◌, List, [], ◌∷◌, ◌++◌, length, Bool, true, false, Option, Some, None, Result, Ok, Err, refl, sym, ◌∙◌, ap, subst, arith}
use Rattle.std.proofs.lemmas.List.{append-nil, append_assoc, length-append, reverse-append}
use Rattle.c_types.specs.declared.type_ref.Row.{Row}
use Rattle.lower.specs.declared.body.Body.{Body}
use Rattle.lower.specs.declared.emitter.Emitter.{Emitter}
use Rattle.lower.specs.declared.refusal.LowerRefusal.{LowerRefusal}
use Rattle.lower.specs.declared.refusal.LowerRefusal.TheVariants.{TooManyRegisters, TooLong, Memory}
use Rattle.mid_code.specs.declared.program.RegisterKind.{RegisterKind}
use Rattle.lower.specs.Emitting.{new, most_registers, Line, Code, Around, Allotted, Made, Making, behind, and_then, ◌>>=◌, pure}
use Rattle.lower.specs.SoFar.{Leads, Lines, with_line, if_room, added, grown, most_instructions, IsHere}
use Rattle.lower.specs.Drafts.{code_of}
use Rattle.lower.specs.Emits.{AllStand, allotted_view, Grows, Makes, EmitsAs, Emits}
use Rattle.lower.specs.Runs.{around_of, BeganAt, MoreObjects, Opens, BeginsAs, Begins}
use Rattle.lower.proofs.Growing.{added-none, grown-behind, grown-none}
use Rattle.std.proofs.Common.{nat_lt}

-- ---- sizes

-- so many instructions are made
abbrev pub Sized : {A : Type 0} → ℕ → Result (Made A) ℕ → Type 0
Sized size (Ok k) = (around : Around) (start : ℕ) → length (k.code around start) ≡ size
Sized size (Err line) = Unit {0}

sized-made : {A : Type 0} (c : Code) (n p : ℕ) (d : Result (Made A) ℕ) → ((around : Around) (start : ℕ) → length (c around start) ≡ n) → Sized p d
    → Sized (n + p) (behind c d)
sized-made c n p (Ok k) first next = λ around start.
    length-append (c around start) (k.code around (start + length (c around start)))
    ∙ (λ i. first around start i + next around (start + length (c around start)) i)
sized-made c n p (Err line) first next = tt

sized-result : {A B : Type 0} (n p : ℕ) (c : Result (Made A) ℕ) (f : A → Making B) → Sized n c → ((a : A) (allotted : Allotted) → Sized p (f a allotted))
    → Sized (n + p) (and_then c f)
sized-result n p (Ok k) f first next = sized-made k.code n p (f k.given k.after) first (next k.given k.after)
sized-result n p (Err line) f first next = tt

pub sized-then : {A B : Type 0} (n p : ℕ) (m : Making A) (f : A → Making B) (allotted : Allotted) → Sized n (m allotted)
    → ((a : A) (allotted : Allotted) → Sized p (f a allotted)) → Sized (n + p) ((m >>= f) allotted)
unfolding ◌>>=◌
sized-then n p m f allotted first next = sized-result n p (m allotted) f first next

-- ---- what began

plus-zero : (n : ℕ) → n + 0 ≡ n
plus-zero n = omega arith

plus-suc : (n m : ℕ) → n + 1 + m ≡ n + suc m
plus-suc n m = omega arith

some-is : {A : Type 0} (x y : A) → Some x ≡ Some y → x ≡ y
some-is {A} x y is = ap out is
  where
    out : Option A → A
    out (Some z) = z
    out None = x

pub none-some : {A : Type 0} (x : A) → None ≡ Some x → ⊥
none-some {A} x is = subst (λ (o : Option A). by o) is tt
  where
    by : Option A → Type 0
    by (Some z) = ⊥
    by None = Unit {0}

-- the code so far is longer by what was added, unless it is too long
pub longer : (xs ls ms : List Line) → Some ms ≡ added xs (Some ls) → length ms ≡ length ls + length xs
unfolding with_line
longer [] ls ms is = ap length (some-is ms ls is) ∙ omega arith
longer (x ∷ xs) ls ms is = next (nat_lt (length ls) most_instructions) is (longer xs (ls ++ x ∷ []) ms)
  where
    next : (b : Bool) → Some ms ≡ added xs (if_room x ls b) → (Some ms ≡ added xs (Some (ls ++ x ∷ [])) → length ms ≡ length (ls ++ x ∷ []) + length xs)
        → length ms ≡ length ls + suc (length xs)
    next true is h = h is ∙ ap (λ n. n + length xs) (length-append ls (x ∷ [])) ∙ plus-suc (length ls) (length xs)
    next false is h = absurd (none-some ms (sym (is ∙ added-none xs)))

began-both : (first rest begun : ℕ → List ℕ) (size : ℕ) (o p : List ℕ) (c d : Code) (around : Around) (s0 s1 s2 : Lines)
    → s1 ≡ grown around c s0 → s2 ≡ grown around d s1 → ((start : ℕ) → length (c around start) ≡ size)
    → ((start : ℕ) → begun start ≡ rest (start + size) ++ first start)
    → BeganAt first o s0 s1 → BeganAt rest p s1 s2 → BeganAt begun (o ++ p) s0 s2
began-both first rest begun size o p c d around None s1 s2 g h sized are a b = tt
began-both first rest begun size o p c d around (Some ls) s1 None g h sized are a b = tt
began-both first rest begun size o p c d around (Some ls) None (Some after) g h sized are a b = absurd (none-some after (sym h))
began-both first rest begun size o p c d around (Some ls) (Some ms) (Some after) g h sized are a b =
    reverse-append o p
    ∙ (λ i. b i ++ a i)
    ∙ ap (λ n. rest n ++ first (length ls)) (longer (c around (length ls)) ls ms g ∙ ap (λ n. length ls + n) (sized (length ls)))
    ∙ sym (are (length ls))

-- ---- steps

pub more-both : (first rest begun : ℕ → List ℕ) (size : ℕ) → ((start : ℕ) → begun start ≡ rest (start + size) ++ first start) → (old mid new : Body)
    (c d : Code)
    → ((around : Around) (start : ℕ) → length (c around start) ≡ size)
    → Grows c (code_of old.out.code) (code_of mid.out.code) → Grows d (code_of mid.out.code) (code_of new.out.code)
    → MoreObjects first old mid → MoreObjects rest mid new → MoreObjects begun old new
more-both first rest begun size are old mid new c d sized grows more a b = record {
  opened = a.opened ++ b.opened;
  objects = b.objects ∙ ap (λ (l : List ℕ). l ++ b.opened) a.objects ∙ append_assoc old.objects.items a.opened b.opened;
  outside = b.outside ∙ a.outside;
  began = λ leads.
      let around = around_of old leads in
      began-both first rest begun size a.opened b.opened c d around (code_of old.out.code leads) (code_of mid.out.code leads) (code_of new.out.code leads)
      (grows leads around) (more leads around) (sized around) are (a.began leads) (b.began leads);
}

module _ {A B Y : Type 0} (next_view : Y → B) (rows : List Row) (first rest begun : ℕ → List ℕ) (size : ℕ)
    (are : (start : ℕ) → begun start ≡ rest (start + size) ++ first start) (old mid new : Body) where
  opens-then : (a : A) (y : Y) (c : Made A) (d : Result (Made B) ℕ) → ((around : Around) (start : ℕ) → length (c.code around start) ≡ size)
      → MoreObjects first old mid → Grows c.code (code_of old.out.code) (code_of mid.out.code) → Opens rows rest d (next_view y) mid new
      → Opens rows begun (behind c.code d) (next_view y) old new
  opens-then a y c (Ok m) sized more grows next = (
    next.0,
    next.1,
    more-both first rest begun size are old mid new c.code m.code sized grows next.3 more next.2,
    (λ leads around. next.3 leads around ∙ ap (grown around m.code) (grows leads around)
        ∙ grown-behind around c.code m.code (code_of old.out.code leads)),
    next.4,
  )
  opens-then a y c (Err line) sized more grows next = absurd next

  opens-given : (a : A) (f : A → Making B) (y : Y) (c : Result (Made A) ℕ) → Sized size c → Opens rows first c a old mid
      → (AllStand rows mid.out.allotted.types.keys → Opens rows rest (f a (allotted_view rows mid.out.allotted)) (next_view y) mid new)
      → Opens rows begun (and_then c f) (next_view y) old new
  opens-given a f y (Ok c) sized now next =
      opens-then a y c (f c.given c.after) sized now.2 now.3
      (subst (λ (d : Result (Made B) ℕ). Opens rows rest d (next_view y) mid new) (λ i. f (sym now.0 i) (sym now.1 i)) (next now.4))
  opens-given a f y (Err line) sized now next = absurd now

opens-refused : {A B : Type 0} (rows : List Row) (first : ℕ → List ℕ) (old mid : Body) (a : A) (f : A → Making B) (line : ℕ) (c : Result (Made A) ℕ)
    → Opens rows first c a old mid
    → (AllStand rows mid.out.allotted.types.keys → f a (allotted_view rows mid.out.allotted) ≡ Err line) → and_then c f ≡ Err line
opens-refused rows first old mid a f line (Ok c) now next = ap (behind c.code) ((λ i. f (now.0 i) (now.1 i)) ∙ next now.4)
opens-refused rows first old mid a f line (Err l) now next = absurd now

-- a part of a known size began objects, and what comes after it begins the rest
pub begin-step : {X A Y B : Type 0} {view : X → A} {next_view : Y → B} {rows : List Row} {first rest begun : ℕ → List ℕ} {old mid new : Body} {x : X}
    {r : Result Y LowerRefusal} {m : Making A} {w : Making B} (f : A → Making B) (size : ℕ)
    → w ≡ (m >>= f) → ((allotted : Allotted) → Sized size (m allotted)) → ((start : ℕ) → begun start ≡ rest (start + size) ++ first start)
    → Begins view rows first old mid (Ok x) m → Begins next_view rows rest mid new r (f (view x)) → Begins next_view rows begun old new r w
unfolding ◌>>=◌
begin-step {X} {A} {Y} {B} {view} {next_view} {rows} {first} {rest} {begun} {old} {mid} {new} {x} {r} {m} f size is sized are now next =
    subst (Begins next_view rows begun old new r) (sym is) (record { is = by r next.is })
  where
    by : (s : Result Y LowerRefusal) → BeginsAs next_view rows rest mid new s (f (view x)) → BeginsAs next_view rows begun old new s (m >>= f)
    by (Ok y) then = λ stand.
        opens-given next_view rows first rest begun size are old mid new (view x) f y (m (allotted_view rows old.out.allotted))
        (sized (allotted_view rows old.out.allotted)) (now.is stand) then
    by (Err (TooManyRegisters line)) then =
        λ stand. opens-refused rows first old mid (view x) f line (m (allotted_view rows old.out.allotted)) (now.is stand) then
    by (Err (TooLong line)) then = then
    by (Err Memory) then = then

-- a part was refused, which the whole is then
pub begin-stop : {X A Y B : Type 0} {view : X → A} {next_view : Y → B} {rows : List Row} {first begun : ℕ
    → List ℕ} {old mid new : Body} {r : Result Y LowerRefusal}
    {e : LowerRefusal} {m : Making A} {w : Making B} (f : A → Making B)
    → w ≡ (m >>= f) → r ≡ Err e → Begins view rows first old mid (Err e) m → Begins next_view rows begun old new r w
unfolding ◌>>=◌
begin-stop {X} {A} {Y} {B} {view} {next_view} {rows} {first} {begun} {old} {mid} {new} {r} {e} {m} {w} f is out now =
    subst (λ s. Begins next_view rows begun old new s w) (sym out) (subst (Begins next_view rows begun old new (Err e)) (sym is) (record { is = by e now.is }))
  where
    by : (e : LowerRefusal) → BeginsAs view rows first old mid (Err e) m → BeginsAs next_view rows begun old new (Err e) (m >>= f)
    by (TooManyRegisters line) h = λ stand. ap (λ c. and_then c f) (h stand)
    by (TooLong line) h = h
    by Memory h = h

began-none : (begun : ℕ → List ℕ) (s0 s1 : Lines) → ((start : ℕ) → begun start ≡ []) → BeganAt begun [] s0 s1
began-none begun None s1 is = tt
began-none begun (Some ls) None is = tt
began-none begun (Some ls) (Some after) is = sym (is (length ls))

pub no-objects : (begun : ℕ → List ℕ) (old new : Body) → ((start : ℕ) → begun start ≡ []) → new.objects.items ≡ old.objects.items
    → new.outside.items ≡ old.outside.items → MoreObjects begun old new
no-objects begun old new is objects outside = record {
  opened = [];
  objects = objects ∙ sym (append-nil old.objects.items);
  outside = outside;
  began = λ leads. began-none begun (code_of old.out.code leads) (code_of new.out.code leads) is;
}

-- nothing begins
pub begin-given : {Y B : Type 0} {view : Y → B} {rows : List Row} {begun : ℕ → List ℕ} {s : Body} {y : Y} → ((start : ℕ) → begun start ≡ [])
    → Begins view rows begun s s (Ok y) (pure (view y))
begin-given {Y} {B} {view} {rows} {begun} {s} {y} is = record {
  is = λ stand. (refl, refl, no-objects begun s s is refl refl, (λ leads around. grown-none around (code_of s.out.code leads)), stand);
}

pub begin-memory : {X A : Type 0} {view : X → A} {rows : List Row} {begun : ℕ → List ℕ} {old new : Body} {r : Result X LowerRefusal} {m : Making A}
    → r ≡ Err Memory → Begins view rows begun old new r m
begin-memory {X} {A} {view} {rows} {begun} {old} {new} {r} {m} e = record { is = subst (λ s. BeginsAs view rows begun old new s m) (sym e) tt }

pub begin-same : {Y B : Type 0} {view : Y → B} {rows : List Row} {begun : ℕ → List ℕ} {old new : Body} {r : Result Y LowerRefusal} {m w : Making B}
    → w ≡ m → Begins view rows begun old new r m → Begins view rows begun old new r w
begin-same {Y} {B} {view} {rows} {begun} {old} {new} {r} is h = subst (Begins view rows begun old new r) (sym is) h

-- the same objects, told in another way
pub begin-at : {Y B : Type 0} {view : Y → B} {rows : List Row} (begun begun' : ℕ → List ℕ) {old new : Body} {r : Result Y LowerRefusal} {m : Making B}
    → ((start : ℕ) → begun' start ≡ begun start) → Begins view rows begun old new r m → Begins view rows begun' old new r m
begin-at {Y} {B} {view} {rows} begun begun' {old} {new} {r} {m} is h =
    subst (λ (b : ℕ → List ℕ). Begins view rows b old new r m) (λ i start. sym (is start) i) h

-- ---- what is emitted begins nothing

made-opens : {A : Type 0} (rows : List Row) (begun : ℕ → List ℕ) (old new : Body) (a : A) (c : Result (Made A) ℕ)
    → MoreObjects begun old new → Makes rows c a old.out new.out → Opens rows begun c a old new
made-opens rows begun old new a (Ok m) more h = (h.0, h.1, more, h.2, h.3)
made-opens rows begun old new a (Err line) more h = h

-- what is emitted while these objects begin
pub emitted-opens : {X A : Type 0} {view : X → A} {rows : List Row} (begun : ℕ → List ℕ) (old new : Body) {r : Result X LowerRefusal} {m : Making A}
    → MoreObjects begun old new → Emits view rows old.out new.out r m → Begins view rows begun old new r m
emitted-opens {X} {A} {view} {rows} begun old new {r} {m} more h = record { is = by r h.is }
  where
    by : (s : Result X LowerRefusal) → EmitsAs view rows old.out new.out s m → BeginsAs view rows begun old new s m
    by (Ok x) h = λ stand. made-opens rows begun old new (view x) (m (allotted_view rows old.out.allotted)) more (h stand)
    by (Err (TooManyRegisters line)) h = h
    by (Err (TooLong line)) h = h
    by (Err Memory) h = h

pub emitted-begins : {X A : Type 0} {view : X → A} {rows : List Row} {old : Body} {out : Emitter} {r : Result X LowerRefusal} {m : Making A}
    → Emits view rows old.out out r m → Begins view rows (λ start. []) old (record old { out = out }) r m
emitted-begins {X} {A} {view} {rows} {old} {out} {r} {m} h =
    emitted-opens (λ start. []) old (record old { out = out }) (no-objects (λ start. []) old (record old { out = out }) (λ start. refl) refl refl) h

-- it makes no instruction, and what comes after it begins the rest
pub begin-emitted : {X A Y B : Type 0} {view : X → A} {next_view : Y → B} {rows : List Row} {begun : ℕ → List ℕ} {old new : Body} {out : Emitter} {x : X}
    {r : Result Y LowerRefusal} {m : Making A} {w : Making B} (f : A → Making B)
    → w ≡ (m >>= f) → ((allotted : Allotted) → Sized 0 (m allotted)) → Emits view rows old.out out (Ok x) m
    → Begins next_view rows begun (record old { out = out }) new r (f (view x)) → Begins next_view rows begun old new r w
begin-emitted {X} {A} {Y} {B} {view} {next_view} {rows} {begun} {old} {new} {out} {x} {r} {m} {w} f is sized now next =
    begin-step {first = λ start. []} {rest = begun} {mid = record old { out = out }} f 0 is sized
    (λ start. ap begun (sym (plus-zero start)) ∙ sym (append-nil (begun (start + 0)))) (emitted-begins now) next

-- ---- parts of known size

pub sized-new : (kind : RegisterKind) (line : ℕ) (allotted : Allotted) → Sized 0 (new kind line allotted)
sized-new kind line allotted = by (nat_lt (length allotted.kinds) most_registers) refl
  where
    by : (b : Bool) → nat_lt (length allotted.kinds) most_registers ≡ b → Sized 0 (new kind line allotted)
    by true e = rw e (λ around start. refl)
    by false e = rw e tt

-- ---- an object begins

began-here : (place : ℕ) (s t : Lines) → IsHere place s → BeganAt (λ start. start ∷ []) (place ∷ []) s t
began-here place None t here = tt
began-here place (Some ls) None here = tt
began-here place (Some ls) (Some after) here = ap (λ n. n ∷ []) here.0

pub opened-here : (old new : Body) (place : ℕ) → ((leads : List Leads) → IsHere place (code_of old.out.code leads))
    → new.objects.items ≡ old.objects.items ++ place ∷ [] → new.outside.items ≡ old.outside.items → MoreObjects (λ start. start ∷ []) old new
opened-here old new place here objects outside = record {
  opened = place ∷ [];
  objects = objects;
  outside = outside;
  began = λ leads. began-here place (code_of old.out.code leads) (code_of new.out.code leads) (here leads);
}
