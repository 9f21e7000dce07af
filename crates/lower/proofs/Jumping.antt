-- What a jump over code makes, once it is led to the place behind: of one part, and of two ways.
use Rattle.std.proofs.Common.{◌≡◌, ℕ, ◌+◌, ◌-◌, Bool, true, false, not, Fits, w32, arith, List, [], ◌∷◌, Some, None, Result, Ok, Err, refl, sym, ◌∙◌, ap, subst}
use Rattle.std.specs.Prelude.{⊤}
use Rattle.c_types.specs.declared.type_ref.Row.{Row}
use Rattle.mid_code.specs.declared.mid.Mid.{Mid}
use Rattle.mid_code.specs.declared.mid.Mid.TheVariants as mid
use Rattle.lower.specs.declared.emitter.Emitter.{Emitter}
use Rattle.lower.specs.declared.refusal.LowerRefusal.{LowerRefusal}
use Rattle.lower.specs.declared.refusal.LowerRefusal.TheVariants.{TooManyRegisters, TooLong, Memory}
use Rattle.lower.specs.Emitting.{Code, ◌⨟◌, no_code, at_line, one_at, jumped, parted, Around, Allotted, Made, Making, behind, and_then, ◌>>=◌, pure, around_code, wrapped, apart, two_ways}
use Rattle.lower.specs.Emitting as making
use mir.Val.{bool_byte}
use Rattle.lower.specs.Expressions.{deciding, digit}
use Rattle.lower.specs.Instructions.{told}
use Rattle.lower.specs.SoFar.{Leads, Lines, added, grown, line_to, IsHere}
use Rattle.lower.specs.Drafts.{code_of}
use Rattle.lower.specs.Jumps.{LandsHere, Waiting, Waits, Turning, Turns}
use Rattle.lower.specs.Emits.{AllStand, allotted_view, Grows, Makes, EmitsAs, Emits, emits_mid, nothing}
use Rattle.lower.proofs.Growing.{grown-behind, grown-none}
use Rattle.lower.proofs.Landing.{behind-jump, behind-both}

-- the jump names the place to which it is led
abbrev pub Leading : ℕ → (ℕ → Mid) → Type 0
Leading line jump = (to : ℕ) → line_to to (at_line line (jump 0)) ≡ at_line line (jump to)

pub leads-deciding : (line : ℕ) (is_or : Bool) (r : ℕ) → Leading line (deciding is_or r)
leads-deciding line true r = λ to. refl
leads-deciding line false r = λ to. refl

-- as it is told
pub told-deciding : (line : ℕ) (is_or : Bool) (r to : ℕ) → told line (deciding is_or r to) ≡ at_line line (deciding is_or r to)
told-deciding line true r to = refl
told-deciding line false r to = refl

-- for want of memory no jump waits
pub no-wait : (line : ℕ) (jump : ℕ → Mid) (old new : Emitter) {r : Result ℕ LowerRefusal} → r ≡ Err Memory → Waits line jump old new r
no-wait line jump old new {r} is = subst (Waits line jump old new) (sym is) refl

pub no-turn : (line at : ℕ) (old new : Emitter) {r : Result ℕ LowerRefusal} → r ≡ Err Memory → Turns line at old new r
no-turn line at old new {r} is = subst (Turns line at old new) (sym is) refl

-- ---- an instruction that names a place by its own

pub here-fits : (here : ℕ) (s : Lines) → IsHere here s → Fits w32 (here + 2)
here-fits here None is = omega (arith, is)
here-fits here (Some ls) is = omega (arith, is.0, is.1)

pub same-constant : {rows : List Row} {old new : Emitter} {r : Result ⊤ LowerRefusal} (line d n m : ℕ) → n ≡ m
    → Emits nothing rows old new r (emits_mid line (mid.Const d n)) → Emits nothing rows old new r (emits_mid line (mid.Const d m))
same-constant {rows} {old} {new} {r} line d n m is h = subst (λ z. Emits nothing rows old new r (emits_mid line (mid.Const d z))) is h

pub neither-digit : (is_or : Bool) (n : ℕ) → n ≡ bool_byte (not is_or) → n ≡ 1 - digit is_or
neither-digit true n is = is
neither-digit false n is = is

jump-here : (around : Around) (line here : ℕ) (jump : ℕ → Mid) → ((to : ℕ) → told line (jump to) ≡ at_line line (jump to))
    → (s : Lines) → IsHere here s → grown around (λ a start. told line (jump here) ∷ []) s ≡ grown around (one_at line jump) s
jump-here around line here jump tells None is = refl
jump-here around line here jump tells (Some ls) is = ap (λ l. added (l ∷ []) (Some ls)) (tells here ∙ ap (λ n. at_line line (jump n)) is.0)

pub emits-here : {rows : List Row} {old new : Emitter} {r : Result ⊤ LowerRefusal} (line here : ℕ) (jump : ℕ → Mid)
    → ((to : ℕ) → told line (jump to) ≡ at_line line (jump to)) → ((leads : List Leads) → IsHere here (code_of old.code leads))
    → Emits nothing rows old new r (emits_mid line (jump here)) → Emits nothing rows old new r (making.emits_code (one_at line jump))
emits-here {rows} {old} {new} {r} line here jump tells is h = record { is = by r h.is }
  where
    by : (r : Result ⊤ LowerRefusal) → EmitsAs nothing rows old new r (emits_mid line (jump here)) → EmitsAs nothing rows old new r
        (making.emits_code (one_at line jump))
    by (Ok x) e = λ stand. let m = e stand in
        (m.0, m.1, (λ leads around. m.2 leads around ∙ jump-here around line here jump tells (code_of old.code leads) (is leads)), m.3)
    by (Err (TooManyRegisters l)) e = λ stand. absurd (differ (e stand))
      where
        is-ok : Result (Made (Unit {0})) ℕ → Type 0
        is-ok (Ok x) = Unit {0}
        is-ok (Err k) = ⊥

        differ : making.emits_code (λ around start. told line (jump here) ∷ []) (allotted_view rows old.allotted) ≡ Err l → ⊥
        differ q = subst is-ok q tt
    by (Err (TooLong l)) e = e
    by (Err Memory) e = e

-- ---- the same registers are allotted

allots-same : (A : Type 0) (rows : List Row) (m : Making A) (a : A) (s0 s1 s2 : Emitter) → s1.allotted ≡ s0.allotted
    → (AllStand rows s1.allotted.types.keys → Makes rows (m (allotted_view rows s1.allotted)) a s1 s2)
    → AllStand rows s0.allotted.types.keys → Makes rows (m (allotted_view rows s0.allotted)) a s1 s2
allots-same A rows m a s0 s1 s2 is =
    subst (λ z. (AllStand rows z.types.keys → Makes rows (m (allotted_view rows z)) a s1 s2)) is

refuses-same : (A : Type 0) (rows : List Row) (m : Making A) (line : ℕ) (s0 s1 : Emitter) → s1.allotted ≡ s0.allotted
    → (AllStand rows s1.allotted.types.keys → m (allotted_view rows s1.allotted) ≡ Err line)
    → AllStand rows s0.allotted.types.keys → m (allotted_view rows s0.allotted) ≡ Err line
refuses-same A rows m line s0 s1 is = subst (λ z. (AllStand rows z.types.keys → m (allotted_view rows z) ≡ Err line)) is

pub digit-is : (is_or : Bool) (n : ℕ) → n ≡ bool_byte is_or → n ≡ digit is_or
digit-is true n is = is
digit-is false n is = is

-- ---- one part

-- a part behind a jump over it
pub jumped-over : {X A : Type 0} {view : X → A} {rows : List Row} {line at : ℕ} {jump : ℕ → Mid} {s0 s1 s2 s3 : Emitter} {x : X} {body : Making A}
    → Leading line jump → Waiting line jump s0 s1 at → Emits view rows s1 s2 (Ok x) body
    → s3.allotted ≡ s2.allotted → LandsHere at (code_of s2.code) (code_of s3.code)
    → Emits view rows s0 s3 (Ok x) (wrapped (jumped line jump) body)
jumped-over {X} {A} {view} {rows} {line} {at} {jump} {s0} {s1} {s2} {s3} {x} {body} led waits inner same lands =
    record { is = λ stand. by (body (allotted_view rows s0.allotted)) (allots-same A rows body (view x) s0 s1 s2 waits.allotted inner.is stand) }
  where
    by : (m : Result (Made A) ℕ) → Makes rows m (view x) s1 s2 → Makes rows (around_code (jumped line jump) m) (view x) s0 s3
    by (Ok m) h = (
      h.0,
      h.1 ∙ ap (allotted_view rows) (sym same),
      (λ leads around.
          behind-jump around line jump m.code led at (code_of s0.code leads) (code_of s2.code leads) (code_of s3.code leads) (waits.here leads)
          (h.2 leads around ∙ ap (grown around m.code) (waits.grown leads)) (lands leads)),
      subst (λ z. AllStand rows z.types.keys) (sym same) h.3,
    )
    by (Err l) h = absurd h

-- that part was refused
pub jumped-refused : {X A : Type 0} {view : X → A} {rows : List Row} {line at : ℕ} {jump : ℕ → Mid} {s0 s1 s2 : Emitter} {e : LowerRefusal} {body : Making A}
    → Waiting line jump s0 s1 at → Emits view rows s1 s2 (Err e) body
    → Emits view rows s0 s2 (Err e) (wrapped (jumped line jump) body)
jumped-refused {X} {A} {view} {rows} {line} {at} {jump} {s0} {s1} {s2} {e} {body} waits inner = record { is = by e inner.is }
  where
    by : (e : LowerRefusal) → EmitsAs view rows s1 s2 (Err e) body → EmitsAs view rows s0 s2 (Err e) (wrapped (jumped line jump) body)
    by (TooManyRegisters l) h = λ stand. ap (around_code (jumped line jump)) (refuses-same A rows body l s0 s1 waits.allotted h stand)
    by (TooLong l) h = h
    by Memory h = h

-- ---- two ways

grown-alone : (around : Around) (c : Code) (s : Lines) → grown around (no_code ⨟ (no_code ⨟ (c ⨟ no_code))) s ≡ grown around c s
grown-alone around c s =
    sym (grown-behind around no_code (no_code ⨟ (c ⨟ no_code)) s)
    ∙ sym (ap (grown around (no_code ⨟ (c ⨟ no_code))) (grown-none around s))
    ∙ sym (grown-behind around no_code (c ⨟ no_code) s)
    ∙ sym (ap (grown around (c ⨟ no_code)) (grown-none around s))
    ∙ sym (grown-behind around c no_code s)
    ∙ sym (grown-none around (grown around c s))

-- the second way begins behind the first, and each is jumped over where the other is taken
pub both-ways : {X A Y B : Type 0} {view : X → A} {second_view : Y → B} {rows : List Row} {line at over : ℕ} {jump : ℕ → Mid}
    {s0 s1 s2 s3 s4 s5 : Emitter} {x : X} {y : Y} {m : Making A} (n : A → Making B)
    → Leading line jump → Waiting line jump s0 s1 at → Emits view rows s1 s2 (Ok x) m → Turning line at s2 s3 over
    → Emits second_view rows s3 s4 (Ok y) (n (view x)) → s5.allotted ≡ s4.allotted → LandsHere over (code_of s4.code) (code_of s5.code)
    → Emits view rows s0 s5 (Ok x) (two_ways line jump m n)
unfolding ◌>>=◌
both-ways {X} {A} {Y} {B} {view} {second_view} {rows} {line} {at} {over} {jump} {s0} {s1} {s2} {s3} {s4} {s5} {x} {y} {m} n led waits first turns second
    same lands =
    record { is = λ stand. by (m (allotted_view rows s0.allotted)) (allots-same A rows m (view x) s0 s1 s2 waits.allotted first.is stand) }
  where
    behind-first : (a : A) (c : Code) → a ≡ view x → Grows c (code_of s1.code) (code_of s2.code) → (d : Result (Made B) ℕ) → Makes rows d (second_view y) s3 s4
        → Makes rows (behind no_code (and_then (making.code_of d) (λ e. making.emits_code (parted line jump c e.1) >>= (λ u. pure a)))) (view x) s0 s5
    behind-first a c given grows (Ok d) h = (
      given,
      h.1 ∙ ap (allotted_view rows) (sym same),
      (λ leads around.
          behind-both around line jump c d.code led at over (code_of s0.code leads) (code_of s2.code leads) (code_of s3.code leads) (code_of s4.code leads)
          (code_of s5.code leads) (waits.here leads) (grows leads around ∙ ap (grown around c) (waits.grown leads)) (turns.here leads) (turns.lands leads)
          (h.2 leads around) (lands leads)
          ∙ sym (grown-alone around (parted line jump c d.code) (code_of s0.code leads))),
      subst (λ z. AllStand rows z.types.keys) (sym same) h.3,
    )
    behind-first a c given grows (Err l) h = absurd h

    by : (c : Result (Made A) ℕ) → Makes rows c (view x) s1 s2
        → Makes rows (and_then (making.code_of c) (λ first. apart (n first.0) >>=
        (λ second. making.emits_code (parted line jump first.1 second.1) >>= (λ u. pure first.0))))
        (view x) s0 s5
    by (Ok c) h =
        behind-first c.given c.code h.0 h.2 (n c.given c.after)
        (subst (λ (d : Result (Made B) ℕ). Makes rows d (second_view y) s3 s4) (λ i. n (sym h.0 i) (sym (h.1 ∙ ap (allotted_view rows) (sym turns.allotted)) i))
        (second.is (subst (λ z. AllStand rows z.types.keys) (sym turns.allotted) h.3)))
    by (Err l) h = absurd h

-- the first way was refused
pub first-refused : {X A B : Type 0} {view : X → A} {rows : List Row} {line at : ℕ} {jump : ℕ → Mid} {s0 s1 s2 : Emitter} {e : LowerRefusal}
    {m : Making A} (n : A → Making B)
    → Waiting line jump s0 s1 at → Emits view rows s1 s2 (Err e) m → Emits view rows s0 s2 (Err e) (two_ways line jump m n)
unfolding ◌>>=◌
first-refused {X} {A} {B} {view} {rows} {line} {at} {jump} {s0} {s1} {s2} {e} {m} n waits first = record { is = by e first.is }
  where
    by : (e : LowerRefusal) → EmitsAs view rows s1 s2 (Err e) m → EmitsAs view rows s0 s2 (Err e) (two_ways line jump m n)
    by (TooManyRegisters l) h = λ stand.
        ap (λ c. and_then (making.code_of c) (λ first. apart (n first.0) >>=
        (λ second. making.emits_code (parted line jump first.1 second.1) >>= (λ u. pure first.0))))
        (refuses-same A rows m l s0 s1 waits.allotted h stand)
    by (TooLong l) h = h
    by Memory h = h

-- the second was
pub second-refused : {X A Y B : Type 0} {view : X → A} {second_view : Y → B} {rows : List Row} {line at over : ℕ} {jump : ℕ → Mid}
    {s0 s1 s2 s3 s4 : Emitter} {x : X} {e : LowerRefusal} {m : Making A} (n : A → Making B)
    → Waiting line jump s0 s1 at → Emits view rows s1 s2 (Ok x) m → Turning line at s2 s3 over
    → Emits second_view rows s3 s4 (Err e) (n (view x)) → Emits view rows s0 s4 (Err e) (two_ways line jump m n)
unfolding ◌>>=◌
second-refused {X} {A} {Y} {B} {view} {second_view} {rows} {line} {at} {over} {jump} {s0} {s1} {s2} {s3} {s4} {x} {e} {m} n waits first turns second =
    record { is = by e second.is }
  where
    refused : (l : ℕ) → (AllStand rows s3.allotted.types.keys → n (view x) (allotted_view rows s3.allotted) ≡ Err l)
        → (c : Result (Made A) ℕ) → Makes rows c (view x) s1 s2
        → and_then (making.code_of c) (λ first. apart (n first.0) >>=
        (λ second. making.emits_code (parted line jump first.1 second.1) >>= (λ u. pure first.0))) ≡ Err l
    refused l h (Ok c) made =
        ap (λ d. behind no_code (and_then (making.code_of d) (λ second. making.emits_code (parted line jump c.code second.1) >>= (λ u. pure c.given))))
        ((λ i. n (made.0 i) ((made.1 ∙ ap (allotted_view rows) (sym turns.allotted)) i))
        ∙ h (subst (λ z. AllStand rows z.types.keys) (sym turns.allotted) made.3))
    refused l h (Err k) made = absurd made

    by : (e : LowerRefusal) → EmitsAs second_view rows s3 s4 (Err e) (n (view x)) → EmitsAs view rows s0 s4 (Err e) (two_ways line jump m n)
    by (TooManyRegisters l) h = λ stand. refused l h (m (allotted_view rows s0.allotted)) (allots-same A rows m (view x) s0 s1 s2 waits.allotted first.is stand)
    by (TooLong l) h = h
    by Memory h = h
