-- What the rounds of a loop run.
use Rattle.std.proofs.Common.{◌≡◌, ℕ, ◌+◌, ◌-◌, List, [], ◌∷◌, ◌++◌, length, take, reverse, Option, Some, None, Result, Ok, Err, refl, sym, ◌∙◌, ap, subst}
use Rattle.std.proofs.Common.{arith}
use Rattle.std.specs.Prelude.{⊤}
use Rattle.std.specs.declared.alloc.Global.{Global}
use Rattle.std.specs.declared.vec.Vec.{Vec}
use Rattle.std.proofs.lemmas.List.{length-append, reverse-append}
use Rattle.std.proofs.Math.Seq.{take-append_seam}
use Rattle.mid_code.specs.declared.mid.Mid.TheVariants as mid
use Rattle.c_types.specs.declared.type_ref.Row.{Row}
use Rattle.lower.specs.declared.allotted.Allotted.{Allotted as CodeAllotted}
use Rattle.lower.specs.declared.body.Body.{Body}
use Rattle.lower.specs.declared.emitter.Emitter.{Emitter}
use Rattle.lower.specs.declared.refusal.LowerRefusal.{LowerRefusal}
use Rattle.lower.specs.declared.refusal.LowerRefusal.TheVariants.{TooManyRegisters, TooLong, Memory}
use Rattle.lower.specs.Emitting.{Line, Code, Around, at_line, Making, emits_code}
use Rattle.lower.specs.Expressions.{Inside}
use Rattle.lower.specs.Instructions.{told}
use Rattle.lower.specs.SoFar.{Leads, Lines, with_line, added, grown, IsHere}
use Rattle.lower.specs.Drafts.{code_of}
use Rattle.lower.specs.Emits.{allotted_view, Makes, Emits}
use Rattle.lower.specs.Runs.{around_of, SameObjects}
use Rattle.lower.specs.Bodies.{EntersLoop, LeavesLoop, LeavesUnless, LandsIf}
use Rattle.lower.specs.Statements.{leaves_at, loop_code, do_code, within}
use Rattle.lower.proofs.Parts.{Gives, GivesAs, GivesMade, Ran, Grew}
use Rattle.lower.proofs.Looping.{LeadsOut, loop-grown, do-grown}

-- ---- one instruction

-- the code grows by an instruction, whatever stands around
abbrev pub OneMore : Line → Emitter → Emitter → Type 0
OneMore l old new = (leads : List Leads) → code_of new.code leads ≡ with_line l (code_of old.code leads)

grown-one : (l : Line) (around : Around) (s : Lines) → grown around (λ around start. l ∷ []) s ≡ with_line l s
unfolding with_line
grown-one l around None = refl
grown-one l around (Some ls) = refl

no_around : Around
no_around = record { break_at = 0; continue_at = 0; in_loop = []; in_function = [] }

-- an instruction, and what is given after it with its code known
pub one-step : {Y B : Type 0} {next_view : Y → B} {rows : List Row} {old mid : Emitter} {new : CodeAllotted} {Q : Code → Type 0} {y : Y} {x : ⊤} (l : Line)
    {view : ⊤ → Unit {0}} {m : Making B} → Emits view rows old mid (Ok x) (emits_code (λ around start. l ∷ []))
    → (OneMore l old mid → Gives next_view rows mid.allotted new Q (Ok y) m) → Gives next_view rows old.allotted new Q (Ok y) m
one-step {Y} {B} {next_view} {rows} {old} {mid} {new} {Q} {y} {x} l {view} {m} first next =
    record { is = λ stand. by (first.is stand) }
  where
    by : Makes rows (emits_code (λ around start. l ∷ []) (allotted_view rows old.allotted)) (view x) old mid
        → GivesMade rows (m (allotted_view rows old.allotted)) (next_view y) new Q
    by h = subst (λ z. GivesMade rows (m z) (next_view y) new Q) (sym h.1)
        ((next (λ leads. h.2 leads no_around ∙ grown-one l no_around (code_of old.code leads))).is h.3)

-- and what is refused after it
pub one-pass : {Y B : Type 0} {next_view : Y → B} {rows : List Row} {old mid : Emitter} {new : CodeAllotted} {Q : Code → Type 0} {r : Result Y LowerRefusal}
    {x : ⊤}
    (l : Line) {view : ⊤ → Unit {0}} {m : Making B} → Emits view rows old mid (Ok x) (emits_code (λ around start. l ∷ []))
    → Gives next_view rows mid.allotted new Q r m → Gives next_view rows old.allotted new Q r m
one-pass {Y} {B} {next_view} {rows} {old} {mid} {new} {Q} {r} {x} l {view} {m} first next = record { is = by r next.is }
  where
    by : (s : Result Y LowerRefusal) → GivesAs next_view rows mid.allotted new Q s m → GivesAs next_view rows old.allotted new Q s m
    by (Ok y) then = λ stand. subst (λ z. GivesMade rows (m z) (next_view y) new Q) (sym (first.is stand).1) (then (first.is stand).3)
    by (Err (TooManyRegisters line)) then = λ stand. ap m (first.is stand).1 ∙ then (first.is stand).3
    by (Err (TooLong line)) then = then
    by (Err Memory) then = tt

-- ---- what stands around the body

around-inside : (i : Inside) (old b1 : Body) (objects : Vec ℕ Global) (out : Emitter) → EntersLoop old b1 objects → (b c : ℕ) (leads : List Leads)
    → around_of (record b1 { out = out }) (record { break_at = b; continue_at = c } ∷ leads) ≡ within i b c (around_of old leads)
around-inside i old b1 objects out enter b c leads = λ j. record {
  break_at = b;
  continue_at = c;
  in_loop = reverse (enter.none j);
  in_function = (ap (λ z. reverse z ++ reverse b1.outside.items) enter.none ∙ ap reverse enter.outside ∙ reverse-append old.outside.items old.objects.items) j;
}

-- ---- the objects around

same-around : (old b1 b5 new : Body) (objects : Vec ℕ Global) (C : ℕ) (out4 out8 : Emitter)
    → EntersLoop old b1 objects → SameObjects (record b1 { out = out4 }) b5 → LeavesLoop objects.items C (record b5 { out = out8 }) new → SameObjects old new
same-around old b1 b5 new objects C out4 out8 enter same leave = record {
  objects = leave.objects_now ∙ enter.objects_then;
  outside =
      leave.outside ∙ (λ j. take (length (all j) - length (enter.objects_then j)) (all j))
      ∙ ap (λ n. take n (old.outside.items ++ old.objects.items))
      (count (length old.outside.items) (length old.objects.items) _ (length-append old.outside.items old.objects.items))
      ∙ take-append_seam old.outside.items old.objects.items;
}
  where
    all : b5.outside.items ≡ old.outside.items ++ old.objects.items
    all = same.outside ∙ enter.outside

    count : (a b n : ℕ) → n ≡ a + b → n - b ≡ a
    count a b n is = omega arith

-- ---- the jump out

leaves-grown : (i : Inside) (line : ℕ) (r at : Option ℕ) (out3 out4 : Emitter) → LeavesUnless line r out3 out4 (Ok at) → (leads : List Leads)
    → code_of out4.code leads ≡ added (leaves_at i line r 0) (code_of out3.code leads)
leaves-grown i line None None out3 out4 h leads = ap (λ (o : Emitter). code_of o.code leads) h
leaves-grown i line (Some r) (Some at) out3 out4 h leads = h.grown leads
leaves-grown i line None (Some at) out3 out4 h leads = absurd h
leaves-grown i line (Some r) None out3 out4 h leads = absurd h

leads-out : (line : ℕ) (r at : Option ℕ) (out3 out4 out7 out8 : Emitter) → LeavesUnless line r out3 out4 (Ok at) → LandsIf at out7 out8 → (leads : List Leads)
    → LeadsOut r at (code_of out3.code leads) (code_of out7.code leads) (code_of out8.code leads)
leads-out line None None out3 out4 out7 out8 h led leads = ap (λ (o : Emitter). code_of o.code leads) led
leads-out line (Some r) (Some at) out3 out4 out7 out8 h led leads = (h.here leads, led.lands leads)
leads-out line None (Some at) out3 out4 out7 out8 h led leads = absurd h
leads-out line (Some r) None out3 out4 out7 out8 h led leads = absurd h

pub leaves-allotted : (line : ℕ) (r at : Option ℕ) (out3 out4 : Emitter) → LeavesUnless line r out3 out4 (Ok at) → out4.allotted ≡ out3.allotted
leaves-allotted line None None out3 out4 h = ap (λ (o : Emitter). o.allotted) h
leaves-allotted line (Some r) (Some at) out3 out4 h = h.allotted
leaves-allotted line None (Some at) out3 out4 h = absurd h
leaves-allotted line (Some r) None out3 out4 h = absurd h

pub lands-allotted : (at : Option ℕ) (old new : Emitter) → LandsIf at old new → new.allotted ≡ old.allotted
lands-allotted None old new h = ap (λ (o : Emitter). o.allotted) h
lands-allotted (Some at) old new h = h.allotted

-- ---- a loop ran

module _ (i : Inside) (line top C : ℕ) (old b1 b5 new : Body) (objects : Vec ℕ Global) (body : Code)
    (start : (leads : List Leads) → IsHere top (code_of old.out.code leads)) (enter : EntersLoop old b1 objects)
    (here : (leads : List Leads) → IsHere C (code_of b5.out.code leads)) where
  pub rounds-ran : (r at : Option ℕ) (test step : Code) (out2 out3 out4 out6 out7 out8 : Emitter)
      → OneMore (told line mid.Turn) b1.out out2 → Grew out2 out3 test → LeavesUnless line r out3 out4 (Ok at) → Ran (record b1 { out = out4 }) b5 body
      → Grew b5.out out6 step → OneMore (told line (mid.Jump top)) out6 out7 → LandsIf at out7 out8 → LeavesLoop objects.items C (record b5 { out = out8 }) new
      → Ran old new (loop_code i line r test body step)
  rounds-ran r at test step out2 out3 out4 out6 out7 out8 turn tested unless ran stepped back led leave = record {
    same = same-around old b1 b5 new objects C out4 out8 enter ran.same leave;
    grows = λ leads.
        let around = around_of old leads in
        let s0 = code_of old.out.code leads in
        let front = grown around test (with_line (at_line line mid.Turn) s0) in
        let last : Leads = record { break_at = leave.break_at; continue_at = C } in
        let at-front : (l : Leads) → code_of out3.code (l ∷ leads) ≡ front =
        λ l. tested.grows (l ∷ leads) around ∙ ap (grown around test) (turn (l ∷ leads) ∙ ap (with_line (at_line line mid.Turn)) (enter.code l leads)) in
        let at-body : (b c : ℕ) → code_of b5.out.code (record { break_at = b; continue_at = c } ∷ leads)
        ≡ grown (within i b c around) body (added (leaves_at i line r 0) front) =
        λ b c. ran.grows (record { break_at = b; continue_at = c } ∷ leads)
        ∙ (λ j. grown (around-inside i old b1 objects out4 enter b c leads j) body
        ((leaves-grown i line r at out3 out4 unless (record { break_at = b; continue_at = c } ∷ leads)
        ∙ ap (added (leaves_at i line r 0)) (at-front (record { break_at = b; continue_at = c }))) j)) in
        leave.code leads
        ∙ loop-grown i around line body top C leave.break_at r at test step s0 front (code_of out7.code (last ∷ leads)) (code_of out8.code (last ∷ leads))
        (start leads) refl
        (λ b c. subst (IsHere C) (at-body b c) (here (record { break_at = b; continue_at = c } ∷ leads)))
        (back (last ∷ leads) ∙ ap (with_line (at_line line (mid.Jump top))) (stepped.grows (last ∷ leads) around
        ∙ ap (grown around step) (at-body leave.break_at C)))
        (subst (λ s. LeadsOut r at s (code_of out7.code (last ∷ leads)) (code_of out8.code (last ∷ leads))) (at-front last)
        (leads-out line r at out3 out4 out7 out8 unless led (last ∷ leads)))
        (leave.here (last ∷ leads));
  }

  pub do-ran : (x : ℕ) (test : Code) (out2 out6 out7 : Emitter)
      → OneMore (told line mid.Turn) b1.out out2 → Ran (record b1 { out = out2 }) b5 body
      → Grew b5.out out6 test → OneMore (told line (mid.JumpN x top)) out6 out7 → LeavesLoop objects.items C (record b5 { out = out7 }) new
      → Ran old new (do_code i line x body test)
  do-ran x test out2 out6 out7 turn ran tested back leave = record {
    same = same-around old b1 b5 new objects C out2 out7 enter ran.same leave;
    grows = λ leads.
        let around = around_of old leads in
        let s0 = code_of old.out.code leads in
        let front = with_line (at_line line mid.Turn) s0 in
        let last : Leads = record { break_at = leave.break_at; continue_at = C } in
        let at-body : (b c : ℕ) → code_of b5.out.code (record { break_at = b; continue_at = c } ∷ leads) ≡ grown (within i b c around) body front =
        λ b c. ran.grows (record { break_at = b; continue_at = c } ∷ leads)
        ∙ (λ j. grown (around-inside i old b1 objects out2 enter b c leads j) body
        ((turn (record { break_at = b; continue_at = c } ∷ leads) ∙ ap (with_line (at_line line mid.Turn))
        (enter.code (record { break_at = b; continue_at = c }) leads)) j)) in
        leave.code leads
        ∙ do-grown i around line body top C leave.break_at x test s0 front (code_of out7.code (last ∷ leads)) (start leads) refl
        (λ b c. subst (IsHere C) (at-body b c) (here (record { break_at = b; continue_at = c } ∷ leads)))
        (back (last ∷ leads) ∙ ap (with_line (at_line line (mid.JumpN x top))) (tested.grows (last ∷ leads) around
        ∙ ap (grown around test) (at-body leave.break_at C)))
        (leave.here (last ∷ leads));
  }
