-- What the rounds of loops run, from what their parts do.
use Rattle.std.proofs.Common.{◌≡◌, ◌∙◌, ℕ, List, [], ◌∷◌, Option, Some, None, Result, Ok, Err, refl, sym, subst}
use Rattle.std.specs.Prelude.{⊤}
use Rattle.std.specs.declared.alloc.Global.{Global}
use Rattle.std.specs.declared.vec.Vec.{Vec}
use Rattle.c_types.specs.declared.type_ref.Row.{Row}
use Rattle.c_typed.specs.Typed.{Value}
use Rattle.mid_code.specs.declared.mid.Mid.TheVariants as mid
use Rattle.lower.specs.declared.allotted.Allotted.{Allotted as CodeAllotted}
use Rattle.lower.specs.declared.body.Body.{Body}
use Rattle.lower.specs.declared.emitter.Emitter.{Emitter}
use Rattle.lower.specs.declared.refusal.LowerRefusal.{LowerRefusal}
use Rattle.lower.specs.declared.refusal.LowerRefusal.TheVariants.{TooManyRegisters, TooLong, Memory}
use Rattle.lower.specs.Emitting.{Line, Code, Made, Making, emits_code}
use Rattle.lower.specs.Expressions.{Inside, value_of}
use Rattle.lower.specs.Instructions.{told}
use Rattle.lower.specs.Drafts.{code_of}
use Rattle.lower.specs.SoFar.{Leads, IsHere}
use Rattle.lower.specs.Statements.{looped, do_looped, loop_code, do_code, tested, done}
use Rattle.lower.specs.Emits.{nothing, itself, allotted_view, EmitsAs, Emits, emits_mid}
use Rattle.lower.specs.Runs.{Runs}
use Rattle.lower.specs.Bodies.{EntersLoop, LeavesLoop, LeavesUnless, LandsIf}
use Rattle.lower.proofs.Parts.{GivesAs, Gives, Ran, Grew, by-runs, by-emits, to-runs, apart-step, apart-pass, apart-stop, together, gives-same}
use Rattle.lower.proofs.Rounds.{OneMore, one-step, one-pass, leaves-allotted, lands-allotted, rounds-ran, do-ran}

-- ---- refusals

-- an instruction is refused for want of memory alone
pub one-stop : {Y B : Type 0} {next_view : Y → B} {rows : List Row} {old mid : Emitter} {new : CodeAllotted} {Q : Code → Type 0} {r : Result Y LowerRefusal}
    {e : LowerRefusal} (l : Line) {view : ⊤ → Unit {0}} {m : Making B} → r ≡ Err e → Emits view rows old mid (Err e) (emits_code (λ around start. l ∷ []))
    → Gives next_view rows old.allotted new Q r m
one-stop {Y} {B} {next_view} {rows} {old} {mid} {new} {Q} {r} {e} l {view} {m} out h =
    subst (λ s. Gives next_view rows old.allotted new Q s m) (sym out) (record { is = by e h.is })
  where
    is-ok : Result (Made (Unit {0})) ℕ → Type 0
    is-ok (Ok x) = Unit {0}
    is-ok (Err k) = ⊥

    differ : (k : ℕ) → emits_code (λ around start. l ∷ []) (allotted_view rows old.allotted) ≡ Err k → ⊥
    differ k q = subst is-ok q tt

    by : (e : LowerRefusal) → EmitsAs view rows old mid (Err e) (emits_code (λ around start. l ∷ [])) → GivesAs next_view rows old.allotted new Q (Err e) m
    by (TooManyRegisters k) h = λ stand. absurd (differ k (h stand))
    by (TooLong k) h = h
    by Memory h = h

pub unless-memory : (line : ℕ) (test : Option ℕ) (old new : Emitter) (e : LowerRefusal) → LeavesUnless line test old new (Err e) → e ≡ Memory
unless-memory line None old new e h = h
unless-memory line (Some r) old new e h = h

-- ---- a loop begins

module _ (rows : List Row) (i : Inside) (line top : ℕ) (b0 b1 : Body) (objects : Vec ℕ Global) (enter : EntersLoop b0 b1 objects) where
  pub turn-refused : (m : Making (Unit {0})) (out2 : Emitter) (new : Body) (r : Result ⊤ LowerRefusal) (e : LowerRefusal)
      → Emits nothing rows b1.out out2 (Err e) (emits_mid line mid.Turn) → r ≡ Err e → Runs nothing rows b0 new r m
  turn-refused m out2 new r e turn out = to-runs (gives-same enter.allotted refl (one-stop {mid = out2} (told line mid.Turn) {view = nothing} out turn))

  module _ (out2 : Emitter) (x2 : ⊤) (turn : Emits nothing rows b1.out out2 (Ok x2) (emits_mid line mid.Turn)) where
    turned : {new : CodeAllotted} {Q : Code → Type 0} {y : ⊤} (m : Making (Unit {0}))
        → (OneMore (told line mid.Turn) b1.out out2 → Gives nothing rows out2.allotted new Q (Ok y) m) → Gives nothing rows b0.out.allotted new Q (Ok y) m
    turned {new} {Q} {y} m next = gives-same enter.allotted refl (one-step (told line mid.Turn) {view = nothing} turn next)

    turn-passed : {new : CodeAllotted} {Q : Code → Type 0} {r : Result ⊤ LowerRefusal} (m : Making (Unit {0}))
        → Gives nothing rows out2.allotted new Q r m → Gives nothing rows b0.out.allotted new Q r m
    turn-passed {new} {Q} {r} m next = gives-same enter.allotted refl (one-pass (told line mid.Turn) {view = nothing} turn next)

    -- ---- `for` and `while`

    module _ (test : Option Value) (body : Making (Unit {0})) (step : Option Value) where
      pub test-refused : (out3 : Emitter) (new : Body) (r : Result ⊤ LowerRefusal) (e : LowerRefusal)
          → Emits (λ x. x) rows out2 out3 (Err e) (tested i test) → r ≡ Err e → Runs nothing rows b0 new r (looped i line test body step)
      test-refused out3 new r e first out =
          to-runs (turn-passed (looped i line test body step)
          (apart-stop {view = λ x. x} {next_view = nothing} {P = Grew out2 out3} _ refl out (by-emits first)))

      module _ (out3 out4 : Emitter) (t at : Option ℕ) (first : Emits (λ x. x) rows out2 out3 (Ok t) (tested i test))
          (unless : LeavesUnless line t out3 out4 (Ok at)) where
        abbrev inside : Body
        inside = record b1 { out = out4 }

        pub body-refused : (b5 new : Body) (r : Result ⊤ LowerRefusal) (e : LowerRefusal)
            → Runs nothing rows inside b5 (Err e) body → r ≡ Err e → Runs nothing rows b0 new r (looped i line test body step)
        body-refused b5 new r e ran out =
            to-runs (turn-passed (looped i line test body step)
            (apart-pass {view = λ x. x} {next_view = nothing} {P = Grew out2 out3} {x = t} _ refl (by-emits first) (λ c.
            gives-same (leaves-allotted line t at out3 out4 unless) refl
            (apart-stop {view = nothing} {next_view = nothing} {P = Ran inside b5} _ refl out (by-runs ran)))))

        module _ (b5 : Body) (x5 : ⊤) (ran : Runs nothing rows inside b5 (Ok x5) body) where
          pub step-refused : (out6 : Emitter) (new : Body) (r : Result ⊤ LowerRefusal) (e : LowerRefusal)
              → Emits nothing rows b5.out out6 (Err e) (done i step) → r ≡ Err e → Runs nothing rows b0 new r (looped i line test body step)
          step-refused out6 new r e stepped out =
              to-runs (turn-passed (looped i line test body step)
              (apart-pass {view = λ x. x} {next_view = nothing} {P = Grew out2 out3} {x = t} _ refl (by-emits first) (λ c.
              gives-same (leaves-allotted line t at out3 out4 unless) refl
              (apart-pass {view = nothing} {next_view = nothing} {P = Ran inside b5} {x = x5} _ refl (by-runs ran) (λ d.
              apart-stop {view = nothing} {next_view = nothing} {P = Grew b5.out out6} _ refl out (by-emits stepped))))))

          module _ (out6 : Emitter) (x6 : ⊤) (stepped : Emits nothing rows b5.out out6 (Ok x6) (done i step)) where
            pub jump-refused : (out7 : Emitter) (new : Body) (r : Result ⊤ LowerRefusal) (e : LowerRefusal)
                → Emits nothing rows out6 out7 (Err e) (emits_mid line (mid.Jump top)) → r ≡ Err e → Runs nothing rows b0 new r (looped i line test body step)
            jump-refused out7 new r e jump out =
                to-runs (turn-passed (looped i line test body step)
                (apart-pass {view = λ x. x} {next_view = nothing} {P = Grew out2 out3} {x = t} _ refl (by-emits first) (λ c.
                gives-same (leaves-allotted line t at out3 out4 unless) refl
                (apart-pass {view = nothing} {next_view = nothing} {P = Ran inside b5} {x = x5} _ refl (by-runs ran) (λ d.
                apart-pass {view = nothing} {next_view = nothing} {P = Grew b5.out out6} {x = x6} _ refl (by-emits stepped) (λ s.
                one-stop {mid = out7} (told line (mid.Jump top)) {view = nothing} out jump))))))

            pub rounds-done : (start : (leads : List Leads) → IsHere top (code_of b0.out.code leads)) (C : ℕ)
                (here : (leads : List Leads) → IsHere C (code_of b5.out.code leads)) (out7 out8 : Emitter) (x7 : ⊤) (new : Body) (z : ⊤)
                → Emits nothing rows out6 out7 (Ok x7) (emits_mid line (mid.Jump top)) → LandsIf at out7 out8
                → LeavesLoop objects.items C (record b5 { out = out8 }) new → Runs nothing rows b0 new (Ok z) (looped i line test body step)
            rounds-done start C here out7 out8 x7 new z jump led leave =
                to-runs (turned (looped i line test body step) (λ turn1.
                apart-step {view = λ x. x} {next_view = nothing} {P = Grew out2 out3} {x = t} {y = z} _ refl (by-emits first) (λ c grew.
                gives-same (leaves-allotted line t at out3 out4 unless) refl
                (apart-step {view = nothing} {next_view = nothing} {P = Ran inside b5} {x = x5} {y = z} _ refl (by-runs ran) (λ d ran1.
                apart-step {view = nothing} {next_view = nothing} {P = Grew b5.out out6} {x = x6} {y = z} _ refl (by-emits stepped) (λ s grew1.
                one-step {y = z} (told line (mid.Jump top)) {view = nothing} jump (λ jump1.
                gives-same refl (sym (leave.allotted ∙ lands-allotted at out7 out8 led))
                (together (loop_code i line t c d s)
                (rounds-ran i line top C b0 b1 b5 new objects d start enter here t at c s out2 out3 out4 out6 out7 out8 turn1 grew unless ran1 grew1 jump1
                led leave)))))))))

    -- ---- `do`)

    module _ (body : Making (Unit {0})) (test : Value) where
      abbrev inside-do : Body
      inside-do = record b1 { out = out2 }

      pub do-body-refused : (b5 new : Body) (r : Result ⊤ LowerRefusal) (e : LowerRefusal)
          → Runs nothing rows inside-do b5 (Err e) body → r ≡ Err e → Runs nothing rows b0 new r (do_looped i line body test)
      do-body-refused b5 new r e ran out =
          to-runs (turn-passed (do_looped i line body test) (apart-stop {view = nothing} {next_view = nothing} {P = Ran inside-do b5} _ refl out (by-runs ran)))

      module _ (b5 : Body) (x5 : ⊤) (ran : Runs nothing rows inside-do b5 (Ok x5) body) where
        pub do-test-refused : (out6 : Emitter) (new : Body) (r : Result ⊤ LowerRefusal) (e : LowerRefusal)
            → Emits itself rows b5.out out6 (Err e) (value_of i test 0) → r ≡ Err e → Runs nothing rows b0 new r (do_looped i line body test)
        do-test-refused out6 new r e tests out =
            to-runs (turn-passed (do_looped i line body test)
            (apart-pass {view = nothing} {next_view = nothing} {P = Ran inside-do b5} {x = x5} _ refl (by-runs ran) (λ d.
            apart-stop {view = itself} {next_view = nothing} {P = Grew b5.out out6} _ refl out (by-emits tests))))

        module _ (out6 : Emitter) (t : ℕ) (tests : Emits itself rows b5.out out6 (Ok t) (value_of i test 0)) where
          pub do-jump-refused : (out7 : Emitter) (new : Body) (r : Result ⊤ LowerRefusal) (e : LowerRefusal)
              → Emits nothing rows out6 out7 (Err e) (emits_mid line (mid.JumpN t top)) → r ≡ Err e → Runs nothing rows b0 new r (do_looped i line body test)
          do-jump-refused out7 new r e jump out =
              to-runs (turn-passed (do_looped i line body test)
              (apart-pass {view = nothing} {next_view = nothing} {P = Ran inside-do b5} {x = x5} _ refl (by-runs ran) (λ d.
              apart-pass {view = itself} {next_view = nothing} {P = Grew b5.out out6} {x = t} _ refl (by-emits tests) (λ s.
              one-stop {mid = out7} (told line (mid.JumpN t top)) {view = nothing} out jump))))

          pub do-done : (start : (leads : List Leads) → IsHere top (code_of b0.out.code leads)) (C : ℕ)
              (here : (leads : List Leads) → IsHere C (code_of b5.out.code leads)) (out7 : Emitter) (x7 : ⊤) (new : Body) (z : ⊤)
              → Emits nothing rows out6 out7 (Ok x7) (emits_mid line (mid.JumpN t top))
              → LeavesLoop objects.items C (record b5 { out = out7 }) new → Runs nothing rows b0 new (Ok z) (do_looped i line body test)
          do-done start C here out7 x7 new z jump leave =
              to-runs (turned (do_looped i line body test) (λ turn1.
              apart-step {view = nothing} {next_view = nothing} {P = Ran inside-do b5} {x = x5} {y = z} _ refl (by-runs ran) (λ d ran1.
              apart-step {view = itself} {next_view = nothing} {P = Grew b5.out out6} {x = t} {y = z} _ refl (by-emits tests) (λ s grew1.
              one-step {y = z} (told line (mid.JumpN t top)) {view = nothing} jump (λ jump1.
              gives-same refl (sym leave.allotted)
              (together (do_code i line t d s)
              (do-ran i line top C b0 b1 b5 new objects d start enter here t s out2 out6 out7 turn1 ran1 grew1 jump1 leave)))))))
