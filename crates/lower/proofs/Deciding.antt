-- What `&&`, `||` and `?:` make behind their first operand, from what their parts do.
use Rattle.std.proofs.Common.{◌≡◌, ℕ, Bool, false, List, Result, Ok, Err, refl, subst}
use Rattle.c_types.specs.declared.type_ref.Row.{Row}
use Rattle.c_types.specs.Types.{CType}
use Rattle.lower.specs.declared.emitter.Emitter.{Emitter}
use Rattle.lower.specs.declared.refusal.LowerRefusal.{LowerRefusal}
use Rattle.lower.specs.Drafts.{code_of}
use Rattle.lower.specs.Emitting.{Making, ◌>>=◌}
use Rattle.lower.specs.Expressions.{deciding, decides, tests_second, chosen, joins_first, joins_second, constant_to}
use Rattle.lower.specs.Jumps.{LandsHere, Waiting, Turning}
use Rattle.lower.specs.Emits.{Emits, itself}
use mir.Val.{bool_byte}
use Rattle.lower.proofs.Steps.{step, stop, same-answer}
use Rattle.lower.proofs.Jumping.{jumped-refused, jumped-over, both-ways, first-refused, second-refused, leads-deciding, digit-is}

-- ---- `&&` and `||`

pub operand-refused : (rows : List Row) (line k x at : ℕ) (is_or : Bool) (b : Making ℕ) (s0 s1 s2 : Emitter) (r : Result ℕ LowerRefusal) (e : LowerRefusal)
    → Waiting line (deciding is_or x) s0 s1 at → Emits itself rows s1 s2 (Err e) b → r ≡ Err e
    → Emits itself rows s0 s2 r (decides is_or line k b x)
operand-refused rows line k x at is_or b s0 s1 s2 r e waits second out =
    stop {view = itself} _ refl out (jumped-refused {view = itself} waits (stop {view = itself} {next_view = itself} {new = s2} _ refl refl second))

pub test-refused : (rows : List Row) (line k x at y : ℕ) (is_or : Bool) (b : Making ℕ) (s0 s1 s2 s3 : Emitter) (r : Result ℕ LowerRefusal) (e : LowerRefusal)
    → Waiting line (deciding is_or x) s0 s1 at → Emits itself rows s1 s2 (Ok y) b → Emits itself rows s2 s3 (Err e) (tests_second is_or line k y) → r ≡ Err e
    → Emits itself rows s0 s3 r (decides is_or line k b x)
test-refused rows line k x at y is_or b s0 s1 s2 s3 r e waits second tests out =
    stop {view = itself} _ refl out (jumped-refused {view = itself} waits (step {view = itself} {next_view = itself} _ refl second tests))

pub decided : (rows : List Row) (line k x at y d n : ℕ) (is_or : Bool) (b : Making ℕ) (s0 s1 s2 s3 s4 s5 : Emitter) (r : Result ℕ LowerRefusal)
    → Waiting line (deciding is_or x) s0 s1 at → Emits itself rows s1 s2 (Ok y) b → Emits itself rows s2 s3 (Ok d) (tests_second is_or line k y)
    → s4.allotted ≡ s3.allotted → LandsHere at (code_of s3.code) (code_of s4.code)
    → n ≡ bool_byte is_or → Emits itself rows s4 s5 r (constant_to line n d)
    → Emits itself rows s0 s5 r (decides is_or line k b x)
decided rows line k x at y d n is_or b s0 s1 s2 s3 s4 s5 r waits second tests same lands is sets =
    step {view = itself} _ refl
    (jumped-over {view = itself} (leads-deciding line is_or x) waits (step {view = itself} {next_view = itself} _ refl second tests) same lands)
    (subst (λ z. Emits itself rows s4 s5 r (constant_to line z d)) (digit-is is_or n is) sets)

-- ---- `?:`

module _ (rows : List Row) (t : CType) (line x at : ℕ) (a b : Making ℕ) (s0 s1 : Emitter) (r : Result ℕ LowerRefusal) (e : LowerRefusal) where
  pub first-operand-refused : (s2 : Emitter) → Waiting line (deciding false x) s0 s1 at → Emits itself rows s1 s2 (Err e) a → r ≡ Err e
      → Emits itself rows s0 s2 r (chosen t line a b x)
  first-operand-refused s2 waits first out =
      same-answer out (first-refused {view = itself} (λ d. b >>= joins_second t line d) waits (stop {view = itself} {next_view = itself} _ refl refl first))

  pub first-join-refused : (y : ℕ) (s2 s3 : Emitter) → Waiting line (deciding false x) s0 s1 at → Emits itself rows s1 s2 (Ok y) a
      → Emits itself rows s2 s3 (Err e) (joins_first t line y) → r ≡ Err e → Emits itself rows s0 s3 r (chosen t line a b x)
  first-join-refused y s2 s3 waits first joins out =
      same-answer out (first-refused {view = itself} (λ d. b >>= joins_second t line d) waits (step {view = itself} {next_view = itself} _ refl first joins))

  pub second-operand-refused : (y d over : ℕ) (s2 s3 s4 s5 : Emitter) → Waiting line (deciding false x) s0 s1 at → Emits itself rows s1 s2 (Ok y) a
      → Emits itself rows s2 s3 (Ok d) (joins_first t line y) → Turning line at s3 s4 over → Emits itself rows s4 s5 (Err e) b → r ≡ Err e
      → Emits itself rows s0 s5 r (chosen t line a b x)
  second-operand-refused y d over s2 s3 s4 s5 waits first joins turns second out =
      same-answer out
      (second-refused {view = itself} {second_view = itself} (λ d. b >>= joins_second t line d) waits
      (step {view = itself} {next_view = itself} _ refl first joins) turns
      (stop {view = itself} {next_view = itself} _ refl refl second))

  pub second-join-refused : (y d over z : ℕ) (s2 s3 s4 s5 s6 : Emitter) → Waiting line (deciding false x) s0 s1 at → Emits itself rows s1 s2 (Ok y) a
      → Emits itself rows s2 s3 (Ok d) (joins_first t line y) → Turning line at s3 s4 over → Emits itself rows s4 s5 (Ok z) b
      → Emits itself rows s5 s6 (Err e) (joins_second t line d z) → r ≡ Err e → Emits itself rows s0 s6 r (chosen t line a b x)
  second-join-refused y d over z s2 s3 s4 s5 s6 waits first joins turns second last out =
      same-answer out
      (second-refused {view = itself} {second_view = itself} (λ d. b >>= joins_second t line d) waits
      (step {view = itself} {next_view = itself} _ refl first joins) turns
      (step {view = itself} {next_view = itself} _ refl second last))

pub chose : (rows : List Row) (t : CType) (line x at : ℕ) (a b : Making ℕ) (y d over z w : ℕ) (s0 s1 s2 s3 s4 s5 s6 s7 : Emitter)
    → Waiting line (deciding false x) s0 s1 at → Emits itself rows s1 s2 (Ok y) a → Emits itself rows s2 s3 (Ok d) (joins_first t line y)
    → Turning line at s3 s4 over → Emits itself rows s4 s5 (Ok z) b → Emits itself rows s5 s6 (Ok w) (joins_second t line d z)
    → s7.allotted ≡ s6.allotted → LandsHere over (code_of s6.code) (code_of s7.code)
    → Emits itself rows s0 s7 (Ok d) (chosen t line a b x)
chose rows t line x at a b y d over z w s0 s1 s2 s3 s4 s5 s6 s7 waits first joins turns second last same lands =
    both-ways {view = itself} {second_view = itself} (λ d. b >>= joins_second t line d) (leads-deciding line false x) waits
    (step {view = itself} {next_view = itself} _ refl first joins) turns (step {view = itself} {next_view = itself} _ refl second last) same lands
