-- Parameters: their arguments stand in registers, and those in memory begin, one after the other.
use Rattle.std.proofs.Common.{◌≡◌, ◌∙◌, ℕ, zero, suc, ◌+◌, ◌-◌, ◌<◌, ◌≤◌, Bool, true, false, List, [], ◌∷◌, ◌++◌, Result, Ok, Err, refl, sym, ap, subst, arith}
use Rattle.std.specs.Prelude.{⊤, if◌then◌else◌}
use Rattle.std.proofs.lemmas.List.{append-nil}
use Rattle.c_types.specs.declared.type_ref.Row.{Row}
use Rattle.mid_code.specs.declared.mid.Mid.TheVariants as mid
use Rattle.mid_code.specs.declared.program.RegisterKind.{RegisterKind}
use Rattle.c_typed.specs.Statements.{LocalRow}
use Rattle.source_meaning.specs.Calls.{numbers_below}
use Rattle.lower.specs.declared.body.Body.{Body}
use Rattle.lower.specs.declared.emitter.Emitter.{Emitter}
use Rattle.lower.specs.declared.refusal.LowerRefusal.{LowerRefusal}
use Rattle.lower.specs.Emitting.{Allotted, ◌>>=◌, pure, emits, either, new, settles, kind_of}
use Rattle.lower.specs.Expressions.{Inside, row_at}
use Rattle.lower.specs.Statements.{opens}
use Rattle.lower.specs.Programs.{parameters_at, argument_stands, arguments_stand, parameter_opens, parameter_begins, parameters_begin}
use Rattle.lower.specs.Emits.{Emits, nothing}
use Rattle.lower.specs.Runs.{Begins}
use Rattle.lower.proofs.Steps.{step, stop, given}
use Rattle.lower.proofs.BeginSteps.{Sized, sized-then, begin-step, begin-stop, begin-given}
use Rattle.lower.proofs.LocalSteps.{sized-opens}

-- ---- numbers from one on

-- so many
abbrev pub numbers_from : ℕ → ℕ → List ℕ
numbers_from zero k = []
numbers_from (suc m) k = k ∷ numbers_from m (suc k)

plus-zero : (n : ℕ) → n ≡ n + 0
plus-zero n = omega arith

zero-plus : (n : ℕ) → n ≡ 0 + n
zero-plus n = omega arith

suc-plus : (k m : ℕ) → suc k + m ≡ k + suc m
suc-plus k m = omega arith

from-last : (m k : ℕ) → numbers_from (suc m) k ≡ numbers_from m k ++ (k + m) ∷ []
from-last zero k = ap (λ j. j ∷ []) (plus-zero k)
from-last (suc m) k =
    ap (λ l. k ∷ l) (from-last m (suc k) ∙ ap (λ j. numbers_from m (suc k) ++ j ∷ []) (suc-plus k m))

below-from : (n : ℕ) → numbers_below n ≡ numbers_from n 0
below-from zero = refl
below-from (suc n) =
    ap (λ l. l ++ n ∷ []) (below-from n) ∙ ap (λ j. numbers_from n 0 ++ j ∷ []) (zero-plus n) ∙ sym (from-last n 0)

minus-zero : (n : ℕ) → n ≡ n - 0
minus-zero n = omega arith

pub all-left : (n : ℕ) → numbers_below n ≡ numbers_from (n - 0) 0
all-left n = below-from n ∙ ap (λ j. numbers_from j 0) (minus-zero n)

pub one-left : (n k : ℕ) → k < n → numbers_from (n - k) k ≡ k ∷ numbers_from (n - (k + 1)) (k + 1)
one-left n k within =
    let more : n - k ≡ suc (n - (k + 1)) = omega arith in
    let next : suc k ≡ k + 1 = omega arith in
    ap (λ j. numbers_from j k) more ∙ ap (λ j. k ∷ numbers_from (n - (k + 1)) j) next

pub none-left : (n k : ℕ) → n ≤ k → numbers_from (n - k) k ≡ []
none-left n k past =
    let none : n - k ≡ 0 = omega arith in
    ap (λ j. numbers_from j k) none

-- ---- arguments that stand in registers

pub argument-row : (i : Inside) (n : ℕ) (row : LocalRow) (kind : RegisterKind) → row ≡ row_at i.rows n → kind ≡ kind_of row.type.type
    → argument_stands i n ≡ (new kind row.line >>= (λ r. settles n r))
argument-row i n row kind is are =
    ap (λ (r : LocalRow). new (kind_of r.type.type) r.line >>= (λ r. settles n r)) (sym is)
    ∙ ap (λ k. new k row.line >>= (λ r. settles n r)) (sym are)

module _ (i : Inside) (rows : List Row) (old mid new : Emitter) where
  pub argument-next : {r : Result ⊤ LowerRefusal} (n : ℕ) (ms all : List ℕ) → all ≡ n ∷ ms → Emits nothing rows old mid (Ok tt) (argument_stands i n)
      → Emits nothing rows mid new r (arguments_stand i ms) → Emits nothing rows old new r (arguments_stand i all)
  argument-next {r} n ms all is first next =
      subst (λ (l : List ℕ). Emits nothing rows old new r (arguments_stand i l)) (sym is) (step (λ done. arguments_stand i ms) refl first next)

  pub argument-stops : {r : Result ⊤ LowerRefusal} {e : LowerRefusal} (n : ℕ) (ms all : List ℕ) → all ≡ n ∷ ms → r ≡ Err e
      → Emits nothing rows old mid (Err e) (argument_stands i n) → Emits nothing rows old new r (arguments_stand i all)
  argument-stops {r} {e} n ms all is out first =
      subst (λ (l : List ℕ). Emits nothing rows old new r (arguments_stand i l)) (sym is) (stop (λ done. arguments_stand i ms) refl out first)

pub arguments-done : (i : Inside) (rows : List Row) (s : Emitter) (all : List ℕ) → all ≡ [] → Emits nothing rows s s (Ok tt) (arguments_stand i all)
arguments-done i rows s all is = subst (λ (l : List ℕ). Emits nothing rows s s (Ok tt) (arguments_stand i l)) (sym is) given

-- ---- parameters that begin

pub parameter-row : (i : Inside) (n : ℕ) (row : LocalRow) (b : Bool) → row ≡ row_at i.rows n → row.is_placed ≡ b
    → parameter_begins i n ≡ either b (parameter_opens i row n) (pure tt)
parameter-row i n row b is placed =
    ap (λ (r : LocalRow). either r.is_placed (parameter_opens i r n) (pure tt)) (sym is)
    ∙ ap (λ (z : Bool). either z (parameter_opens i row n) (pure tt)) placed

pub parameter-begun : (rows : List LocalRow) (n start : ℕ) (row : LocalRow) (b : Bool) → row ≡ row_at rows n → row.is_placed ≡ b
    → parameters_at rows start (n ∷ []) ≡ (if b then start ∷ [] else [])
parameter-begun rows n start row b is placed =
    ap (λ (r : LocalRow). if r.is_placed then start ∷ [] else []) (sym is) ∙ ap (λ (z : Bool). if z then start ∷ [] else []) placed

-- two instructions where it is in memory, else none
abbrev pub size_of : Bool → ℕ
size_of true = 2
size_of false = 0

sized-opened : (i : Inside) (row : LocalRow) (n : ℕ) (allotted : Allotted) → Sized 2 (parameter_opens i row n allotted)
sized-opened i row n allotted =
    sized-then 1 1 (opens row.line n 1) (λ r. emits row.line (mid.Store r n)) allotted (sized-opens row.line n 1 allotted) (λ r a around start. refl)

sized-parameter : (i : Inside) (n : ℕ) (allotted : Allotted) → Sized (size_of (row_at i.rows n).is_placed) (parameter_begins i n allotted)
sized-parameter i n allotted = by (row_at i.rows n).is_placed
  where
    by : (b : Bool) → Sized (size_of b) (either b (parameter_opens i (row_at i.rows n) n) (pure tt) allotted)
    by true = sized-opened i (row_at i.rows n) n allotted
    by false = λ around start. refl

two-more : (start : ℕ) → suc (suc start) ≡ start + 2
two-more start = omega arith

parameter-then : (rows : List LocalRow) (n : ℕ) (ms : List ℕ) (start : ℕ)
    → parameters_at rows start (n ∷ ms) ≡ parameters_at rows (start + size_of (row_at rows n).is_placed) ms ++ parameters_at rows start (n ∷ [])
parameter-then rows n ms start = by (row_at rows n).is_placed
  where
    by : (b : Bool) → (if b then parameters_at rows (suc (suc start)) ms ++ start ∷ [] else parameters_at rows start ms)
        ≡ parameters_at rows (start + size_of b) ms ++ (if b then start ∷ [] else [])
    by true = ap (λ k. parameters_at rows k ms ++ start ∷ []) (two-more start)
    by false = ap (λ k. parameters_at rows k ms) (plus-zero start) ∙ sym (append-nil (parameters_at rows (start + 0) ms))

module _ (i : Inside) (rows : List Row) (old mid new : Body) where
  pub parameter-next : {r : Result ⊤ LowerRefusal} (n : ℕ) (ms all : List ℕ) → all ≡ n ∷ ms
      → Begins nothing rows (λ start. parameters_at i.rows start (n ∷ [])) old mid (Ok tt) (parameter_begins i n)
      → Begins nothing rows (λ start. parameters_at i.rows start ms) mid new r (parameters_begin i ms)
      → Begins nothing rows (λ start. parameters_at i.rows start all) old new r (parameters_begin i all)
  parameter-next {r} n ms all is first next =
      subst (λ (l : List ℕ). Begins nothing rows (λ start. parameters_at i.rows start l) old new r (parameters_begin i l)) (sym is)
      (begin-step {first = λ start. parameters_at i.rows start (n ∷ [])} {rest = λ start. parameters_at i.rows start ms}
      (λ done. parameters_begin i ms) (size_of (row_at i.rows n).is_placed) refl (sized-parameter i n)
      (λ start. parameter-then i.rows n ms start) first next)

  pub parameter-stops : {r : Result ⊤ LowerRefusal} {e : LowerRefusal} (n : ℕ) (ms all : List ℕ) → all ≡ n ∷ ms → r ≡ Err e
      → Begins nothing rows (λ start. parameters_at i.rows start (n ∷ [])) old mid (Err e) (parameter_begins i n)
      → Begins nothing rows (λ start. parameters_at i.rows start all) old new r (parameters_begin i all)
  parameter-stops {r} {e} n ms all is out first =
      subst (λ (l : List ℕ). Begins nothing rows (λ start. parameters_at i.rows start l) old new r (parameters_begin i l)) (sym is)
      (begin-stop (λ done. parameters_begin i ms) refl out first)

pub parameters-done : (i : Inside) (rows : List Row) (s : Body) (all : List ℕ) → all ≡ []
    → Begins nothing rows (λ start. parameters_at i.rows start all) s s (Ok tt) (parameters_begin i all)
parameters-done i rows s all is =
    subst (λ (l : List ℕ). Begins nothing rows (λ start. parameters_at i.rows start l) s s (Ok tt) (parameters_begin i l)) (sym is)
    (begin-given (λ start. refl))
