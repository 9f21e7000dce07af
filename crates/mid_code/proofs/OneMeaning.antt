-- A run that has ended stays as it ended, so a program has one meaning at most.
use Rattle.std.proofs.Common.{◌≡◌, [], ◌++◌, ℕ, zero, suc, ◌+◌, List, refl, sym, ap, ◌∙◌, arith, append_assoc, append-nil}
use Rattle.srmt_base.specs.declared.event.Event.{Event}
use Rattle.srmt_base.specs.declared.trap.SourceEnd.{SourceEnd}
use Rattle.mid_code.specs.declared.program.MidProgram.{MidProgram}
use Rattle.mid_code.specs.Meaning.{State, Step, On, Ends, Stuck, Run, Running, Ended, NoWay, step, preceded, then_run, exec, Comes, Finishes}

-- what ends goes on to end
kept_before : (before : List Event) (r q : Run) → ((end : SourceEnd) (events : List Event) → r ≡ Ended end events → q ≡ Ended end events) →
    (end : SourceEnd) (events : List Event) → preceded before r ≡ Ended end events → preceded before q ≡ Ended end events
kept_before before (Running m seen) q keeps end events h = absurd (cc)
kept_before before (Ended over seen) q keeps end events h = ap (preceded before) (keeps over seen refl) ∙ h
kept_before before NoWay q keeps end events h = absurd (cc)

kept_step : (s : Step) (f g : State → Run) → ((m : State) (end : SourceEnd) (events : List Event) → f m ≡ Ended end events → g m ≡ Ended end events) →
    (end : SourceEnd) (events : List Event) → then_run s f ≡ Ended end events → then_run s g ≡ Ended end events
kept_step (On m before) f g keeps end events h = kept_before before (f m) (g m) (keeps m) end events h
kept_step (Ends over seen) f g keeps end events h = h
kept_step Stuck f g keeps end events h = h

-- more steps change nothing
pub stays_ended : (program : MidProgram) (n k : ℕ) (m : State) (end : SourceEnd) (events : List Event) → exec program n m ≡ Ended end events →
    exec program (k + n) m ≡ Ended end events
stays_ended program zero k m end events h = absurd (cc)
stays_ended program (suc n) k m end events h =
    let e : k + suc n ≡ suc (k + n) = omega arith in
    rw e (kept_step (step program m) (exec program n) (exec program (k + n)) (λ next over seen g. stays_ended program n k next over seen g) end events h)

-- two ends are one
pub one_end : (program : MidProgram) (m : State) (es fs : List Event) (e f : SourceEnd) → Finishes program m es e → Finishes program m fs f →
    (es ≡ fs) × (e ≡ f)
one_end program m es fs e f a b =
    let first = stays_ended program a.0 b.0 m e es a.1 in
    let second = stays_ended program b.0 a.0 m f fs b.1 in
    let order : b.0 + a.0 ≡ a.0 + b.0 = omega arith in
    let same : Ended e es ≡ Ended f fs = sym first ∙ ap (λ n. exec program n m) order ∙ second in
    (cc, cc)

preceded_none : (r : Run) → preceded [] r ≡ r
preceded_none (Running m events) = ap (Running m) refl
preceded_none (Ended end events) = refl
preceded_none NoWay = refl

preceded_twice : (xs ys : List Event) (r : Run) → preceded xs (preceded ys r) ≡ preceded (xs ++ ys) r
preceded_twice xs ys (Running m events) = ap (Running m) (sym (append_assoc xs ys events))
preceded_twice xs ys (Ended end events) = ap (Ended end) (sym (append_assoc xs ys events))
preceded_twice xs ys NoWay = refl

-- a run goes on from where it has come to
continued_before : (before : List Event) (r q rest : Run) (next : State) (events : List Event) →
    ((seen : List Event) → r ≡ Running next seen → q ≡ preceded seen rest) → preceded before r ≡ Running next events → preceded before q ≡ preceded events rest
continued_before before (Running m seen) q rest next events goes h =
    let there : Running m seen ≡ Running next seen = cc in
    let all : before ++ seen ≡ events = cc in
    ap (preceded before) (goes seen there) ∙ preceded_twice before seen rest ∙ ap (λ es. preceded es rest) all
continued_before before (Ended end seen) q rest next events goes h = absurd (cc)
continued_before before NoWay q rest next events goes h = absurd (cc)

continued_step : (s : Step) (f g : State → Run) (rest : Run) (next : State) (events : List Event) →
    ((m : State) (seen : List Event) → f m ≡ Running next seen → g m ≡ preceded seen rest) → then_run s f ≡ Running next events →
    then_run s g ≡ preceded events rest
continued_step (On m before) f g rest next events goes h = continued_before before (f m) (g m) rest next events (goes m) h
continued_step (Ends end seen) f g rest next events goes h = absurd (cc)
continued_step Stuck f g rest next events goes h = absurd (cc)

pub exec_on : (program : MidProgram) (n k : ℕ) (m next : State) (events : List Event) → exec program n m ≡ Running next events →
    exec program (k + n) m ≡ preceded events (exec program k next)
exec_on program zero k m next events h =
    let none : k + zero ≡ k = omega arith in
    let here : m ≡ next = cc in
    let quiet : [] ≡ events = cc in
    ap (λ j. exec program j m) none ∙ ap (exec program k) here ∙ sym (preceded_none (exec program k next)) ∙ ap (λ es. preceded es (exec program k next)) quiet
exec_on program (suc n) k m next events h =
    let e : k + suc n ≡ suc (k + n) = omega arith in
    rw e (continued_step (step program m) (exec program n) (exec program (k + n)) (exec program k next) next events (λ other seen g. exec_on program n k other next seen g) h)

-- one step more
pub comes_on : (program : MidProgram) (m mid next : State) (es fs : List Event) → Comes program m es mid → step program mid ≡ On next fs →
    Comes program m (es ++ fs) next
comes_on program m mid next es fs comes s =
    let one : exec program 1 mid ≡ Running next (fs ++ []) = ap (λ t. then_run t (exec program 0)) s in
    (1 + comes.0, exec_on program comes.0 1 m mid es comes.1 ∙ ap (preceded es) one ∙ ap (λ t. Running next (es ++ t)) (append-nil fs))

pub finishes_on : (program : MidProgram) (m mid : State) (es fs : List Event) (end : SourceEnd) → Comes program m es mid → step program mid ≡ Ends end fs →
    Finishes program m (es ++ fs) end
finishes_on program m mid es fs end comes s =
    let one : exec program 1 mid ≡ Ended end fs = ap (λ t. then_run t (exec program 0)) s in
    (1 + comes.0, exec_on program comes.0 1 m mid es comes.1 ∙ ap (preceded es) one)
