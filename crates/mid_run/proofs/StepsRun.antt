-- Many steps of the machine.
use Rattle.std.proofs.Common.{◌≡◌, ℕ, ◌+◌, ◌<◌, ◌≤◌, List, [], ◌++◌, Option, Some, None, refl, sym, ap, ◌∙◌, append-nil, arith}
use Rattle.srmt_base.specs.declared.event.Event.{Event}
use Rattle.srmt_base.specs.declared.trap.SourceEnd.{SourceEnd}
use Rattle.mid_code.specs.declared.program.MidProgram.{MidProgram}
use Rattle.mid_code.specs.Valid.{IsValid}
use Rattle.mid_code.specs.Meaning.{State, Running, Ended, preceded, Comes}
use Rattle.mid_code.specs.Bounds.{left_to_go}
use Rattle.mid_code.proofs.OneMeaning.{exec_on, comes_on, finishes_on}
use Rattle.mid_code.proofs.RunsEnd.{made_and_left}
use Rattle.mid_code.proofs.StatesFit.{fits_after}
use Rattle.mid_code.proofs.StepsNear.{left_to_go-step}
use Rattle.mid_run.specs.Progress.{Progress, At, Over, end_of, FitsIn, Steps, Runs}
use Rattle.mid_run.specs.View.{progress_by}

-- how many more steps there may be
abbrev pub to_go : MidProgram → Progress → ℕ
to_go program (At s) = left_to_go program s.machine
to_go program (Over end) = 0

pub runs_none : (program : MidProgram) (p : Progress) → Runs program p [] p
runs_none program (At s) = (0, refl)
runs_none program (Over end) = (refl, refl)

-- some steps more, with no events
comes_quietly : (program : MidProgram) (s mid next : State) (es : List Event) → Comes program s es mid → Comes program mid [] next → Comes program s es next
comes_quietly program s mid next es first more = (
  more.0 + first.0,
  exec_on program first.0 more.0 s mid es first.1 ∙ ap (preceded es) more.1 ∙ ap (λ t. Running next t) (append-nil es),
)

pub runs_quietly : (program : MidProgram) (p q r : Progress) (es : List Event) → Runs program p es q → Runs program q [] r → Runs program p es r
runs_quietly program (At s) (At mid) (At next) es runs more = comes_quietly program s mid next es runs more
runs_quietly program (At s) (At mid) (Over end) es runs more =
    (more.0 + runs.0, exec_on program runs.0 more.0 s mid es runs.1 ∙ ap (preceded es) more.1 ∙ ap (λ t. Ended end t) (append-nil es))
runs_quietly program (At s) (Over end) (At next) es runs more = absurd more
runs_quietly program (At s) (Over end) (Over again) es runs more = (runs.0, runs.1 ∙ ap (λ e. Ended e es) (sym more.0))
runs_quietly program (Over end) (At mid) r es runs more = absurd runs
runs_quietly program (Over end) (Over mid) (At next) es runs more = absurd more
runs_quietly program (Over end) (Over mid) (Over again) es runs more = (more.0 ∙ runs.0, runs.1)

-- they stay within the program, and leave no more than before
pub quiet_fits : (program : MidProgram) (p q : Progress) → IsValid program → FitsIn program p → Runs program p [] q → FitsIn program q × (to_go program q ≤ to_go program p)
quiet_fits program (At s) (At next) valid fits runs =
    let left = made_and_left program valid runs.0 s next [] fits runs.1 in
    (fits_after program valid runs.0 s next [] fits runs.1, omega (arith, left))
quiet_fits program (At s) (Over end) valid fits runs = (tt, omega arith)
quiet_fits program (Over end) (At next) valid fits runs = absurd runs
quiet_fits program (Over end) (Over again) valid fits runs = (tt, omega arith)

-- one step more
pub runs_on : (program : MidProgram) (p q r : Progress) (es fs : List Event) → Runs program p es q → Steps program q fs r → Runs program p (es ++ fs) r
runs_on program (At s) (At mid) (At next) es fs runs e = comes_on program s mid next es fs runs e
runs_on program (At s) (At mid) (Over end) es fs runs e = finishes_on program s mid es fs end runs e
runs_on program (At s) (Over end) (At next) es fs runs e = absurd e
runs_on program (At s) (Over end) (Over again) es fs runs e =
    let none : es ≡ es ++ fs = sym (append-nil es) ∙ ap (λ t. es ++ t) (sym e.1) in
    (runs.0, runs.1 ∙ ap (λ t. Ended end t) none ∙ ap (λ e. Ended e (es ++ fs)) (sym e.0))
runs_on program (Over end) (At mid) r es fs runs e = absurd runs
runs_on program (Over end) (Over mid) (At next) es fs runs e = absurd e
runs_on program (Over end) (Over mid) (Over again) es fs runs e = (e.0 ∙ runs.0, ap (λ t. t ++ fs) runs.1 ∙ e.1)

-- a step after which the run goes on leaves fewer
pub to_go-step : (program : MidProgram) (p q : Progress) (events : List Event) → IsValid program → FitsIn program p → Steps program p events q →
    end_of q ≡ None → to_go program q < to_go program p
to_go-step program (At s) (At next) events valid fits e none = left_to_go-step program s next events valid fits e
to_go-step program (At s) (Over end) events valid fits e none = absurd (cc)
to_go-step program (Over end) (At next) events valid fits e none = absurd e
to_go-step program (Over end) (Over again) events valid fits e none = absurd (cc)

-- a run goes on with no events, or is over and stays so
pub quiet_by : (program : MidProgram) (over : Option SourceEnd) (s next : State) → Comes program s [] next →
    Runs program (progress_by over s) [] (progress_by over next)
quiet_by program None s next comes = comes
quiet_by program (Some end) s next comes = (refl, refl)
