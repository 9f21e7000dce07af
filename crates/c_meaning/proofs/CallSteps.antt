-- A call whose arguments were taken off the stack, as the callee is entered.
use Rattle.std.proofs.Common.{◌≡◌, ℕ, suc, List, ◌∷◌, Result, Ok, Err, sym, subst, ap, ◌∙◌, drop}
use Rattle.std.specs.Prelude.{IfOk}
use Rattle.srmt_base.specs.declared.trap.Trap.TheVariants.{NullPointer}
use Rattle.c_typed.specs.declared.program.TypedProgram.{TypedProgram}
use Rattle.c_typed.specs.StatementViews.{program_view}
use Rattle.source_meaning.specs.World.{Doing, ◌>>=◌}
use Rattle.source_meaning.specs.Places.{Setting, value_of_entity}
use Rattle.source_meaning.specs.Expressions.{call_of_value}
use Rattle.source_meaning.specs.Statements.{normal}
use Rattle.source_meaning.specs.Calls.{calls}
use Rattle.c_meaning.specs.declared.run.Did.{Did}
use Rattle.c_meaning.specs.declared.run.Did.TheVariants as did
use Rattle.c_meaning.specs.declared.run.Run.{Run}
use Rattle.c_meaning.specs.Entering as entering
use Rattle.c_meaning.specs.Finishing as finishing
use Rattle.c_meaning.specs.Pending.{top_of, below, last_values, setting_at}
use Rattle.c_meaning.specs.Runs.{types_of, world_of, going, Steps, IsSound, Falls}
use Rattle.c_meaning.specs.TaskViews.{current_view}
use Rattle.c_meaning.proofs.FinishSteps.{with_stack}

calls-value : (s : Setting) (line number before : ℕ) (arguments : List ℕ) → number ≡ suc before
    → s.call line number arguments ≡ call_of_value s line number arguments
calls-value s line number before arguments is =
    ap (λ (n : ℕ). s.call line n arguments) is ∙ sym (ap (λ (n : ℕ). call_of_value s line n arguments) is)

module _ (p : TypedProgram) (old : Run) where
  pub called-done : {E : Type 0} (r : Result Did E) (new : Run) (line entity count number : ℕ) (arguments rest : List ℕ)
      → number ≡ value_of_entity (program_view p) entity → arguments ≡ last_values count old.values → rest ≡ drop count old.values
      → IfOk r (Steps p (entering.called p line number arguments (with_stack old rest)) (with_stack old rest) new)
      → IfOk r (Steps p (finishing.called p line entity count old) old new)
  called-done r new line entity count number arguments rest number-is arguments-are rest-is =
      subst (λ (n : ℕ → Doing ⊥). IfOk r (Steps p n old new))
      (λ i bound. calls (program_view p) bound line (number-is i) (arguments-are i) >>= (λ v. going p bound old (v ∷ rest-is i) normal))

  module _ (line count number : ℕ) (arguments rest : List ℕ) (number-is : number ≡ top_of rest) (rest-is : rest ≡ drop count old.values) where
    number-at : number ≡ top_of (drop count old.values)
    number-at = number-is ∙ ap top_of rest-is

    abbrev s : ℕ → Setting
    s bound = setting_at (program_view p) bound (current_view (types_of p) old.current)

    pub through-done : {E : Type 0} (r : Result Did E) (new : Run) (left : List ℕ) (before : ℕ) → number ≡ suc before
        → arguments ≡ last_values count old.values → left ≡ below rest
        → IfOk r (Steps p (entering.called p line number arguments (with_stack old left)) (with_stack old left) new)
        → IfOk r (Steps p (finishing.called_through p line count old) old new)
    through-done r new left before is arguments-are left-is =
        let left-at = left-is ∙ ap below rest-is in
        subst (λ (n : ℕ → Doing ⊥). IfOk r (Steps p n old new))
        ((λ i bound. calls-value (s bound) line number before arguments is i >>= (λ v. going p bound old (v ∷ left) normal))
        ∙ (λ i bound. call_of_value (s bound) line (number-at i) (arguments-are i) >>= (λ v. going p bound old (v ∷ left-at i) normal)))

    pub through-null : (new : Run) → number ≡ 0
        → Steps p (finishing.called_through p line count old) old new (did.Trapped (record { trap = NullPointer; line = line }))
    through-null new is = λ bound low es.
        ap (λ (n : ℕ). (call_of_value (s bound) line n (last_values count old.values)
        >>= (λ v. going p bound old (v ∷ below (drop count old.values)) normal)) (world_of old.world es)) (sym number-at ∙ is)

  -- other values on the stack change nothing of what is sound
  pub sound-stack : (vs : List ℕ) → IsSound p old → IsSound p (with_stack old vs)
  sound-stack vs s = record { tasks = s.tasks; current = s.current; depths = s.depths }

  pub falls-stack : {E : Type 0} (r : Result Did E) (new : Run) (vs : List ℕ) → IfOk r (Falls p 0 (with_stack old vs) new) → IfOk r (Falls p 0 old new)
  falls-stack (Ok did.Went) new vs is = is
  falls-stack (Ok did.Turned) new vs is = is
  falls-stack (Ok (did.Told event)) new vs is = is
  falls-stack (Ok (did.Trapped t)) new vs is = is
  falls-stack (Ok (did.Exited v)) new vs is = is
  falls-stack (Err e) new vs is = is
