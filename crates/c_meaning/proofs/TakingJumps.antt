-- What the steps owe that jump: `continue`, `break` and `return`.
use Rattle.std.proofs.Common.{◌≡◌, ℕ, suc, ◌≤◌, List, None, Result, Ok, Err, refl, sym, subst, arith}
use Rattle.std.specs.Prelude.{IfOk, OnOk}
use Rattle.srmt_base.specs.declared.event.Event.{Event}
use Rattle.c_typed.specs.declared.program.TypedProgram.{TypedProgram}
use Rattle.c_typed.specs.declared.statement.Stmt as code_stmt
use Rattle.c_typed.specs.declared.statement.StmtNode.TheVariants as sn
use Rattle.c_typed.specs.StatementViews.{stmt_view}
use Rattle.c_typed.specs.Statements.{Stmt, continue, break, return}
use Rattle.c_typed.proofs.StatementViewLaws.{view_continue, view_break, view_return}
use Rattle.source_meaning.specs.Statements.{Completion, returns, executes}
use Rattle.c_meaning.specs.declared.jumps.Jump.TheVariants as jump
use Rattle.c_meaning.specs.declared.run.Did.{Did}
use Rattle.c_meaning.specs.declared.run.Run.{Run}
use Rattle.c_meaning.specs.declared.setting.At.{At}
use Rattle.c_meaning.specs.Owes.{Takes}
use Rattle.c_meaning.specs.Pending.{Task, execute, answer, top_of, below}
use Rattle.c_meaning.specs.Runs.{types_of, world_of, going, going_with, completion_of, Steps, IsSound, Falls, work_left, work_with}
use Rattle.c_meaning.proofs.PlansWeigh.{task_weighs}
use Rattle.c_meaning.proofs.Taking.{steps_same, falls_more}
use Rattle.c_meaning.proofs.TakingViews.{stmt_is}

module _ (at : At) (old new : Run) where
  abbrev p : TypedProgram
  p = at.program.now

  -- a jump takes the place of a task, where the stack may have changed
  pub jump_taken : {E : Type 0} (t : Task) (us : List ℕ) (j : Completion) (r : Result Did E)
      → ((bound : ℕ) (es : List Event) → going_with p bound t old (world_of old.world es) ≡ going p bound old us j (world_of old.world es))
      → IfOk r (Steps p (λ bound. going p bound old us j) old new) → OnOk r (IsSound p new) → IfOk r (Falls p (suc (work_left p old)) old new)
      → IfOk r (Takes at old t new)
  jump_taken t us j (Ok d) same steps sound falls =
      let more : suc (work_left p old) ≤ work_with p t old = omega (arith, task_weighs t) in
      record {
        steps = steps_same p (λ bound. going_with p bound t old) (λ bound. going p bound old us j) old new d same steps;
        sound = sound;
        falls = falls_more p (suc (work_left p old)) (work_with p t old) old new d more falls;
      }
  jump_taken t us j (Err e) same steps sound falls = falls

  stmt_taken : {E : Type 0} (a b : Stmt) (j : Completion) (r : Result Did E) → a ≡ b
      → ((bound : ℕ) (es : List Event) → going_with p bound (execute b) old (world_of old.world es) ≡ going p bound old old.values j (world_of old.world es))
      → IfOk r (Steps p (λ bound. going p bound old old.values j) old new) → OnOk r (IsSound p new) → IfOk r (Falls p (suc (work_left p old)) old new)
      → IfOk r (Takes at old (execute a) new)
  stmt_taken a b j r is same steps sound falls =
      subst (λ s. IfOk r (Takes at old (execute s) new)) (sym is) (jump_taken (execute b) old.values j r same steps sound falls)

  module _ {E : Type 0} (x : code_stmt.Stmt) (r : Result Did E) (sound : OnOk r (IsSound p new)) (falls : IfOk r (Falls p (suc (work_left p old)) old new)) where
    pub continued : x.node ≡ sn.Continue → IfOk r (Steps p (λ bound. going p bound old old.values (completion_of jump.Continue)) old new)
        → IfOk r (Takes at old (execute (stmt_view (types_of p) x)) new)
    unfolding executes
    continued is steps =
        stmt_taken (stmt_view (types_of p) x) (continue x.line) (completion_of jump.Continue) r
        (stmt_is (types_of p) x sn.Continue (continue x.line) is (view_continue (types_of p) x.line)) (λ bound es. refl) steps sound falls

    pub broken : x.node ≡ sn.Break → IfOk r (Steps p (λ bound. going p bound old old.values (completion_of jump.Break)) old new)
        → IfOk r (Takes at old (execute (stmt_view (types_of p) x)) new)
    unfolding executes
    broken is steps =
        stmt_taken (stmt_view (types_of p) x) (break x.line) (completion_of jump.Break) r
        (stmt_is (types_of p) x sn.Break (break x.line) is (view_break (types_of p) x.line)) (λ bound es. refl) steps sound falls

    pub returned : x.node ≡ sn.Return None → IfOk r (Steps p (λ bound. going p bound old old.values (completion_of (jump.Return 0))) old new)
        → IfOk r (Takes at old (execute (stmt_view (types_of p) x)) new)
    unfolding executes
    returned is steps =
        stmt_taken (stmt_view (types_of p) x) (return x.line None) (completion_of (jump.Return 0)) r
        (stmt_is (types_of p) x (sn.Return None) (return x.line None) is (view_return (types_of p) None x.line)) (λ bound es. refl) steps sound falls

  -- the value of a `return` is on the stack
  pub answered : {E : Type 0} (v : ℕ) (us : List ℕ) (r : Result Did E) → v ≡ top_of old.values → us ≡ below old.values
      → IfOk r (Steps p (λ bound. going p bound (record old { values = us }) us (completion_of (jump.Return v))) (record old { values = us }) new)
      → OnOk r (IsSound p new) → IfOk r (Falls p (suc (work_left p old)) old new) → IfOk r (Takes at old answer new)
  answered v us r top under steps sound falls =
      jump_taken answer us (returns v) r
      (λ bound es. sym (λ i. going p bound old (under i) (returns (top i)) (world_of old.world es))) steps sound falls
