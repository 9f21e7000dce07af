use Rattle.std.proofs.Common.{◌∙◌, ℕ, List, ◌∷◌, replicate, refl, ap}
use Rattle.c_meaning.specs.declared.task.Task.{Task as CodeTask}
use Rattle.c_meaning.specs.declared.task.Task.TheVariants as task
use Rattle.c_meaning.specs.declared.task.ItemsWork.TheVariants as items_work
use Rattle.c_meaning.specs.Pending.{execute_items, end_block, leave}
use Rattle.c_meaning.specs.Runs.{types_of}
use Rattle.c_meaning.specs.Stack.{pending}
use Rattle.c_meaning.specs.TaskViews.{current_view, items_view, tasks_view}
use Rattle.c_meaning.proofs.FunctionsAt.{body_items}
use Rattle.c_meaning.proofs.run.Run.exchange.Goals as goal

pub returns : goal.returns
returns c =
    let old = c.args.self.now in
    let types = types_of c.args.at.program.now in
    let items = c.as_slice-items.result in
    let items-are = ap (items_view types) c.as_slice-items.ensures ∙ body_items types c.args.at.current.function.now in
    let pushed = c.in_ok-push-3.ensures ∙ ap (λ (us : List CodeTask). task.Items items_work.Execute items ∷ us)
    (c.in_ok-push-2.ensures ∙ ap (λ (us : List CodeTask). task.Items items_work.End items ∷ us) c.in_ok-push.ensures) in
    record {
      body = record {
        tasks =
            ap (tasks_view types) pushed
            ∙ (λ i. execute_items (items-are i) ∷ end_block (items-are i) ∷ leave (current_view types old.current) (c.swap.ensures.y_after i)
            ∷ tasks_view types (pending old.tasks));
        current = refl;
        values = refl;
      };
      world =
          ap (λ (ls : List ℕ). record (old.world) { locals = ls })
          (c.swap.ensures.x_after ∙ c.in_ok-locals.ensures ∙ ap (λ (n : ℕ). replicate n 0) c.len.ensures);
    }
