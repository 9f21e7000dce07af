-- What a jump does to the tasks that it reaches, a row of the code's match at a time.
use Rattle.std.proofs.Common.{◌≡◌, ℕ, List, map, sym, ap, ◌∙◌, subst, ◌⊎◌, inl, inr, Bor}
use Rattle.srmt_base.specs.declared.event.Event.{Event}
use Rattle.c_types.specs.declared.type_ref.TypeRef.{TypeRef}
use Rattle.c_types.specs.Types.{CType}
use Rattle.c_typed.specs.declared.statement.BlockItem.{BlockItem}
use Rattle.c_typed.specs.declared.statement.Cell.{Cell}
use Rattle.c_typed.specs.declared.statement.LocalItem.{LocalItem}
use Rattle.c_typed.specs.declared.statement.Stmt.{Stmt}
use Rattle.c_typed.specs.declared.value.Place.{Place}
use Rattle.c_typed.specs.declared.value.Value.{Value}
use Rattle.c_typed.specs.StatementViews.{local_item_view}
use Rattle.source_meaning.specs.Places.{all_end}
use Rattle.source_meaning.specs.Statements.{Completion, locals_of, numbers_of}
use Rattle.source_meaning.specs.World.{Gives}
use Rattle.c_meaning.specs.declared.jumps.Jump.{Jump}
use Rattle.c_meaning.specs.declared.jumps.Met.TheVariants as met
use Rattle.c_meaning.specs.declared.run.Run.{Run}
use Rattle.c_meaning.specs.declared.setting.At.{At}
use Rattle.c_meaning.specs.declared.store.Stored.{Stored}
use Rattle.c_meaning.specs.declared.task.Task.{Task}
use Rattle.c_meaning.specs.declared.task.Task.TheVariants as task
use Rattle.c_meaning.specs.declared.task.ItemsWork.{ItemsWork}
use Rattle.c_meaning.specs.declared.task.ItemsWork.TheVariants as items_work
use Rattle.c_meaning.specs.declared.task.LocalsWork.{LocalsWork}
use Rattle.c_meaning.specs.declared.task.LocalsWork.TheVariants as locals_work
use Rattle.c_meaning.specs.declared.task.PlaceWork.{PlaceWork}
use Rattle.c_meaning.specs.declared.task.PlaceWork.TheVariants as place_work
use Rattle.c_meaning.specs.declared.task.StmtWork.{StmtWork}
use Rattle.c_meaning.specs.declared.task.StmtWork.TheVariants as stmt_work
use Rattle.c_meaning.specs.declared.task.ValueWork.{ValueWork}
use Rattle.c_meaning.specs.declared.task.ValueWork.TheVariants as value_work
use Rattle.c_meaning.specs.declared.task.ValuesWork.{ValuesWork}
use Rattle.c_meaning.specs.declared.task.ValuesWork.TheVariants as values_work
use Rattle.c_meaning.specs.Jumping.{Meets}
use Rattle.c_meaning.specs.Owes.{CanTake}
use Rattle.c_meaning.specs.Runs.{types_of, setting_of, world_of, completion_of}
use Rattle.c_meaning.specs.TaskViews.{items_view, task_view}
use Rattle.c_meaning.proofs.Meeting.{skipped, block_left, locals_left}
use Rattle.c_meaning.proofs.StatementPlans.{IsSkipped}

-- tasks that a jump leaves out, whatever their parts are
module _ (types : TypeRef → CType) where
  value_skipped : (w : ValueWork) (e : Bor Value) → IsSkipped (task_view types (task.Value w e))
  value_skipped value_work.Evaluate e = tt
  value_skipped value_work.Decide e = tt
  value_skipped value_work.Finish e = tt

  values_skipped : (w : ValuesWork) (es : Bor (List Value)) → IsSkipped (task_view types (task.Values w es))
  values_skipped values_work.Evaluate es = tt
  values_skipped values_work.Drop es = tt

  place_skipped : (w : PlaceWork) (l : Bor Place) → IsSkipped (task_view types (task.Place w l))
  place_skipped place_work.Locate l = tt
  place_skipped place_work.Point l = tt
  place_skipped place_work.Hold l = tt
  place_skipped place_work.HoldAbove l = tt

-- x: the task that is reached
module _ (at : At) (old : Run) (x : Task) (can : CanTake at old (task_view (types_of at.program.now) x)) where
  abbrev types : TypeRef → CType
  types = types_of at.program.now

  abbrev Has : Task → Type 0
  Has t = x ≡ t

  can_take : (t : Task) → Has t → CanTake at old (task_view types t)
  can_take t is = subst (λ u. CanTake at old (task_view types u)) is can

  module _ (j : Jump) where
    abbrev Passes : Type 0
    Passes = Meets at (completion_of j) old (task_view types x) old met.Passes

    over : (t : Task) → IsSkipped (task_view types t) → Has t → Passes
    over t out is = skipped at old (task_view types x) j can (subst (λ u. IsSkipped (task_view types u)) (sym is) out)

    pub value-row : ((w : ValueWork) × (e : Bor Value) × Has (task.Value w e)) ⊎ (((w : ValuesWork) × (es : Bor (List Value)) × Has (task.Values w es))
        ⊎ (((w : PlaceWork) × (l : Bor Place) × Has (task.Place w l)) ⊎ Has task.Forget)) → Passes
    value-row (inl (w, e, is)) = over (task.Value w e) (value_skipped types w e) is
    value-row (inr (inl (w, es, is))) = over (task.Values w es) (values_skipped types w es) is
    value-row (inr (inr (inl (w, l, is)))) = over (task.Place w l) (place_skipped types w l) is
    value-row (inr (inr (inr is))) = over task.Forget tt is

    pub give-row : ((n : ℕ) × Has (task.Give n)) ⊎ (((n : ℕ) × (given : Bor (List Cell)) × Has (task.Cells n given))
        ⊎ (((n : ℕ) × (index : ℕ) × Has (task.Cell n index)) ⊎ Has task.Answer)) → Passes
    give-row (inl (n, is)) = over (task.Give n) tt is
    give-row (inr (inl (n, given, is))) = over (task.Cells n given) tt is
    give-row (inr (inr (inl (n, index, is)))) = over (task.Cell n index) tt is
    give-row (inr (inr (inr is))) = over task.Answer tt is

    pub items-passed : (w : ItemsWork) (items : Bor (List BlockItem)) → Has (task.Items w items) → w ≡ items_work.Execute → Passes
    items-passed w items is work = over (task.Items items_work.Execute items) tt (is ∙ ap (λ u. task.Items u items) work)

    pub locals-passed : (w : LocalsWork) (locals : Bor (List LocalItem)) → Has (task.Locals w locals) → w ≡ locals_work.Initialize → Passes
    locals-passed w locals is work = over (task.Locals locals_work.Initialize locals) tt (is ∙ ap (λ u. task.Locals u locals) work)

    module _ (w : StmtWork) (a : Bor Stmt) (is : Has (task.Stmt w a)) where
      stmt_over : (u : StmtWork) → IsSkipped (task_view types (task.Stmt u a)) → w ≡ u → Passes
      stmt_over u out work = over (task.Stmt u a) out (is ∙ ap (λ z. task.Stmt z a) work)

      pub execute-row : (w ≡ stmt_work.Execute) ⊎ ((w ≡ stmt_work.Choose) ⊎ (w ≡ stmt_work.Top)) → Passes
      execute-row (inl work) = stmt_over stmt_work.Execute tt work
      execute-row (inr (inl work)) = stmt_over stmt_work.Choose tt work
      execute-row (inr (inr work)) = stmt_over stmt_work.Top tt work

      pub tested-row : (w ≡ stmt_work.Tested) ⊎ (w ≡ stmt_work.Again) → Passes
      tested-row (inl work) = stmt_over stmt_work.Tested tt work
      tested-row (inr work) = stmt_over stmt_work.Again tt work

  -- what a block or a declaration has begun ends
  module _ (j : Completion) (u : Stored) (budgets : u.budgets ≡ old.world.budgets) where
    abbrev Ends : Type 0
    Ends = Meets at j old (task_view types x) (record old { world = u }) met.Passes

    same : (t : Task) → Has t → Meets at j old (task_view types t) (record old { world = u }) met.Passes → Ends
    same t is = subst (λ z. Meets at j old (task_view types z) (record old { world = u }) met.Passes) (sym is)

    pub block-ended : (w : ItemsWork) (items : Bor (List BlockItem)) → Has (task.Items w items) → w ≡ items_work.End
        → ((bound : ℕ) (es : List Event) → all_end (setting_of bound at) (locals_of (items_view types items.now)) (world_of old.world es) ≡ Gives tt (world_of u es))
        → Ends
    block-ended w items is work ends =
        let t : Task = task.Items items_work.End items in
        let has : Has t = is ∙ ap (λ z. task.Items z items) work in
        same t has (block_left at old (items_view types items.now) j u (can_take t has) ends budgets)

    pub locals-ended : (w : LocalsWork) (locals : Bor (List LocalItem)) → Has (task.Locals w locals) → w ≡ locals_work.End
        → ((bound : ℕ) (es : List Event)
        → all_end (setting_of bound at) (numbers_of (map (local_item_view types) locals.now)) (world_of old.world es) ≡ Gives tt (world_of u es))
        → Ends
    locals-ended w locals is work ends =
        let t : Task = task.Locals locals_work.End locals in
        let has : Has t = is ∙ ap (λ z. task.Locals z locals) work in
        same t has (locals_left at old (map (local_item_view types) locals.now) j u (can_take t has) ends budgets)
