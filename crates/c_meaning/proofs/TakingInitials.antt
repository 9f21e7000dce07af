-- What the steps owe where locals take their first values, as the code finds them.
use Rattle.std.proofs.Common.{◌≡◌, ℕ, List, [], ◌∷◌, ◌++◌, map, Some, sym, ap, ◌∙◌, subst}
use Rattle.std.specs.Prelude.{option_map}
use Rattle.c_types.specs.declared.type_ref.TypeRef.{TypeRef}
use Rattle.c_types.specs.Types.{CType}
use Rattle.c_typed.specs.declared.program.TypedProgram.{TypedProgram}
use Rattle.c_typed.specs.declared.statement.Initializer.TheVariants as code_initializer
use Rattle.c_typed.specs.declared.statement.LocalItem.{LocalItem as CodeLocal}
use Rattle.c_typed.specs.declared.value.Value as v
use Rattle.c_typed.specs.StatementViews.{local_item_view, initializer_view}
use Rattle.c_typed.specs.Statements.{LocalItem}
use Rattle.c_meaning.specs.declared.run.Did.TheVariants as did
use Rattle.c_meaning.specs.declared.run.Run.{Run}
use Rattle.c_meaning.specs.declared.setting.At.{At}
use Rattle.c_meaning.specs.declared.stack.Tasks.{Tasks}
use Rattle.c_meaning.specs.Owes.{CanTake, Takes, IsAddressed}
use Rattle.c_meaning.specs.Pending.{does, initialize_all}
use Rattle.c_meaning.specs.Plans.{address_of_local, initial_plan, initial_stack}
use Rattle.c_meaning.specs.Runs.{types_of, setting_of}
use Rattle.c_meaning.specs.Stack.{pending}
use Rattle.c_meaning.specs.TaskViews.{tasks_view}
use Rattle.c_meaning.proofs.Taking.{work}
use Rattle.c_meaning.proofs.TakingValues.{none_initialized, initialized}

module _ (at : At) (old : Run) where
  abbrev p : TypedProgram
  p = at.program.now

  abbrev types : TypeRef → CType
  types = types_of p

  abbrev item : CodeLocal → LocalItem
  item = local_item_view types

  -- a local that takes one value first: its address is put onto the stack
  pub scalar_addressed : (x : CodeLocal) (e : v.Value) (a : ℕ) (us : List ℕ) → x.initializer ≡ Some (code_initializer.Scalar e)
      → ((bound : ℕ) → a ≡ address_of_local (setting_of bound at) x.number old.world.locals) → us ≡ a ∷ old.values
      → IsAddressed at (item x) old (record old { values = us })
  scalar_addressed x e a us is address stack = λ bound.
      (λ i. record old { values = stack i })
      ∙ (λ i. record old { values = address bound i ∷ old.values })
      ∙ (λ i. record old {
        values =
            initial_stack (setting_of bound at) (record { number = x.number; initializer = option_map (initializer_view types) (sym is i) }) old.world.locals old.values;
      })

  module _ (locals : List CodeLocal) (can : CanTake at old (does (initialize_all (map item locals)))) where
    pub none_left : locals ≡ [] → Takes at old (does (initialize_all (map item locals))) old did.Went
    none_left is =
        subst (λ k. CanTake at old (does (initialize_all (map item k))) → Takes at old (does (initialize_all (map item k))) old did.Went) (sym is)
        (none_initialized at old) can

    -- the first local is initialized, and then the others
    pub first_initialized : (first : CodeLocal) (rest : List CodeLocal) (put tasks : Tasks) (next : Run) → locals ≡ first ∷ rest
        → tasks_view types (pending put) ≡ does (initialize_all (map item rest)) ∷ work p old
        → IsAddressed at (item first) (record old { tasks = put }) next
        → tasks_view types (pending tasks) ≡ initial_plan (item first) ++ tasks_view types (pending next.tasks)
        → Takes at old (does (initialize_all (map item locals))) (record next { tasks = tasks }) did.Went
    first_initialized first rest put tasks next is before addressed puts =
        let same = addressed 0 in
        subst (λ k. CanTake at old (does (initialize_all (map item k))) → Takes at old (does (initialize_all (map item k))) (record next { tasks = tasks }) did.Went)
        (sym is)
        (λ can2.
        subst (λ (new : Run). Takes at old (does (initialize_all (item first ∷ map item rest))) new did.Went)
        (λ i. record { current = (sym same i).current; world = (sym same i).world; tasks = tasks; values = next.values })
        (initialized at old (item first) (map item rest) tasks next.values can2 (λ bound. ap (λ (r : Run). r.values) (addressed bound))
        (puts
        ∙ (λ i. initial_plan (item first) ++ tasks_view types (pending (same i).tasks))
        ∙ ap (λ ts. initial_plan (item first) ++ ts) before)))
        can
