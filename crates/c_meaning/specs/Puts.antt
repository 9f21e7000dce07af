-- Tasks that are put before the pending ones.
use Rattle.std.specs.Prelude.{◌≡◌, List, ◌++◌}
use Rattle.c_types.specs.declared.type_ref.TypeRef.{TypeRef}
use Rattle.c_types.specs.Types.{CType}
use Rattle.c_meaning.specs.declared.stack.Tasks.{Tasks}
use Rattle.c_meaning.specs.Pending.{Task}
use Rattle.c_meaning.specs.Stack.{pending}
use Rattle.c_meaning.specs.TaskViews.{tasks_view}

-- whatever types the references stand for
abbrev pub Puts : Tasks → Tasks → ((TypeRef → CType) → List Task) → Type 0
Puts old new plan = (types : TypeRef → CType) → tasks_view types (pending new) ≡ plan types ++ tasks_view types (pending old)
