-- A stack as a list, the last first.
use Rattle.std.specs.Prelude.{◌≡◌, List, [], ◌∷◌, reverse, Option, Some, None}
use Rattle.c_meaning.specs.declared.task.Task.{Task}
use Rattle.c_meaning.specs.declared.stack.Tasks.{Tasks}

abbrev pub pending : Tasks → List Task
pending s = reverse s.items.items

-- the first is taken, or none is there
abbrev pub Popped : {A : Type 0} → List A → List A → Option A → Type 0
Popped old new None = (old ≡ []) × (new ≡ [])
Popped old new (Some x) = old ≡ x ∷ new
