-- What is read of the entities of the code, and what changes of them, as it is of what is known.
use Rattle.std.specs.Prelude.{◌≡◌, ℕ, List}
use Rattle.c_types.specs.declared.type_ref.Row.{Row}
use Rattle.c_types.specs.Types.{Qualified}
use Rattle.c_typed.specs.declared.program.StartCell.{StartCell}
use Rattle.typing_rules.specs.Known as known
use Rattle.typing_rules.specs.DeclarationRules.{composed}
use Rattle.c_entities.specs.declared.entity.File.{File}
use Rattle.c_entities.specs.declared.entities.Entities.{Entities}
use Rattle.c_entities.specs.Views.{AreEntities, file_view}

-- a fact on what is known, wherever these are its entities
abbrev pub Reads : List Row → Entities → (known.Known → Type 0) → Type 0
Reads rows x P = (k : known.Known) → AreEntities rows x k.entities k.declared → P k

-- in a file the entities change as what is known of them
abbrev pub Changes : List Row → File → Entities → Entities → (known.Known → known.Known) → Type 0
Changes rows file old new f =
    (k : known.Known) → file_view file ≡ k.file → AreEntities rows old k.entities k.declared → AreEntities rows new (f k).entities (f k).declared

-- what an object starts with, and the type that this completes
abbrev pub started : ℕ → Qualified → List StartCell → known.Known → known.Known
started n t cells k =
    known.with_entity_at n (record (known.entity_at k.entities n) { type = composed (known.entity_at k.entities n).type t; contents = cells }) k
