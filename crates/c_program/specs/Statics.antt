-- The static objects of a file, one behind the other.
use Rattle.std.specs.Prelude.{◌≡◌, Bool as Test, if◌then◌else◌, ◌&&◌, List, [], ◌∷◌, ◌++◌, map}
use Rattle.c_types.specs.declared.type_ref.Row.{Row}
use Rattle.c_types.specs.Table.{type_at, Extends}
use Rattle.c_typed.specs.declared.program.Static as code_static
use Rattle.c_typed.specs.Statements.{Static}
use Rattle.c_typed.specs.StatementViews.{static_view}
use Rattle.typing_rules.specs.Known.{File, First, Entity}
use Rattle.typing_rules.specs.UnitRules.{is_object, is_defined_in, static_of}
use Rattle.c_entities.specs.declared.entity.Entity as code_entity
use Rattle.c_entities.specs.Views.{entity_view}

-- this is the entity, in a table of types and in all that have more
pub record IsEntity (rows : List Row) (x : code_entity.Entity) (e : Entity) : Type 0 where
  pub always : (later : List Row) → Extends rows later → entity_view (type_at later) x ≡ e

-- static objects stand behind those before
pub record MoreStatics (rows : List Row) (old new : List code_static.Static) (more : List Static) : Type 0 where
  pub always : (later : List Row) → Extends rows later → map (static_view (type_at later)) new ≡ map (static_view (type_at later)) old ++ more

-- an object that a file defines
abbrev pub is_static : File → Entity → Test
is_static file e = is_object e && is_defined_in file e.definition

-- the static object that an entity is, if it is one of the file
abbrev pub static_if : File → First → Entity → List Static
static_if file f e = if is_static file e then static_of f e ∷ [] else []
