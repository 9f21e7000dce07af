-- The entities of the code as what is known of them.
use Rattle.std.specs.Prelude.{◌≡◌, ℕ, Bool as Test, true, false, ◌&&◌, List, map, Option, Some, None, bytes_eq, if◌then◌else◌}
use Rattle.std.specs.Map.{lookup}
use Rattle.std.specs.declared.vec.Vec.{Vec}
use Rattle.std.specs.declared.alloc.Global.{Global}
use Rattle.c_types.specs.declared.type_ref.TypeRef.{TypeRef}
use Rattle.c_types.specs.declared.type_ref.Row.{Row}
use Rattle.c_types.specs.Types.{CType}
use Rattle.c_types.specs.Table.{type_at, Extends}
use Rattle.c_typed.specs.Views.{qualified_from}
use Rattle.typing_rules.specs.Known as known
use Rattle.typing_rules.specs.SpecifierRules as words
use Rattle.typing_rules.specs.DeclarationRules as rule
use Rattle.c_entities.specs.declared.entity.File.{File}
use Rattle.c_entities.specs.declared.entity.File.TheVariants.{Main, Binary}
use Rattle.c_entities.specs.declared.entity.Storage.{Storage}
use Rattle.c_entities.specs.declared.entity.Storage.TheVariants as storage
use Rattle.c_entities.specs.declared.entity.Definition.{Definition}
use Rattle.c_entities.specs.declared.entity.Definition.TheVariants.{Undefined, Tentative, Defined}
use Rattle.c_entities.specs.declared.entity.Defining.{Defining}
use Rattle.c_entities.specs.declared.entity.Defining.TheVariants.{Tentatively, Fully}
use Rattle.c_entities.specs.declared.entity.Entity.{Entity}
use Rattle.c_entities.specs.declared.entity.Linked.{Linked}
use Rattle.c_entities.specs.declared.entities.Entities.{Entities}

abbrev pub file_view : File → known.File
file_view Main = known.main_file
file_view Binary = known.binary_file

abbrev pub storage_view : Storage → words.Storage
storage_view storage.None = words.no_word
storage_view storage.Static = words.static_word
storage_view storage.Extern = words.extern_word

abbrev pub definition_view : Definition → known.Definition
definition_view Undefined = known.undefined
definition_view (Tentative file) = known.tentative (file_view file)
definition_view (Defined file) = known.defined (file_view file)

abbrev pub defining_view : Defining → rule.Defining
defining_view Tentatively = rule.tentatively
defining_view Fully = rule.fully

abbrev pub is_tentative : rule.Defining → Test
is_tentative rule.tentatively = true
is_tentative rule.fully = false

-- an entity's number and the line of its first declaration
abbrev pub first_view : ℕ × ℕ → known.First
first_view d = record { entity = d.0; line = d.1 }

module _ (types : TypeRef → CType) where
  abbrev pub entity_view : Entity → known.Entity
  entity_view e = record {
    name = e.name.items;
    type = qualified_from types e.ty;
    is_external = e.is_external;
    file = file_view e.file;
    definition = definition_view e.definition;
    contents = e.contents.items;
  }

  abbrev pub linked_view : Linked → known.Linked
  linked_view l = record { entity = l.entity; type = qualified_from types l.ty }

-- whether a key has these bytes
abbrev pub has_name : List ℕ → Vec ℕ Global → Test
has_name name key = bytes_eq name key.items

-- what is found first, or else another thing
abbrev pub or_else : Option ℕ → Option ℕ → Option ℕ
or_else None other = other
or_else (Some n) other = Some n

-- a name has a number, where it had none before and has external linkage; all other names have theirs
abbrev pub IsNumbered : List (Vec ℕ Global × ℕ) → List (Vec ℕ Global × ℕ) → List ℕ → Test → ℕ → Type 0
IsNumbered old new name is_external number =
    (other : List ℕ) → lookup (has_name other) new ≡ or_else (lookup (has_name other) old) (if bytes_eq other name && is_external then Some number else None)

-- these are the entities, and those that the file declares, in a table of types and in all that have more
pub record AreEntities (rows : List Row) (x : Entities) (entities : List known.Entity) (declared : List known.First) : Type 0 where
  pub each : (later : List Row) → Extends rows later → map (entity_view (type_at later)) x.rows.items ≡ entities
  pub first : map first_view x.declared.entries ≡ declared
  -- those with external linkage, by their names
  pub externals : (name : List ℕ) → lookup (has_name name) x.externals.entries ≡ known.external_from 0 name entities
