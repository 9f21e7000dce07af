-- What the code knows, as what is known at a place of a program.
use Rattle.std.specs.Prelude.{◌≡◌, ℕ, List, [], ◌∷◌, map, option_map}
use Rattle.c_types.specs.declared.type_ref.TypeRef.{TypeRef}
use Rattle.c_types.specs.declared.type_ref.Row.{Row}
use Rattle.c_types.specs.Types.{CType}
use Rattle.c_types.specs.Table.{type_at, Extends}
use Rattle.c_typed.specs.Views.{qualified_from}
use Rattle.typing_rules.specs.Source.{Bytes}
use Rattle.typing_rules.specs.Known as known
use Rattle.typing_rules.specs.SourceViews.{main_line, binary_line}
use Rattle.c_values.specs.Answers.{predeclared_view}
use Rattle.c_entities.specs.declared.entity.File.{File}
use Rattle.c_entities.specs.declared.entity.File.TheVariants.{Main, Binary}
use Rattle.c_entities.specs.declared.entity.Linked.{Linked}
use Rattle.c_entities.specs.Views.{file_view, AreEntities}
use Rattle.c_known.specs.declared.local.Meaning.{Meaning}
use Rattle.c_known.specs.declared.local.Meaning.TheVariants as meaning
use Rattle.c_known.specs.declared.local.Local.{Local}
use Rattle.c_known.specs.declared.local.Use.{Use}
use Rattle.c_known.specs.declared.known.Known.{Known}

-- the lines of a file, as they are told
abbrev pub line_in : File → ℕ → ℕ
line_in Main line = main_line line
line_in Binary line = binary_line line

-- an occurrence of an entity's name
abbrev pub use_view : Use → known.Use
use_view u = record { entity = u.entity; line = u.line }

module _ (types : TypeRef → CType) where
  abbrev pub meaning_view : Meaning → known.Meaning
  meaning_view (meaning.Local n) = known.local n
  meaning_view (meaning.Linked n t) = known.linked n (qualified_from types t)
  meaning_view (meaning.Predeclared p) = known.predeclared (predeclared_view p)
  meaning_view (meaning.Constant n) = known.constant n

  abbrev pub declared_view : List ℕ × Meaning → Bytes × known.Meaning
  declared_view d = (d.0, meaning_view d.1)

  abbrev pub scope_view : List (List ℕ × Meaning) → known.Scope
  scope_view scope = map declared_view scope

  abbrev pub linked_meaning : List ℕ × Linked → Bytes × known.Meaning
  linked_meaning d = (d.0, known.linked d.1.entity (qualified_from types d.1.ty))

  abbrev pub file_scope_view : List (List ℕ × Linked) → known.Scope
  file_scope_view scope = map linked_meaning scope

  abbrev pub local_view : Local → known.Local
  local_view l = record {
    name = option_map (λ n. n.items) l.name;
    line = l.line;
    first = l.first;
    type = qualified_from types l.ty;
    is_addressed = l.is_addressed;
  }

-- this is known, in the table of types and in all that have more
pub record Knows (x : Known) (k : known.Known) : Type 0 where
  pub file : file_view x.file ≡ k.file
  pub scopes : (later : List Row) → Extends x.types later → map (scope_view (type_at later)) x.blocks ≡ k.scopes
  pub file_scope : (later : List Row) → Extends x.types later → map (file_scope_view (type_at later)) x.names ≡ k.file_scope ∷ []
  pub entities : AreEntities x.types x.entities k.entities k.declared
  pub locals : (later : List Row) → Extends x.types later → map (local_view (type_at later)) x.locals.items ≡ k.locals
  pub texts : x.texts.items ≡ k.texts
  pub static_cells : x.static_cells ≡ k.static_cells
  pub functions : x.functions ≡ k.functions
  pub types : (later : List Row) → Extends x.types later → map (type_at later) x.function_types.keys ≡ k.types
  pub uses : map use_view x.uses.items ≡ k.uses
