-- What is known at a place of a program: what the names before it mean, and what the program has so far.
use Rattle.std.specs.Prelude.{ℕ, suc, ◌+◌, ◌==◌, Bool as Test, true, false, ◌&&◌, ◌||◌, if◌then◌else◌, List, [], ◌∷◌, ◌++◌, Option, Some, None, slice_get, slice_set, bytes_eq}
use Rattle.srmt_base.specs.declared.ty.Ty.TheVariants.{Int}
use Rattle.c_types.specs.Types.{CType, void, integer, Qualified, unqualified, function_of, is_array, same_type}
use Rattle.c_typed.specs.declared.program.StartCell.{StartCell}
use Rattle.c_typed.specs.declared.program.TextObject.{TextObject}
use Rattle.typing_rules.specs.Source.{Bytes}

-- the main file or the binary file
pub data File : Type 0 where
  main_file binary_file : File

abbrev pub same_file : File → File → Test
same_file main_file main_file = true
same_file binary_file binary_file = true
same_file _ _ = false

-- ---- names

-- the functions that are declared outside of every file
pub data Predeclared : Type 0 where
  the_putchar the_getchar the_exit : Predeclared

-- what a name means: a local by its number, an object or function with linkage by its number and with the type that
-- its declarations in this file give it, a predeclared function, or a constant of type `int`
pub data Meaning : Type 0 where
  local : (number : ℕ) → Meaning
  linked : (entity : ℕ) (type : Qualified) → Meaning
  predeclared : Predeclared → Meaning
  constant : (value : ℕ) → Meaning

-- the declarations of a block, the newest first
abbrev pub Scope : Type 0
Scope = List (Bytes × Meaning)

abbrev pub found_in : Bytes → Scope → Option Meaning
found_in name [] = None
found_in name (d ∷ rest) = if bytes_eq name d.0 then Some d.1 else found_in name rest

abbrev pub or_else : Option Meaning → Option Meaning → Option Meaning
or_else None other = other
or_else (Some m) other = Some m

-- what a name means: that of the innermost scope that declares it (C11 6.2.1p4)
abbrev pub meaning_of : Bytes → List Scope → Option Meaning
meaning_of name [] = None
meaning_of name (scope ∷ outer) = or_else (found_in name scope) (meaning_of name outer)

abbrev pub innermost : List Scope → Scope
innermost [] = []
innermost (scope ∷ outer) = scope

-- in the innermost scope a name means this from now on
abbrev pub with_meaning : Bytes → Meaning → List Scope → List Scope
with_meaning name m [] = []
with_meaning name m (scope ∷ outer) = ((name, m) ∷ scope) ∷ outer

-- ---- what the program has

-- a local of a function, a parameter too: its name if it has one, the line of its name, that of its declarator's
-- first token, its type, and whether `&` is applied to it
pub record Local : Type 0 where
  pub name : Option Bytes
  pub line : ℕ
  pub first : ℕ
  pub type : Qualified
  pub is_addressed : Test

-- a local stands in memory where it is an array or volatile, or where `&` is applied to it; else in a register
abbrev pub is_placed : Local → Test
is_placed l = l.is_addressed || l.type.qualifiers.is_volatile || is_array l.type.type

-- whether an object or function is defined, and where; an object without initializer is so tentatively (C11 6.9.2p2)
pub data Definition : Type 0 where
  undefined : Definition
  tentative : File → Definition
  defined : File → Definition

-- an object or function with linkage: its type by all declarations so far, and the file that declared it first
pub record Entity : Type 0 where
  pub name : Bytes
  pub type : Qualified
  pub is_external : Test
  pub file : File
  pub definition : Definition
  -- what the given cells of an object start with
  pub contents : List StartCell

-- the first declaration of an entity in a file, with the line of the name
pub record First : Type 0 where
  pub entity : ℕ
  pub line : ℕ

-- an occurrence of an entity's name in an expression
pub record Use : Type 0 where
  pub entity : ℕ
  pub line : ℕ

pub record Known : Type 0 where
  pub file : File
  -- of the blocks and lists of parameters around, the innermost first
  pub scopes : List Scope
  pub file_scope : Scope
  -- by their number, in the order of their first declaration in either file
  pub entities : List Entity
  -- those that this file declares, in the order of their first declaration in it
  pub declared : List First
  -- of the function
  pub locals : List Local
  -- of this file
  pub texts : List TextObject
  pub static_cells : ℕ
  pub functions : ℕ
  -- of functions that are defined or called through a pointer, each once
  pub types : List CType
  pub uses : List Use

-- ---- the parts of it

abbrev pub no_local : Local
no_local = record { name = None; line = 0; first = 0; type = unqualified void; is_addressed = false }

abbrev pub no_entity : Entity
no_entity = record { name = []; type = unqualified void; is_external = false; file = main_file; definition = undefined; contents = [] }

abbrev pub or_local : Option Local → Local
or_local None = no_local
or_local (Some l) = l

abbrev pub or_entity : Option Entity → Entity
or_entity None = no_entity
or_entity (Some e) = e

abbrev pub local_at : List Local → ℕ → Local
local_at locals n = or_local (slice_get locals n)

abbrev pub entity_at : List Entity → ℕ → Entity
entity_at entities n = or_entity (slice_get entities n)

-- `main`
abbrev pub main_bytes : Bytes
main_bytes = 109 ∷ 97 ∷ 105 ∷ 110 ∷ []

-- the function that the program begins with: `main`, but not a static one of the binary file
abbrev pub is_main : Entity → Test
is_main e = bytes_eq e.name main_bytes && (e.is_external || same_file e.file main_file)

-- ---- what is declared outside of every file

abbrev pub type_of_predeclared : Predeclared → CType
type_of_predeclared the_putchar = function_of (integer Int ∷ []) (unqualified (integer Int))
type_of_predeclared the_getchar = function_of [] (unqualified (integer Int))
type_of_predeclared the_exit = function_of (integer Int ∷ []) (unqualified void)

-- `putchar`, `getchar`, `exit`, `EOF` and `NULL`
abbrev pub predeclared_scope : Scope
predeclared_scope =
    (112 ∷ 117 ∷ 116 ∷ 99 ∷ 104 ∷ 97 ∷ 114 ∷ [], predeclared the_putchar) ∷
    (103 ∷ 101 ∷ 116 ∷ 99 ∷ 104 ∷ 97 ∷ 114 ∷ [], predeclared the_getchar) ∷
    (101 ∷ 120 ∷ 105 ∷ 116 ∷ [], predeclared the_exit) ∷
    (69 ∷ 79 ∷ 70 ∷ [], constant 4294967295) ∷
    (78 ∷ 85 ∷ 76 ∷ 76 ∷ [], constant 0) ∷
    []

abbrev pub all_scopes : Known → List Scope
all_scopes k = k.scopes ++ k.file_scope ∷ predeclared_scope ∷ []

abbrev pub is_among : CType → List CType → Test
is_among t [] = false
is_among t (u ∷ rest) = same_type t u || is_among t rest

-- ---- what becomes known

abbrev pub with_scopes : List Scope → Known → Known
with_scopes scopes k = record k { scopes = scopes }

abbrev pub with_locals : List Local → Known → Known
with_locals locals k = record k { locals = locals }

-- a new innermost scope, and its end
abbrev pub opened : Known → Known
opened k = with_scopes ([] ∷ k.scopes) k

abbrev pub outer_scopes : List Scope → List Scope
outer_scopes [] = []
outer_scopes (scope ∷ outer) = outer

abbrev pub closed : Known → Known
closed k = with_scopes (outer_scopes k.scopes) k

abbrev pub meaning : Bytes → Meaning → Known → Known
meaning name m k = with_scopes (with_meaning name m k.scopes) k

abbrev pub used : ℕ → ℕ → Known → Known
used entity line k = record k { uses = k.uses ++ record { entity = entity; line = line } ∷ [] }

abbrev pub with_cells : ℕ → Known → Known
with_cells n k = record k { static_cells = k.static_cells + n }

abbrev pub with_text : ℕ → Bytes → Known → Known
with_text line bytes k = record k { texts = k.texts ++ record { line = line; bytes = bytes } ∷ [] }

abbrev pub with_type : CType → Known → Known
with_type t k = if is_among t k.types then k else record k { types = k.types ++ t ∷ [] }

abbrev pub addressed_local : Local → Local
addressed_local l = record l { is_addressed = true }

-- `&` is applied to a local
abbrev pub addressed : ℕ → Known → Known
addressed n k = with_locals (slice_set k.locals n (addressed_local (local_at k.locals n))) k

abbrev pub with_local : Local → Known → Known
with_local l k = with_locals (k.locals ++ l ∷ []) k

-- ---- objects and functions with linkage

-- a name of file scope, with its entity and the type that the declarations of this file give it
pub record Linked : Type 0 where
  pub entity : ℕ
  pub type : Qualified

abbrev pub linked_as : Option Meaning → Option Linked
linked_as None = None
linked_as (Some (local n)) = None
linked_as (Some (linked n type)) = Some (record { entity = n; type = type })
linked_as (Some (predeclared p)) = None
linked_as (Some (constant n)) = None

-- what a name means at file scope so far
abbrev pub earlier : Bytes → Known → Option Linked
earlier name k = linked_as (found_in name k.file_scope)

-- the entity with external linkage that has a name, by its number from one on
abbrev pub external_from : ℕ → Bytes → List Entity → Option ℕ
external_from n name [] = None
external_from n name (e ∷ rest) = if bytes_eq name e.name && e.is_external then Some n else external_from (suc n) name rest

abbrev pub with_file_meaning : Bytes → Meaning → Known → Known
with_file_meaning name m k = record k { file_scope = (name, m) ∷ k.file_scope }

abbrev pub with_entities : List Entity → Known → Known
with_entities entities k = record k { entities = entities }

abbrev pub with_entity_at : ℕ → Entity → Known → Known
with_entity_at n e k = with_entities (slice_set k.entities n e) k

abbrev pub is_declared_among : ℕ → List First → Test
is_declared_among n [] = false
is_declared_among n (f ∷ rest) = (n == f.entity) || is_declared_among n rest

-- an entity is declared in this file, perhaps for the first time
abbrev pub declared_first : ℕ → ℕ → Known → Known
declared_first n line k = if is_declared_among n k.declared then k else record k { declared = k.declared ++ record { entity = n; line = line } ∷ [] }

abbrev pub local_completed : ℕ → Qualified → Known → Known
local_completed n type k = with_locals (slice_set k.locals n (record (local_at k.locals n) { type = type })) k
