-- What a file and a program have once they are checked (C11 6.9).
use Rattle.std.specs.Prelude.{ℕ, suc, ◌+◌, Bool as Test, true, false, not, ◌&&◌, if◌then◌else◌, List, [], ◌∷◌, Option, Some, None, bytes_eq}
use Rattle.srmt_base.specs.declared.ty.Ty.TheVariants.{Int}
use Rattle.c_types.specs.Types.{integer, function_of, unqualified, is_function, same_type}
use Rattle.c_typed.specs.Statements as t
use Rattle.typing_rules.specs.DeclarationRules.{composed, starts_of, Initialized}
use Rattle.typing_rules.specs.SpecifierRules.{Storage, no_word, static_word, extern_word}
use Rattle.typing_rules.specs.Source.{Named}
use Rattle.typing_rules.specs.Known.{Known, File, main_file, binary_file, same_file, Definition, undefined, tentative, defined, Entity, First, Local, Use, Scope, local, entity_at, is_placed, main_bytes, with_scopes, with_locals, Linked, linked, with_file_meaning, with_entity_at}
use Rattle.typing_rules.specs.DeclaratorRules.{Derivation, to_pointer, to_array, to_function}

-- the parameters of a declarator that declares a function, which are those next to its name
abbrev pub own_parameters : List Derivation → Option (List Local)
own_parameters [] = None
own_parameters (to_pointer q ∷ rest) = None
own_parameters (to_array n ∷ rest) = None
own_parameters (to_function ps ∷ rest) = Some ps

-- ---- functions

abbrev pub with_name : Option (List ℕ) → ℕ → Scope → Scope
with_name None n scope = scope
with_name (Some bytes) n scope = (bytes, local n) ∷ scope

-- the scope of a function's parameters, which are its first locals
abbrev pub scope_of : ℕ → List Local → Scope
scope_of n [] = []
scope_of n (p ∷ ps) = with_name p.name n (scope_of (suc n) ps)

-- the body of a function is in the scope of its parameters (C11 6.2.1p4)
abbrev pub function_opened : List Local → Known → Known
function_opened ps k = with_scopes (scope_of 0 ps ∷ []) (with_locals ps (record k { functions = k.functions + 1 }))

abbrev pub function_closed : Known → Known
function_closed k = with_scopes [] (with_locals [] k)

abbrev pub row_of : Local → t.LocalRow
row_of l = record { line = l.line; first = l.first; type = l.type; is_placed = is_placed l }

-- ---- files

abbrev pub is_defined_in : File → Definition → Test
is_defined_in file undefined = false
is_defined_in file (tentative other) = same_file file other
is_defined_in file (defined other) = same_file file other

abbrev pub is_object : Entity → Test
is_object e = not (is_function e.type.type)

abbrev pub static_of : First → Entity → t.Static
static_of f e = record { entity = f.entity; line = f.line; type = e.type; cells = e.contents }

-- the static objects that a file defines, in the order of their first declarations in it
abbrev pub statics_of : File → List Entity → List First → List t.Static
statics_of file entities [] = []
statics_of file entities (f ∷ rest) =
    if is_object (entity_at entities f.entity) && is_defined_in file (entity_at entities f.entity).definition
    then static_of f (entity_at entities f.entity) ∷ statics_of file entities rest
    else statics_of file entities rest

abbrev pub typed_file : List t.Function → Known → t.TypedFile
typed_file functions k =
    record { functions = functions; statics = statics_of k.file k.entities k.declared; texts = k.texts }

abbrev pub no_file : t.TypedFile
no_file = record { functions = []; statics = []; texts = [] }

-- before the main file, and before the binary file
abbrev pub nothing_known : Known
nothing_known =
    record {
      file = main_file;
      scopes = [];
      file_scope = [];
      entities = [];
      declared = [];
      locals = [];
      texts = [];
      static_cells = 0;
      functions = 0;
      types = [];
      uses = [];
    }

abbrev pub binary_begun : Known → Known
binary_begun k =
    record {
      file = binary_file;
      scopes = [];
      file_scope = [];
      entities = k.entities;
      declared = [];
      locals = [];
      texts = [];
      static_cells = 0;
      functions = 0;
      types = k.types;
      uses = k.uses;
    }

-- ---- programs

abbrev pub is_defined_fully : Definition → Test
is_defined_fully undefined = false
is_defined_fully (tentative file) = false
is_defined_fully (defined file) = same_file file main_file

-- `int main(void)` that the main file defines (C11 5.1.2.2.1p1)
abbrev pub begins_program : Entity → Test
begins_program e =
    bytes_eq e.name main_bytes && is_defined_fully e.definition && same_type e.type.type (function_of [] (unqualified (integer Int)))

abbrev pub main_from : ℕ → List Entity → Option ℕ
main_from n [] = None
main_from n (e ∷ rest) = if begins_program e then Some n else main_from (suc n) rest

abbrev pub is_nowhere_defined : Definition → Test
is_nowhere_defined undefined = true
is_nowhere_defined (tentative file) = false
is_nowhere_defined (defined file) = false

-- the line of the first use of an entity that no file defines (C11 6.9p3, p5)
abbrev pub unresolved : List Entity → List Use → Option ℕ
unresolved entities [] = None
unresolved entities (u ∷ rest) =
    if is_nowhere_defined (entity_at entities u.entity).definition then Some u.line else unresolved entities rest

-- ---- objects

abbrev pub is_extern : Storage → Test
is_extern no_word = false
is_extern static_word = false
is_extern extern_word = true

-- what an object of file scope starts with, and the type that this completes
abbrev pub with_contents : Named → Linked → Initialized → Known → Known
with_contents name l done k =
    with_file_meaning name.bytes (linked l.entity (composed l.type done.type))
    (with_entity_at l.entity (record (entity_at k.entities l.entity)
    { type = composed (entity_at k.entities l.entity).type done.type; contents = starts_of done.given }) k)
