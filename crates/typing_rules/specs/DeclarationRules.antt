-- Linkage and definitions of objects and functions (C11 6.2.2, 6.9.2), and shapes of initializers (C11 6.7.9).
use Rattle.std.specs.Prelude.{ℕ, suc, nat_le, Bool as Test, true, false, if◌then◌else◌, List, [], ◌∷◌, ◌++◌, length, Option, Some, None}
use Rattle.srmt_base.specs.declared.ty.Ty.{Ty}
use Rattle.srmt_base.specs.declared.ty.Ty.TheVariants.{Bool, Char, SChar, UChar, Short, UShort, Int, UInt}
use Rattle.srmt_base.specs.Convert.{convert_of}
use Rattle.c_types.specs.Types.{CType, void, integer, pointer, array, returning, taking, Qualified, same_test, is_array, is_function, composite, may_be_one}
use Rattle.c_typed.specs.Typed.{Value}
use Rattle.c_typed.specs.declared.program.Start.{Start}
use Rattle.c_typed.specs.declared.program.Start.TheVariants as start
use Rattle.c_typed.specs.declared.program.StartCell.{StartCell}
use Rattle.c_typed.specs.Starts.{start_of}
use Rattle.c_typed.specs.Statements.{Cell, Initializer, scalar, cells}
use Rattle.typing_rules.specs.Source.{Bytes, Expr, at, name, number, character, text, parenthesized, index, call, prefix, postfix, sizeof_expr, sizeof_type, cast, binary, conjunction, disjunction, choice, assignment, compound, comma}
use Rattle.typing_rules.specs.SourceUnits.{Initial, single, braced, Initials, no_initials, first_initial}
use Rattle.typing_rules.specs.Known.{Known, File, same_file, Definition, undefined, tentative, defined, Entity, entity_at, Linked, external_from, with_entities, with_entity_at}
use Rattle.typing_rules.specs.SpecifierRules.{Storage, no_word, static_word, extern_word}
use Rattle.typing_rules.specs.Terms.{converted, number_value}

-- ---- linkage

-- that of an earlier declaration at file scope, or external where there is none
abbrev pub as_before : Option Linked → List Entity → Test
as_before None entities = true
as_before (Some l) entities = (entity_at entities l.entity).is_external

-- whether a name has external linkage: with `static` it has internal linkage, as an object without a storage word it
-- has external linkage, and else that of the earlier declaration (C11 6.2.2p3, p4, p5)
abbrev pub linkage : Storage → Test → Option Linked → List Entity → Test
linkage static_word is_function before entities = false
linkage no_word true before entities = as_before before entities
linkage no_word false before entities = true
linkage extern_word is_function before entities = as_before before entities

-- the entity that is declared again: that of the earlier declaration at file scope, or else the one of the name with
-- external linkage that another scope or file declares (C11 6.2.2p2)
abbrev pub entity_of : Option Linked → Test → Bytes → List Entity → Option ℕ
entity_of (Some l) external bytes entities = Some l.entity
entity_of None true bytes entities = external_from 0 bytes entities
entity_of None false bytes entities = None

abbrev pub agrees_before : Option Linked → Qualified → Test
agrees_before None type = true
agrees_before (Some l) type = may_be_one l.type type

-- all declarations of an entity agree in type (C11 6.2.7p2, 6.7p4)
abbrev pub agrees_with : Option ℕ → Qualified → List Entity → Test
agrees_with None type entities = true
agrees_with (Some n) type entities = may_be_one (entity_at entities n).type type

-- and in linkage (C11 6.2.2p7)
abbrev pub has_linkage : Option ℕ → Test → List Entity → Test
has_linkage None external entities = true
has_linkage (Some n) external entities = same_test (entity_at entities n).is_external external

abbrev pub number_of : Option ℕ → List Entity → ℕ
number_of None entities = length entities
number_of (Some n) entities = n

abbrev pub composed : Qualified → Qualified → Qualified
composed a b = record { qualifiers = a.qualifiers; type = composite a.type b.type }

abbrev pub type_known : Option Linked → Qualified → Qualified
type_known None type = type
type_known (Some l) type = composed l.type type

-- an entity is declared: a new one, or one more declaration of an old one
abbrev pub declared_entity : Option ℕ → Bytes → Qualified → Test → Known → Known
declared_entity None bytes type external k =
    with_entities (k.entities ++ record { name = bytes; type = type; is_external = external; file = k.file; definition = undefined; contents = [] } ∷ []) k
declared_entity (Some n) bytes type external k =
    with_entity_at n (record (entity_at k.entities n) { type = composed (entity_at k.entities n).type type }) k

-- ---- definitions

-- a declaration that defines: an object without initializer only tentatively (C11 6.9.2p1, p2)
pub data Defining : Type 0 where
  tentatively fully : Defining

-- an entity is defined in one file, and there once; tentative definitions count as one
abbrev pub may_define : Defining → Definition → File → Test
may_define how undefined file = true
may_define how (tentative other) file = same_file other file
may_define tentatively (defined other) file = same_file other file
may_define fully (defined other) file = false

abbrev pub defined_by : Defining → Definition → File → Definition
defined_by tentatively undefined file = tentative file
defined_by tentatively (tentative other) file = tentative other
defined_by tentatively (defined other) file = defined other
defined_by fully before file = defined file

abbrev pub is_undefined : Definition → Test
is_undefined undefined = true
is_undefined (tentative file) = false
is_undefined (defined file) = false

abbrev pub with_definition : Defining → ℕ → Known → Known
with_definition how n k =
    with_entity_at n (record (entity_at k.entities n) { definition = defined_by how (entity_at k.entities n).definition k.file }) k

-- ---- initializers

-- a text without parentheses, with the line of its first token
pub record TextAt : Type 0 where
  pub line : ℕ
  pub bytes : Bytes

abbrev pub text_of : Expr → Option TextAt
text_of (at line (text bytes)) = Some (record { line = line; bytes = bytes })
text_of (at line (name bytes)) = None
text_of (at line (number ty n)) = None
text_of (at line (character n)) = None
text_of (at line (parenthesized e)) = None
text_of (at line (index e op i)) = None
text_of (at line (call f op es)) = None
text_of (at line (prefix op e)) = None
text_of (at line (postfix op where_to e)) = None
text_of (at line (sizeof_expr e)) = None
text_of (at line (sizeof_type t)) = None
text_of (at line (cast t e)) = None
text_of (at line (binary op where_to e f)) = None
text_of (at line (conjunction where_to e f)) = None
text_of (at line (disjunction where_to e f)) = None
text_of (at line (choice where_to c e f)) = None
text_of (at line (assignment where_to e f)) = None
text_of (at line (compound op where_to e f)) = None
text_of (at line (comma es e)) = None

-- the character types (C11 6.2.5p15)
abbrev pub is_character_ty : Ty → Test
is_character_ty Bool = false
is_character_ty Char = true
is_character_ty SChar = true
is_character_ty UChar = true
is_character_ty Short = false
is_character_ty UShort = false
is_character_ty Int = false
is_character_ty UInt = false

abbrev pub is_character : CType → Test
is_character void = false
is_character (integer ty) = is_character_ty ty
is_character (pointer q t) = false
is_character (array q t n) = false
is_character (returning q t) = false
is_character (taking p t) = false

-- the text by which an array of characters is initialized (C11 6.7.9p14)
abbrev pub text_for : CType → Expr → Option TextAt
text_for element e = if is_character element then text_of e else None

-- a text's bytes, with a final 0 where the array has room for it or no length of its own
abbrev pub text_cells : Option ℕ → Bytes → Bytes
text_cells None bytes = bytes ++ 0 ∷ []
text_cells (Some n) bytes = if nat_le n (length bytes) then bytes else bytes ++ 0 ∷ []

abbrev pub text_fits : Option ℕ → Bytes → Test
text_fits None bytes = true
text_fits (Some n) bytes = nat_le (length bytes) n

-- a byte as a constant of type `char`, converted to an element's type
abbrev pub byte_value : ℕ → Ty → ℕ → Value
byte_value line ty byte = converted ty (record { first = line; value = number_value line Char (convert_of Char Char byte) })

abbrev pub byte_cells : ℕ → Ty → ℕ → Bytes → List Cell
byte_cells line ty n [] = []
byte_cells line ty n (byte ∷ rest) = record { index = n; value = byte_value line ty byte } ∷ byte_cells line ty (suc n) rest

abbrev pub initials_count : Initials → ℕ
initials_count no_initials = 0
initials_count (first_initial x rest) = suc (initials_count rest)

abbrev pub text_length : Option TextAt → Option ℕ
text_length None = None
text_length (Some t) = Some (suc (length t.bytes))

-- the length that an initializer gives an array (C11 6.7.9p22)
abbrev pub length_given : CType → Initial → Option ℕ
length_given element (single e) = text_length (text_for element e)
length_given element (braced line items) = Some (initials_count items)

-- a type completed by an initializer
abbrev pub completed : CType → Initial → CType
completed (array q t None) x = array q t (length_given t x)
completed (array q t (Some n)) x = array q t (Some n)
completed void x = void
completed (integer ty) x = integer ty
completed (pointer q t) x = pointer q t
completed (returning q t) x = returning q t
completed (taking p t) x = taking p t

abbrev pub scalar_of : List Cell → Option Initializer
scalar_of [] = None
scalar_of (c ∷ rest) = Some (scalar c.value)

-- what a local of a type is initialized with
abbrev pub initializer_of : CType → List Cell → Option Initializer
initializer_of type given = if is_array type then Some (cells given) else scalar_of given

abbrev pub or_zero : Option Start → Start
or_zero None = start.Number 0
or_zero (Some s) = s

-- what the given cells of a static object start with
abbrev pub starts_of : List Cell → List StartCell
starts_of [] = []
starts_of (c ∷ rest) = record { index = c.index; start = or_zero (start_of c.value) } ∷ starts_of rest

-- there is no such item in an array of a length
abbrev pub is_past : Option ℕ → ℕ → Test
is_past None i = false
is_past (Some n) i = nat_le n i

-- an initializer, with the type that it completes
pub record Initialized : Type 0 where
  pub type : Qualified
  pub given : List Cell
