-- What a table of types says: rows, each of which makes a type of the types of earlier rows.
use Rattle.std.specs.Prelude.{◌≡◌, ℕ, ◌<◌, List, [], ◌∷◌, ◌++◌, length, Option, Some, None, Result, Ok, Err, slice_get, slice_index_or, ⊤}
use Rattle.c_types.specs.declared.type_ref.TypeRef.{TypeRef}
use Rattle.c_types.specs.declared.type_ref.TypeRef.TheVariants as ref
use Rattle.c_types.specs.declared.type_ref.QualifiedRef.{QualifiedRef}
use Rattle.c_types.specs.declared.size.Size.{Size}
use Rattle.c_types.specs.declared.type_ref.Row.{Row}
use Rattle.c_types.specs.declared.type_ref.Row.TheVariants as row
use Rattle.c_types.specs.declared.operand.OperandRef.{OperandRef}
use Rattle.c_types.specs.declared.type_ref.Shape.{Shape}
use Rattle.c_types.specs.declared.type_ref.Shape.TheVariants as shape
use Rattle.c_types.specs.Rules.{Operand, Ruled}
use Rattle.c_types.specs.Types.{CType, void, integer, pointer, array, returning, taking, Qualified, cells_of, bytes_of, parameters_of}

-- the size of an object of a type
abbrev pub size_of : CType → Size
size_of t = record { cells = cells_of t; bytes = bytes_of t }

-- the type of a reference, where these are the types of the rows
abbrev pub type_in : List CType → TypeRef → CType
type_in types ref.Void = void
type_in types (ref.Integer ty) = integer ty
type_in types (ref.Derived n) = slice_index_or types n void

-- the type that a row makes of the types of earlier rows
abbrev pub row_type : List CType → Row → CType
row_type types (row.Pointer q) = pointer q.qualifiers (type_in types q.target)
row_type types (row.Array q length size) = array q.qualifiers (type_in types q.target) length
row_type types (row.Returning q) = returning q.qualifiers (type_in types q.target)
row_type types (row.Taking p rest) = taking (type_in types p) (type_in types rest)

-- the type that is made so of the types of rows
abbrev pub shape_type : List CType → Shape → CType
shape_type types shape.Void = void
shape_type types (shape.Integer ty) = integer ty
shape_type types (shape.Pointer q) = pointer q.qualifiers (type_in types q.target)
shape_type types (shape.Array q length size) = array q.qualifiers (type_in types q.target) length
shape_type types (shape.Returning q) = returning q.qualifiers (type_in types q.target)
shape_type types (shape.Taking p rest) = taking (type_in types p) (type_in types rest)

-- how the type of a row is made; void where there is none
abbrev pub shape_of : Option Row → Shape
shape_of None = shape.Void
shape_of (Some (row.Pointer q)) = shape.Pointer q
shape_of (Some (row.Array q length size)) = shape.Array q length size
shape_of (Some (row.Returning q)) = shape.Returning q
shape_of (Some (row.Taking p rest)) = shape.Taking p rest

-- the types of rows behind those of earlier rows
unfoldable pub types_from : List CType → List Row → List CType
types_from types [] = types
types_from types (row ∷ rows) = types_from (types ++ row_type types row ∷ []) rows

abbrev pub types_of : List Row → List CType
types_of rows = types_from [] rows

-- the type of a reference
abbrev pub type_at : List Row → TypeRef → CType
type_at rows r = type_in (types_of rows) r

abbrev pub qualified_at : List Row → QualifiedRef → Qualified
qualified_at rows r = record { qualifiers = r.qualifiers; type = type_at rows r.target }

abbrev pub operand_at : List Row → OperandRef → Operand
operand_at rows r = record { type = type_at rows r.of; is_null = r.is_null }

-- the second has more rows behind those of the first
pub record Extends (old new : List Row) : Type 0 where
  pub more : List Row
  pub is : new ≡ old ++ more

-- a reference stands for a type, in these rows and in all that have more
pub record Stands (rows : List Row) (r : TypeRef) (t : CType) : Type 0 where
  pub always : (later : List Row) → Extends rows later → type_at later r ≡ t

-- a reference with qualifiers stands for a type with qualifiers
pub record StandsFor (rows : List Row) (r : QualifiedRef) (t : Qualified) : Type 0 where
  pub qualifiers : r.qualifiers ≡ t.qualifiers
  pub type : Stands rows r.target t.type

-- ---- what rules answer of references

-- a rule answers a type with qualifiers
abbrev pub IndirectionIs : List Row → Result QualifiedRef ℕ → Ruled Qualified → Type 0
IndirectionIs rows (Ok r) (Ok t) = StandsFor rows r t
IndirectionIs rows (Ok r) (Err rule) = ⊥
IndirectionIs rows (Err found) (Ok t) = ⊥
IndirectionIs rows (Err found) (Err rule) = found ≡ rule

-- a rule answers a type
abbrev pub CalleeIs : List Row → Result TypeRef ℕ → Ruled CType → Type 0
CalleeIs rows (Ok r) (Ok t) = Stands rows r t
CalleeIs rows (Ok r) (Err rule) = ⊥
CalleeIs rows (Err found) (Ok t) = ⊥
CalleeIs rows (Err found) (Err rule) = found ≡ rule

-- a rule allows what is asked, with a type that is known
abbrev pub CastIs : Result ⊤ ℕ → Ruled CType → Type 0
CastIs (Ok found) (Ok t) = ⊤
CastIs (Ok found) (Err rule) = ⊥
CastIs (Err found) (Ok t) = ⊥
CastIs (Err found) (Err rule) = found ≡ rule

-- references stand for the first parameter of a function and for the function without it
pub record IsTaking (rows : List Row) (r : TypeRef × TypeRef) (t : CType) : Type 0 where
  pub parameter : CType
  pub rest : CType
  pub is : t ≡ taking parameter rest
  pub parameter_stands : Stands rows r.0 parameter
  pub rest_stands : Stands rows r.1 rest

-- a function has a first parameter, or a type has none
abbrev pub FirstParameterIs : List Row → Option (TypeRef × TypeRef) → CType → Type 0
FirstParameterIs rows None t = parameters_of t ≡ []
FirstParameterIs rows (Some r) t = IsTaking rows r t

-- ---- what a table keeps

-- the row of a type, if it has one
abbrev pub row_at : List Row → TypeRef → Option Row
row_at rows ref.Void = None
row_at rows (ref.Integer ty) = None
row_at rows (ref.Derived n) = slice_get rows n

-- a reference is to one of the first n rows, if to a row
abbrev pub IsBelow : ℕ → TypeRef → Type 0
IsBelow n ref.Void = ⊤
IsBelow n (ref.Integer ty) = ⊤
IsBelow n (ref.Derived m) = m < n

-- a row is made of the first n, and an array's has its size
abbrev pub IsMadeBelow : List CType → ℕ → Row → Type 0
IsMadeBelow types n (row.Pointer q) = IsBelow n q.target
IsMadeBelow types n (row.Array q length size) = IsBelow n q.target × (size ≡ size_of (array q.qualifiers (type_in types q.target) length))
IsMadeBelow types n (row.Returning q) = IsBelow n q.target
IsMadeBelow types n (row.Taking p rest) = IsBelow n p × IsBelow n rest

pub record WellMade (rows : List Row) : Type 0 where
  -- each row is made of earlier ones
  pub earlier : (n : ℕ) (row : Row) → slice_get rows n ≡ Some row → IsMadeBelow (types_of rows) n row
  -- each row stands once
  pub once : (m n : ℕ) (row : Row) → slice_get rows m ≡ Some row → slice_get rows n ≡ Some row → m ≡ n

-- the types of which a type is made are among the first n, and an array has its size
abbrev pub IsShapedBelow : List CType → ℕ → Shape → Type 0
IsShapedBelow types n shape.Void = ⊤
IsShapedBelow types n (shape.Integer ty) = ⊤
IsShapedBelow types n (shape.Pointer q) = IsBelow n q.target
IsShapedBelow types n (shape.Array q length size) = IsBelow n q.target × (size ≡ size_of (array q.qualifiers (type_in types q.target) length))
IsShapedBelow types n (shape.Returning q) = IsBelow n q.target
IsShapedBelow types n (shape.Taking p rest) = IsBelow n p × IsBelow n rest
