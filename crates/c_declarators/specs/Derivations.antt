-- What the parts of declarators of the code stand for.
use Rattle.std.specs.Prelude.{◌≡◌, ◌⊎◌, ℕ, false, not, if◌then◌else◌, List, [], ◌∷◌, Option, Some, None, Result, Ok, Err}
use Rattle.std.specs.declared.vec.Vec.{Vec}
use Rattle.std.specs.declared.alloc.Global.{Global}
use Rattle.c_types.specs.declared.type_ref.Row.{Row}
use Rattle.std.specs.declared.alloc.AllocError.{AllocError}
use Rattle.c_types.specs.declared.type_ref.TypeRef.{TypeRef}
use Rattle.c_types.specs.declared.type_ref.QualifiedRef.{QualifiedRef}
use Rattle.c_types.specs.Types.{CType, Qualified, plain, unqualified, is_void, is_function, is_complete, array_of}
use Rattle.c_types.specs.Table.{StandsFor}
use Rattle.typing_rules.specs.declared.refusal.TypeRefusal.{TypeRefusal}
use Rattle.typing_rules.specs.declared.refusal.TypeRefusal.TheVariants.{Mismatch, TooLarge, Memory}
use Rattle.typing_rules.specs.declared.refusal.Size.TheVariants.{Cells}
use Rattle.typing_rules.specs.Known as known
use Rattle.typing_rules.specs.DeclaratorRules as rule
use Rattle.typing_rules.specs.UnitRules.{own_parameters}
use Rattle.c_known.specs.declared.local.Local.{Local}
use Rattle.c_known.specs.Standing.{MeanLocals}
use Rattle.c_declarators.specs.declared.derivation.Derivation.{Derivation}
use Rattle.c_declarators.specs.declared.derivation.Derivation.TheVariants.{Pointer, Array, Function}
use Rattle.c_declarators.specs.declared.derivation.Lines.{Lines}

abbrev pub lines_view : Lines → rule.Lines
lines_view l = record { rules = l.rules; lengths = l.lengths }

abbrev pub MeansDerivation : List Row → Derivation → rule.Derivation → Type 0
MeansDerivation rows (Pointer q) (rule.to_pointer r) = q ≡ r
MeansDerivation rows (Pointer q) (rule.to_array m) = ⊥
MeansDerivation rows (Pointer q) (rule.to_function ls) = ⊥
MeansDerivation rows (Array n) (rule.to_pointer r) = ⊥
MeansDerivation rows (Array n) (rule.to_array m) = n ≡ m
MeansDerivation rows (Array n) (rule.to_function ls) = ⊥
MeansDerivation rows (Function ps) (rule.to_pointer r) = ⊥
MeansDerivation rows (Function ps) (rule.to_array m) = ⊥
MeansDerivation rows (Function ps) (rule.to_function ls) = MeanLocals rows ps.items ls

-- the parts of a declarator, from the name outward
abbrev pub AreDerivations : List Row → List Derivation → List rule.Derivation → Type 0
AreDerivations rows [] [] = Unit {0}
AreDerivations rows [] (d ∷ ds) = ⊥
AreDerivations rows (x ∷ xs) [] = ⊥
AreDerivations rows (x ∷ xs) (d ∷ ds) = MeansDerivation rows x d × AreDerivations rows xs ds

-- the parameters of the part nearest to the name, whatever the parts stand for
abbrev pub HasOwnAt : List Row → Option (Vec Local Global) → Option (List known.Local) → Type 0
HasOwnAt rows None None = Unit {0}
HasOwnAt rows None (Some ls) = ⊥
HasOwnAt rows (Some ps) None = ⊥
HasOwnAt rows (Some ps) (Some ls) = MeanLocals rows ps.items ls

abbrev pub HasOwn : List Derivation → Option (Vec Local Global) → Type 0
HasOwn xs result = (rows : List Row) (ds : List rule.Derivation) → AreDerivations rows xs ds → HasOwnAt rows result (own_parameters ds)

-- ---- derived types

-- a type is derived, or refused, or memory is wanting
abbrev pub Derives : List Row → Result QualifiedRef TypeRefusal → Result Qualified TypeRefusal → Type 0
Derives rows (Ok r) (Ok t) = StandsFor rows r t
Derives rows (Ok r) (Err refusal) = ⊥
Derives rows (Err told) (Ok t) = told ≡ Memory
Derives rows (Err told) (Err refusal) = (told ≡ refusal) ⊎ (told ≡ Memory)

-- whatever a reference stands for
abbrev pub DerivesFrom : List Row → QualifiedRef → List Row → Result QualifiedRef TypeRefusal → (Qualified → Result Qualified TypeRefusal) → Type 0
DerivesFrom old r new result f = (t : Qualified) → StandsFor old r t → Derives new result (f t)

-- a type that was made, without qualifiers of its own, or want of memory
abbrev pub IsPlain : Result QualifiedRef TypeRefusal → Result TypeRef AllocError → Type 0
IsPlain (Ok r) made = (r.qualifiers ≡ plain) × (made ≡ Ok r.target)
IsPlain (Err refusal) made = refusal ≡ Memory

-- why a type is no array's element, if it is none
abbrev pub array_refusal : rule.Lines → CType → Option TypeRefusal
array_refusal at t =
    if is_function t then Some (Mismatch at.rules 22)
    else if is_void t then Some (Mismatch at.rules 14)
    else if not (is_complete t) then Some (Mismatch at.lengths 15)
    else None

-- an array with few enough cells
abbrev pub array_sized : rule.Lines → Option ℕ → Qualified → Result Qualified TypeRefusal
array_sized at n t = if rule.fits_cells false (array_of t n) then Ok (unqualified (array_of t n)) else Err (TooLarge at.lengths Cells)
