-- What the code finds that a pointer points to is the type that it points to.
use Rattle.std.proofs.Common.{◌≡◌, List, subst}
use Rattle.c_types.specs.declared.type_ref.Row.{Row}
use Rattle.c_types.specs.declared.type_ref.TypeRef.{TypeRef}
use Rattle.c_types.specs.declared.type_ref.QualifiedRef.{QualifiedRef}
use Rattle.c_types.specs.Types.{target_of}
use Rattle.c_types.specs.Table.{type_at, StandsFor}
use Rattle.c_types.proofs.Grown.{Extends-refl}

pub target-stands : (rows seen : List Row) (pointer : TypeRef) (r : QualifiedRef) → seen ≡ rows → StandsFor seen r (target_of (type_at seen pointer))
    → type_at rows r.target ≡ (target_of (type_at rows pointer)).type
target-stands rows seen pointer r is stands =
    (subst (λ z. StandsFor z r (target_of (type_at z pointer))) is stands).type.always rows (Extends-refl rows)
