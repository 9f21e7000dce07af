-- What the rule on casts says of the type to which it casts.
use Rattle.std.proofs.Common.{◌≡◌, ℕ, Bool as Test, true, false, ◌&&◌, if◌then◌else◌, Result, Ok, Err, refl, sym, ap, subst}
use Rattle.c_types.specs.Types.{CType, is_void, is_integer}
use Rattle.c_types.specs.Rules.{Ruled, cast_type, refused}
use Rattle.c_types.specs.Table.{CastIs}

pub cast-refused : (n : ℕ) (r : Ruled CType) → CastIs (Err n) r → Err n ≡ r
cast-refused n (Ok t) h = absurd h
cast-refused n (Err m) h = ap Err h

-- where a cast is allowed, it is to the type that is asked
by-tests : (t from : CType) (a b c : Test)
    → CastIs (Ok tt) (if a then Ok t else if b then Ok t else if c then refused 12 from from else Err 12)
    → Ok t ≡ (if a then Ok t else if b then Ok t else if c then refused 12 from from else Err 12)
by-tests t from true b c h = refl
by-tests t from false true c h = refl
by-tests t from false false true h = absurd h
by-tests t from false false false h = absurd h

pub cast-allowed : (t from : CType) → CastIs (Ok tt) (cast_type t from) → Ok t ≡ cast_type t from
cast-allowed t from h = by-tests t from (is_void t) (is_integer t && is_integer from) (is_integer t) h
