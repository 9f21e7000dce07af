-- Arrays whose lengths may be missing in one of two declarations.
use Rattle.std.proofs.Common.{◌≡◌, ℕ, Bool as Test, true, false, Option, Some, None, refl, sym, true≢false}
use Rattle.c_types.specs.declared.qualifiers.Qualifiers.{Qualifiers}
use Rattle.c_types.specs.Types.{CType, void, integer, pointer, array, returning, taking, same_type, are_for_one}
use Rattle.c_types.specs.OneObject.{is_array_of, lacks_length}

pub unsized-for-one : (q : Qualifiers) (t b : CType) → are_for_one (array q t None) b ≡ is_array_of b (record { qualifiers = q; type = t })
unfolding same_type
unsized-for-one q t void = refl
unsized-for-one q t (integer ty) = refl
unsized-for-one q t (pointer r u) = refl
unsized-for-one q t (array r u m) = refl
unsized-for-one q t (returning r u) = refl
unsized-for-one q t (taking p u) = refl

pub sized-for-one : (q : Qualifiers) (t b : CType) (n : ℕ) → lacks_length b ≡ true → are_for_one (array q t (Some n)) b ≡ is_array_of b (record { qualifiers = q; type = t })
sized-for-one q t void n e = absurd (true≢false (sym e))
sized-for-one q t (integer ty) n e = absurd (true≢false (sym e))
sized-for-one q t (pointer r u) n e = absurd (true≢false (sym e))
sized-for-one q t (array r u None) n e = refl
sized-for-one q t (array r u (Some m)) n e = absurd (true≢false (sym e))
sized-for-one q t (returning r u) n e = absurd (true≢false (sym e))
sized-for-one q t (taking p u) n e = absurd (true≢false (sym e))
