-- A pointer that moves, as a result or a trap.
use Rattle.std.specs.Prelude.{ℕ, Bool, true, false, Result}
use Rattle.srmt_base.specs.declared.trap.Trap.{Trap}
use Rattle.srmt_base.specs.Pointer.{pointer_sum_of}
use Rattle.c_types.specs.Types.{CType, ty_of}
use Rattle.source_meaning.specs.Expressions.{scale_of}
use Rattle.source_meaning.specs.Sound.{HasScale}

-- of a pointer and an integer of these types, the pointer or the integer first
abbrev pub moved_result : (is_less pointer_first : Bool) → CType → CType → ℕ → ℕ → Result ℕ Trap
moved_result is_less true t u p i = pointer_sum_of p (ty_of u) i is_less (scale_of t)
moved_result is_less false u t i p = pointer_sum_of p (ty_of u) i is_less (scale_of t)

abbrev pub HasScaleOf : Bool → CType → CType → Type 0
HasScaleOf true t u = HasScale t
HasScaleOf false u t = HasScale t
