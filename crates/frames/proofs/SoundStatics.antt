-- The static objects of a valid program can be set up.
use Rattle.std.proofs.Common.{◌≡◌, ℕ, zero, suc, ◌<◌, ◌^◌, List, [], ◌∷◌, length, false, arith}
use Rattle.std.specs.Prelude.{All, ◌-◌, ◌==◌, ◌||◌, ◌&&◌, nat_lt, nat_le, slice_index, sum_by}
use Rattle.std.specs.List.{list_any}
use Rattle.std.proofs.lemmas.Bool.{ltb-false, leb-false}
use Rattle.srmt_base.specs.declared.statics.Static.{Static}
use Rattle.mid_code.specs.declared.program.MidProgram.{MidProgram}
use Rattle.mid_code.specs.Rules.{is_bad_static, has_bad_statics}
use Rattle.mid_code.specs.Valid.{IsValid}
use Rattle.mid_code.proofs.Keeping.{neither}
use Rattle.mid_code.proofs.Naming.{not_zero, whole}
use Rattle.frames.specs.Statics.{IsSound}

none_large : (values : List ℕ) → list_any (λ value. nat_le (2 ^ 44) value) values ≡ false → All (λ v. v < 2 ^ 44) values
none_large [] h k d within = absurd (omega arith)
none_large (v ∷ vs) h zero d within = leb-false (2 ^ 44) v (neither (nat_le (2 ^ 44) v) (list_any (λ value. nat_le (2 ^ 44) value) vs) h).0
none_large (v ∷ vs) h (suc k) d within = none_large vs (neither (nat_le (2 ^ 44) v) (list_any (λ value. nat_le (2 ^ 44) value) vs) h).1 k d (omega arith)

sound_one : (object : Static) → is_bad_static object ≡ false → IsSound object
sound_one object h =
    let a = neither (object.cells == 0 || nat_lt object.cells (length object.values) || list_any (λ value. nat_le (2 ^ 44) value) object.values) (nat_lt 0 (length object.values) && slice_index object.values (length object.values - 1) == 0) h in
    let b = neither (object.cells == 0 || nat_lt object.cells (length object.values)) (list_any (λ value. nat_le (2 ^ 44) value) object.values) a.0 in
    let c = neither (object.cells == 0) (nat_lt object.cells (length object.values)) b.0 in
    record { some = not_zero object.cells c.0; values = ltb-false object.cells (length object.values) c.1; small = none_large object.values b.1 }

sound_each : (objects : List Static) → list_any is_bad_static objects ≡ false → All IsSound objects
sound_each [] h k d within = absurd (omega arith)
sound_each (object ∷ objects) h zero d within = sound_one object (neither (is_bad_static object) (list_any is_bad_static objects) h).0
sound_each (object ∷ objects) h (suc k) d within = sound_each objects (neither (is_bad_static object) (list_any is_bad_static objects) h).1 k d (omega arith)

sound_by : (objects : List Static) → has_bad_statics objects ≡ false → All IsSound objects
sound_by objects h = sound_each objects (neither (list_any is_bad_static objects) (nat_lt 1048576 (sum_by (λ object. object.cells) objects)) h).0

-- the static objects of both parts can be set up
pub sound_statics : (program : MidProgram) → IsValid program → All IsSound program.main_statics × All IsSound program.binary_statics
sound_statics program valid =
    let k = whole program valid in
    (sound_by program.main_statics k.main_statics, sound_by program.binary_statics k.binary_statics)
