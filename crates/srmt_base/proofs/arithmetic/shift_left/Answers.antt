use Rattle.std.proofs.Common.{◌≡◌, arith, w64, ◌<◌, ◌*ℤ◌, pos, ◌^◌, false}
use Rattle.std.specs.Prelude.{nat_le}
use Rattle.std.specs.Int.{is_negative}
use Rattle.std.proofs.lemmas.Int.{to_z-of_z}
use Rattle.std.proofs.lemmas.Bool.Decides.{nat_tests}
use Rattle.srmt_base.specs.Types.{width_of}
use Rattle.srmt_base.proofs.Integers.{power_is, product_fits, width_of-le}
use Rattle.srmt_base.proofs.arithmetic.shift_left.Goals as goal

pub overflow_mul-x : goal.overflow_mul-x
overflow_mul-x c =
    let below : c.args.count < 32 = omega (arith, width_of-le c.args.ty) in
    let x-is = to_z-of_z w64 c.args.x c.ranges.x in
    let sign : is_negative c.args.x ≡ false = rw x-is at c.if-x-lt0.false in
    rw (x-is, power_is c.args.count below) (product_fits c.args.x c.args.count sign c.requires.below below)

pub returns-else-x-lt0-clause-exact : goal.returns-else-x-lt0-clause-exact
returns-else-x-lt0-clause-exact c =
    let below : c.args.count < 32 = omega (arith, width_of-le c.args.ty) in
    let within : nat_le (width_of c.args.ty) c.args.count ≡ false = grind (arith, nat_tests) in
    let x-is = to_z-of_z w64 c.args.x c.ranges.x in
    let sign : is_negative c.args.x ≡ false = rw x-is at c.if-x-lt0.false in
    let fits = product_fits c.args.x c.args.count sign c.requires.below below in
    rw (within, sign)
    (rw (x-is, power_is c.args.count below, to_z-of_z w64 (c.args.x *ℤ pos (2 ^ c.args.count)) fits) at c.reduce.ensures.exact)
