use Rattle.std.proofs.Common.{arith, ◌≡◌, ◌≤◌, ◌<◌, ◌*◌, ◌^◌, ℕ}
use Rattle.std.proofs.Math.Nat.{mul-le-mul_left, mul_left_comm}
use Rattle.c_types.proofs.size.Size.times.Goals as goal

small : (n c b : ℕ) → b ≤ 4 * c → n * c ≤ 65535 → n * b < 2 ^ 32
small n c b few cells =
    let more : n * b ≤ n * (4 * c) = mul-le-mul_left n few in
    let same : n * (4 * c) ≡ 4 * (n * c) = mul_left_comm n 4 c in
    omega arith

pub overflow_cast-result-2 : goal.overflow_cast-result-2
overflow_cast-result-2 c = let h = small c.in-Some.length c.args.self.cells c.args.self.bytes c.requires (rw (← c.from.ensures, ← c.from-2.ensures) c.if-cells-gt-MOST_CELLS.false) in rw (c.from-3.ensures, c.from-4.ensures) (omega arith)
