-- The cost of a search by halving.
use Rattle.std.proofs.Common.{ℕ, ◌+◌, ◌-◌, ◌*◌, ◌/◌, ◌^◌, ◌≤◌, ◌≡◌, max, suc, ⊎_elim, arith}
use Rattle.std.proofs.Math.Nat.{mul-le-mul_left}
use Rattle.std.proofs.Math.Pow.{pow_mono}
use Rattle.std.proofs.lemmas.Bool.{cases_lt}

-- one step more: twice as many
twice : (s : ℕ) → 2 ^ suc s ≡ 2 * 2 ^ s
twice s = omega arith

-- a comparison, of which a part of at most half remains
half : (p w v b : ℕ) → 1 ≤ w → v ≤ w / 2 → p * max 1 (2 * w) ≤ b → 2 * p * max 1 (2 * v) ≤ b
half p w v b some less cost =
    let e : 2 * max 1 (2 * v) ≤ max 1 (2 * w) = omega arith in
    omega (arith, mul-le-mul_left p e)

-- the cost so far, after one step more
pub halved : (s t i w v b : ℕ) → t ≡ s + 1 → i ≤ s → 1 ≤ w → v ≤ w / 2 → 2 ^ (s - i) * max 1 (2 * w) ≤ b → 2 ^ (t - i) * max 1 (2 * v) ≤ b
halved s t i w v b step since some less cost =
    let e : t - i ≡ suc (s - i) = omega arith in
    rw (e, twice) (half (2 ^ (s - i)) w v b some less cost)

-- the cost where a comparison is the last
pub halved_once : (s t i w b : ℕ) → t ≡ s + 1 → i ≤ s → 1 ≤ w → 2 ^ (s - i) * max 1 (2 * w) ≤ b → 2 ^ (t - i) ≤ b
halved_once s t i w b step since some cost =
    let h = halved s t i w 0 b step since some (omega arith) cost in
    omega (arith, h)

-- what the cost comes to with 1,000 objects
pub at_most_ten : (s n : ℕ) → n ≡ 1000 → 2 ^ s ≤ 2 * n + 1 → s ≤ 10
at_most_ten s n long cost = ⊎_elim {C = s ≤ 10}
    (λ more. absurd (omega (arith, pow_mono {i = 11} {j = s} (omega arith))))
    (λ less. less)
    (cases_lt 10 s)
