use Rattle.std.proofs.Common.{rules, ◌≡◌, ℕ, ◌+◌, ◌≤◌, List, [], sym, subst, arith}
use Rattle.std.proofs.Math.ListN.{replicate}
use Rattle.atomic_table.specs.Table.{opening}
use Rattle.batch_queue.specs.Rule.{Ruled, both_ends}
use Rattle.batch_queue.proofs.Parting.{opens, parts}
use Rattle.batch_queue.proofs.queue.new.Goals as goal

pub of_words-requires : goal.of_words-requires
of_words-requires g c = let cap : ℕ = g.row.CAP in
    let all_zero : c.as_slice.result.now ≡ replicate (cap + 2) 0 = search rules in
    let some_places : 1 ≤ cap = omega (arith, c.requires) in
    subst (λ (l : List ℕ). Ruled cap (opening l [] both_ends)) (sym all_zero) (opens cap some_places)

pub split_seat-other-requires : goal.split_seat-other-requires
split_seat-other-requires g c = (search rules, search rules, parts _ _ _ (search rules) (search rules))
