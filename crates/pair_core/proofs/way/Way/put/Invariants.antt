use Rattle.std.proofs.Common.{◌≡◌, ◌++◌, take}
use Rattle.std.specs.VecDeque.{deque_capacity}
use Rattle.pair_core.proofs.way.Way.put.Given as goal

abbrev pub invariant-loop-word : goal.invariant-loop-word
invariant-loop-word g l =
    (l.self-inside.words.items ≡ l.initial.self-inside.words.items ++ take l.word-index l.sent)
    × (deque_capacity l.self-inside.words ≡ deque_capacity l.initial.self-inside.words)
