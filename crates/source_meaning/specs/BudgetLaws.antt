-- Budgets: where their traps come, and that the bound on the recursion of calls and loops is no limit of its own.
use Rattle.std.specs.Prelude.{◌≡◌, ℕ, ◌+◌, ◌-◌, ◌<◌, ◌≤◌, ◌⊎◌, false, List}
use Rattle.srmt_base.specs.declared.part.Part.{Part}
use Rattle.srmt_base.specs.declared.trap.Trap.TheVariants.{Turns, Depth, Store}
use Rattle.srmt_base.specs.declared.trap.SourceEnd.TheVariants.{Trap as TrapEnd}
use Rattle.srmt_base.specs.Objects.{pointer_to, live_cells, begun}
use Rattle.srmt_base.specs.Memory.{last_number, objects_of, with_objects}
use Rattle.srmt_base.specs.Budgets.{budget_of, with_budget, spent, turn_of, enter_of}
use Rattle.c_types.specs.Types.{cells_of}
use Rattle.c_typed.specs.Statements.{Program}
use Rattle.source_meaning.specs.World.{World, Gives, Ends, spends, set_local}
use Rattle.source_meaning.specs.Places.{Setting, row_of, object_begins}
use Rattle.source_meaning.specs.Calls.{calls}

-- the turns that are left to both parts together
abbrev pub turns_left : World → ℕ
turns_left w = w.budgets.protected.turns + w.budgets.binary.turns

-- a call comes to the same with any two bounds that are at least the turns left: no trap comes from the bound
abbrev pub BoundIsNoLimit : Program → Type 0
BoundIsNoLimit program =
    (n m line number : ℕ) (arguments : List ℕ) (w : World) → turns_left w ≤ n → turns_left w ≤ m →
    calls program n line number arguments w ≡ calls program m line number arguments w

-- a turn of a part: none is left, and it is told at the line, or one is taken
abbrev pub TakesTurn : Part → ℕ → World → Type 0
TakesTurn part line w =
    let left = budget_of part w.budgets in
    ((left.turns ≡ 0) × (spends line (turn_of part) w ≡ Ends (TrapEnd Turns line) w.events))
    ⊎ ((1 ≤ left.turns)
    × (spends line (turn_of part) w
    ≡ Gives tt (record w { budgets = with_budget part (record left { turns = left.turns - 1 }) w.budgets })))

-- the entry of a function of a part: no live activation is left, or else no turn, or one of each is taken
abbrev pub TakesEntry : Part → ℕ → World → Type 0
TakesEntry part line w =
    let left = budget_of part w.budgets in
    ((left.depth ≡ 0) × (spends line (enter_of part) w ≡ Ends (TrapEnd Depth line) w.events))
    ⊎ ((1 ≤ left.depth) × (left.turns ≡ 0) × (spends line (enter_of part) w ≡ Ends (TrapEnd Turns line) w.events))
    ⊎ ((1 ≤ left.depth) × (1 ≤ left.turns)
    × (spends line (enter_of part) w ≡ Gives tt (record w { budgets = with_budget part (spent left) w.budgets })))

-- the beginning of a local's object: the numbers of its part are used up, or more cells than may would live, and it is
-- told at the line of the local's name; or it lives, all of it zeros, and the local has its address
abbrev pub TakesCells : Setting → ℕ → World → Type 0
TakesCells s n w =
    let live = objects_of s.part w.memory in
    let needed = live_cells live + cells_of (row_of s n).type.type in
    (((last_number s.part < live.fresh) ⊎ (live.budget < needed)) × (object_begins s n w ≡ Ends (TrapEnd Store (row_of s n).line) w.events))
    ⊎ ((live.fresh ≤ last_number s.part) × (needed ≤ live.budget)
    × (object_begins s n w
    ≡ set_local n (pointer_to live.fresh 0)
    (record w { memory = with_objects s.part w.memory (begun live live.fresh (cells_of (row_of s n).type.type) false) })))
