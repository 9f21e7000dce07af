use Rattle.mid_code.specs.Registers.{registers_list}
use Rattle.lower.specs.Emits.{rows_of, types_of, inside_view}
use Rattle.lower.proofs.ValueLists.{Continues, Drops}
use Rattle.lower.proofs.values.+value.Given as goal

abbrev pub invariant-arguments-loop-e : goal.invariant-arguments-loop-e
invariant-arguments-loop-e l =
    Continues (inside_view l.at) (types_of l.at) (rows_of l.at) l.es l.k l.fn.out l.e-items l.e-index l.free l.out (registers_list l.found)

abbrev pub invariant-drop_all-loop-e : goal.invariant-drop_all-loop-e
invariant-drop_all-loop-e l = Drops (inside_view l.at) (types_of l.at) (rows_of l.at) l.fn.out l.e-items l.k l.e-index l.out
