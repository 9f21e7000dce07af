-- Registers and cells of a state that fits are small.
use Rattle.std.proofs.Common.{List, [], ◌∷◌}
use Rattle.std.specs.Prelude.{All}
use Rattle.std.proofs.lemmas.List.Elements.{All-cons, All-nil}
use Rattle.mid_code.specs.declared.program.MidProgram.{MidProgram}
use Rattle.mid_code.specs.Machine.{Activation}
use Rattle.mid_code.specs.Meaning.{State}
use Rattle.mid_code.specs.Fits.{IsValue, AreBelow, Fits}
use Rattle.mid_code.specs.Laws.{HoldsSmall}

small_below : (program : MidProgram) (above : Activation) (rest : List Activation) → AreBelow program above rest → All (λ a. All IsValue a.registers) rest
small_below program above [] h = All-nil (λ (a : Activation). All IsValue a.registers)
small_below program above (caller ∷ rest) h = All-cons (λ (a : Activation). All IsValue a.registers) caller rest h.1.each (small_below program caller rest h.2)

pub small_by_fit : (program : MidProgram) (s : State) → Fits program s → HoldsSmall s
small_by_fit program s h = record {
  registers = All-cons (λ (a : Activation). All IsValue a.registers) s.machine.top s.machine.below h.machine.top.each (small_below program s.machine.top s.machine.below h.machine.below);
  protected = h.memory.protected.values;
  binary = h.memory.binary.values;
}
