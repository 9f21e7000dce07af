use Rattle.mid_code.proofs.InstructionsFit.{few_to_turn, does_fits}
use Rattle.mid_code.proofs.StepsNear.{left_to_go-step}
use Rattle.mid_code.proofs.laws.steps_near_the_end.Goals as goal

pub returns : goal.returns
returns c = λ program valid. record {
  alone = λ l w. (does_fits program l valid w).1;
  whole = λ s next events fits e. left_to_go-step program s next events valid fits e;
  few = λ a w. few_to_turn program a valid w;
}
