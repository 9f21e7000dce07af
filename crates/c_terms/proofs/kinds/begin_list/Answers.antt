use Rattle.std.proofs.Common.{refl}
use Rattle.typing_rules.specs.Known as known
use Rattle.typing_rules.specs.Checking.{◌>>=◌, pure, makes}
use Rattle.c_known.specs.Gives.{IsSame}
use Rattle.c_known.proofs.Binding.{pure-gives}
use Rattle.c_terms.proofs.Paths.{exits, step, stop}
use Rattle.c_terms.proofs.kinds.begin_list.Goals as goal

pub returns-in_err-open : goal.returns-in_err-open
returns-in_err-open c =
    step {f = λ before. makes known.opened >>= (λ u. pure before)} refl c.in_ok-before.ensures
    (λ n more mn. stop (λ u. pure n) refl (exits c.from_residual-in_err-open.result _ c.from_residual-in_err-open.ensures.1) c.in_err-open.ensures)

pub returns : goal.returns
returns c =
    step {f = λ before. makes known.opened >>= (λ u. pure before)} refl c.in_ok-before.ensures
    (λ n more mn. step {f = λ u. pure n} refl c.in_ok-open.ensures (λ u more2 mu. pure-gives IsSame c.open.new.self c.in_ok-before.before n mn))
