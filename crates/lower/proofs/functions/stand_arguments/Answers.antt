use Rattle.std.proofs.Common.{sym, ◌+◌, ◌-◌, ℕ, List, Ok, subst}
use Rattle.lower.specs.Emits.{Emits, nothing, rows_of, inside_view}
use Rattle.lower.specs.Programs.{arguments_stand}
use Rattle.lower.proofs.Steps.{exits}
use Rattle.lower.proofs.Parameters.{numbers_from, all-left, one-left, none-left, argument-next, argument-stops, arguments-done}
use Rattle.lower.proofs.functions.stand_arguments.Goals as goal

pub loop-number-init : goal.loop-number-init
loop-number-init c = λ new r h.
    subst (λ (l : List ℕ). Emits nothing (rows_of c.args.at) c.args.out.now new r (arguments_stand (inside_view c.args.at) l))
    (sym (all-left c.args.at.function.now.parameters)) h

pub loop-number-preserved : goal.loop-number-preserved
loop-number-preserved c = λ new r h.
    let n = c.args.at.function.now.parameters in
    let k = c.loop-number.number in
    c.loop-number.invariant new r
    (argument-next (inside_view c.args.at) (rows_of c.args.at) c.loop-number.out c.stand_argument.new.out new k (numbers_from (n - (k + 1)) (k + 1))
    (numbers_from (n - k) k) (one-left n k c.loop-number-test.true) c.in_ok-stand_argument.ensures h)

pub returns-in_err-stand_argument : goal.returns-in_err-stand_argument
returns-in_err-stand_argument c =
    let n = c.args.at.function.now.parameters in
    let k = c.loop-number.number in
    c.loop-number.invariant _ _
    (argument-stops (inside_view c.args.at) (rows_of c.args.at) c.loop-number.out c.stand_argument.new.out c.stand_argument.new.out k
    (numbers_from (n - (k + 1)) (k + 1)) (numbers_from (n - k) k) (one-left n k c.loop-number-test.true)
    (exits c.from_residual.result _ c.from_residual.ensures.1) c.in_err-stand_argument.ensures)

pub returns : goal.returns
returns c =
    let n = c.args.at.function.now.parameters in
    let k = c.loop-number.number in
    c.loop-number.invariant c.loop-number.out (Ok tt)
    (arguments-done (inside_view c.args.at) (rows_of c.args.at) c.loop-number.out (numbers_from (n - k) k) (none-left n k c.loop-number-test.false))
