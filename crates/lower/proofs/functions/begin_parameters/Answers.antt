use Rattle.std.proofs.Common.{sym, ◌+◌, ◌-◌, ℕ, List, Ok, subst}
use Rattle.lower.specs.Emits.{nothing, rows_of, inside_view}
use Rattle.lower.specs.Runs.{Begins}
use Rattle.lower.specs.Programs.{parameters_at, parameters_begin}
use Rattle.lower.proofs.Steps.{exits}
use Rattle.lower.proofs.Parameters.{numbers_from, all-left, one-left, none-left, parameter-next, parameter-stops, parameters-done}
use Rattle.lower.proofs.functions.begin_parameters.Goals as goal

pub loop-number-init : goal.loop-number-init
loop-number-init c = λ new r h.
    let i = inside_view c.args.at in
    subst (λ (l : List ℕ). Begins nothing (rows_of c.args.at) (λ start. parameters_at i.rows start l) c.args.body.now new r (parameters_begin i l))
    (sym (all-left c.args.at.function.now.parameters)) h

pub loop-number-preserved : goal.loop-number-preserved
loop-number-preserved c = λ new r h.
    let n = c.args.at.function.now.parameters in
    let k = c.loop-number.number in
    c.loop-number.invariant new r
    (parameter-next (inside_view c.args.at) (rows_of c.args.at) c.loop-number.body c.begin_parameter.new.body new k (numbers_from (n - (k + 1)) (k + 1))
    (numbers_from (n - k) k) (one-left n k c.loop-number-test.true) c.in_ok-begin_parameter.ensures h)

pub returns-in_err-begin_parameter : goal.returns-in_err-begin_parameter
returns-in_err-begin_parameter c =
    let n = c.args.at.function.now.parameters in
    let k = c.loop-number.number in
    c.loop-number.invariant _ _
    (parameter-stops (inside_view c.args.at) (rows_of c.args.at) c.loop-number.body c.begin_parameter.new.body c.begin_parameter.new.body k
    (numbers_from (n - (k + 1)) (k + 1)) (numbers_from (n - k) k) (one-left n k c.loop-number-test.true)
    (exits c.from_residual.result _ c.from_residual.ensures.1) c.in_err-begin_parameter.ensures)

pub returns : goal.returns
returns c =
    let n = c.args.at.function.now.parameters in
    let k = c.loop-number.number in
    c.loop-number.invariant c.loop-number.body (Ok tt)
    (parameters-done (inside_view c.args.at) (rows_of c.args.at) c.loop-number.body (numbers_from (n - k) k) (none-left n k c.loop-number-test.false))
