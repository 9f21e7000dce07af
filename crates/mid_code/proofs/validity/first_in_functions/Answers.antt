use Rattle.std.proofs.Common.{◌≡◌, ◌∙◌, ◌+◌, suc, List, ap, subst, arith, length, Some, get_or}
use Rattle.std.specs.Prelude.{slice_get}
use Rattle.mid_code.specs.declared.program.MidFunction.{MidFunction}
use Rattle.mid_code.specs.Valid.{IsFirstIn, IsSoundFunction}
use Rattle.mid_code.proofs.FirstLemmas.{at_index, first_of_all, more_functions, all_sound}
use Rattle.mid_code.proofs.validity.first_in_functions.Goals as goal

pub returns-in-Some-clause-first : goal.returns-in-Some-clause-first
returns-in-Some-clause-first c =
    let at : slice_get c.args.program.now.functions c.loop-index.index ≡ Some c.index-functions-index.result =
    at_index c.args.program.now.functions c.loop-index.index c.index-functions-index.result (omega (arith, ap length c.as_slice-functions.ensures))
    (c.index-functions-index.is ∙ ap (λ (fs : List MidFunction). get_or fs c.loop-index.index c.index-functions-index.result) c.as_slice-functions.ensures) in
    let next : c.loop-index.index + 1 ≡ suc c.loop-index.index = omega arith in
    first_of_all c.args.program.now c.loop-index.index c.index-functions-index.result c.in-Some.refusal c.requires.bounded at c.loop-index.invariant
    (subst (λ n. IsFirstIn c.args.program.now n c.index-functions-index.result c.in-Some.refusal) next c.in-Some.ensures.first)

pub loop-index-preserved : goal.loop-index-preserved
loop-index-preserved c =
    let at : slice_get c.args.program.now.functions c.loop-index.index ≡ Some c.index-functions-index.result =
    at_index c.args.program.now.functions c.loop-index.index c.index-functions-index.result (omega (arith, ap length c.as_slice-functions.ensures))
    (c.index-functions-index.is ∙ ap (λ (fs : List MidFunction). get_or fs c.loop-index.index c.index-functions-index.result) c.as_slice-functions.ensures) in
    let next : c.loop-index.index + 1 ≡ suc c.loop-index.index = omega arith in
    more_functions c.args.program.now c.loop-index.index c.index-functions-index.result at c.loop-index.invariant
    (subst (λ n. IsSoundFunction c.args.program.now n c.index-functions-index.result) next c.in_default.ensures.none)

pub returns-clause-none : goal.returns-clause-none
returns-clause-none c = all_sound c.args.program.now c.loop-index.index c.requires.bounded (omega (arith, ap length c.as_slice-functions.ensures)) c.loop-index.invariant
