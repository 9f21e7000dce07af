use Rattle.std.proofs.Common.{refl}
use Rattle.c_types.specs.Types.{result_of}
use Rattle.c_types.specs.Rules.{callee_type as callee_rule}
use Rattle.c_types.specs.Table.{Stands}
use Rattle.c_typed.specs.Typed as tree
use Rattle.typing_rules.specs.Terms as terms
use Rattle.typing_rules.specs.Checking.{pure, ruled_by}
use Rattle.typing_rules.specs.OrderedParts as ordered
use Rattle.c_values.specs.Answers.{MeansTerm, MeanValues}
use Rattle.c_known.proofs.Binding.{answers-give}
use Rattle.c_terms.proofs.Paths.{exits, step, stop, stands-later, typed-later, values-later}
use Rattle.c_terms.proofs.steps.call_through.Goals as goal

pub returns-in_err-ty : goal.returns-in_err-ty
returns-in_err-ty c v mv ws mws = stop _ refl (exits c.from_residual.result _ c.from_residual.ensures.1) (answers-give Stands c.args.known.now _ (ruled_by c.args.at (callee_rule (tree.type_of v))) (c.in_err-ty.ensures v mv))

pub returns-in_err-values : goal.returns-in_err-values
returns-in_err-values c v mv ws mws = step refl (answers-give Stands c.args.known.now _ (ruled_by c.args.at (callee_rule (tree.type_of v))) (c.in_ok-ty.ensures v mv)) (λ ty more mty. stop _ refl (exits c.from_residual-in_err-values.result _ c.from_residual-in_err-values.ensures.1) (answers-give MeanValues c.args.known.now _ (ordered.arguments_for c.args.at ty ws) (c.in_err-values.ensures ty ws mty mws)))

pub returns-in_err-count_type : goal.returns-in_err-count_type
returns-in_err-count_type c v mv ws mws =
    step refl (answers-give Stands c.args.known.now _ (ruled_by c.args.at (callee_rule (tree.type_of v))) (c.in_ok-ty.ensures v mv)) (λ ty more mty. step refl (answers-give MeanValues c.args.known.now _ (ordered.arguments_for c.args.at ty ws) (c.in_ok-values.ensures ty ws mty mws)) (λ vs more2 mvs.
    stop (λ u. pure (terms.result (tree.value c.args.line (result_of ty) (tree.call_through c.args.at v vs)))) refl (exits c.from_residual-in_err-count_type.result _ c.from_residual-in_err-count_type.ensures.1) (c.in_err-count_type.ensures ty mty)))

pub returns : goal.returns
returns c v mv ws mws =
    step refl (answers-give Stands c.args.known.now _ (ruled_by c.args.at (callee_rule (tree.type_of v))) (c.in_ok-ty.ensures v mv)) (λ ty more mty. step refl (answers-give MeanValues c.args.known.now _ (ordered.arguments_for c.args.at ty ws) (c.in_ok-values.ensures ty ws mty mws)) (λ vs more2 mvs.
    step {f = (λ u. pure (terms.result (tree.value c.args.line (result_of ty) (tree.call_through c.args.at v vs))))} refl (c.in_ok-count_type.ensures ty mty) (λ u more3 mu.
    answers-give MeansTerm c.count_type.new.self c.call_through.result (pure (terms.result (tree.value c.args.line (result_of ty) (tree.call_through c.args.at v vs))))
    (c.call_through.ensures ty v vs (stands-later more3 mty) (typed-later more3 mv) (values-later more3 mvs)))))
