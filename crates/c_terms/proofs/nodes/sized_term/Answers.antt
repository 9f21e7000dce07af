use Rattle.std.proofs.Common.{refl}
use Rattle.c_types.specs.Table.{Stands}
use Rattle.c_values.specs.Answers.{MeansTerm}
use Rattle.c_known.proofs.Binding.{answers-give}
use Rattle.typing_rules.specs.OrderedParts as ordered
use Rattle.c_terms.proofs.Paths.{exits, step, stop}
use Rattle.c_terms.proofs.nodes.sized_term.Goals as goal

pub returns-in_err-ty : goal.returns-in_err-ty
returns-in_err-ty c t mt =
    stop (ordered.sized c.args.line) refl (exits c.from_residual.result _ c.from_residual.ensures.1)
    (answers-give Stands c.args.known.now _ (ordered.unvalued t) (c.in_err-ty.ensures c.args.known.now.types t mt))

pub returns : goal.returns
returns c t mt =
    step {f = ordered.sized c.args.line} refl (answers-give Stands c.args.known.now _ (ordered.unvalued t) (c.in_ok-ty.ensures c.args.known.now.types t mt))
    (λ of more ms. answers-give MeansTerm c.args.known.now c.sized.result (ordered.sized c.args.line of) (c.sized.ensures of ms))
