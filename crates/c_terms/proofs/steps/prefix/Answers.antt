use Rattle.std.proofs.Common.{refl, sym, subst}
use Rattle.typing_rules.specs.OrderedParts as ordered
use Rattle.c_values.specs.Answers.{MeansTerm}
use Rattle.c_known.specs.Gives.{Gives}
use Rattle.c_known.proofs.Binding.{answers-give}
use Rattle.c_terms.specs.Nodes as node
use Rattle.c_terms.proofs.Paths.{exits, step, stop}
use Rattle.c_terms.proofs.steps.prefix.Goals as goal

pub returns-in-Increment : goal.returns-in-Increment
returns-in-Increment c t mt = subst (λ z. Gives MeansTerm c.args.known.now c.stepped_before.new.known c.stepped_before.result (node.prefix_of z c.args.line c.args.first t)) (sym c.in-Increment.is) (c.stepped_before.ensures t mt)

pub returns-in-Decrement : goal.returns-in-Decrement
returns-in-Decrement c t mt = subst (λ z. Gives MeansTerm c.args.known.now c.stepped_before-in-Decrement.new.known c.stepped_before-in-Decrement.result (node.prefix_of z c.args.line c.args.first t)) (sym c.in-Decrement.is) (c.stepped_before-in-Decrement.ensures t mt)

pub returns-in-AddressOf : goal.returns-in-AddressOf
returns-in-AddressOf c t mt = subst (λ z. Gives MeansTerm c.args.known.now c.address_of.new.known c.address_of.result (node.prefix_of z c.args.line c.args.first t)) (sym c.in-AddressOf.is) (c.address_of.ensures t mt)

pub returns-in_err-a-in-Indirection : goal.returns-in_err-a-in-Indirection
returns-in_err-a-in-Indirection c t mt =
    subst (λ z. Gives MeansTerm c.args.known.now c.written.new.known c.from_residual.result (node.prefix_of z c.args.line c.args.first t)) (sym c.in-Indirection.is)
    (stop (ordered.indirect c.args.line) refl (exits c.from_residual.result _ c.from_residual.ensures.1) (c.in_err-a-in-Indirection.ensures t mt))

pub returns-in_ok-a-in-Indirection : goal.returns-in_ok-a-in-Indirection
returns-in_ok-a-in-Indirection c t mt =
    subst (λ z. Gives MeansTerm c.args.known.now c.written.new.known c.indirect.result (node.prefix_of z c.args.line c.args.first t)) (sym c.in-Indirection.is)
    (step {f = ordered.indirect c.args.line} refl (c.in_ok-a-in-Indirection.ensures t mt) (λ w more mw. answers-give MeansTerm c.written.new.known c.indirect.result (ordered.indirect c.args.line w) (c.indirect.ensures w mw)))

pub returns-in_err-a-in-Plus : goal.returns-in_err-a-in-Plus
returns-in_err-a-in-Plus c t mt =
    subst (λ z. Gives MeansTerm c.args.known.now c.written-in-Plus.new.known c.from_residual-in_err-a-in-Plus.result (node.prefix_of z c.args.line c.args.first t)) (sym c.in-Plus.is)
    (stop (ordered.promoted c.args.line) refl (exits c.from_residual-in_err-a-in-Plus.result _ c.from_residual-in_err-a-in-Plus.ensures.1) (c.in_err-a-in-Plus.ensures t mt))

pub returns-in_ok-a-in-Plus : goal.returns-in_ok-a-in-Plus
returns-in_ok-a-in-Plus c t mt =
    subst (λ z. Gives MeansTerm c.args.known.now c.written-in-Plus.new.known c.promoted.result (node.prefix_of z c.args.line c.args.first t)) (sym c.in-Plus.is)
    (step {f = ordered.promoted c.args.line} refl (c.in_ok-a-in-Plus.ensures t mt) (λ w more mw. answers-give MeansTerm c.written-in-Plus.new.known c.promoted.result (ordered.promoted c.args.line w) (c.promoted.ensures w mw)))

pub returns-in_err-a-in-Minus : goal.returns-in_err-a-in-Minus
returns-in_err-a-in-Minus c t mt =
    subst (λ z. Gives MeansTerm c.args.known.now c.written-in-Minus.new.known c.from_residual-in_err-a-in-Minus.result (node.prefix_of z c.args.line c.args.first t)) (sym c.in-Minus.is)
    (stop (ordered.negative c.args.line) refl (exits c.from_residual-in_err-a-in-Minus.result _ c.from_residual-in_err-a-in-Minus.ensures.1) (c.in_err-a-in-Minus.ensures t mt))

pub returns-in_ok-a-in-Minus : goal.returns-in_ok-a-in-Minus
returns-in_ok-a-in-Minus c t mt =
    subst (λ z. Gives MeansTerm c.args.known.now c.written-in-Minus.new.known c.negative.result (node.prefix_of z c.args.line c.args.first t)) (sym c.in-Minus.is)
    (step {f = ordered.negative c.args.line} refl (c.in_ok-a-in-Minus.ensures t mt) (λ w more mw. answers-give MeansTerm c.written-in-Minus.new.known c.negative.result (ordered.negative c.args.line w) (c.negative.ensures w mw)))

pub returns-in_err-a-in-Complement : goal.returns-in_err-a-in-Complement
returns-in_err-a-in-Complement c t mt =
    subst (λ z. Gives MeansTerm c.args.known.now c.written-in-Complement.new.known c.from_residual-in_err-a-in-Complement.result (node.prefix_of z c.args.line c.args.first t)) (sym c.in-Complement.is)
    (stop (ordered.complemented c.args.line) refl (exits c.from_residual-in_err-a-in-Complement.result _ c.from_residual-in_err-a-in-Complement.ensures.1) (c.in_err-a-in-Complement.ensures t mt))

pub returns-in_ok-a-in-Complement : goal.returns-in_ok-a-in-Complement
returns-in_ok-a-in-Complement c t mt =
    subst (λ z. Gives MeansTerm c.args.known.now c.written-in-Complement.new.known c.complemented.result (node.prefix_of z c.args.line c.args.first t)) (sym c.in-Complement.is)
    (step {f = ordered.complemented c.args.line} refl (c.in_ok-a-in-Complement.ensures t mt) (λ w more mw. answers-give MeansTerm c.written-in-Complement.new.known c.complemented.result (ordered.complemented c.args.line w) (c.complemented.ensures w mw)))

pub returns-in_err-a-in-Not : goal.returns-in_err-a-in-Not
returns-in_err-a-in-Not c t mt =
    subst (λ z. Gives MeansTerm c.args.known.now c.written-in-Not.new.known c.from_residual-in_err-a-in-Not.result (node.prefix_of z c.args.line c.args.first t)) (sym c.in-Not.is)
    (stop (ordered.opposite c.args.line) refl (exits c.from_residual-in_err-a-in-Not.result _ c.from_residual-in_err-a-in-Not.ensures.1) (c.in_err-a-in-Not.ensures t mt))

pub returns-in_ok-a-in-Not : goal.returns-in_ok-a-in-Not
returns-in_ok-a-in-Not c t mt =
    subst (λ z. Gives MeansTerm c.args.known.now c.written-in-Not.new.known c.opposite.result (node.prefix_of z c.args.line c.args.first t)) (sym c.in-Not.is)
    (step {f = ordered.opposite c.args.line} refl (c.in_ok-a-in-Not.ensures t mt) (λ w more mw. answers-give MeansTerm c.written-in-Not.new.known c.opposite.result (ordered.opposite c.args.line w) (c.opposite.ensures w mw)))
