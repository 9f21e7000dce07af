use Rattle.std.proofs.Common.{sym, subst}
use Rattle.c_values.specs.Stand.{MeansPlace}
use Rattle.c_values.specs.Answers.{MeansTerm}
use Rattle.c_typed.specs.Typed as tree
use Rattle.c_terms.proofs.Calls.{marked-address}
use Rattle.c_terms.proofs.steps.address_of.Goals as goal

pub returns-in-Object : goal.returns-in-Object
returns-in-Object c t mt =
    marked-address c.args.known.now c.mark.new.self c.address.new.known c.args.line c.in-Object.place c.address.result t c.mark.result
    (subst (λ z. MeansTerm c.args.known.now.types z t) c.in-Object.is mt)
    (λ l q n m. c.mark.ensures l q n (subst (λ z. MeansPlace c.args.known.now.types z (tree.place l q n)) (sym c.get.ensures) m))
    (λ u mu. c.address.ensures u mu)
