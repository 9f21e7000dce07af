use Rattle.std.proofs.Common.{sym, subst}
use Rattle.c_values.specs.Answers.{MeansTerm}
use Rattle.c_known.specs.Gives.{Gives}
use Rattle.c_known.proofs.Binding.{answers-give}
use Rattle.typing_rules.specs.OrderedParts as ordered
use Rattle.c_terms.specs.Nodes.{binary_of}
use Rattle.c_terms.proofs.nodes.binary.Goals as goal

pub returns-in-Arithmetic : goal.returns-in-Arithmetic
returns-in-Arithmetic c v w mv mw =
    subst (λ z. Gives MeansTerm c.args.known.now c.args.known.now c.computed.result (binary_of z c.args.line c.args.at v w)) (sym c.in-Arithmetic.is)
    (answers-give MeansTerm c.args.known.now c.computed.result (ordered.computed c.args.line c.in-Arithmetic.op c.args.at v w) (c.computed.ensures v w mv mw))

pub returns-in-And : goal.returns-in-And
returns-in-And c v w mv mw =
    subst (λ z. Gives MeansTerm c.args.known.now c.args.known.now c.conjoined.result (binary_of z c.args.line c.args.at v w)) (sym c.in-And.is)
    (answers-give MeansTerm c.args.known.now c.conjoined.result (ordered.conjoined c.args.line c.args.at v w) (c.conjoined.ensures v w mv mw))

pub returns-in-Or : goal.returns-in-Or
returns-in-Or c v w mv mw =
    subst (λ z. Gives MeansTerm c.args.known.now c.args.known.now c.disjoined.result (binary_of z c.args.line c.args.at v w)) (sym c.in-Or.is)
    (answers-give MeansTerm c.args.known.now c.disjoined.result (ordered.disjoined c.args.line c.args.at v w) (c.disjoined.ensures v w mv mw))
