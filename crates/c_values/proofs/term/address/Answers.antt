use Rattle.std.proofs.Common.{ap, ◌∙◌, subst}
use Rattle.typing_rules.specs.Terms as terms
use Rattle.c_values.specs.Answers.{Answers, MeansTerm, address_term}
use Rattle.c_values.proofs.TermParts.{term-object, address-object}
use Rattle.c_values.proofs.term.address.Goals as goal

pub returns-in-Object-clause-value : goal.returns-in-Object-clause-value
returns-in-Object-clause-value c t m =
    let new = c.address_of_place.new.types in
    let found = term-object c.args.types.now c.args.term c.in-Object.place t c.in-Object.is m in
    subst (Answers (MeansTerm new) c.result_of.result) (address-object c.args.line found.place ∙ ap (address_term c.args.line) found.is)
    (c.result_of.ensures new _ (c.address_of_place.ensures.value found.place found.means))
