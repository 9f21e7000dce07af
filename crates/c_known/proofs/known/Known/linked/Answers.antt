use Rattle.std.proofs.Common.{subst}
use Rattle.typing_rules.specs.Known as known
use Rattle.typing_rules.specs.Terms as terms
use Rattle.typing_rules.specs.Checking.{pure, makes}
use Rattle.c_values.specs.Answers.{Answers, MeansTerm}
use Rattle.c_known.specs.Gives.{Gives, IsDone}
use Rattle.c_known.proofs.Binding.{bind}
use Rattle.c_known.proofs.Growing.{asks-answers, stands-for-later}
use Rattle.c_known.proofs.known.Known.linked.Goals as goal

pub returns : goal.returns
returns c = λ type stands.
    let s = c.args.self.now in let mid = c.use_entity.new.self in
    bind IsDone MeansTerm s mid mid c.in_ok-use_entity.field-0 c.linked_term.result (makes (known.used c.args.number c.args.line)) _
    (subst (λ r. Gives IsDone s mid r (makes (known.used c.args.number c.args.line))) c.in_ok-use_entity.was c.use_entity.ensures)
    (λ a more done. asks-answers MeansTerm mid c.linked_term.result _ (λ k h.
    subst (λ b. Answers (MeansTerm mid.types) c.linked_term.result (pure (terms.linked_term c.args.line c.args.number type b)))
    (c.is_main-is_main.ensures mid.types k h.entities)
    (c.linked_term.ensures type (stands-for-later more stands))))
