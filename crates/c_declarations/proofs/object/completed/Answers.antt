use Rattle.std.proofs.Common.{Ok}
use Rattle.c_types.proofs.Grown.{Extends-trans}
use Rattle.typing_rules.specs.Known as known
use Rattle.typing_rules.specs.Checking.{makes, pure}
use Rattle.typing_rules.specs.DeclarationRules as rule
use Rattle.c_known.specs.Gives.{IsDone}
use Rattle.c_known.proofs.Binding.{bind, pure-gives}
use Rattle.c_known.proofs.Growing.{stands-for-later}
use Rattle.c_declarations.specs.Parts.{MeansInitializerIf}
use Rattle.c_declarations.proofs.object.completed.Goals as goal

pub returns : goal.returns
returns c i means =
    let mid = c.complete_local.new.self in
    bind IsDone MeansInitializerIf c.args.known.now mid mid c.complete_local.result (Ok c.initializer_of.result) (makes (known.local_completed c.args.number i.type))
    (λ _. pure (rule.initializer_of i.type.type i.given)) (c.complete_local.ensures i.type means.type)
    (λ a more done. pure-gives MeansInitializerIf mid c.initializer_of.result (rule.initializer_of i.type.type i.given)
    (c.initializer_of.ensures i (record { type = stands-for-later more means.type; given = record { always = λ later e. means.given.always later (Extends-trans more e) } })))
