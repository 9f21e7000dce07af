use Rattle.std.proofs.Common.{false, Err, sym, subst}
use Rattle.c_types.specs.Table.{StandsFor}
use Rattle.typing_rules.specs.DeclaratorRules as rule
use Rattle.typing_rules.specs.Checking.{◌>>=◌, from_result}
use Rattle.typing_rules.specs.Ordered.{derivations_of}
use Rattle.c_known.specs.Gives.{Gives}
use Rattle.c_known.proofs.Binding.{bind, told}
use Rattle.c_known.proofs.Growing.{stands-for-later}
use Rattle.c_declarators.specs.Derivations.{AreDerivations, lines_view}
use Rattle.c_declarators.specs.Trees.{declarator_in}
use Rattle.c_terms.specs.Parts.{AreParts}
use Rattle.c_declarations.proofs.block.declared_type.Goals as goal

pub returns-in-Ok : goal.returns-in-Ok
returns-in-Ok c t h =
    let d = declarator_in c.args.file c.args.d.now in
    let at = lines_view c.lines_of-lines.result in
    let whole = bind AreParts StandsFor c.args.known.now c.derivations.new.known c.derived.new.known c.in-Ok.ds c.derived.result (derivations_of at d) (λ es. from_result (rule.derived at false t es)) c.in-Ok.ensures
    (λ es more means. c.derived.ensures t es (stands-for-later more h) (subst (λ xs. AreDerivations c.derivations.new.known.types xs es) (sym c.as_slice.ensures.value) means)) in
    subst (λ lines. Gives StandsFor c.args.known.now c.derived.new.known c.derived.result (derivations_of lines d >>= (λ es. from_result (rule.derived lines false t es)))) c.lines_of-lines.ensures whole

pub returns-in-Err : goal.returns-in-Err
returns-in-Err c t h =
    let d = declarator_in c.args.file c.args.d.now in
    let at = lines_view c.lines_of-lines.result in
    let whole = told AreParts StandsFor c.args.known.now c.derivations.new.known c.derivations.new.known c.in-Err.refusal (derivations_of at d) (λ es. from_result (rule.derived at false t es)) c.in-Err.ensures in
    subst (λ lines. Gives StandsFor c.args.known.now c.derivations.new.known (Err c.in-Err.refusal) (derivations_of lines d >>= (λ es. from_result (rule.derived lines false t es)))) c.lines_of-lines.ensures whole
