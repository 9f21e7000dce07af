use Rattle.std.proofs.Common.{List, true, false, sym, subst, arith}
use Rattle.typing_rules.specs.DeclaratorRules as rule
use Rattle.c_declarators.specs.Derivations.{lines_view, Derives, AreDerivations}
use Rattle.c_declarators.proofs.Outward.{first-part, later-means, rest-of, nearest-step}
use Rattle.c_declarators.proofs.types.parameter_type.Goals as goal

pub returns-in-Ok-clause-made : goal.returns-in-Ok-clause-made
returns-in-Ok-clause-made c es means t h =
    let rows = c.args.types.now in
    let a = first-part rows c.args.ds.now es c.d-item.result (omega arith) c.d-item.is means in
    let behind = c.in-Ok.ensures.made a.others (subst (λ xs. AreDerivations rows xs a.others) (sym (rest-of c.args.ds.now)) a.behind) t h in
    subst (λ (ds : List rule.Derivation). Derives c.nearest.new.types c.nearest.result (rule.parameter_of (lines_view c.args.at) (rule.derived (lines_view c.args.at) true t ds))) (sym a.is)
    (nearest-step c.derived_type.new.types c.nearest.new.types c.in-Ok.t (rule.derived (lines_view c.args.at) false t a.others) (lines_view c.args.at) a.part c.nearest.result behind
    (c.nearest.ensures.made a.part (later-means rows c.derived_type.new.types c.d-item.result a.part c.in-Ok.ensures.kept a.means)))
