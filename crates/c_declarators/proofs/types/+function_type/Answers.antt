use Rattle.std.proofs.Common.{◌≡◌, map, ap, sym, ◌∙◌, subst, arith}
use Rattle.std.specs.Result.{IfOk}
use Rattle.c_types.specs.Types.{taking, function_of}
use Rattle.c_types.specs.Table.{type_at, Stands}
use Rattle.c_types.proofs.Grown.{Extends-refl}
use Rattle.typing_rules.specs.DeclaratorRules as rule
use Rattle.c_known.specs.Standing.{MeanLocals}
use Rattle.c_declarators.proofs.Outward.{front, rest-of}
use Rattle.c_declarators.proofs.types.+function_type.Goals as goal

pub returns-in_ok-rest-in-len1-up-clause-made : goal.returns-in_ok-rest-in-len1-up-clause-made
returns-in_ok-rest-in-len1-up-clause-made m c t ls h means =
    let f = front c.args.types.now c.args.ps.now c.first-item.result ls (omega arith) c.first-item.is means in
    let mid = c.function_type.new.types in
    let rest = c.in_ok-rest-in-len1-up.ensures.made t f.others h (subst (λ xs. MeanLocals c.args.types.now xs f.others) (sym (rest-of c.args.ps.now)) f.mean) in
    let first = f.stands.always mid c.in_ok-rest-in-len1-up.ensures.kept in
    let whole : taking (type_at mid c.first-item.result.ty.target) (type_at mid c.in_ok-rest-in-len1-up.rest) ≡ function_of (map rule.parameter_type ls) t =
    (λ i. taking (first i) (rest.always mid (Extends-refl mid) i)) ∙ ap (λ (xs : _). function_of (map rule.parameter_type xs) t) (sym f.is) in
    subst (λ u. IfOk c.taking.result (λ r. Stands c.taking.new.self r u)) whole c.taking.ensures.made
