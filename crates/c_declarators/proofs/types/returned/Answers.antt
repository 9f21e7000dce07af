use Rattle.std.proofs.Common.{◌||◌, ap, sym, ◌∙◌, arith}
use Rattle.c_types.specs.Types.{is_array, is_function}
use Rattle.c_types.proofs.Grown.{Extends-refl}
use Rattle.c_declarators.specs.Derivations.{lines_view}
use Rattle.c_declarators.proofs.Outward.{as-many, function-returned}
use Rattle.c_declarators.proofs.types.returned.Goals as goal

pub returns-then-ps-le-MOST_PARAMETERS-clause-made : goal.returns-then-ps-le-MOST_PARAMETERS-clause-made
returns-then-ps-le-MOST_PARAMETERS-clause-made c ls mean t h =
    let rows = c.args.types.now in
    let gives = sym (ap (λ u. is_array u || is_function u) (h.type.always rows (Extends-refl rows))) ∙ sym c.is_no_result.ensures ∙ c.if-is_no_result.false in
    let many = as-many rows c.args.ps.now ls mean in
    function-returned c.function_type.new.types (lines_view c.args.at) ls t c.plain.result c.function_type.result gives (omega arith) c.plain.ensures (c.function_type.ensures.made t ls h mean)
