use Rattle.std.proofs.Common.{ap, ◌∙◌}
use Rattle.c_types.specs.Types.{ty_of}
use Rattle.c_values.proofs.Means.{got-type}
use Rattle.c_values.proofs.convert.converted.Goals as goal

pub returns : goal.returns
returns c t m =
    let rows = c.args.types.now in
    c.converted_from.ensures rows t m (c.ty-from.ensures ∙ ap ty_of (got-type rows c.get.result.now c.args.operand.typed.value t.value c.get.ensures m.typed.value))
