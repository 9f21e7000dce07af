use Rattle.std.proofs.Common.{sym, ap, ◌∙◌}
use Rattle.std.specs.Str.{bytes_eq}
use Rattle.c_known.proofs.Lookups.{passes}
use Rattle.c_known.proofs.names.predeclared.Goals as goal

pub returns-else-eq-2 : goal.returns-else-eq-2
returns-else-eq-2 c = λ types.
    passes _ _ _ _ (sym (c.eq.ensures ∙ ap (bytes_eq c.args.name.now) c.as_slice.ensures) ∙ c.if-eq.false)
    (passes _ _ _ _ (sym (c.eq-else-eq.ensures ∙ ap (bytes_eq c.args.name.now) c.as_slice-else-eq.ensures) ∙ c.if-eq-2.false) (c.exit_or_constant.ensures types))
