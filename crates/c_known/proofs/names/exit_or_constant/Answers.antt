use Rattle.std.proofs.Common.{sym, ap, ◌∙◌}
use Rattle.std.specs.Str.{bytes_eq}
use Rattle.c_known.proofs.Lookups.{passes}
use Rattle.c_known.proofs.names.exit_or_constant.Goals as goal

pub returns-else-eq : goal.returns-else-eq
returns-else-eq c = λ types.
    passes _ _ _ _ (sym (c.eq.ensures ∙ ap (bytes_eq c.args.name.now) c.as_slice.ensures) ∙ c.if-eq.false) (c.predeclared_constant.ensures types)
