use Rattle.std.proofs.Common.{sym, ap, ◌∙◌}
use Rattle.c_types.specs.Types.{is_array}
use Rattle.c_types.proofs.Grown.{Extends-refl}
use Rattle.c_declarations.proofs.Scalars.{first-scalar}
use Rattle.c_declarations.proofs.object.initializer_of.Goals as goal

pub returns : goal.returns
returns c i means =
    let rows = c.args.types.now in
    first-scalar rows c.args.done.given.items c.next.new.self.rest.items c.in-Some.cell i.given i.type.type (sym c.into_iter.ensures.rest ∙ c.in-Some.ensures.items) means.given
    (sym (ap is_array (means.type.type.always rows (Extends-refl rows))) ∙ sym c.is_array.ensures ∙ c.if-is_array.false)
