use Rattle.std.proofs.Common.{not, ap, ◌∙◌}
use Rattle.c_types.specs.Types.{is_complete}
use Rattle.c_types.proofs.Grown.{Extends-refl}
use Rattle.c_linkage.proofs.Linked.{linked-type}
use Rattle.c_typing.proofs.Starts.{second-of}
use Rattle.c_typing.proofs.contents.counts_after.Goals as goal

pub returns-then-is_first : goal.returns-then-is_first
returns-then-is_first c l means =
    let rows = c.args.types.now in
    second-of c.args.is_first _ _ c.if-is_first.true
    (ap not (c.is_complete.ensures ∙ ap is_complete ((linked-type rows c.args.linked l means).type.always rows (Extends-refl rows))))
