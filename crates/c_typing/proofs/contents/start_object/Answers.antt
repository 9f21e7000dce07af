use Rattle.std.proofs.Common.{map, Ok, ◌∙◌, ap, subst}
use Rattle.c_types.proofs.Grown.{Extends-refl}
use Rattle.typing_rules.specs.DeclarationRules as rule
use Rattle.typing_rules.specs.Checking.{makes}
use Rattle.c_entities.specs.Changes.{started}
use Rattle.c_known.specs.Gives.{Gives, IsDone}
use Rattle.c_known.proofs.Binding.{makes-gives}
use Rattle.c_linkage.proofs.Steps.{entities-known}
use Rattle.c_typing.specs.Contents.{cell_start}
use Rattle.c_typing.proofs.Starts.{starts-mapped}
use Rattle.c_typing.proofs.contents.start_object.Goals as goal

pub returns-in-Ok : goal.returns-in-Ok
returns-in-Ok c i means =
    let s = c.args.known.now in
    let rows = s.types in
    let cells = c.in-Ok.ensures ∙ ap (map (cell_start rows)) c.as_slice.ensures.value ∙ starts-mapped rows c.args.done.given.items ∙ ap rule.starts_of (means.given.always rows (Extends-refl rows)) in
    subst (λ cs. Gives IsDone s (record s { entities = c.start.new.self }) (Ok tt) (makes (started c.args.number i.type cs))) cells
    (makes-gives s (record s { entities = c.start.new.self }) (started c.args.number i.type c.in-Ok.cells.items) (Extends-refl rows)
    (λ k h. entities-known s k h c.start.new.self _ _ (c.start.ensures i.type means.type k h.file h.entities)))
