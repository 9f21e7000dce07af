use Rattle.std.proofs.Common.{map, slice_set, ap, ◌∙◌}
use Rattle.c_types.specs.Table.{type_at}
use Rattle.c_types.proofs.Grown.{Extends-refl}
use Rattle.typing_rules.specs.Known as known
use Rattle.c_known.specs.Views.{local_view}
use Rattle.c_known.specs.Locals.{completed}
use Rattle.c_known.proofs.Binding.{makes-gives}
use Rattle.c_known.proofs.Changes.{locals-known}
use Rattle.c_known.proofs.LocalChanges.{changed-view}
use Rattle.c_known.proofs.known.Known.complete_local.Goals as goal

pub returns : goal.returns
returns c = λ type stands. makes-gives c.args.self.now _ (known.local_completed c.args.number type) (Extends-refl _) (λ k h.
    locals-known c.args.self.now k h c.complete.new.locals _ (λ later e.
    ap (map (local_view (type_at later))) c.complete.ensures
    ∙ changed-view (type_at later) (completed c.args.ty) (λ l. record l { type = type })
    (λ l i. record (local_view (type_at later) l) { type = record { qualifiers = stands.qualifiers i; type = stands.type.always later e i } })
    c.args.self.now.locals.items c.args.number
    ∙ ap (λ ls. slice_set ls c.args.number (record (known.local_at ls c.args.number) { type = type })) (h.locals later e)))
