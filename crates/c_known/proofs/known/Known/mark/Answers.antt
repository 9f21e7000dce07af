use Rattle.std.proofs.Common.{map, slice_set, ap, sym, refl, ◌∙◌}
use Rattle.c_types.specs.Table.{type_at}
use Rattle.c_types.proofs.Grown.{Extends-refl}
use Rattle.typing_rules.specs.Known as known
use Rattle.c_known.specs.Views.{local_view}
use Rattle.c_known.specs.Locals.{addressed, local_number}
use Rattle.c_known.proofs.Binding.{makes-gives}
use Rattle.c_known.proofs.Changes.{locals-known}
use Rattle.c_known.proofs.LocalChanges.{changed-view, marked-local, marked-other, node-of}
use Rattle.c_known.proofs.known.Known.mark.Goals as goal

pub returns-in-Some : goal.returns-in-Some
returns-in-Some c = λ line type node means.
    marked-local c.args.self.now _ node c.in-Some.number
    (sym (ap local_number (node-of c.args.self.now.types c.args.place.now line type node means)) ∙ sym (c.local_number.ensures (type_at c.args.self.now.types)) ∙ c.in-Some.is)
    (makes-gives c.args.self.now _ (known.addressed c.in-Some.number) (Extends-refl _) (λ k h.
    locals-known c.args.self.now k h c.address.new.locals _ (λ later e.
    ap (map (local_view (type_at later))) c.address.ensures
    ∙ changed-view (type_at later) addressed known.addressed_local (λ l. refl) c.args.self.now.locals.items c.in-Some.number
    ∙ ap (λ ls. slice_set ls c.in-Some.number (known.addressed_local (known.local_at ls c.in-Some.number))) (h.locals later e))))

pub returns-in_default : goal.returns-in_default
returns-in_default c = λ line type node means.
    marked-other c.args.self.now node
    (sym (ap local_number (node-of c.args.self.now.types c.args.place.now line type node means)) ∙ sym (c.local_number.ensures (type_at c.args.self.now.types)) ∙ c.in_default.is)
