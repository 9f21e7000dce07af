use Rattle.std.proofs.Common.{ap, sym, ◌∙◌, subst, length, nat_le}
use Rattle.std.proofs.lemmas.List.{length-map}
use Rattle.c_types.specs.Table.{type_at}
use Rattle.c_types.proofs.Grown.{Extends-refl}
use Rattle.typing_rules.specs.Limits.{most_types}
use Rattle.typing_rules.specs.Checking.{tests}
use Rattle.typing_rules.specs.declared.refusal.TypeRefusal.TheVariants as refusal
use Rattle.typing_rules.specs.declared.refusal.Size.TheVariants as size
use Rattle.c_known.specs.Gives.{Gives, IsDone}
use Rattle.c_known.proofs.Binding.{tests-gives}
use Rattle.c_known.proofs.known.Known.has_room_for_types.Goals as goal

pub returns : goal.returns
returns c =
    subst (λ r. Gives IsDone c.args.self.now c.args.self.now r (tests (λ k. nat_le (length k.types) most_types) (refusal.TooLarge c.args.line size.Types)))
    (sym c.needs.ensures)
    (tests-gives c.args.self.now _ _ (refusal.TooLarge c.args.line size.Types) (λ k h.
    ap (λ n. nat_le n most_types) (c.len.ensures.len ∙ sym (length-map c.args.self.now.function_types.keys (type_at c.args.self.now.types))
    ∙ ap length (h.types c.args.self.now.types (Extends-refl _)))))
