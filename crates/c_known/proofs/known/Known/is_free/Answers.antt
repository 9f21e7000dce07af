use Rattle.std.proofs.Common.{ap, sym, ◌∙◌, subst, is_none, is_some, not}
use Rattle.c_types.specs.Table.{type_at}
use Rattle.c_types.proofs.Grown.{Extends-refl}
use Rattle.typing_rules.specs.Known as known
use Rattle.typing_rules.specs.Checking.{tests}
use Rattle.typing_rules.specs.declared.refusal.TypeRefusal.TheVariants as refusal
use Rattle.c_known.specs.Gives.{Gives, IsDone}
use Rattle.c_known.proofs.Binding.{tests-gives}
use Rattle.c_known.proofs.Lookups.{free-by, not-back}
use Rattle.c_known.proofs.known.Known.is_free.Goals as goal

pub returns : goal.returns
returns c =
    subst (λ r. Gives IsDone c.args.self.now c.args.self.now r (tests (λ k. is_none (known.found_in c.args.name.now (known.innermost k.scopes))) (refusal.Twice c.args.line)))
    (sym c.needs.ensures)
    (tests-gives c.args.self.now c.is_none.result _ (refusal.Twice c.args.line) (λ k h.
    not-back _ _ c.is_none.ensures ∙ ap (λ o. not (is_some o)) c.lookup_here.ensures
    ∙ free-by (type_at c.args.self.now.types) c.args.name.now c.args.self.now.blocks k.scopes (h.scopes c.args.self.now.types (Extends-refl _))))
