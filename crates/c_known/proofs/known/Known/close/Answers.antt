use Rattle.std.proofs.Common.{map, ap, ◌∙◌}
use Rattle.c_types.specs.Table.{type_at}
use Rattle.c_types.proofs.Grown.{Extends-refl}
use Rattle.typing_rules.specs.Known as known
use Rattle.c_known.specs.Views.{meaning_view, scope_view}
use Rattle.c_known.proofs.Binding.{makes-gives}
use Rattle.c_known.proofs.Lookups.{outer-by}
use Rattle.c_known.proofs.Changes.{scopes-known}
use Rattle.c_known.proofs.known.Known.close.Goals as goal

pub returns : goal.returns
returns c = makes-gives c.args.self.now _ known.closed (Extends-refl _) (λ k h.
    scopes-known c.args.self.now k h c.close.new.self (known.outer_scopes k.scopes) (λ later e.
    ap (map (scope_view (type_at later))) c.close.ensures
    ∙ outer-by (meaning_view (type_at later)) c.args.self.now.blocks ∙ ap known.outer_scopes (h.scopes later e)))
