use Rattle.std.proofs.Common.{ap, sym, ◌∙◌}
use Rattle.c_scopes.specs.Scopes.{meaning_of}
use Rattle.c_scopes.proofs.Depths.{meaning-at, meaning_at}
use Rattle.c_scopes.proofs.blocks.Blocks.lookup.Goals as goal

pub returns-in-None : goal.returns-in-None
returns-in-None g c =
    ap meaning_at (sym c.in-None.is ∙ c.lookup.ensures) ∙ sym (meaning-at c.args.name.now c.self.inside.scopes) ∙ ap (meaning_of c.args.name.now) c.self.view_is

pub returns-in-Some : goal.returns-in-Some
returns-in-Some g c =
    ap meaning_at (sym c.in-Some.is ∙ c.lookup.ensures) ∙ sym (meaning-at c.args.name.now c.self.inside.scopes) ∙ ap (meaning_of c.args.name.now) c.self.view_is
