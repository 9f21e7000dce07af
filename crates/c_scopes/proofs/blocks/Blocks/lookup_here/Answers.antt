use Rattle.std.proofs.Common.{ap, sym, ◌∙◌}
use Rattle.c_scopes.specs.Scopes.{found_in, innermost}
use Rattle.c_scopes.proofs.Depths.{here-none, here-found, here-other}
use Rattle.c_scopes.proofs.blocks.Blocks.lookup_here.Goals as goal

pub returns-in-None : goal.returns-in-None
returns-in-None g c = sym (here-none c.args.name.now c.self.inside.scopes (sym c.lookup.ensures ∙ c.in-None.is)) ∙ ap (λ s. found_in c.args.name.now (innermost s)) c.self.view_is

pub returns-then-found-self : goal.returns-then-found-self
returns-then-found-self g c = sym (here-found c.self.inside.depth c.args.name.now c.self.inside.scopes c.self.invariant c.in-Some.found (sym c.lookup.ensures ∙ c.in-Some.is) c.if-found-self.true) ∙ ap (λ s. found_in c.args.name.now (innermost s)) c.self.view_is

pub returns-else-found-self : goal.returns-else-found-self
returns-else-found-self g c = sym (here-other c.self.inside.depth c.args.name.now c.self.inside.scopes c.self.invariant c.in-Some.found (sym c.lookup.ensures ∙ c.in-Some.is) c.if-found-self.false) ∙ ap (λ s. found_in c.args.name.now (innermost s)) c.self.view_is
