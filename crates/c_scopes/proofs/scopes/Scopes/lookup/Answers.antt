use Rattle.std.proofs.Common.{ap, ◌∙◌}
use Rattle.c_scopes.specs.Scopes.{meaning_of}
use Rattle.c_scopes.proofs.Named.{found, flat}
use Rattle.c_scopes.proofs.scopes.Scopes.lookup.Goals as goal

pub returns-in_err-meaning : goal.returns-in_err-meaning
returns-in_err-meaning g c =
    c.from_residual.ensures ∙ ap flat c.in_err-meaning.ensures.value
    ∙ found c.self.inside.names.entries c.self.inside.log.items c.self.invariant c.args.name.now ∙ ap (meaning_of c.args.name.now) c.self.view_is

pub returns : goal.returns
returns g c =
    ap flat c.in_ok-meaning.ensures.value
    ∙ found c.self.inside.names.entries c.self.inside.log.items c.self.invariant c.args.name.now ∙ ap (meaning_of c.args.name.now) c.self.view_is
