use Rattle.std.proofs.Common.{arith, sym, ap, ◌∙◌, subst, [], ◌∷◌}
use Rattle.c_scopes.specs.Log.{names_of, meanings_of, scopes_of, LeadsBack}
use Rattle.c_scopes.specs.declared.scopes.Entry.TheVariants.{Begin}
use Rattle.c_scopes.proofs.Pushed.{opened}
use Rattle.c_scopes.proofs.Depths.{scopes-few}
use Rattle.c_scopes.proofs.Meanings.{scopes-push}
use Rattle.c_scopes.proofs.scopes.Scopes.open.Goals as goal

pub invariant_of-self-2 : goal.invariant_of-self-2
invariant_of-self-2 g c =
    subst (LeadsBack (names_of c.self.inside.names.entries) (meanings_of c.self.inside.names.entries)) (sym c.in_ok-push.ensures.items)
    (opened _ _ _ c.self.invariant)

pub returns-clause-opened : goal.returns-clause-opened
returns-clause-opened g c =
    ap (scopes_of (names_of c.self.inside.names.entries)) c.in_ok-push.ensures.items
    ∙ scopes-push (names_of c.self.inside.names.entries) c.self.inside.log.items Begin
    ∙ ap (λ s. [] ∷ s) c.self.view_is

pub returns-clause-few : goal.returns-clause-few
returns-clause-few g c =
    let h = scopes-few (names_of c.self.inside.names.entries) [] c.push.new.self.items in
    let long = c.push.new.self.ok.0 in
    let small = c.push.new.self.small in
    omega arith
