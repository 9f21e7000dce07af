use Rattle.std.proofs.Common.{◌==◌, length, None, sym, ap, ◌∙◌, subst}
use Rattle.c_scopes.specs.Scopes.{with_meaning}
use Rattle.c_scopes.specs.Log.{names_of, meanings_of, scopes_of, LeadsBack}
use Rattle.c_scopes.proofs.Named.{named}
use Rattle.c_scopes.proofs.Declares.{declares-leads, declares-scopes, empty-scopes, on-err, value-read}
use Rattle.c_scopes.proofs.scopes.Scopes.declare.Goals as goal

pub returns-then-is_empty-clause-declared : goal.returns-then-is_empty-clause-declared
returns-then-is_empty-clause-declared g c =
    let none = empty-scopes (names_of c.self.inside.names.entries) c.self.inside.log.items c.args.self.now (ap (λ l. length l == 0) (sym c.as_slice.ensures.value) ∙ sym c.is_empty.ensures ∙ c.if-is_empty.true) c.self.view_is in
    none ∙ sym (ap (with_meaning c.args.name.now c.args.meaning) none)

pub invariant_of-self-in_err-push : goal.invariant_of-self-in_err-push
invariant_of-self-in_err-push g c =
    subst (LeadsBack (names_of c.number.new.names.entries) (meanings_of c.number.new.names.entries)) (sym c.in_err-push.ensures.items)
    (named c.self.inside.names.entries c.number.new.names.entries c.args.name.now c.self.inside.log.items c.in_ok-name.ensures.grown c.self.invariant).0

pub returns-in_err-push-clause-kept : goal.returns-in_err-push-clause-kept
returns-in_err-push-clause-kept g c = on-err c.from_residual-in_err-push.result _
    (ap (scopes_of (names_of c.number.new.names.entries)) c.in_err-push.ensures.items
    ∙ (named c.self.inside.names.entries c.number.new.names.entries c.args.name.now c.self.inside.log.items c.in_ok-name.ensures.grown c.self.invariant).1
    ∙ c.self.view_is)

pub invariant_of-self-2 : goal.invariant_of-self-2
invariant_of-self-2 g c =
    declares-leads c.self.inside.names.entries c.number.new.names.entries c.args.name.now c.self.inside.log.items c.push.new.self.items
    (record { name = c.in_ok-name.name; meaning = c.args.meaning; before = c.index-before.result.now })
    (record {
      grown = c.in_ok-name.ensures.grown;
      leads = c.self.invariant;
      some = ap (λ l. length l == 0) (sym c.as_slice.ensures.value) ∙ sym c.is_empty.ensures ∙ c.if-is_empty.false;
      within = c.in_ok-name.ensures.within;
      found = c.in_ok-name.ensures.found;
      before = value-read (meanings_of c.number.new.names.entries) c.in_ok-name.name _ None c.index-before.ensures;
    })
    c.in_ok-push.ensures.items

pub returns-clause-declared : goal.returns-clause-declared
returns-clause-declared g c =
    declares-scopes c.self.inside.names.entries c.number.new.names.entries c.args.name.now c.self.inside.log.items c.push.new.self.items
    (record { name = c.in_ok-name.name; meaning = c.args.meaning; before = c.index-before.result.now })
    (record {
      grown = c.in_ok-name.ensures.grown;
      leads = c.self.invariant;
      some = ap (λ l. length l == 0) (sym c.as_slice.ensures.value) ∙ sym c.is_empty.ensures ∙ c.if-is_empty.false;
      within = c.in_ok-name.ensures.within;
      found = c.in_ok-name.ensures.found;
      before = value-read (meanings_of c.number.new.names.entries) c.in_ok-name.name _ None c.index-before.ensures;
    })
    c.in_ok-push.ensures.items
    ∙ ap (with_meaning c.args.name.now c.args.meaning) c.self.view_is
