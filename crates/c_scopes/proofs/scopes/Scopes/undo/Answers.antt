use Rattle.std.proofs.Common.{◌≡◌, length, Vec, Global, sym, ◌∙◌}
use Rattle.std.specs.Vec.{vec_len}
use Rattle.c_scopes.specs.Log.{names_of}
use Rattle.c_scopes.proofs.Declares.{undone-leads, undone-within, undone-scopes, begun-scopes, begun-leads, none-scopes, popped, zero-of}
use Rattle.c_scopes.proofs.scopes.Scopes.undo.Goals as goal

sized : {A : Type 0} (v : Vec A Global) → vec_len v ≡ 0 → length v.items ≡ 0
sized v e = sym v.ok.0 ∙ e

pub invariant_of-self-in-Some-Begin : goal.invariant_of-self-in-Some-Begin
invariant_of-self-in-Some-Begin g c = begun-leads _ _ c.pop.new.self.items c.self.inside.log.items c.self.invariant (popped _ _ _ _ c.in-Some-Begin.ensures.items c.in-Some-Begin.field-0-is)

pub index_mut-requires : goal.index_mut-requires
index_mut-requires g c = undone-within c.self.inside.names.entries c.pop.new.self.items c.self.inside.log.items c.in-Some-Declared.change c.self.invariant (popped _ _ _ _ c.in-Some-Declared.ensures.items c.in-Some-Declared.field-0-is)

pub invariant_of-self-in-Some-Declared : goal.invariant_of-self-in-Some-Declared
invariant_of-self-in-Some-Declared g c = undone-leads c.self.inside.names.entries c.pop.new.self.items c.self.inside.log.items c.in-Some-Declared.change c.self.invariant (popped _ _ _ _ c.in-Some-Declared.ensures.items c.in-Some-Declared.field-0-is)

pub returns-in-None-clause-ended : goal.returns-in-None-clause-ended
returns-in-None-clause-ended g c e =
    let empty = zero-of (vec_len c.self.inside.log) c.in-None.ensures.variant.1 in
    none-scopes (names_of c.self.inside.names.entries) c.self.inside.log.items c.pop.new.self.items c.args.self.now (sized c.self.inside.log empty) c.in-None.ensures.items c.self.view_is

pub returns-in-Some-Begin-clause-ended : goal.returns-in-Some-Begin-clause-ended
returns-in-Some-Begin-clause-ended g c e = begun-scopes (names_of c.self.inside.names.entries) c.pop.new.self.items c.self.inside.log.items c.args.self.now (popped _ _ _ _ c.in-Some-Begin.ensures.items c.in-Some-Begin.field-0-is) c.self.view_is

pub returns-in-Some-Declared-clause-undone : goal.returns-in-Some-Declared-clause-undone
returns-in-Some-Declared-clause-undone g c e = undone-scopes c.self.inside.names.entries c.pop.new.self.items c.self.inside.log.items c.in-Some-Declared.change c.args.self.now c.self.invariant (popped _ _ _ _ c.in-Some-Declared.ensures.items c.in-Some-Declared.field-0-is) c.self.view_is
