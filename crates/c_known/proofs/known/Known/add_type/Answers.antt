use Rattle.c_types.proofs.Grown.{Extends-refl}
use Rattle.std.proofs.Common.{sym, subst}
use Rattle.c_types.specs.Table.{Stands}
use Rattle.typing_rules.specs.Known as known
use Rattle.c_known.specs.Views.{Knows}
use Rattle.c_known.proofs.Binding.{makes-gives}
use Rattle.c_known.proofs.Growing.{with-type-is, added-by}
use Rattle.c_known.proofs.known.Known.add_type.Goals as goal

pub returns-in-Ok : goal.returns-in-Ok
returns-in-Ok c = λ type stands.
    let at = stands.always c.args.self.now.types (Extends-refl _) in
    makes-gives c.args.self.now _ (known.with_type type) (Extends-refl _) (λ k h.
    subst (Knows _) (with-type-is type k) (record {
      file = h.file;
      scopes = h.scopes;
      file_scope = h.file_scope;
      entities = h.entities;
      locals = h.locals;
      texts = h.texts;
      static_cells = h.static_cells;
      functions = h.functions;
      uses = h.uses;
      types = added-by c.args.self.now k h c.insert.new.self.keys c.reference-of.result type
          (subst (Stands c.args.self.now.types c.reference-of.result) at c.reference-of.ensures.same)
          (λ other is. c.reference-of.ensures.one other (subst (Stands c.args.self.now.types other) (sym at) is))
          c.in-Ok.ensures.keys;
    }))
