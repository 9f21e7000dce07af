use Rattle.std.proofs.Common.{◌∷◌, [], ap, sym, ◌∙◌, Some}
use Rattle.c_types.specs.Table.{type_at}
use Rattle.typing_rules.specs.Known.{predeclared_scope}
use Rattle.c_known.specs.Views.{meaning_view}
use Rattle.c_known.specs.Standing.{MeansMeaningIf}
use Rattle.c_known.proofs.Binding.{asks-gives}
use Rattle.c_known.proofs.Lookups.{meaning-if, block-means, block-passes, file-means, file-passes}
use Rattle.c_known.proofs.known.Known.meaning.Goals as goal

pub returns-in-Some : goal.returns-in-Some
returns-in-Some c = asks-gives MeansMeaningIf c.args.self.now (Some c.in-Some.found) _ (λ k h.
    meaning-if c.args.self.now.types (Some c.in-Some.found) _ (λ later e.
    block-means (type_at later) c.args.name.now c.args.self.now.blocks k.scopes (k.file_scope ∷ predeclared_scope ∷ []) c.in-Some.found (h.scopes later e)
    (sym c.lookup.ensures ∙ c.in-Some.is)))

pub returns-in-Some-lookup : goal.returns-in-Some-lookup
returns-in-Some-lookup c = asks-gives MeansMeaningIf c.args.self.now (Some c.as_meaning.result) _ (λ k h.
    meaning-if c.args.self.now.types (Some c.as_meaning.result) _ (λ later e.
    ap (λ m. Some (meaning_view (type_at later) m)) c.as_meaning.ensures
    ∙ sym (block-passes (type_at later) c.args.name.now c.args.self.now.blocks k.scopes (k.file_scope ∷ predeclared_scope ∷ []) (h.scopes later e) (sym c.lookup.ensures ∙ c.in_default.is)
    ∙ file-means (type_at later) c.args.name.now c.args.self.now.names k.file_scope (predeclared_scope ∷ []) c.in-Some-lookup.linked (h.file_scope later e) (sym c.lookup-2.ensures ∙ c.in-Some-lookup.is))))

pub returns-in-None : goal.returns-in-None
returns-in-None c = asks-gives MeansMeaningIf c.args.self.now c.predeclared.result _ (λ k h.
    meaning-if c.args.self.now.types c.predeclared.result _ (λ later e.
    c.predeclared.ensures (type_at later)
    ∙ sym (block-passes (type_at later) c.args.name.now c.args.self.now.blocks k.scopes (k.file_scope ∷ predeclared_scope ∷ []) (h.scopes later e) (sym c.lookup.ensures ∙ c.in_default.is)
    ∙ file-passes (type_at later) c.args.name.now c.args.self.now.names k.file_scope predeclared_scope (h.file_scope later e) (sym c.lookup-2.ensures ∙ c.in-None.is))))
