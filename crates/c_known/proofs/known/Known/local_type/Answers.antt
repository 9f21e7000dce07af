use Rattle.std.proofs.Common.{sym, ap, ◌∙◌, slice_get, refl}
use Rattle.c_types.specs.Types.{void}
use Rattle.c_known.proofs.Growing.{local-stands, no-local-stands}
use Rattle.c_known.proofs.known.Known.local_type.Goals as goal

pub returns-in-Some : goal.returns-in-Some
returns-in-Some c = λ k h.
    local-stands c.args.self.now k h c.args.number c.in-Some.local.now
    (sym (c.in-Some.ensures ∙ ap (λ xs. slice_get xs c.args.number) c.as_slice.ensures.value))

pub returns-in-None : goal.returns-in-None
returns-in-None c = λ k h.
    no-local-stands c.args.self.now k h c.args.number c.unqualified_ref.result
    (sym (c.in-None.ensures ∙ ap (λ xs. slice_get xs c.args.number) c.as_slice.ensures.value))
    (c.unqualified_ref.ensures void c.args.self.now.types (record { always = λ later e. refl }))
