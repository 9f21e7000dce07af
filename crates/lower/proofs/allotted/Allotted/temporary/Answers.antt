use Rattle.std.proofs.Common.{◌≡◌, ◌∙◌, None, sym, ap}
use Rattle.std.specs.Prelude.{slice_get}
use Rattle.std.specs.Option.{option_copied}
use Rattle.lower.proofs.Steps.{exits}
use Rattle.lower.proofs.EntityValues.{lent_value}
use Rattle.lower.proofs.Allotting.{used-again, none-left, first-used}
use Rattle.lower.proofs.allotted.Allotted.temporary.Goals as goal

pub returns-in-Some : goal.returns-in-Some
returns-in-Some c = λ rows.
    used-again c.args.k c.args.line c.in-Some.register.now
    (ap (λ l. slice_get l c.args.k) (sym c.deref.ensures.value) ∙ sym (lent_value _ c.args.k c.get.result c.get.ensures.lookup) ∙ ap option_copied c.in-Some.is)

pub returns-in_err-register : goal.returns-in_err-register
returns-in_err-register c = λ rows.
    let none : slice_get c.args.self.now.temporaries.items c.args.k ≡ None =
    ap (λ l. slice_get l c.args.k) (sym c.deref.ensures.value) ∙ sym (lent_value _ c.args.k c.get.result c.get.ensures.lookup)
    ∙ ap option_copied c.in_default.is in
    none-left c.args.k c.args.line none (exits c.from_residual.result _ c.from_residual.ensures.1) (c.in_err-register.ensures rows)

pub returns : goal.returns
returns c = λ rows.
    let none : slice_get c.args.self.now.temporaries.items c.args.k ≡ None =
    ap (λ l. slice_get l c.args.k) (sym c.deref.ensures.value) ∙ sym (lent_value _ c.args.k c.get.result c.get.ensures.lookup)
    ∙ ap option_copied c.in_default.is in
    first-used c.args.k c.args.line c.in_ok-register.register none (c.in_ok-register.ensures rows) c.in_ok-push.ensures.items
