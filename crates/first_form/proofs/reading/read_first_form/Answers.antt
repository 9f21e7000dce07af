use Rattle.std.proofs.Common.{◌≡◌, Ok, Err, Some, List, ℕ, Result, sym, ◌∙◌}
use Rattle.std.specs.Prelude.{IfOk}
use Rattle.std.proofs.lemmas.Option.{same_Some, none-some}
use Rattle.first_form.specs.declared.source.FirstForm.{FirstForm}
use Rattle.first_form.specs.declared.source.FormRefusal.{FormRefusal}
use Rattle.first_form.specs.FirstForm.{IsFirstForm}
use Rattle.first_form.specs.Reading.{first_form}
use Rattle.first_form.proofs.Form.{first_form_takes, first_form_again}
use Rattle.first_form.proofs.reading.read_first_form.Goals as goal

found : (bytes : List ℕ) (r : Result FirstForm FormRefusal) → IfOk r (λ form. first_form bytes ≡ Some form) → IfOk r (IsFirstForm bytes)
found bytes (Ok form) e = first_form_takes bytes form e
found bytes (Err _) e = e

pub returns-clause-found : goal.returns-clause-found
returns-clause-found c = found _ _ c.whole.ensures.ok

pub returns-clause-one : goal.returns-clause-one
returns-clause-one c = λ a b is_a is_b. same_Some a b (sym (first_form_again _ a is_a) ∙ first_form_again _ b is_b)

pub returns-clause-none : goal.returns-clause-none
returns-clause-none c = λ refused form is. none-some form (sym (c.whole.ensures.form refused) ∙ first_form_again _ form is)
