use Rattle.std.proofs.Common.{◌≡◌, ◌∙◌, sym, ap, Some, None}
use Rattle.std.specs.Prelude.{slice_get}
use Rattle.std.specs.Option.{option_copied}
use Rattle.c_typed.specs.declared.program.Numbered.TheVariants as numbered
use Rattle.lower.proofs.EntityValues.{lent_value}
use Rattle.lower.proofs.EntityNumbers.{number_of_function, number_of_object, number_of_nowhere, number_of_nothing}
use Rattle.lower.proofs.inside.number_of.Goals as goal

pub returns-in-None : goal.returns-in-None
returns-in-None c =
    let p = c.args.program.now in
    let found : slice_get p.entities c.args.entity ≡ None =
    ap (λ l. slice_get l c.args.entity) (sym c.as_slice.ensures)
    ∙ sym (lent_value c.as_slice.result.now c.args.entity None c.in-None.ensures.lookup) in
    number_of_nothing p c.args.entity found

pub returns-in-Some-Nowhere : goal.returns-in-Some-Nowhere
returns-in-Some-Nowhere c =
    let p = c.args.program.now in
    let found : slice_get p.entities c.args.entity ≡ Some numbered.Nowhere =
    ap (λ l. slice_get l c.args.entity) (sym c.as_slice.ensures) ∙ sym (lent_value _ c.args.entity c.get.result c.get.ensures.lookup)
    ∙ ap option_copied c.in-Some-Nowhere.is ∙ ap Some c.in-Some-Nowhere.field-0-is in
    number_of_nowhere p c.args.entity found

pub returns-in-Some-Function : goal.returns-in-Some-Function
returns-in-Some-Function c =
    let p = c.args.program.now in
    let found : slice_get p.entities c.args.entity ≡ Some (numbered.Function c.in-Some-Function.number) =
    ap (λ l. slice_get l c.args.entity) (sym c.as_slice.ensures) ∙ sym (lent_value _ c.args.entity c.get.result c.get.ensures.lookup)
    ∙ ap option_copied c.in-Some-Function.is ∙ ap Some c.in-Some-Function.field-0-is in
    number_of_function p c.args.entity c.in-Some-Function.number found

pub returns-in-Some-Object : goal.returns-in-Some-Object
returns-in-Some-Object c =
    let p = c.args.program.now in
    let found : slice_get p.entities c.args.entity ≡ Some (numbered.Object c.in-Some-Object.number) =
    ap (λ l. slice_get l c.args.entity) (sym c.as_slice.ensures) ∙ sym (lent_value _ c.args.entity c.get.result c.get.ensures.lookup)
    ∙ ap option_copied c.in-Some-Object.is ∙ ap Some c.in-Some-Object.field-0-is in
    number_of_object p c.args.entity c.in-Some-Object.number found
