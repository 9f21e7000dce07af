use Rattle.std.proofs.Common.{◌≡◌, ◌∙◌, ◌*◌, sym, ap, Some, None}
use Rattle.std.specs.Prelude.{slice_get}
use Rattle.std.specs.Option.{option_copied}
use Rattle.c_typed.specs.declared.program.Numbered.TheVariants as numbered
use Rattle.lower.proofs.EntityValues.{lent_value, value_of_function, value_of_object, value_of_nowhere, value_of_nothing}
use Rattle.lower.proofs.statics.value_of_entity.Goals as goal

pub returns-in-Some-Function-clause-value : goal.returns-in-Some-Function-clause-value
returns-in-Some-Function-clause-value c =
    let p = c.args.program.now in
    let found : slice_get p.entities c.args.entity ≡ Some (numbered.Function c.in-Some-Function.number) =
    ap (λ l. slice_get l c.args.entity) (sym c.as_slice.ensures) ∙ sym (lent_value _ c.args.entity c.get.result c.get.ensures.lookup)
    ∙ ap option_copied c.in-Some-Function.is ∙ ap Some c.in-Some-Function.field-0-is in
    c.from.ensures ∙ value_of_function p c.args.entity c.in-Some-Function.number found

pub returns-in-Some-Object-clause-value : goal.returns-in-Some-Object-clause-value
returns-in-Some-Object-clause-value c =
    let p = c.args.program.now in
    let found : slice_get p.entities c.args.entity ≡ Some (numbered.Object c.in-Some-Object.number) =
    ap (λ l. slice_get l c.args.entity) (sym c.as_slice.ensures) ∙ sym (lent_value _ c.args.entity c.get.result c.get.ensures.lookup)
    ∙ ap option_copied c.in-Some-Object.is ∙ ap Some c.in-Some-Object.field-0-is in
    ap (λ n. n * 65536) c.from-in-Some-Object.ensures ∙ value_of_object p c.args.entity c.in-Some-Object.number found

pub returns-in-None-clause-value : goal.returns-in-None-clause-value
returns-in-None-clause-value c =
    let p = c.args.program.now in
    let found : slice_get p.entities c.args.entity ≡ None =
    ap (λ l. slice_get l c.args.entity) (sym c.as_slice.ensures)
    ∙ sym (lent_value c.as_slice.result.now c.args.entity None c.in-None.ensures.lookup) in
    value_of_nothing p c.args.entity found

pub returns-in-Some-Nowhere-clause-value : goal.returns-in-Some-Nowhere-clause-value
returns-in-Some-Nowhere-clause-value c =
    let p = c.args.program.now in
    let found : slice_get p.entities c.args.entity ≡ Some numbered.Nowhere =
    ap (λ l. slice_get l c.args.entity) (sym c.as_slice.ensures) ∙ sym (lent_value _ c.args.entity c.get.result c.get.ensures.lookup)
    ∙ ap option_copied c.in-Some-Nowhere.is ∙ ap Some c.in-Some-Nowhere.field-0-is in
    value_of_nowhere p c.args.entity found
