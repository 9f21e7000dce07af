use Rattle.std.proofs.Common.{◌≡◌, refl, ap, ◌∙◌, subst}
use Rattle.srmt_base.specs.declared.ty.Ty.TheVariants.{Char}
use Rattle.srmt_base.specs.Convert.{convert_of}
use Rattle.typing_rules.specs.Terms as terms
use Rattle.typing_rules.specs.DeclarationRules as declarations
use Rattle.c_values.specs.Stand.{Makes}
use Rattle.c_values.proofs.literal.byte_of.Goals as goal

pub returns : goal.returns
returns c rows =
    let number : c.convert-number.result ≡ convert_of Char Char c.args.byte = c.convert-number.ensures.exact ∙ ap (convert_of Char Char) c.from.ensures in
    subst (λ n. Makes rows c.converted_from.result (terms.converted c.args.ty (record { first = c.args.line; value = terms.number_value c.args.line Char n }))) number
    (c.converted_from.ensures rows (record { first = c.args.line; value = terms.number_value c.args.line Char c.convert-number.result })
    (record { first = refl; typed = c.in_ok-typed.ensures rows }) refl)
