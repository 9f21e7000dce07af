use Rattle.std.proofs.Common.{refl, subst, IfSome}
use Rattle.c_types.specs.Types.{unqualified}
use Rattle.c_types.specs.Table.{type_at, Stands}
use Rattle.c_typed.specs.Typed as tree
use Rattle.c_typed.proofs.ViewLaws.{view_text}
use Rattle.c_values.proofs.objects.text_of.Goals as goal

pub returns-in-Some : goal.returns-in-Some
returns-in-Some c rows t stands =
    c.object.ensures rows (tree.text c.args.number) (unqualified t)
    (record { qualifiers = refl; type = subst (λ o. IfSome o (λ r. Stands rows r t)) c.in-Some.is stands })
    (record { always = λ later more. view_text (type_at later) c.args.number })
