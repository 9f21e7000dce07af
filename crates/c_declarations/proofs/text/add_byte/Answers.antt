use Rattle.std.proofs.Common.{◌∷◌, []}
use Rattle.typing_rules.specs.UnitRules.{nothing_known}
use Rattle.typing_rules.specs.DeclarationRules.{byte_value}
use Rattle.c_declarations.specs.Cells.{Added}
use Rattle.c_declarations.proofs.Counted.{added-one, boxed-means}
use Rattle.c_declarations.proofs.Texts.{on-ok}
use Rattle.c_declarations.proofs.text.add_byte.Goals as goal

pub returns-in-Ok-clause-added : goal.returns-in-Ok-clause-added
returns-in-Ok-clause-added c rows i e =
    let means = (c.in-Ok.ensures rows nothing_known).0 in
    let one = byte_value c.args.line c.args.ty c.args.byte in
    on-ok c.add_cell.result _ (λ x. Added c.args.cells.now.items c.add_cell.new.cells.items rows x (record { index = i; value = one } ∷ [])) c.add_cell.ensures.added
    (λ is x. added-one c.args.cells.now.items c.add_cell.new.cells.items rows x c.args.index i c.into_inner.result one is e (boxed-means rows c.in-Ok.value.value c.into_inner.result one c.into_inner.ensures means.value))
