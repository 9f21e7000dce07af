use Rattle.std.proofs.Common.{◌≡◌, ℕ, List, map, false, Ok, Err, refl, subst}
use Rattle.c_tree.specs.declared.specifier.Specifier.{Specifier}
use Rattle.c_tree.specs.declared.declaration.Declaration as tree_declaration
use Rattle.c_tree.specs.declared.declaration.Item as tree_item
use Rattle.typing_rules.specs.SourceViews.{declaration_view, specifiers_view, item_view}
use Rattle.typing_rules.specs.OrderedParts.{specified}
use Rattle.typing_rules.specs.OrderedDeclarations.{declared_in_block, items_in_block}
use Rattle.c_typed.specs.declared.statement.LocalItem as code_item
use Rattle.c_known.specs.Views.{line_in}
use Rattle.c_known.specs.Gives.{Gives}
use Rattle.c_known.proofs.Binding.{bind, told, answers-give}
use Rattle.c_declarators.specs.Specifiers.{MeansSpecified}
use Rattle.c_declarations.specs.Parts.{AreLocalItems}
use Rattle.c_declarations.proofs.block.declared_in_block.Goals as goal

declaration-is : (shift : ℕ → ℕ) (d : tree_declaration.Declaration)
    → record { specifiers = specifiers_view shift d.line d.specifiers; items = map (item_view shift) d.items } ≡ declaration_view shift d
unfolding declaration_view
declaration-is shift d = refl

pub returns-in-Ok : goal.returns-in-Ok
returns-in-Ok c =
    let shift = line_in c.args.file in
    let d = c.args.d.now in
    let s = c.args.known.now in
    let said = subst (λ (ws : List Specifier). Gives MeansSpecified s s (Ok c.in-Ok.said) (specified false (specifiers_view shift d.line ws))) c.as_slice.ensures
    (answers-give MeansSpecified s (Ok c.in-Ok.said) (specified false (specifiers_view shift d.line c.as_slice.result.now)) (c.in-Ok.ensures s.types)) in
    subst (λ x. Gives AreLocalItems s c.items_in_block.new.known c.items_in_block.result (declared_in_block x)) (declaration-is shift d)
    (bind MeansSpecified AreLocalItems s s c.items_in_block.new.known c.in-Ok.said c.items_in_block.result (specified false (specifiers_view shift d.line d.specifiers))
    (λ base. items_in_block base.type (shift d.line) (map (item_view shift) d.items)) said
    (λ base more means. subst (λ (xs : List tree_item.Item). Gives AreLocalItems s c.items_in_block.new.known c.items_in_block.result (items_in_block base.type (shift d.line) (map (item_view shift) xs)))
    c.as_slice-in-Ok.ensures (c.items_in_block.ensures base.type means.type)))

pub returns-in-Err : goal.returns-in-Err
returns-in-Err c =
    let shift = line_in c.args.file in
    let d = c.args.d.now in
    let s = c.args.known.now in
    let said = subst (λ (ws : List Specifier). Gives MeansSpecified s s (Err c.in-Err.refusal) (specified false (specifiers_view shift d.line ws))) c.as_slice.ensures
    (answers-give MeansSpecified s (Err c.in-Err.refusal) (specified false (specifiers_view shift d.line c.as_slice.result.now)) (c.in-Err.ensures s.types)) in
    subst (λ x. Gives {X = List code_item.LocalItem} AreLocalItems s s (Err c.in-Err.refusal) (declared_in_block x)) (declaration-is shift d)
    (told MeansSpecified AreLocalItems s s s c.in-Err.refusal (specified false (specifiers_view shift d.line d.specifiers))
    (λ base. items_in_block base.type (shift d.line) (map (item_view shift) d.items)) said)
