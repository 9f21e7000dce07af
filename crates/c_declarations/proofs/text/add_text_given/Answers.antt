use Rattle.std.proofs.Common.{ap, ◌∙◌, subst}
use Rattle.c_types.specs.Types.{ty_of}
use Rattle.c_types.specs.Table.{type_at}
use Rattle.c_types.proofs.Grown.{Extends-refl}
use Rattle.typing_rules.specs.DeclarationRules.{text_for}
use Rattle.typing_rules.specs.SourceViews.{expr_view}
use Rattle.typing_rules.specs.OrderedDeclarations.{text_given}
use Rattle.c_known.specs.Views.{line_in}
use Rattle.c_declarations.specs.Cells.{Adds, fitting_text}
use Rattle.c_declarations.proofs.text.add_text_given.Goals as goal

pub returns-in-None : goal.returns-in-None
returns-in-None c t i h e =
    let s = c.args.known.now in
    let cells = c.args.cells.now.items in
    let x = expr_view (line_in c.args.object.file) c.args.e.now in
    let is = c.in-None.ensures (line_in c.args.object.file) ∙ ap (λ u. text_for u x) (h.always s.types (Extends-refl s.types)) in
    subst (λ o. Adds cells cells s c.misshapen_value.new.known c.misshapen_value.result (text_given c.args.object.at t c.args.elements.length i x o)) is
    (c.misshapen_value.ensures cells cells)

pub returns-in-Some : goal.returns-in-Some
returns-in-Some c t i h e =
    let s = c.args.known.now in
    let before = c.args.cells.now.items in
    let after = c.add_fitting.new.cells.items in
    let r = c.add_fitting.result in
    let x = expr_view (line_in c.args.object.file) c.args.e.now in
    let type = h.always s.types (Extends-refl s.types) in
    let is = c.in-Some.ensures (line_in c.args.object.file) ∙ ap (λ u. text_for u x) type in
    subst (λ o. Adds before after s s r (text_given c.args.object.at t c.args.elements.length i x o)) is
    (subst (λ u. Adds before after s s r (fitting_text c.args.object.at (ty_of u) c.args.elements.length i (record { line = line_in c.args.object.file c.args.e.now.line; bytes = c.in-Some.bytes.now }))) type
    (subst (λ line. Adds before after s s r (fitting_text c.args.object.at (ty_of (type_at s.types c.args.elements.ty)) c.args.elements.length i (record { line = line; bytes = c.in-Some.bytes.now }))) c.line_in.ensures
    (c.add_fitting.ensures i e)))
