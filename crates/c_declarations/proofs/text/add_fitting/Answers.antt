use Rattle.std.proofs.Common.{sym, ◌∙◌, subst}
use Rattle.srmt_base.specs.declared.ty.Ty.{Ty}
use Rattle.c_types.specs.Types.{ty_of}
use Rattle.c_types.specs.Table.{type_at}
use Rattle.typing_rules.specs.declared.refusal.TypeRefusal.TheVariants.{Mismatch}
use Rattle.typing_rules.specs.DeclarationRules.{TextAt, byte_cells, text_cells, text_fits}
use Rattle.c_declarations.specs.Cells.{Adds, fitting_text}
use Rattle.c_declarations.proofs.Texts.{needed-pure, needed-not}
use Rattle.c_declarations.proofs.text.add_fitting.Goals as goal

pub returns-then-fits : goal.returns-then-fits
returns-then-fits c i e =
    let s = c.args.known.now in
    let text : TextAt = record { line = c.args.line; bytes = c.args.bytes.now } in
    subst (λ (ty : Ty). Adds c.args.cells.now.items c.add_text.new.cells.items s s c.add_text.result (fitting_text c.args.object.at ty c.args.elements.length i text)) c.ty-ty.ensures
    (needed-pure s c.args.cells.now.items c.add_text.new.cells.items c.add_text.result (text_fits c.args.elements.length c.args.bytes.now) (Mismatch c.args.object.at 16)
    (byte_cells c.args.line c.ty-ty.result i (text_cells c.args.elements.length c.args.bytes.now)) (sym c.if-fits.true ∙ c.fits.ensures) (c.add_text.ensures.added s.types i e) c.add_text.ensures.memory)

pub returns-else-fits : goal.returns-else-fits
returns-else-fits c i e =
    let s = c.args.known.now in
    needed-not s c.args.cells.now.items c.args.cells.now.items (text_fits c.args.elements.length c.args.bytes.now) (Mismatch c.args.object.at 16)
    (byte_cells c.args.line (ty_of (type_at s.types c.args.elements.ty)) i (text_cells c.args.elements.length c.args.bytes.now)) (sym c.if-fits.false ∙ c.fits.ensures)
