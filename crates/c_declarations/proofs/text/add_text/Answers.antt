use Rattle.std.proofs.Common.{◌+◌, [], ◌∷◌, length}
use Rattle.std.proofs.lemmas.Result.{IfOk-weaker}
use Rattle.typing_rules.specs.DeclarationRules.{byte_cells, text_cells}
use Rattle.c_declarations.specs.Cells.{Added}
use Rattle.c_declarations.proofs.Texts.{full-text, ended-text}
use Rattle.c_declarations.proofs.text.add_text.Goals as goal

pub returns-then-is_full-clause-added : goal.returns-then-is_full-clause-added
returns-then-is_full-clause-added c rows i e =
    full-text c.args.line c.args.ty rows c.args.cells.now.items c.add_bytes.new.cells.items c.in-Ok.behind i c.args.bytes.now c.args.elements.length c.is_full.result
    c.is_full.ensures c.if-is_full.true (c.in-Ok.ensures.added rows i e)

pub returns-else-is_full-clause-added : goal.returns-else-is_full-clause-added
returns-else-is_full-clause-added c rows i e =
    let h = c.in-Ok.ensures.added rows i e in
    IfOk-weaker c.add_byte.result (λ x. Added c.add_bytes.new.cells.items c.add_byte.new.cells.items rows x (byte_cells c.args.line c.args.ty (i + length c.args.bytes.now) (0 ∷ [])))
    (λ x. Added c.args.cells.now.items c.add_byte.new.cells.items rows x (byte_cells c.args.line c.args.ty i (text_cells c.args.elements.length c.args.bytes.now)))
    (λ x k. ended-text c.args.line c.args.ty rows c.args.cells.now.items c.add_bytes.new.cells.items c.add_byte.new.cells.items c.in-Ok.behind i c.args.bytes.now c.args.elements.length c.is_full.result
    c.is_full.ensures c.if-is_full.false h k)
    (c.add_byte.ensures.added rows (i + length c.args.bytes.now) h.0)
