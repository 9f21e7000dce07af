use Rattle.std.proofs.Common.{◌+◌, take, get_or, refl, sym, subst, arith}
use Rattle.std.proofs.lemmas.List.{take_all}
use Rattle.c_declarations.proofs.Texts.{AddedBytes, no-bytes, one-byte-on}
use Rattle.c_declarations.proofs.text.add_bytes.Goals as goal

pub loop-byte-init : goal.loop-byte-init
loop-byte-init c rows i e = no-bytes c.args.line c.args.ty rows c.args.cells.now.items c.args.first i e

pub loop-byte-preserved : goal.loop-byte-preserved
loop-byte-preserved c rows i e =
    let k = c.loop-byte.byte-index in
    let bytes = c.args.bytes.now in
    subst (λ next. AddedBytes c.args.line c.args.ty rows c.args.cells.now.items c.add_byte.new.cells.items next i (take (k + 1) bytes)) (sym c.saturating_add-index.ensures)
    (one-byte-on c.args.line c.args.ty rows c.args.cells.now.items c.loop-byte.cells.items c.add_byte.new.cells.items c.loop-byte.index i bytes k (get_or bytes k 0) (omega arith) refl
    (c.loop-byte.invariant rows i e) (λ j same. c.in-Ok.ensures.added rows j same))

pub returns-clause-added : goal.returns-clause-added
returns-clause-added c rows i e =
    subst (AddedBytes c.args.line c.args.ty rows c.args.cells.now.items c.loop-byte.cells.items c.loop-byte.index i) (take_all c.loop-byte.byte-index c.args.bytes.now (omega arith))
    (c.loop-byte.invariant rows i e)
