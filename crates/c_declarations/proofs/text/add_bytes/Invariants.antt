use Rattle.std.proofs.Common.{◌≡◌, ℕ, List, take}
use Rattle.c_types.specs.declared.type_ref.Row.{Row}
use Rattle.c_declarations.specs.Cells.{counted}
use Rattle.c_declarations.proofs.Texts.{AddedBytes}
use Rattle.c_declarations.proofs.text.add_bytes.Given as goal

-- the bytes so far were added
abbrev pub invariant-loop-byte : goal.invariant-loop-byte
invariant-loop-byte l =
    (rows : List Row) (i : ℕ) → l.fn.first ≡ counted i → AddedBytes l.line l.ty rows l.initial.cells.items l.cells.items l.index i (take l.byte-index l.bytes)
