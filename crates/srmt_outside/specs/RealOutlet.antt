-- What the adapter of the outlet writes for an event.
use Rattle.std.specs.Prelude.{ℕ, List, [], ◌∷◌, ◌++◌, codes, decimal}
use Rattle.srmt_base.specs.declared.event.Event.{Event}
use Rattle.srmt_base.specs.declared.event.Event.TheVariants.{Byte, PortRead, PortWrite, Exit}

-- to the output: the byte itself
abbrev pub output_of : Event → List ℕ
output_of (Byte byte) = byte ∷ []
output_of (PortRead _ _) = []
output_of (PortWrite _ _ _) = []
output_of (Exit _) = []

-- beside it: a line for an access of a port
abbrev pub line_of : Event → List ℕ
line_of (Byte _) = []
line_of (PortRead object offset) = codes "read " ++ decimal object ++ codes " " ++ decimal offset ++ codes "\n"
line_of (PortWrite object offset value) =
    codes "write " ++ decimal object ++ codes " " ++ decimal offset ++ codes " " ++ decimal value ++ codes "\n"
line_of (Exit _) = []
