use Rattle.std.proofs.Common.{◌≡◌, map, take}
use Rattle.srmt_base.specs.declared.ty.Ty.TheVariants.{Char, UChar}
use Rattle.srmt_base.specs.Convert.{convert_of}
use Rattle.lower.proofs.statics.characters.Given as goal

abbrev pub invariant-loop-byte : goal.invariant-loop-byte
invariant-loop-byte l = l.values.items ≡ map (convert_of UChar Char) (take l.byte-index l.bytes)
