use Rattle.std.proofs.Common.{◌≡◌, map, take, All}
use Rattle.srmt_base.specs.declared.ty.Ty.TheVariants.{Char, UChar}
use Rattle.srmt_base.specs.Convert.{convert_of}
use Rattle.mid_code.specs.Fits.{IsValue}
use Rattle.c_meaning.proofs.statics.object_of_text.Given as goal

abbrev pub invariant-loop-byte : goal.invariant-loop-byte
invariant-loop-byte l = record {
  bytes : l.values.items ≡ map (convert_of UChar Char) (take l.byte-index l.bytes);
  small : All IsValue l.values.items;
}
