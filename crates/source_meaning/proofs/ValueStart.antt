-- A run starts with numbers of 44 bits.
use Rattle.std.proofs.Common.{ℕ, ◌+◌, ◌-◌, List, [], ◌∷◌, ◌++◌, length, arith}
use Rattle.std.specs.Prelude.{map, replicate, slice_set}
use Rattle.srmt_base.specs.declared.limits.Limits.{Limits}
use Rattle.srmt_base.specs.declared.part.Part.{Part}
use Rattle.srmt_base.specs.declared.part.Part.TheVariants.{Protected, Binary}
use Rattle.srmt_base.specs.declared.statics.Static.{Static as StartingObject}
use Rattle.srmt_base.specs.declared.ty.Ty.TheVariants.{Char, UChar}
use Rattle.srmt_base.specs.Convert.{convert_of}
use Rattle.srmt_base.specs.Memory.{first_number}
use Rattle.srmt_base.specs.Statics.{static_objects}
use Rattle.srmt_base.proofs.Ranges.{convert_of-lt}
use Rattle.c_types.specs.Types.{cells_of}
use Rattle.c_typed.specs.declared.program.StartCell.{StartCell}
use Rattle.c_typed.specs.declared.program.TextObject.{TextObject}
use Rattle.c_typed.specs.Statements.{Program, Static}
use Rattle.source_meaning.specs.Start.{start_value, with_given, object_of_static, object_of_text}
use Rattle.source_meaning.specs.Values.{AreValues, HoldValues, CellsStart, StaticsStart, StartsWithValues}
use Rattle.source_meaning.proofs.ValueLemmas.{zeros_small, set_small}

joined_small : (xs ys : List ℕ) → AreValues xs → AreValues ys → AreValues (xs ++ ys)
joined_small [] ys h k = k
joined_small (x ∷ xs) ys h k = (h.0, joined_small xs ys h.1 k)

given_small : (program : Program) (part : Part) (cells : List StartCell) (xs : List ℕ) → CellsStart program part cells → AreValues xs
    → AreValues (with_given program part cells xs)
given_small program part [] xs h k = k
given_small program part (c ∷ rest) xs h k =
    given_small program part rest (slice_set xs c.index (start_value program part c.start)) h.1 (set_small xs c.index (start_value program part c.start) k h.0)

bytes_small : (bytes : List ℕ) → AreValues (map (convert_of UChar Char) bytes)
bytes_small [] = tt
bytes_small (byte ∷ rest) = (omega (arith, convert_of-lt UChar Char byte), bytes_small rest)

AllSmall : List StartingObject → Type 0
AllSmall [] = Unit {0}
AllSmall (o ∷ os) = AreValues o.values × AllSmall os

texts_small : (texts : List TextObject) → AllSmall (map object_of_text texts)
unfolding AllSmall
texts_small [] = tt
texts_small (t ∷ rest) = (bytes_small t.bytes, texts_small rest)

statics_small : (program : Program) (part : Part) (statics : List Static) (others : List StartingObject) → StaticsStart program part statics
    → AllSmall others → AllSmall (map (object_of_static program part) statics ++ others)
unfolding AllSmall
statics_small program part [] others h k = k
statics_small program part (o ∷ rest) others h k = (
  given_small program part o.cells (replicate (cells_of o.type.type) 0) h.0 (zeros_small (cells_of o.type.type)),
  statics_small program part rest others h.1 k,
)

objects_hold : (n : ℕ) (os : List StartingObject) → AllSmall os → HoldValues (static_objects n os)
unfolding AllSmall
objects_hold n [] h = tt
objects_hold n (o ∷ os) h =
    (joined_small o.values (replicate (o.cells - length o.values) 0) h.0 (zeros_small (o.cells - length o.values)), objects_hold (n + 1) os h.1)

pub starts_with_values : (program : Program) (input : List ℕ) (limits : Limits) → StartsWithValues program input limits
starts_with_values program input limits h k small =
    record {
      protected = objects_hold (first_number Protected) _ (statics_small program Protected program.main_file.statics _ h (texts_small program.main_file.texts));
      binary = objects_hold (first_number Binary) _ (statics_small program Binary program.binary_file.statics _ k (texts_small program.binary_file.texts));
      input = small;
      locals = tt;
    }
