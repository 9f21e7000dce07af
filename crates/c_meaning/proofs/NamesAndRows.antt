-- What names stand for in a typed program, and the rows of the locals of a function.
use Rattle.std.proofs.Common.{◌≡◌, ◌∙◌, ℕ, zero, suc, ◌+◌, ◌*◌, ◌≤◌, List, [], ◌∷◌, map, length, get_or, Bor, refl, sym, ap, arith, Option, Some, None, slice_index_or}
use Rattle.std.specs.Prelude.{slice_get, unwrap_or}
use Rattle.std.specs.Slice.{IsItemAt}
use Rattle.std.specs.Option.{option_copied}
use Rattle.std.proofs.lemmas.Option.{unwrap_or-slice_get, slice_get_past, slice_get-get_or}
use Rattle.std.proofs.lemmas.List.{length-map}
use Rattle.srmt_base.specs.declared.part.Part.{Part}
use Rattle.srmt_base.specs.declared.part.Part.TheVariants.{Protected, Binary}
use Rattle.srmt_base.specs.Memory.{first_number}
use Rattle.mid_code.specs.Fits.{IsValue}
use Rattle.c_types.specs.declared.type_ref.TypeRef.{TypeRef}
use Rattle.c_types.specs.Types.{CType}
use Rattle.c_typed.specs.declared.program.LocalRow.{LocalRow as CodeLocalRow}
use Rattle.c_typed.specs.declared.program.Numbered.TheVariants as numbered
use Rattle.c_typed.specs.declared.program.TypedFile.{TypedFile as CodeFile}
use Rattle.c_typed.specs.declared.program.TypedProgram.{TypedProgram}
use Rattle.c_typed.specs.Statements.{TypedFile}
use Rattle.c_typed.specs.StatementViews.{row_view, static_view, file_view, program_view}
use Rattle.source_meaning.specs.Places.{value_of_entity, address_of_text, file_of}
use Rattle.source_meaning.specs.Sound.{CanRun}

-- what is lent of a list
pub lent_is : {A : Type 0} (xs : List A) (i : ℕ) (r : Option (Bor A)) → IsItemAt xs i r → option_copied r ≡ slice_get xs i
lent_is xs i None h = sym (slice_get_past xs i h.3)
lent_is xs i (Some x) h = ap Some (h.3.1 x.now) ∙ sym (slice_get-get_or xs i x.now h.3.0)

pub row_found : (types : TypeRef → CType) (rows : List CodeLocalRow) (n : ℕ) (d : CodeLocalRow)
    → row_view types (get_or rows n d) ≡ slice_index_or (map (row_view types) rows) n (row_view types d)
row_found types [] n d = refl
row_found types (x ∷ rows) zero d = refl
row_found types (x ∷ rows) (suc n) d = row_found types rows n d

pub row_or : (types : TypeRef → CType) (rows : List CodeLocalRow) (n : ℕ) (d r : CodeLocalRow)
    → r ≡ unwrap_or (slice_get rows n) d → row_view types r ≡ slice_index_or (map (row_view types) rows) n (row_view types d)
row_or types rows n d r is = ap (row_view types) (is ∙ unwrap_or-slice_get rows n d) ∙ row_found types rows n d

pub of_function : (p : TypedProgram) (n k : ℕ) → slice_get p.entities n ≡ Some (numbered.Function k) → k ≡ value_of_entity (program_view p) n
unfolding program_view
of_function p n k h = rw h refl

pub of_object : (p : TypedProgram) (n k : ℕ) → slice_get p.entities n ≡ Some (numbered.Object k) → k * 65536 ≡ value_of_entity (program_view p) n
unfolding program_view
of_object p n k h = rw h (omega arith)

pub of_nowhere : (p : TypedProgram) (n : ℕ) → slice_get p.entities n ≡ Some numbered.Nowhere → 0 ≡ value_of_entity (program_view p) n
unfolding program_view
of_nowhere p n h = rw h refl

pub of_nothing : (p : TypedProgram) (n : ℕ) → slice_get p.entities n ≡ None → 0 ≡ value_of_entity (program_view p) n
unfolding program_view
of_nothing p n h = rw h refl

pub statics_counted : (types : TypeRef → CType) (f : CodeFile) (g : TypedFile) → file_view types f ≡ g → length f.statics ≡ length g.statics
unfolding file_view
statics_counted types f g is = sym (length-map f.statics (static_view types)) ∙ ap (λ (x : TypedFile). length x.statics) is

-- the address of a text is a value
text_bound : (part : Part) (p : TypedProgram) (count : ℕ) → CanRun (program_view p) → count ≡ length (file_of part (program_view p)).statics
    → first_number part + count ≤ 135266304
text_bound Protected p count can is = let few : length (file_of Protected (program_view p)).statics ≤ 1048576 = can.values.names.main_statics in omega arith
text_bound Binary p count can is = let few : length (file_of Binary (program_view p)).statics ≤ 1048576 = can.values.names.binary_statics in omega arith

pub text_is_value : (part : Part) (p : TypedProgram) (n : ℕ) → CanRun (program_view p) → n ≤ 1048576 → IsValue (address_of_text part (program_view p) n)
text_is_value part p n can few =
    let low = text_bound part p (length (file_of part (program_view p)).statics) can refl in
    omega arith
