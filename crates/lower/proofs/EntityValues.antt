-- What names of static objects and functions stand for in a typed program.
use Rattle.std.proofs.Common.{◌≡◌, ◌∙◌, ℕ, ◌*◌, List, Bor, refl, sym, ap, arith, Option, Some, None}
use Rattle.std.specs.Prelude.{slice_get}
use Rattle.std.specs.Slice.{IsItemAt}
use Rattle.std.specs.Option.{option_copied}
use Rattle.std.proofs.lemmas.Option.{slice_get_past, slice_get-get_or}
use Rattle.c_typed.specs.declared.program.Numbered.TheVariants as numbered
use Rattle.c_typed.specs.declared.program.TypedProgram.{TypedProgram}
use Rattle.c_typed.specs.StatementViews.{program_view}
use Rattle.source_meaning.specs.Places.{value_of_entity}

-- what is lent of a list
pub lent_value : {A : Type 0} (xs : List A) (i : ℕ) (r : Option (Bor A)) → IsItemAt xs i r → option_copied r ≡ slice_get xs i
lent_value xs i None h = sym (slice_get_past xs i h.3)
lent_value xs i (Some x) h = ap Some (h.3.1 x.now) ∙ sym (slice_get-get_or xs i x.now h.3.0)

pub value_of_function : (p : TypedProgram) (n k : ℕ) → slice_get p.entities n ≡ Some (numbered.Function k) → k ≡ value_of_entity (program_view p) n
unfolding program_view
value_of_function p n k h = rw h refl

pub value_of_object : (p : TypedProgram) (n k : ℕ) → slice_get p.entities n ≡ Some (numbered.Object k) → k * 65536 ≡ value_of_entity (program_view p) n
unfolding program_view
value_of_object p n k h = rw h (omega arith)

pub value_of_nowhere : (p : TypedProgram) (n : ℕ) → slice_get p.entities n ≡ Some numbered.Nowhere → 0 ≡ value_of_entity (program_view p) n
unfolding program_view
value_of_nowhere p n h = rw h refl

pub value_of_nothing : (p : TypedProgram) (n : ℕ) → slice_get p.entities n ≡ None → 0 ≡ value_of_entity (program_view p) n
unfolding program_view
value_of_nothing p n h = rw h refl
