-- The numbers of functions, objects and texts of a typed program.
use Rattle.std.proofs.Common.{◌≡◌, ◌∙◌, ℕ, length, refl, sym, ap, Some, None}
use Rattle.std.specs.Prelude.{slice_get}
use Rattle.std.proofs.lemmas.List.{length-map}
use Rattle.c_types.specs.declared.type_ref.TypeRef.{TypeRef}
use Rattle.c_types.specs.Types.{CType}
use Rattle.c_typed.specs.declared.program.Numbered.TheVariants as numbered
use Rattle.c_typed.specs.declared.program.TypedFile.{TypedFile as CodeFile}
use Rattle.c_typed.specs.declared.program.TypedProgram.{TypedProgram}
use Rattle.c_typed.specs.Statements.{TypedFile}
use Rattle.c_typed.specs.StatementViews.{static_view, file_view, program_view}
use Rattle.lower.specs.Expressions.{number_of}

pub number_of_function : (p : TypedProgram) (n k : ℕ) → slice_get p.entities n ≡ Some (numbered.Function k) → k ≡ number_of (program_view p) n
unfolding program_view
number_of_function p n k h = rw h refl

pub number_of_object : (p : TypedProgram) (n k : ℕ) → slice_get p.entities n ≡ Some (numbered.Object k) → k ≡ number_of (program_view p) n
unfolding program_view
number_of_object p n k h = rw h refl

pub number_of_nowhere : (p : TypedProgram) (n : ℕ) → slice_get p.entities n ≡ Some numbered.Nowhere → 0 ≡ number_of (program_view p) n
unfolding program_view
number_of_nowhere p n h = rw h refl

pub number_of_nothing : (p : TypedProgram) (n : ℕ) → slice_get p.entities n ≡ None → 0 ≡ number_of (program_view p) n
unfolding program_view
number_of_nothing p n h = rw h refl

-- the view of a file has as many static objects
pub statics_counted : (types : TypeRef → CType) (f : CodeFile) (g : TypedFile) → file_view types f ≡ g → length f.statics ≡ length g.statics
unfolding file_view
statics_counted types f g is = sym (length-map f.statics (static_view types)) ∙ ap (λ (x : TypedFile). length x.statics) is
