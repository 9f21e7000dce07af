-- A function by its number, and what its view is.
use Rattle.std.proofs.Common.{◌≡◌, ℕ, zero, suc, ◌+◌, ◌<◌, ◌≤◌, true, false, List, [], ◌∷◌, ◌++◌, length, map, refl, sym, ap, ◌∙◌, arith}
use Rattle.std.proofs.lemmas.List.{length-map}
use Rattle.std.proofs.lemmas.Bool.Decides.{nat_tests}
use Rattle.std.specs.Prelude.{slice_get, nat_le, option_map}
use Rattle.srmt_base.specs.declared.part.Part.TheVariants.{Protected, Binary}
use Rattle.srmt_base.specs.Memory.{part_if}
use Rattle.c_types.specs.declared.type_ref.TypeRef.{TypeRef}
use Rattle.c_types.specs.Types.{CType}
use Rattle.c_types.specs.Table.{type_at}
use Rattle.c_typed.specs.declared.program.Function.{Function as CodeFunction}
use Rattle.c_typed.specs.declared.program.TypedProgram.{TypedProgram}
use Rattle.c_typed.specs.declared.statement.Block as code_block
use Rattle.c_typed.specs.StatementViews.{block_view, file_view, function_view, program_view}
use Rattle.c_typed.proofs.StatementViewLaws.{view_items}
use Rattle.source_meaning.specs.Places.{function_at, part_of_function}
use Rattle.c_meaning.specs.TaskViews.{items_view}

get_before : {X Y : Type 0} (f : X → Y) (xs ys : List X) (n : ℕ) → n < length xs → slice_get (map f xs ++ map f ys) n ≡ option_map f (slice_get xs n)
get_before f [] ys n low = absurd (omega arith)
get_before f (x ∷ xs) ys zero low = refl
get_before f (x ∷ xs) ys (suc n) low = get_before f xs ys n (omega arith)

get_map : {X Y : Type 0} (f : X → Y) (xs : List X) (n : ℕ) → slice_get (map f xs) n ≡ option_map f (slice_get xs n)
get_map f [] n = refl
get_map f (x ∷ xs) zero = refl
get_map f (x ∷ xs) (suc n) = get_map f xs n

get_after : {X Y : Type 0} (f : X → Y) (xs ys : List X) (n k : ℕ) → n ≡ length xs + k → slice_get (map f xs ++ map f ys) n ≡ option_map f (slice_get ys k)
get_after f [] ys n k is =
    let now : n ≡ k = omega arith in
    ap (slice_get (map f ys)) now ∙ get_map f ys k
get_after f (x ∷ xs) ys zero k is = absurd (omega arith)
get_after f (x ∷ xs) ys (suc n) k is = get_after f xs ys n k (omega arith)

module _ (p : TypedProgram) where
  abbrev types : TypeRef → CType
  types = type_at p.types

  -- the functions of the main file have the first numbers
  pub first_function : (number before : ℕ) → number ≡ suc before → before < length p.main_file.functions
      → function_at (program_view p) number ≡ option_map (function_view types) (slice_get p.main_file.functions before)
  unfolding program_view file_view
  first_function number before is low =
      ap (function_at (program_view p)) is ∙ get_before (function_view types) p.main_file.functions p.binary_file.functions before low

  pub first_part : (number before : ℕ) → number ≡ suc before → before < length p.main_file.functions
      → Protected ≡ part_of_function (program_view p) number
  unfolding program_view file_view
  first_part number before is low =
      let low-now : number ≤ length (map (function_view types) p.main_file.functions) = rw length-map (omega arith) in
      let test : true ≡ nat_le number (length (map (function_view types) p.main_file.functions)) = grind (arith, nat_tests) in
      ap part_if test

  pub second_function : (number before after : ℕ) → number ≡ suc before → before ≡ length p.main_file.functions + after
      → function_at (program_view p) number ≡ option_map (function_view types) (slice_get p.binary_file.functions after)
  unfolding program_view file_view
  second_function number before after is high =
      ap (function_at (program_view p)) is ∙ get_after (function_view types) p.main_file.functions p.binary_file.functions before after high

  pub second_part : (number before : ℕ) → number ≡ suc before → length p.main_file.functions ≤ before
      → Binary ≡ part_of_function (program_view p) number
  unfolding program_view file_view
  second_part number before is high =
      let high-now : length (map (function_view types) p.main_file.functions) < number = rw length-map (omega arith) in
      let test : false ≡ nat_le number (length (map (function_view types) p.main_file.functions)) = grind (arith, nat_tests) in
      ap part_if test

module _ (types : TypeRef → CType) where
  block_items : (b : code_block.Block) → items_view types b.items ≡ (block_view types b).items
  block_items b =
      sym (ap (λ (x : code_block.Block). (block_view types x).items) (sym (code_block.rolls-Block' (record { line = b.line; items = b.items; end = b.end })))
      ∙ ap (λ v. v.items) (view_items types b.line b.items b.end))

  -- the body of a function, as its items are
  pub body_items : (f : CodeFunction) → items_view types f.body.items ≡ (function_view types f).body
  unfolding function_view
  body_items f = block_items f.body

  pub view_parameters : (f : CodeFunction) → (function_view types f).parameters ≡ f.parameters
  unfolding function_view
  view_parameters f = refl

  pub view_line : (f : CodeFunction) → (function_view types f).line ≡ f.line
  unfolding function_view
  view_line f = refl

  pub view_locals : (f : CodeFunction) → length (function_view types f).locals ≡ length f.locals
  unfolding function_view
  view_locals f = length-map _ _
