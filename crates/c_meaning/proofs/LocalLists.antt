-- Lists of locals that begin and end, one part after the other.
use Rattle.std.proofs.Common.{◌≡◌, ◌∙◌, ℕ, List, [], ◌∷◌, ◌++◌, map, refl, sym, ap, subst}
use Rattle.std.proofs.lemmas.List.{append-nil, append_assoc}
use Rattle.c_types.specs.declared.type_ref.TypeRef.{TypeRef}
use Rattle.c_types.specs.Types.{CType}
use Rattle.c_typed.specs.declared.statement.LocalItem.{LocalItem as CodeLocalItem}
use Rattle.c_typed.specs.declared.statement.BlockItem as code_block_item
use Rattle.c_typed.specs.declared.statement.BlockItem.{BlockItem-F}
use Rattle.c_typed.specs.declared.statement.BlockItem.TheVariants as bi
use Rattle.c_typed.specs.declared.statement.Stmt as code_stmt
use Rattle.c_typed.specs.Statements.{Stmt, Items, no_items}
use Rattle.c_typed.specs.StatementViews.{BlockView, local_item_view, block_item_view, block_item_from, stmt_node_from, block_from, stmt_from}
use Rattle.c_typed.proofs.StatementViewLaws.{view_declaration, view_statement}
use Rattle.source_meaning.specs.World.{World, Outcome, Gives, Ends, and_then, ◌>>◌, pure}
use Rattle.source_meaning.specs.Places.{Setting, all_begin, all_end}
use Rattle.source_meaning.specs.Statements.{locals_of, numbers_of}
use Rattle.source_meaning.proofs.Associates.{then_then, then_same}
use Rattle.c_meaning.specs.Lifetimes.{begins, ends}
use Rattle.c_meaning.specs.TaskViews.{items_view}

then_nothing : (o : Outcome (Unit {0})) → o ≡ and_then o (λ done. pure tt)
then_nothing (Gives done w) = refl
then_nothing (Ends end events) = refl

pub all_begin_both : (s : Setting) (xs ys : List ℕ) (w : World) → all_begin s (xs ++ ys) w ≡ (all_begin s xs >> all_begin s ys) w
all_begin_both s [] ys w = refl
all_begin_both s (n ∷ xs) ys w =
    then_same (begins s n) (λ done. all_begin s (xs ++ ys)) (λ done. all_begin s xs >> all_begin s ys) (λ done v. all_begin_both s xs ys v) w
    ∙ sym (then_then (begins s n) (λ done. all_begin s xs) (λ done. all_begin s ys) w)

pub all_end_both : (s : Setting) (xs ys : List ℕ) (w : World) → all_end s (xs ++ ys) w ≡ (all_end s ys >> all_end s xs) w
all_end_both s [] ys w = then_nothing (all_end s ys w)
all_end_both s (n ∷ xs) ys w =
    ap (λ (o : Outcome (Unit {0})). and_then o (λ done. ends s n)) (all_end_both s xs ys w)
    ∙ then_then (all_end s ys) (λ done. all_end s xs) (λ done. ends s n) w

module _ (types : TypeRef → CType) where
  -- the numbers of the locals of a declaration, and of one item of a block
  abbrev pub numbers : List CodeLocalItem → List ℕ
  numbers locals = numbers_of (map (local_item_view types) locals)

  abbrev pub item_numbers : code_block_item.BlockItem → List ℕ
  item_numbers item = locals_of (block_item_view types item no_items)

  pub numbers_both : (xs ys : List CodeLocalItem) → numbers (xs ++ ys) ≡ numbers xs ++ numbers ys
  numbers_both [] ys = refl
  numbers_both (x ∷ xs) ys = ap (λ ns. x.number ∷ ns) (numbers_both xs ys)

  item_made : (y : BlockItem-F (Items → Items) (ℕ → Stmt) BlockView Stmt) (rest : Items)
      → locals_of (block_item_from types y rest) ≡ locals_of (block_item_from types y no_items) ++ locals_of rest
  item_made (BlockItem-F.Declaration xs) rest = ap (λ ns. ns ++ locals_of rest) (sym (append-nil (numbers xs)))
  item_made (BlockItem-F.Statement s) rest = refl

  pub item_first : (item : code_block_item.BlockItem) (rest : Items)
      → locals_of (block_item_view types item rest) ≡ item_numbers item ++ locals_of rest
  unfolding block_item_view
  item_first item rest =
      subst (λ (g : Items → Items). locals_of (g rest) ≡ locals_of (g no_items) ++ locals_of rest)
      (sym (code_block_item.fold_out-BlockItem (Items → Items) (ℕ → Stmt) BlockView Stmt (block_item_from types) (stmt_node_from types) (block_from types)
      (stmt_from types) item))
      (item_made _ rest)

  pub items_both : (xs ys : List code_block_item.BlockItem)
      → locals_of (items_view types (xs ++ ys)) ≡ locals_of (items_view types xs) ++ locals_of (items_view types ys)
  items_both [] ys = refl
  items_both (x ∷ xs) ys =
      item_first x (items_view types (xs ++ ys))
      ∙ ap (λ ns. item_numbers x ++ ns) (items_both xs ys)
      ∙ sym (append_assoc (item_numbers x) (locals_of (items_view types xs)) (locals_of (items_view types ys)))
      ∙ ap (λ ns. ns ++ locals_of (items_view types ys)) (sym (item_first x (items_view types xs)))

  pub of_declaration : (item : code_block_item.BlockItem) (locals : List CodeLocalItem) → item ≡ bi.Declaration locals → item_numbers item ≡ numbers locals
  of_declaration item locals is =
      ap (λ x. locals_of (block_item_view types x no_items)) is ∙ ap locals_of (view_declaration types locals no_items) ∙ append-nil (numbers locals)

  pub of_statement : (item : code_block_item.BlockItem) (s : code_stmt.Stmt) → item ≡ bi.Statement s → item_numbers item ≡ []
  of_statement item s is =
      ap (λ x. locals_of (block_item_view types x no_items)) is ∙ ap locals_of (view_statement types s no_items)
