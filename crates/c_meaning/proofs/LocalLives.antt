-- Locals that begin and end, one after the other, as a loop over them does it.
use Rattle.std.proofs.Common.{◌≡◌, ◌∙◌, ℕ, zero, suc, ◌+◌, ◌*◌, ◌<◌, ◌≤◌, Bool as Test, true, false, List, [], ◌∷◌, ◌++◌, length, get_or, drop, Result, Ok, Err, refl, sym, ap, subst, arith, slice_index_or, slice_set}
use Rattle.std.proofs.lemmas.Bool.{true≢false}
use Rattle.std.proofs.lemmas.List.{drop_all}
use Rattle.std.proofs.Math.Seq.{drop-cons}
use Rattle.srmt_base.specs.declared.trap.Trap.{Trap}
use Rattle.srmt_base.specs.declared.trap.SourceEnd.{SourceEnd}
use Rattle.srmt_base.specs.declared.trap.SourceEnd.TheVariants.{Trap as TrapEnd}
use Rattle.srmt_base.specs.declared.event.Event.{Event}
use Rattle.srmt_base.specs.Memory.{Memory, next_number, begin_of}
use Rattle.srmt_base.specs.Objects.{pointer_to}
use Rattle.c_types.specs.declared.type_ref.TypeRef.{TypeRef}
use Rattle.c_types.specs.Types.{CType, cells_of}
use Rattle.c_typed.specs.declared.statement.LocalItem.{LocalItem as CodeLocalItem}
use Rattle.c_typed.specs.declared.statement.BlockItem as code_block_item
use Rattle.c_typed.specs.declared.statement.BlockItem.TheVariants as bi
use Rattle.c_typed.specs.declared.statement.Stmt as code_stmt
use Rattle.c_typed.specs.Statements.{LocalRow}
use Rattle.source_meaning.specs.World.{World, Outcome, Gives, Ends, Doing, and_then, computed, becomes, either, remembers, set_local}
use Rattle.source_meaning.specs.Places.{Setting, row_of, object_begins, all_begin, all_end}
use Rattle.source_meaning.specs.Statements.{locals_of}
use Rattle.source_meaning.specs.Sound.{HasCells, EachLocalHasCells}
use Rattle.c_meaning.specs.declared.store.Stored.{Stored}
use Rattle.c_meaning.specs.declared.store.Trapped.{Trapped}
use Rattle.c_meaning.specs.Lifetimes.{begins, ends}
use Rattle.c_meaning.specs.Runs.{world_of, Changes, Leaves}
use Rattle.c_meaning.specs.TaskViews.{items_view}
use Rattle.c_meaning.proofs.LocalLists.{all_begin_both, all_end_both, numbers, item_numbers, numbers_both, item_first, items_both, of_declaration, of_statement}

-- ---- one object

pub remembers_ok : (line : ℕ) (change : Memory → Result Memory Trap) (w : World) (memory : Memory) → change w.memory ≡ Ok memory
    → remembers line change w ≡ Gives tt (record w { memory = memory })
remembers_ok line change w memory h =
    ap (λ (r : Result Memory Trap). and_then (computed line r w) (λ (m : Memory). becomes (λ w. record w { memory = m }))) h

pub remembers_err : (line : ℕ) (change : Memory → Result Memory Trap) (w : World) (trap : Trap) → change w.memory ≡ Err trap
    → remembers line change w ≡ Ends (TrapEnd trap line) w.events
remembers_err line change w trap h =
    ap (λ (r : Result Memory Trap). and_then (computed line r w) (λ (m : Memory). becomes (λ w. record w { memory = m }))) h

pub at_start : (number : ℕ) → number * 65536 ≡ pointer_to number 0
at_start number = omega arith

pub object_begun : (s : Setting) (n : ℕ) (w : World) (memory : Memory) → begin_of s.part w.memory (cells_of (row_of s n).type.type) ≡ Ok memory
    → object_begins s n w ≡ Gives tt (record w { memory = memory; locals = slice_set w.locals n (pointer_to (next_number s.part w.memory) 0) })
object_begun s n w memory h =
    ap (λ (o : Outcome (Unit {0})). and_then o (λ done. set_local n (pointer_to (next_number s.part w.memory) 0)))
    (remembers_ok (row_of s n).line (λ m. begin_of s.part m (cells_of (row_of s n).type.type)) w memory h)

pub object_refused : (s : Setting) (n : ℕ) (w : World) (trap : Trap) → begin_of s.part w.memory (cells_of (row_of s n).type.type) ≡ Err trap
    → object_begins s n w ≡ Ends (TrapEnd trap (row_of s n).line) w.events
object_refused s n w trap h =
    ap (λ (o : Outcome (Unit {0})). and_then o (λ done. set_local n (pointer_to (next_number s.part w.memory) 0)))
    (remembers_err (row_of s n).line (λ m. begin_of s.part m (cells_of (row_of s n).type.type)) w trap h)

pub row_has_cells : (rows : List LocalRow) (n : ℕ) (d : LocalRow) → EachLocalHasCells rows → d.is_placed ≡ false
    → (slice_index_or rows n d).is_placed ≡ true → HasCells (slice_index_or rows n d).type.type
row_has_cells [] n d all free placed = absurd (true≢false (sym placed ∙ free))
row_has_cells (r ∷ rows) zero d all free placed = all.0
row_has_cells (r ∷ rows) (suc n) d all free placed = row_has_cells rows n d all.1 free placed

-- ---- a choice whose test is known

pub changes_first : (b : Test) (m n : Doing (Unit {0})) (old new : Stored) (r : Result (Unit {0}) Trapped) → b ≡ true → Changes m old new r
    → Changes (either b m n) old new r
changes_first b m n old new r is h = subst (λ x. Changes (either x m n) old new r) (sym is) h

pub changes_second : (b : Test) (m n : Doing (Unit {0})) (old new : Stored) (r : Result (Unit {0}) Trapped) → b ≡ false → Changes n old new r
    → Changes (either b m n) old new r
changes_second b m n old new r is h = subst (λ x. Changes (either x m n) old new r) (sym is) h

pub leaves_first : (b : Test) (m n : Doing (Unit {0})) (old new : Stored) → b ≡ true → Leaves m old new → Leaves (either b m n) old new
leaves_first b m n old new is h = subst (λ x. Leaves (either x m n) old new) (sym is) h

pub leaves_second : (b : Test) (m n : Doing (Unit {0})) (old new : Stored) → b ≡ false → Leaves n old new → Leaves (either b m n) old new
leaves_second b m n old new is h = subst (λ x. Leaves (either x m n) old new) (sym is) h

pub changes_err : (m : Doing (Unit {0})) (old new : Stored) (r : Result (Unit {0}) Trapped) (t : Trapped) → r ≡ Err t
    → ((es : List Event) → m (world_of old es) ≡ Ends (TrapEnd t.trap t.line) es) → Changes m old new r
changes_err m old new r t is h = subst (λ x. Changes m old new x) (sym is) h

-- ---- one more of a list

rest_at : {X : Type 0} (xs : List X) (i : ℕ) (x : X) → i < length xs → x ≡ get_or xs i x → drop i xs ≡ x ∷ drop (i + 1) xs
rest_at xs i x within is =
    let next : i + 1 ≡ suc i = omega arith in
    drop-cons xs i x within ∙ ap (λ y. y ∷ drop (suc i) xs) (sym is) ∙ ap (λ j. x ∷ drop j xs) (sym next)

then_goes : (m : Doing (Unit {0})) (n : Doing (Unit {0})) (old new : World) → m old ≡ Gives tt new → and_then (m old) (λ done. n) ≡ n new
then_goes m n old new h = ap (λ (o : Outcome (Unit {0})). and_then o (λ done. n)) h

then_ends : (m : Doing (Unit {0})) (n : Doing (Unit {0})) (old : World) (end : SourceEnd) (es : List Event) → m old ≡ Ends end es
    → and_then (m old) (λ done. n) ≡ Ends end es
then_ends m n old end es h = ap (λ (o : Outcome (Unit {0})). and_then o (λ done. n)) h

module _ (s : Setting) (types : TypeRef → CType) where
  pub begin_next : (locals : List CodeLocalItem) (i : ℕ) (x : CodeLocalItem) (old new : World) → i < length locals → x ≡ get_or locals i x
      → begins s x.number old ≡ Gives tt new → all_begin s (numbers types (drop i locals)) old ≡ all_begin s (numbers types (drop (i + 1) locals)) new
  begin_next locals i x old new within is h =
      ap (λ (l : List CodeLocalItem). all_begin s (numbers types l) old) (rest_at locals i x within is)
      ∙ then_goes (begins s x.number) (all_begin s (numbers types (drop (i + 1) locals))) old new h

  pub begin_stops : (locals : List CodeLocalItem) (i : ℕ) (x : CodeLocalItem) (old : World) (end : SourceEnd) (es : List Event) → i < length locals
      → x ≡ get_or locals i x
      → begins s x.number old ≡ Ends end es → all_begin s (numbers types (drop i locals)) old ≡ Ends end es
  begin_stops locals i x old end es within is h =
      ap (λ (l : List CodeLocalItem). all_begin s (numbers types l) old) (rest_at locals i x within is)
      ∙ then_ends (begins s x.number) (all_begin s (numbers types (drop (i + 1) locals))) old end es h

  pub begin_item : (items : List code_block_item.BlockItem) (i : ℕ) (x : code_block_item.BlockItem) (old new : World) → i < length items → x ≡ get_or items i x
      → all_begin s (item_numbers types x) old ≡ Gives tt new
      → all_begin s (locals_of (items_view types (drop i items))) old ≡ all_begin s (locals_of (items_view types (drop (i + 1) items))) new
  begin_item items i x old new within is h =
      ap (λ (l : List code_block_item.BlockItem). all_begin s (locals_of (items_view types l)) old) (rest_at items i x within is)
      ∙ ap (λ ns. all_begin s ns old) (item_first types x (items_view types (drop (i + 1) items)))
      ∙ all_begin_both s (item_numbers types x) (locals_of (items_view types (drop (i + 1) items))) old
      ∙ then_goes (all_begin s (item_numbers types x)) (all_begin s (locals_of (items_view types (drop (i + 1) items)))) old new h

  pub begin_item_stops : (items : List code_block_item.BlockItem) (i : ℕ) (x : code_block_item.BlockItem) (old : World) (end : SourceEnd) (es : List Event)
      → i < length items → x ≡ get_or items i x → all_begin s (item_numbers types x) old ≡ Ends end es
      → all_begin s (locals_of (items_view types (drop i items))) old ≡ Ends end es
  begin_item_stops items i x old end es within is h =
      ap (λ (l : List code_block_item.BlockItem). all_begin s (locals_of (items_view types l)) old) (rest_at items i x within is)
      ∙ ap (λ ns. all_begin s ns old) (item_first types x (items_view types (drop (i + 1) items)))
      ∙ all_begin_both s (item_numbers types x) (locals_of (items_view types (drop (i + 1) items))) old
      ∙ then_ends (all_begin s (item_numbers types x)) (all_begin s (locals_of (items_view types (drop (i + 1) items)))) old end es h

  -- the last first
  pub end_last : (before rest : List CodeLocalItem) (x : CodeLocalItem) (old new : World) → before ≡ rest ++ x ∷ [] → ends s x.number old ≡ Gives tt new
      → all_end s (numbers types before) old ≡ all_end s (numbers types rest) new
  end_last before rest x old new is h =
      ap (λ (l : List CodeLocalItem). all_end s (numbers types l) old) is
      ∙ ap (λ ns. all_end s ns old) (numbers_both types rest (x ∷ []))
      ∙ all_end_both s (numbers types rest) (numbers types (x ∷ [])) old
      ∙ then_goes (ends s x.number) (all_end s (numbers types rest)) old new h

  pub end_item : (before rest : List code_block_item.BlockItem) (x : code_block_item.BlockItem) (old new : World) → before ≡ rest ++ x ∷ []
      → all_end s (item_numbers types x) old ≡ Gives tt new
      → all_end s (locals_of (items_view types before)) old ≡ all_end s (locals_of (items_view types rest)) new
  end_item before rest x old new is h =
      ap (λ (l : List code_block_item.BlockItem). all_end s (locals_of (items_view types l)) old) is
      ∙ ap (λ ns. all_end s ns old) (items_both types rest (x ∷ []))
      ∙ all_end_both s (locals_of (items_view types rest)) (item_numbers types x) old
      ∙ then_goes (all_end s (item_numbers types x)) (all_end s (locals_of (items_view types rest))) old new h

  -- the locals of an item
  pub declaration_begins : (item : code_block_item.BlockItem) (locals given : List CodeLocalItem) (old new : Stored) (r : Result (Unit {0}) Trapped)
      → item ≡ bi.Declaration locals
      → given ≡ locals → Changes (all_begin s (numbers types given)) old new r → Changes (all_begin s (item_numbers types item)) old new r
  declaration_begins item locals given old new r is same h =
      subst (λ ns. Changes (all_begin s ns) old new r) (ap (numbers types) same ∙ sym (of_declaration types item locals is)) h

  pub declaration_ends : (item : code_block_item.BlockItem) (locals given : List CodeLocalItem) (old new : Stored) → item ≡ bi.Declaration locals
      → given ≡ locals → Leaves (all_end s (numbers types given)) old new → Leaves (all_end s (item_numbers types item)) old new
  declaration_ends item locals given old new is same h =
      subst (λ ns. Leaves (all_end s ns) old new) (ap (numbers types) same ∙ sym (of_declaration types item locals is)) h

  pub statement_begins : (item : code_block_item.BlockItem) (a : code_stmt.Stmt) (w : World) → item ≡ bi.Statement a
      → all_begin s (item_numbers types item) w ≡ Gives tt w
  statement_begins item a w is = ap (λ ns. all_begin s ns w) (of_statement types item a is)

  pub statement_ends : (item : code_block_item.BlockItem) (a : code_stmt.Stmt) (w : World) → item ≡ bi.Statement a
      → all_end s (item_numbers types item) w ≡ Gives tt w
  statement_ends item a w is = ap (λ ns. all_end s ns w) (of_statement types item a is)

  -- none is left
  pub begin_done : (locals : List CodeLocalItem) (i : ℕ) (w : World) → length locals ≤ i → all_begin s (numbers types (drop i locals)) w ≡ Gives tt w
  begin_done locals i w past = ap (λ (l : List CodeLocalItem). all_begin s (numbers types l) w) (drop_all i locals past)

  pub begin_items_done : (items : List code_block_item.BlockItem) (i : ℕ) (w : World) → length items ≤ i
      → all_begin s (locals_of (items_view types (drop i items))) w ≡ Gives tt w
  begin_items_done items i w past = ap (λ (l : List code_block_item.BlockItem). all_begin s (locals_of (items_view types l)) w) (drop_all i items past)

  pub end_done : (rest : List CodeLocalItem) (w : World) → length rest ≡ 0 → all_end s (numbers types rest) w ≡ Gives tt w
  end_done [] w none = refl
  end_done (x ∷ rest) w none = absurd (omega (arith, none))

  pub end_items_done : (rest : List code_block_item.BlockItem) (w : World) → length rest ≡ 0 → all_end s (locals_of (items_view types rest)) w ≡ Gives tt w
  end_items_done [] w none = refl
  end_items_done (x ∷ rest) w none = absurd (omega (arith, none))
