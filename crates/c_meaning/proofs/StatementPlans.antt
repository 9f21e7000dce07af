-- The tasks in whose place a statement, a loop or an initializer comes keep its meaning.
use Rattle.std.proofs.Common.{◌≡◌, ℕ, ◌+◌, ◌==◌, ◌≤◌, Bool, true, false, if◌then◌else◌, List, [], ◌∷◌, ◌++◌, Option, Some, None, refl, ap, ◌∙◌}
use Rattle.std.specs.Prelude.{slice_index}
use Rattle.srmt_base.specs.declared.part.Part.{Part}
use Rattle.srmt_base.specs.Budgets.{turn_of}
use Rattle.srmt_base.specs.Memory.{write_of}
use Rattle.c_types.specs.Types.{Qualified}
use Rattle.c_typed.specs.Statements.{Cell, Initializer, scalar, cells, LocalItem, starts, declares, Stmt, block, empty, expression, if_only, if_else, while, do_while, for, continue, break, return, Items, no_items, declaration, statement, Program}
use Rattle.source_meaning.specs.World.{World, Doing, and_then, ◌>>=◌, ◌>>◌, pure, either, remembers, spends, local_at}
use Rattle.source_meaning.specs.Places.{Setting, Location, register, cell_of, row_of, location_of_local, all_begin, all_end}
use Rattle.source_meaning.specs.Expressions.{value_of}
use Rattle.source_meaning.specs.Statements.{Completion, normal, continues, breaks, returns, if_continued, if_again, numbers_of, locals_of, cells_given, initializes, all_initialize, value_or, executes, executes_items}
use Rattle.source_meaning.specs.BudgetLaws.{turns_left}
use Rattle.source_meaning.proofs.Associates.{then_then, then_same, either_then}
use Rattle.source_meaning.proofs.Opened.{while_open, do_open, for_open}
use Rattle.c_meaning.specs.Pending.{Current, initialize_all, give_cells, Task, does, execute, execute_items, end_block, end_locals, choose, at_top, tested, after_body, again, leave, top_of, below, setting_at, loops, goes}
use Rattle.c_meaning.specs.Plans.{begun_first, jump_of, statement_plan, items_plan, choice_plan, top_plan, tested_plan, round_plan, again_plan, initial_plan, initial_stack, cell_plan}
use Rattle.c_meaning.proofs.Groups.{thrice_then, block_then}

-- the turn that a loop takes at its top
abbrev pub first_turn : Part → Stmt → Doing (Unit {0})
first_turn part (while line e a) = spends line (turn_of part)
first_turn part (do_while line a e) = spends line (turn_of part)
first_turn part (for line first e step a) = spends line (turn_of part)
first_turn part other = pure tt

-- the object of a local, where its address is known
place_known : {A : Type 0} (is_placed : Bool) (type : Qualified) (line n : ℕ) (f : Location → Doing A) (w : World)
    → (either is_placed (local_at n >>= (λ a. pure (cell_of type line a))) (pure (register n)) >>= f) w
    ≡ f (if is_placed then cell_of type line (if is_placed then slice_index w.locals n else 0) else register n) w
place_known true type line n f w = refl
place_known false type line n f w = refl

-- a jump
abbrev pub IsJump : Completion → Type 0
IsJump normal = ⊥
IsJump jump = Unit {0}

-- a task that a jump leaves out
abbrev pub IsSkipped : Task → Type 0
IsSkipped (end_block items) = ⊥
IsSkipped (end_locals locals) = ⊥
IsSkipped (after_body a) = ⊥
IsSkipped (leave caller locals) = ⊥
IsSkipped other = Unit {0}

-- a loop that opens is a turn, the first of its round, and the rest of it
opened_then : {A B : Type 0} (turn : Doing (Unit {0})) (first : Doing B) (rest : B → Doing Completion) (loop : Doing Completion)
    (k : Completion → Doing A) (w : World) → loop w ≡ (turn >> ((first >>= rest) >>= (λ d. if_again d loop))) w
    → (loop >>= k) w ≡ (turn >> (first >>= (λ x. (rest x >>= (λ d. if_again d loop)) >>= k))) w
opened_then turn first rest loop k w h =
    ap (λ o. and_then o k) h ∙ then_then turn _ k w
    ∙ then_same turn _ _ (λ done u. thrice_then first rest (λ d. if_again d loop) k u) w

module _ (program : Program) (bound : ℕ) (ts : List Task) (c : Current) (vs : List ℕ) where
  abbrev s : Setting
  s = setting_at program bound c

  abbrev before : Task → Completion → Doing ⊥
  before t = goes program bound (t ∷ ts) c vs

  abbrev after : List Task → List ℕ → Completion → Doing ⊥
  after plan us = goes program bound (plan ++ ts) c us

  pub execute_keeps : (a : Stmt) (w : World)
      → before (execute a) normal w ≡ (all_begin s (begun_first a) >> after (statement_plan a) vs (jump_of a)) w
  unfolding executes
  execute_keeps (block line items end) w = block_then s (locals_of items) (executes_items s bound items) _ w
  execute_keeps (empty line) w = refl
  execute_keeps (expression line e) w = then_then (value_of s e) _ _ w
  execute_keeps (if_only line e a) w = then_then (value_of s e) _ _ w
  execute_keeps (if_else line e a b) w = then_then (value_of s e) _ _ w
  execute_keeps (while line e a) w = refl
  execute_keeps (do_while line a e) w = refl
  execute_keeps (for line (starts None) e step a) w = refl
  execute_keeps (for line (starts (Some first)) e step a) w = then_then (value_of s first) _ _ w
  execute_keeps (for line (declares locals) e step a) w =
      block_then s (numbers_of locals) (all_initialize s locals >> loops program bound s (for line (declares locals) e step a)) _ w
      ∙ then_same (all_begin s (numbers_of locals)) _ _ (λ begun u. then_then (all_initialize s locals) _ _ u) w
  execute_keeps (continue line) w = refl
  execute_keeps (break line) w = refl
  execute_keeps (return line None) w = refl
  execute_keeps (return line (Some e)) w = then_then (value_of s e) _ _ w

  pub items_keep : (items : Items) (w : World) → before (execute_items items) normal w ≡ after (items_plan items) vs normal w
  unfolding executes
  items_keep no_items w = refl
  items_keep (declaration locals rest) w = then_then (all_initialize s locals) _ _ w
  items_keep (statement first rest) w = then_then (executes s bound first) _ _ w

  choice_of : (b : Bool) (m n : List Task) (us : List ℕ) (w : World)
      → either b (after m us normal) (after n us normal) w ≡ after (if b then m else n) us normal w
  choice_of true m n us w = refl
  choice_of false m n us w = refl

  pub choice_keeps : (a : Stmt) (w : World) → before (choose a) normal w ≡ after (choice_plan a (top_of vs)) (below vs) normal w
  choice_keeps (if_only line e a) w =
      either_then (top_of vs == 0) _ _ _ w ∙ choice_of (top_of vs == 0) [] (execute a ∷ []) (below vs) w
  choice_keeps (if_else line e a b) w =
      either_then (top_of vs == 0) _ _ _ w ∙ choice_of (top_of vs == 0) (execute b ∷ []) (execute a ∷ []) (below vs) w
  choice_keeps other w = refl

  pub top_keeps : (a : Stmt) (w : World) → turns_left w ≤ bound
      → before (at_top a) normal w ≡ (first_turn c.part a >> after (top_plan a) vs normal) w
  top_keeps (while line e a) w low =
      opened_then (spends line (turn_of c.part)) (value_of s e) _ (loops program bound s (while line e a)) _ w
      (while_open program c.part c.function.locals bound line e a w low)
  top_keeps (do_while line a e) w low =
      opened_then (spends line (turn_of c.part)) (executes s bound a) _ (loops program bound s (do_while line a e)) _ w
      (do_open program c.part c.function.locals bound line a e w low)
  top_keeps (for line first None step a) w low =
      opened_then (spends line (turn_of c.part)) (executes s bound a) _ (loops program bound s (for line first None step a)) _ w
      (for_open program c.part c.function.locals bound line None step a w low)
  top_keeps (for line first (Some e) step a) w low =
      opened_then (spends line (turn_of c.part)) (value_of s e) _ (loops program bound s (for line first (Some e) step a)) _ w
      (for_open program c.part c.function.locals bound line (Some e) step a w low)
  top_keeps other w low = refl

  pub again_keeps : (a : Stmt) (w : World) → before (again a) normal w ≡ after (again_plan a (top_of vs)) (below vs) normal w
  again_keeps a w = by_test (top_of vs == 0)
    where
      by_test : (b : Bool)
          → (((either b (pure breaks) (pure normal)) >>= (λ d. if_again d (loops program bound s a))) >>= after [] (below vs)) w
          ≡ after (if b then [] else at_top a ∷ []) (below vs) normal w
      by_test true = refl
      by_test false = refl

  -- the body of a loop whose test is on the stack, and what follows it
  body_first : (b : Bool) (body rest loop : Doing Completion) (m : List Task) (us : List ℕ) (w : World)
      → (body >>= (λ d. (if_continued d rest >>= (λ e. if_again e loop)) >>= after [] us)) w ≡ after m us normal w
      → ((either b (pure breaks) (body >>= (λ d. if_continued d rest)) >>= (λ d. if_again d loop)) >>= after [] us) w
      ≡ after (if b then [] else m) us normal w
  body_first true body rest loop m us w h = refl
  body_first false body rest loop m us w h =
      thrice_then body (λ d. if_continued d rest) (λ d. if_again d loop) (after [] us) w ∙ h

  test_only : (b : Bool) (us : List ℕ) (w : World)
      → ((either b (pure breaks) (pure normal) >>= (λ d. if_again d (pure normal))) >>= after [] us) w ≡ after [] us normal w
  test_only true us w = refl
  test_only false us w = refl

  pub tested_keeps : (a : Stmt) (w : World) → before (tested a) normal w ≡ after (tested_plan a (top_of vs)) (below vs) normal w
  tested_keeps (while line e a) w =
      body_first (top_of vs == 0) (executes s bound a) (pure normal) _
      (execute a ∷ after_body (while line e a) ∷ []) (below vs) w refl
  tested_keeps (do_while line a e) w =
      body_first (top_of vs == 0) (executes s bound a) (value_of s e >>= (λ x. either (x == 0) (pure breaks) (pure normal))) _
      (execute a ∷ after_body (do_while line a e) ∷ []) (below vs) w refl
  tested_keeps (for line first e step a) w =
      body_first (top_of vs == 0) (executes s bound a) (value_or 0 s step >> pure normal) _
      (execute a ∷ after_body (for line first e step a) ∷ []) (below vs) w refl
  tested_keeps other w = test_only (top_of vs == 0) (below vs) w

  -- a body that is left at its end, or by `continue`
  pub round_keeps : (a : Stmt) (w : World) → before (after_body a) normal w ≡ after (round_plan a) vs normal w
  round_keeps (while line e a) w = refl
  round_keeps (do_while line a e) w =
      thrice_then (value_of s e) _ (λ d. if_again d (loops program bound s (do_while line a e))) (after [] vs) w
  round_keeps (for line first e None a) w = refl
  round_keeps (for line first e (Some step) a) w =
      thrice_then (value_of s step) _ (λ d. if_again d (loops program bound s (for line first e (Some step) a))) (after [] vs) w
  round_keeps other w = refl

  pub round_continues : (a : Stmt) (w : World) → before (after_body a) continues w ≡ after (round_plan a) vs normal w
  round_continues a w = round_keeps a w

  pub round_breaks : (a : Stmt) (w : World) → before (after_body a) breaks w ≡ goes program bound ts c vs normal w
  round_breaks a w = refl

  pub round_returns : (a : Stmt) (v : ℕ) (w : World) → before (after_body a) (returns v) w ≡ goes program bound ts c vs (returns v) w
  round_returns a v w = refl

  -- work that a jump leaves out
  pub skips : (t : Task) (j : Completion) (w : World) → IsSkipped t → IsJump j → before t j w ≡ goes program bound ts c vs j w
  skips t normal w h k = elim k [ ]
  skips (end_block items) jump w h k = elim h [ ]
  skips (end_locals locals) jump w h k = elim h [ ]
  skips (after_body a) jump w h k = elim h [ ]
  skips (leave caller locals) jump w h k = elim h [ ]
  skips other jump w h k = refl

  pub ends_block : (items : Items) (j : Completion) (w : World)
      → before (end_block items) j w ≡ (all_end s (locals_of items) >> goes program bound ts c vs j) w
  ends_block items j w = refl

  pub ends_locals : (locals : List LocalItem) (j : Completion) (w : World)
      → before (end_locals locals) j w ≡ (all_end s (numbers_of locals) >> goes program bound ts c vs j) w
  ends_locals locals j w = refl

  pub none_initial : (w : World) → before (does (initialize_all [])) normal w ≡ goes program bound ts c vs normal w
  none_initial w = refl

  module _ (rest : List LocalItem) where
    -- a local by its number and its initializer
    abbrev InitialKeeps : ℕ → Option Initializer → Type 0
    InitialKeeps n i =
        let l : LocalItem = record { number = n; initializer = i } in
        (w : World) → before (does (initialize_all (l ∷ rest))) normal w
        ≡ goes program bound (initial_plan l ++ does (initialize_all rest) ∷ ts) c (initial_stack s l w.locals vs) normal w

    by_initializer : (n : ℕ) (i : Option Initializer) → InitialKeeps n i
    by_initializer n None w = refl
    by_initializer n (Some (scalar e)) w =
        then_then (initializes s n (Some (scalar e))) _ _ w
        ∙ then_then (location_of_local s n (row_of s n).type (row_of s n).line) _ _ w
        ∙ place_known (row_of s n).is_placed (row_of s n).type (row_of s n).line n _ w
        ∙ then_then (value_of s e) _ _ w
    by_initializer n (Some (cells given)) w = then_then (cells_given s n given) _ _ w

    pub initial_keeps : (l : LocalItem) (w : World)
        → before (does (initialize_all (l ∷ rest))) normal w
        ≡ goes program bound (initial_plan l ++ does (initialize_all rest) ∷ ts) c (initial_stack s l w.locals vs) normal w
    initial_keeps l w = by_initializer l.number l.initializer w

  pub no_cells : (n : ℕ) (w : World) → before (does (give_cells n [])) normal w ≡ goes program bound ts c vs normal w
  no_cells n w = refl

  pub cells_keep : (n : ℕ) (x : Cell) (rest : List Cell) (w : World)
      → before (does (give_cells n (x ∷ rest))) normal w
      ≡ goes program bound (cell_plan n x ++ does (give_cells n rest) ∷ ts) c (slice_index w.locals n ∷ vs) normal w
  cells_keep n x rest w =
      then_then (value_of s x.value) _ _ w
      ∙ then_same (value_of s x.value) _ _
      (λ v u. then_then (remembers (row_of s n).line (λ memory. write_of memory (slice_index w.locals n + x.index) v)) _ _ u) w
