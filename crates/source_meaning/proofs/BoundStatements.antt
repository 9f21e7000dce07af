-- What a statement and a call come to does not depend on the bound of the calls and loops in them.
use Rattle.std.proofs.Common.{ℕ, zero, suc, ◌+◌, ◌==◌, ◌≤◌, List, [], ◌∷◌, refl, Option, Some, None, arith}
use Rattle.std.specs.Prelude.{slice_index}
use Rattle.srmt_base.specs.declared.part.Part.{Part}
use Rattle.srmt_base.specs.Objects.{pointer_to}
use Rattle.srmt_base.specs.Memory.{write_of, begin_of, next_number}
use Rattle.c_types.specs.Types.{cells_of}
use Rattle.c_typed.specs.Typed.{Value}
use Rattle.c_typed.specs.Statements.{Cell, Initializer, scalar, cells, LocalItem, ForStart, starts, declares, Stmt, block, empty, expression, if_only, if_else, while, do_while, for, continue, break, return, Items, no_items, declaration, statement}
use Rattle.source_meaning.specs.World.{Doing, pure, remembers, set_local}
use Rattle.source_meaning.specs.Places.{Setting, row_of, object_begins, all_begin, all_end}
use Rattle.source_meaning.specs.Expressions.{value_of}
use Rattle.source_meaning.specs.Statements.{Completion, normal, continues, breaks, returns, if_normal, if_continued, if_again, rounds, round_of_for, round_of_do, in_block, numbers_of, cells_given, initializes, all_initialize, value_or, in_for, executes, executes_items, locals_of}
use Rattle.source_meaning.proofs.Agreeing.{Agree, Keeps, then_agree, either_agree, wider, remembers_keeps, no_turn, turn_agrees}
use Rattle.source_meaning.proofs.BoundLemmas.{local_keeps, store_keeps, value_agrees}

pub object_begins_keeps : (s : Setting) (n : ℕ) → Keeps (object_begins s n)
object_begins_keeps s n b w low =
    then_agree b b b (remembers (row_of s n).line (λ memory. begin_of s.part memory (cells_of (row_of s n).type.type))) _
    (λ done. set_local n (pointer_to (next_number s.part w.memory) 0)) _
    (remembers_keeps (row_of s n).line (λ memory. begin_of s.part memory (cells_of (row_of s n).type.type)) b) (λ done u k. (refl, k)) w low

normal_agrees : (b : ℕ) (c : Completion) (m n : Doing Completion) → Agree b b m n → Agree b b (if_normal c m) (if_normal c n)
normal_agrees b normal m n h = h
normal_agrees b continues m n h = λ w low. (refl, low)
normal_agrees b breaks m n h = λ w low. (refl, low)
normal_agrees b (returns v) m n h = λ w low. (refl, low)

continued_agrees : (b : ℕ) (c : Completion) (m n : Doing Completion) → Agree b b m n → Agree b b (if_continued c m) (if_continued c n)
continued_agrees b normal m n h = h
continued_agrees b continues m n h = h
continued_agrees b breaks m n h = λ w low. (refl, low)
continued_agrees b (returns v) m n h = λ w low. (refl, low)

pub round_of_for_agrees : (b : ℕ) (test test' step step' : Doing ℕ) (body body' : Doing Completion) → Agree b b test test' → Agree b b step step' →
    Agree b b body body' → Agree b b (round_of_for test body step) (round_of_for test' body' step')
round_of_for_agrees b test test' step step' body body' h k l =
    then_agree b b b _ _ _ _ h λ x.
    either_agree b b (x == 0) _ _ _ _ (λ w low. (refl, low))
    (then_agree b b b _ _ _ _ l λ c. continued_agrees b c _ _ (then_agree b b b _ _ _ _ k (λ y w low. (refl, low))))

pub round_of_do_agrees : (b : ℕ) (test test' : Doing ℕ) (body body' : Doing Completion) → Agree b b test test' →
    Agree b b body body' → Agree b b (round_of_do body test) (round_of_do body' test')
round_of_do_agrees b test test' body body' h l =
    then_agree b b b _ _ _ _ l λ c.
    continued_agrees b c _ _
    (then_agree b b b _ _ _ _ h λ x. either_agree b b (x == 0) _ _ _ _ (λ w low. (refl, low)) (λ w low. (refl, low)))

pub again_agrees : (b : ℕ) (c : Completion) (m n : Doing Completion) → Agree b b m n → Agree b b (if_again c m) (if_again c n)
again_agrees b normal m n h = h
again_agrees b continues m n h = h
again_agrees b breaks m n h = λ w low. (refl, low)
again_agrees b (returns v) m n h = λ w low. (refl, low)

pub rounds_agree : (part : Part) (line : ℕ) (m n : Doing Completion) (i j c : ℕ) → c ≤ i → c ≤ j → ((d : ℕ) → d ≤ c → Agree d d m n)
    → Agree c c (rounds i part line m) (rounds j part line n)
rounds_agree part line m n zero zero zero h k each = no_turn line 0 part _ _
rounds_agree part line m n zero (suc j) zero h k each = no_turn line 0 part _ _
rounds_agree part line m n (suc i) zero zero h k each = no_turn line 0 part _ _
rounds_agree part line m n (suc i) (suc j) zero h k each = no_turn line 0 part _ _
rounds_agree part line m n zero j (suc c) h k each = absurd (omega (arith, h))
rounds_agree part line m n (suc i) zero (suc c) h k each = absurd (omega (arith, k))
rounds_agree part line m n (suc i) (suc j) (suc c) h k each =
    then_agree (suc c) c (suc c) _ _ _ _ (turn_agrees line c part) λ done.
    wider c (suc c) _ _ (omega arith)
    (then_agree c c c _ _ _ _ (each c (omega arith)) λ completion.
    again_agrees c completion _ _
    (rounds_agree part line m n i j c (omega (arith, h)) (omega (arith, k)) (λ d low. each d (omega (arith, low)))))

module _ (s : Setting) (other : (line number : ℕ) (arguments : List ℕ) → Doing ℕ) where
  abbrev after : Setting
  after = record s { call = other }

  all_begin_agree : (b : ℕ) (locals : List ℕ) → Agree b b (all_begin s locals) (all_begin after locals)
  all_begin_agree b [] = λ w low. (refl, low)
  all_begin_agree b (n ∷ rest) =
      then_agree b b b _ _ _ _ (either_agree b b (row_of s n).is_placed _ _ _ _ (object_begins_keeps s n b) (λ w low. (refl, low)))
      (λ done. all_begin_agree b rest)

  pub all_end_agree : (b : ℕ) (locals : List ℕ) → Agree b b (all_end s locals) (all_end after locals)
  all_end_agree b [] = λ w low. (refl, low)
  all_end_agree b (n ∷ rest) =
      then_agree b b b _ _ _ _ (all_end_agree b rest)
      (λ done. either_agree b b (row_of s n).is_placed _ _ _ _ (λ w low. (refl, low)) (λ w low. (refl, low)))

  pub block_agrees : (b : ℕ) (locals : List ℕ) (m n : Doing Completion) → Agree b b m n → Agree b b (in_block s locals m) (in_block after locals n)
  block_agrees b locals m n h =
      then_agree b b b _ _ _ _ (all_begin_agree b locals) λ begun.
      then_agree b b b _ _ _ _ h λ c.
      then_agree b b b _ _ _ _ (all_end_agree b locals) (λ ended w low. (refl, low))

  module _ (top : ℕ)
      (calls : (b : ℕ) → b ≤ top → (line number : ℕ) (arguments : List ℕ) → Agree b b (s.call line number arguments) (other line number arguments)) where
    pub agrees : (b : ℕ) → b ≤ top → (e : Value) → Agree b b (value_of s e) (value_of after e)
    agrees b low e = value_agrees b s other (calls b low) e

    cells_agree : (b : ℕ) → b ≤ top → (n : ℕ) (given : List Cell) → Agree b b (cells_given s n given) (cells_given after n given)
    cells_agree b low n [] = λ w k. (refl, k)
    cells_agree b low n (c ∷ rest) = λ w k.
        then_agree b b b _ _ _ _ (agrees b low c.value)
        (λ x. then_agree b b b _ _ _ _ (remembers_keeps (row_of s n).line (λ memory. write_of memory (slice_index w.locals n + c.index) x) b) (λ done. cells_agree b low n rest)) w k

    initializes_agree : (b : ℕ) → b ≤ top → (n : ℕ) (i : Option Initializer) → Agree b b (initializes s n i) (initializes after n i)
    initializes_agree b low n None = λ w k. (refl, k)
    initializes_agree b low n (Some (scalar e)) =
        then_agree b b b _ _ _ _ (local_keeps s n (row_of s n).type (row_of s n).line b) λ l.
        then_agree b b b _ _ _ _ (agrees b low e) λ x. store_keeps l x b
    initializes_agree b low n (Some (cells given)) = cells_agree b low n given

    all_initialize_agree : (b : ℕ) → b ≤ top → (locals : List LocalItem) → Agree b b (all_initialize s locals) (all_initialize after locals)
    all_initialize_agree b low [] = λ w k. (refl, k)
    all_initialize_agree b low (local ∷ rest) =
        then_agree b b b _ _ _ _ (initializes_agree b low local.number local.initializer) (λ done. all_initialize_agree b low rest)

    pub value_or_agrees : (b : ℕ) → b ≤ top → (n : ℕ) (e : Option Value) → Agree b b (value_or n s e) (value_or n after e)
    value_or_agrees b low n None = λ w k. (refl, k)
    value_or_agrees b low n (Some e) = agrees b low e

    for_agrees : (b : ℕ) → b ≤ top → (first : ForStart) (m n : Doing Completion) → Agree b b m n → Agree b b (in_for s first m) (in_for after first n)
    for_agrees b low (starts e) m n h = then_agree b b b _ _ _ _ (value_or_agrees b low 0 e) (λ x. h)
    for_agrees b low (declares locals) m n h =
        block_agrees b (numbers_of locals) _ _ (then_agree b b b _ _ _ _ (all_initialize_agree b low locals) (λ done. h))

    module _ (i j : ℕ) (within : top ≤ i) (within' : top ≤ j) where
      loops : (b : ℕ) → b ≤ top → (line : ℕ) (m n : Doing Completion) → ((d : ℕ) → d ≤ top → Agree d d m n)
          → Agree b b (rounds i s.part line m) (rounds j s.part line n)
      loops b low line m n each =
          rounds_agree s.part line m n i j b (omega (arith, low, within)) (omega (arith, low, within')) (λ d k. each d (omega (arith, k, low)))

      mutual
        unfolding executes

        pub statement_agrees : (u : Stmt) (b : ℕ) → b ≤ top → Agree b b (executes s i u) (executes after j u)
        statement_agrees (block line items end) b low = block_agrees b (locals_of items) _ _ (items_agree items b low)
        statement_agrees (empty line) b low = λ w k. (refl, k)
        statement_agrees (expression line e) b low = then_agree b b b _ _ _ _ (agrees b low e) (λ x w k. (refl, k))
        statement_agrees (if_only line e u) b low =
            then_agree b b b _ _ _ _ (agrees b low e) λ x. either_agree b b (x == 0) _ _ _ _ (λ w k. (refl, k)) (statement_agrees u b low)
        statement_agrees (if_else line e u v) b low =
            then_agree b b b _ _ _ _ (agrees b low e) λ x.
            either_agree b b (x == 0) _ _ _ _ (statement_agrees v b low) (statement_agrees u b low)
        statement_agrees (while line e u) b low =
            loops b low line _ _ λ d k. round_of_for_agrees d _ _ (pure 0) (pure 0) _ _ (agrees d k e) (λ w z. (refl, z)) (statement_agrees u d k)
        statement_agrees (do_while line u e) b low =
            loops b low line _ _ λ d k. round_of_do_agrees d _ _ _ _ (agrees d k e) (statement_agrees u d k)
        statement_agrees (for line first e step u) b low =
            for_agrees b low first _ _
            (loops b low line _ _ λ d k.
            round_of_for_agrees d _ _ _ _ _ _ (value_or_agrees d k 1 e) (value_or_agrees d k 0 step) (statement_agrees u d k))
        statement_agrees (continue line) b low = λ w k. (refl, k)
        statement_agrees (break line) b low = λ w k. (refl, k)
        statement_agrees (return line e) b low = then_agree b b b _ _ _ _ (value_or_agrees b low 0 e) (λ x w k. (refl, k))

        pub items_agree : (items : Items) (b : ℕ) → b ≤ top → Agree b b (executes_items s i items) (executes_items after j items)
        items_agree no_items b low = λ w k. (refl, k)
        items_agree (declaration locals rest) b low =
            then_agree b b b _ _ _ _ (all_initialize_agree b low locals) (λ done. items_agree rest b low)
        items_agree (statement first rest) b low =
            then_agree b b b _ _ _ _ (statement_agrees first b low) λ c. normal_agrees b c _ _ (items_agree rest b low)
