-- What the parts of a block run one after another, the ways of an `if`, and blocks.
use Rattle.std.proofs.Common.{◌≡◌, ◌∙◌, ℕ, ◌+◌, ◌<◌, ◌≤◌, List, length, map, get_or, drop, Result, Ok, Err, refl, sym, ap, subst}
use Rattle.std.specs.Prelude.{⊤}
use Rattle.std.proofs.lemmas.List.{drop_all}
use Rattle.c_types.specs.declared.type_ref.TypeRef.{TypeRef}
use Rattle.c_types.specs.declared.type_ref.Row.{Row}
use Rattle.c_types.specs.Types.{CType}
use Rattle.mid_code.specs.declared.mid.Mid.TheVariants as mid
use Rattle.c_typed.specs.declared.statement.LocalItem.{LocalItem as CodeLocalItem}
use Rattle.c_typed.specs.declared.statement.BlockItem as code_block_item
use Rattle.c_typed.specs.declared.statement.BlockItem.{BlockItem-F}
use Rattle.c_typed.specs.declared.statement.BlockItem.TheVariants as bi
use Rattle.c_typed.specs.declared.statement.Stmt as code_stmt
use Rattle.c_typed.specs.Statements.{Stmt, Items, no_items}
use Rattle.c_typed.specs.StatementViews.{BlockView, all_items, local_item_view, block_item_view, block_item_from, stmt_node_from, block_from, stmt_from}
use Rattle.c_typed.specs.StatementViews.{stmt_view}
use Rattle.lower.specs.declared.body.Body.{Body}
use Rattle.lower.specs.declared.emitter.Emitter.{Emitter}
use Rattle.lower.specs.declared.refusal.LowerRefusal.{LowerRefusal}
use Rattle.lower.specs.Emitting.{Code, Made, Making, and_then, ◌>>=◌, ◌>>◌, pure, jumped, parted, wrapped, two_ways}
use Rattle.lower.specs.Expressions.{Inside}
use Rattle.lower.specs.Drafts.{code_of}
use Rattle.lower.specs.SoFar.{grown}
use Rattle.lower.specs.Statements.{lowers, lowers_items, all_initialize, in_block, all_begin, begun_at}
use Rattle.lower.specs.Emits.{nothing}
use Rattle.lower.specs.Runs.{around_of, Runs, Begins}
use Rattle.lower.specs.Jumps.{LandsHere, Waiting, Turning}
use Rattle.lower.specs.Bodies.{ClosesDownTo}
use Rattle.lower.proofs.Landing.{behind-jump, behind-both}
use Rattle.lower.proofs.LocalSteps.{rest-at}
use Rattle.lower.proofs.RunSteps.{run-memory, run-answer, around-same}
use Rattle.lower.proofs.Parts.{after, Ran, by-runs, to-runs, apart-step, apart-pass, apart-stop, together-given, gives-same, refused-any, wrap-step}
use Rattle.lower.proofs.Blocks.{block, block-refused}
use Rattle.lower.proofs.StatementRows.{statement-row, declaration-row, no_items-row}

-- ---- the parts of a block

-- nothing behind
pub alone : (m : Making (Unit {0})) → (m >>= (λ done. pure tt)) ≡ m
unfolding ◌>>=◌
alone m = λ j allotted. by (m allotted) j
  where
    by : (r : Result (Made (Unit {0})) ℕ) → and_then r (λ done. pure tt) ≡ r
    by (Ok c) = λ j. Ok (record { given = c.given; code = after c.code j; after = c.after })
    by (Err line) = refl

module _ (i : Inside) (types : TypeRef → CType) where
  item-made : (y : BlockItem-F (Items → Items) (ℕ → Stmt) BlockView Stmt) (rest : Items)
      → lowers_items i (block_item_from types y rest) ≡ (lowers_items i (block_item_from types y no_items) >> lowers_items i rest)
  unfolding lowers
  item-made (BlockItem-F.Declaration xs) rest = ap (λ m. m >> lowers_items i rest) (sym (alone (all_initialize i (map (local_item_view types) xs))))
  item-made (BlockItem-F.Statement s) rest = ap (λ m. m >> lowers_items i rest) (sym (alone (lowers i s)))

  pub item-row : (item : code_block_item.BlockItem) (rest : Items)
      → lowers_items i (block_item_view types item rest) ≡ (lowers_items i (block_item_view types item no_items) >> lowers_items i rest)
  unfolding block_item_view
  item-row item rest =
      subst (λ (g : Items → Items). lowers_items i (g rest) ≡ (lowers_items i (g no_items) >> lowers_items i rest))
      (sym (code_block_item.fold_out-BlockItem (Items → Items) (ℕ → Stmt) BlockView Stmt (block_item_from types) (stmt_node_from types) (block_from types)
      (stmt_from types) item))
      (item-made _ rest)

  abbrev pub items : List code_block_item.BlockItem → Making (Unit {0})
  items xs = lowers_items i (all_items (map (block_item_view types) xs))

  pub items-row : (xs : List code_block_item.BlockItem) (k : ℕ) (x : code_block_item.BlockItem) → k < length xs → x ≡ get_or xs k x
      → items (drop k xs) ≡ (lowers_items i (block_item_view types x no_items) >> items (drop (k + 1) xs))
  items-row xs k x within is = ap items (rest-at xs k x within is) ∙ item-row x (all_items (map (block_item_view types) (drop (k + 1) xs)))

  pub items-end : (xs : List code_block_item.BlockItem) (k : ℕ) → length xs ≤ k → items (drop k xs) ≡ pure tt
  items-end xs k past = ap items (drop_all k xs past) ∙ no_items-row i

  pub statement-alone : (x : code_block_item.BlockItem) (s : code_stmt.Stmt) → x ≡ bi.Statement s
      → lowers_items i (block_item_view types x no_items) ≡ lowers i (stmt_view types s)
  statement-alone x s is =
      statement-row i types no_items x s is ∙ ap (λ m. lowers i (stmt_view types s) >> m) (no_items-row i) ∙ alone (lowers i (stmt_view types s))

  pub declaration-alone : (x : code_block_item.BlockItem) (locals : List CodeLocalItem) → x ≡ bi.Declaration locals
      → lowers_items i (block_item_view types x no_items) ≡ all_initialize i (map (local_item_view types) locals)
  declaration-alone x locals is =
      declaration-row i types no_items x locals is ∙ ap (λ m. all_initialize i (map (local_item_view types) locals) >> m) (no_items-row i)
      ∙ alone (all_initialize i (map (local_item_view types) locals))

-- ---- a statement behind a jump over it

module _ (rows : List Row) (line x at : ℕ) (s0 : Body) (out1 : Emitter) (waits : Waiting line (mid.JumpZ x) s0.out out1 at) where
  abbrev inner : Body
  inner = record s0 { out = out1 }

  over-made : (s2 : Body) (out3 : Emitter) → LandsHere at (code_of s2.out.code) (code_of out3.code) → (c : Code) → Ran inner s2 c
      → Ran s0 (record s2 { out = out3 }) (jumped line (mid.JumpZ x) c)
  over-made s2 out3 lands c ran = record {
    same = record { objects = ran.same.objects; outside = ran.same.outside };
    grows = λ leads.
        behind-jump (around_of s0 leads) line (mid.JumpZ x) c (λ to. refl) at (code_of s0.out.code leads) (code_of s2.out.code leads) (code_of out3.code leads)
        (waits.here leads) (ran.grows leads ∙ ap (grown (around_of s0 leads) c) (waits.grown leads)) (lands leads);
  }

  pub over-ran : (m : Making (Unit {0})) (s2 : Body) (out3 : Emitter) (z : ⊤) → Runs nothing rows inner s2 (Ok z) m
      → out3.allotted ≡ s2.out.allotted → LandsHere at (code_of s2.out.code) (code_of out3.code)
      → Runs nothing rows s0 (record s2 { out = out3 }) (Ok z) (wrapped (jumped line (mid.JumpZ x)) m)
  over-ran m s2 out3 z ran same lands =
      to-runs (wrap-step {P = Ran inner s2} (jumped line (mid.JumpZ x)) (over-made s2 out3 lands) (gives-same waits.allotted (sym same) (by-runs ran)))

  pub over-refused : (m : Making (Unit {0})) (s2 new : Body) (r : Result ⊤ LowerRefusal) (e : LowerRefusal) → Runs nothing rows inner s2 (Err e) m → r ≡ Err e
      → Runs nothing rows s0 new r (wrapped (jumped line (mid.JumpZ x)) m)
  over-refused m s2 new r e ran out =
      run-answer out (to-runs (refused-any {mid = s2.out.allotted} {P = λ c. ⊤}
      (wrap-step {P = λ c. ⊤} (jumped line (mid.JumpZ x)) (λ c known. known) (refused-any (gives-same waits.allotted refl (by-runs ran))))))

  -- ---- two ways

  pub first-way-refused : (m n : Making (Unit {0})) (s2 new : Body) (r : Result ⊤ LowerRefusal) (e : LowerRefusal) → Runs nothing rows inner s2 (Err e) m
      → r ≡ Err e → Runs nothing rows s0 new r (two_ways line (mid.JumpZ x) m (λ done. n))
  first-way-refused m n s2 new r e ran out =
      to-runs (apart-stop {view = nothing} {next_view = nothing} {P = Ran inner s2} _ refl out (gives-same waits.allotted refl (by-runs ran)))

  module _ (m n : Making (Unit {0})) (s2 : Body) (z : ⊤) (over : ℕ) (out3 : Emitter) (first : Runs nothing rows inner s2 (Ok z) m)
      (turns : Turning line at s2.out out3 over) where
    abbrev other : Body
    other = record s2 { out = out3 }

    pub second-way-refused : (s4 new : Body) (r : Result ⊤ LowerRefusal) (e : LowerRefusal) → Runs nothing rows other s4 (Err e) n → r ≡ Err e
        → Runs nothing rows s0 new r (two_ways line (mid.JumpZ x) m (λ done. n))
    second-way-refused s4 new r e second out =
        to-runs (apart-pass {view = nothing} {next_view = nothing} {P = Ran inner s2} {x = z} _ refl (gives-same waits.allotted refl (by-runs first)) (λ c.
        apart-stop {view = nothing} {next_view = nothing} {P = Ran other s4} _ refl out (gives-same turns.allotted refl (by-runs second))))

    both-made : (s4 : Body) (out5 : Emitter) → LandsHere over (code_of s4.out.code) (code_of out5.code) → (c d : Code) → Ran inner s2 c → Ran other s4 d
        → Ran s0 (record s4 { out = out5 }) (parted line (mid.JumpZ x) c d)
    both-made s4 out5 lands c d ran next = record {
      same = record { objects = next.same.objects ∙ ran.same.objects; outside = next.same.outside ∙ ran.same.outside };
      grows = λ leads.
          behind-both (around_of s0 leads) line (mid.JumpZ x) c d (λ to. refl) at over (code_of s0.out.code leads) (code_of s2.out.code leads)
          (code_of out3.code leads) (code_of s4.out.code leads) (code_of out5.code leads)
          (waits.here leads) (ran.grows leads ∙ ap (grown (around_of s0 leads) c) (waits.grown leads)) (turns.here leads) (turns.lands leads)
          (next.grows leads ∙ ap (λ a. grown a d (code_of out3.code leads))
          (around-same s0 other (record { objects = ran.same.objects; outside = ran.same.outside }) leads))
          (lands leads);
    }

    pub both-ran : (s4 : Body) (out5 : Emitter) (y : ⊤) → Runs nothing rows other s4 (Ok y) n
        → out5.allotted ≡ s4.out.allotted → LandsHere over (code_of s4.out.code) (code_of out5.code)
        → Runs nothing rows s0 (record s4 { out = out5 }) (Ok y) (two_ways line (mid.JumpZ x) m (λ done. n))
    both-ran s4 out5 y second same lands =
        to-runs (apart-step {view = nothing} {next_view = nothing} {P = Ran inner s2} {x = z} _ refl (gives-same waits.allotted refl (by-runs first)) (λ c ran.
        apart-step {view = nothing} {next_view = nothing} {P = Ran other s4} {x = y} _ refl (gives-same turns.allotted refl (by-runs second)) (λ d next.
        gives-same refl (sym same) (together-given {next_view = nothing} {y = y} (parted line (mid.JumpZ x) c d) (both-made s4 out5 lands c d ran next)))))

-- ---- blocks

module _ (rows : List Row) (i : Inside) (locals : List ℕ) (line : ℕ) (n : Making (Unit {0})) (s p : Body) (stay : ℕ) (is : stay ≡ length s.objects.items)
    (x : ⊤)
    (begins : Begins nothing rows (λ start. begun_at i.rows start locals) s p (Ok x) (all_begin i locals)) where
  pub block-closed : (q r : Body) (y : ⊤) (result : Result ⊤ LowerRefusal) → Runs nothing rows p q (Ok y) n → ClosesDownTo line stay q r result
      → Runs nothing rows s r result (in_block i locals line n)
  block-closed q r y (Ok z) ran down =
      block {rows = rows} i locals line n s p q r {x = x} {y = y} z begins ran (subst (λ k. ClosesDownTo line k q r (Ok z)) is down)
  block-closed q r y (Err e) ran down = run-memory (ap Err down)

  pub inside-refused : (q r : Body) (result : Result ⊤ LowerRefusal) (e : LowerRefusal) → Runs nothing rows p q (Err e) n → result ≡ Err e
      → Runs nothing rows s r result (in_block i locals line n)
  inside-refused q r result e ran out = block-refused {view = nothing} {rows = rows} i locals line n s p q r {x = x} {e = e} out begins ran
