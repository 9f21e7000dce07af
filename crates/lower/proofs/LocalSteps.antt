-- Locals that begin, one after the other, as a loop over them does it.
use Rattle.std.proofs.Common.{◌≡◌, ◌∙◌, ℕ, suc, ◌+◌, ◌<◌, ◌≤◌, Bool, true, false, List, [], ◌∷◌, ◌++◌, length, map, get_or, drop, Result, Ok, Err, refl, sym, ap, subst, arith}
use Rattle.std.specs.Prelude.{⊤, if◌then◌else◌}
use Rattle.std.proofs.lemmas.List.{append-nil, append_assoc, length-append, drop_all}
use Rattle.std.proofs.Math.Seq.{drop-cons}
use Rattle.c_types.specs.declared.type_ref.TypeRef.{TypeRef}
use Rattle.c_types.specs.declared.type_ref.Row.{Row}
use Rattle.c_types.specs.Types.{CType, cells_of}
use Rattle.mid_code.specs.declared.mid.Mid.TheVariants as mid
use Rattle.mid_code.specs.declared.program.RegisterKind.{RegisterKind}
use Rattle.mid_code.specs.declared.program.RegisterKind.TheVariants.{Address}
use Rattle.c_typed.specs.declared.statement.LocalItem.{LocalItem as CodeLocalItem}
use Rattle.c_typed.specs.declared.statement.BlockItem as code_block_item
use Rattle.c_typed.specs.declared.statement.BlockItem.{BlockItem-F}
use Rattle.c_typed.specs.declared.statement.BlockItem.TheVariants as bi
use Rattle.c_typed.specs.declared.statement.Stmt as code_stmt
use Rattle.c_typed.specs.Statements.{LocalRow, Stmt, Items, no_items}
use Rattle.c_typed.specs.StatementViews.{BlockView, all_items, local_item_view, block_item_view, block_item_from, stmt_node_from, block_from, stmt_from}
use Rattle.c_typed.proofs.StatementViewLaws.{view_declaration, view_statement}
use Rattle.source_meaning.specs.Statements.{locals_of, numbers_of}
use Rattle.lower.specs.declared.body.Body.{Body}
use Rattle.lower.specs.declared.refusal.LowerRefusal.{LowerRefusal}
use Rattle.lower.specs.Emitting.{Code, ◌⨟◌, no_code, Allotted, Made, Making, made, behind, and_then, ◌>>=◌, ◌>>◌, pure, emits, either, new, settles, kind_of}
use Rattle.lower.specs.Expressions.{Inside, row_at}
use Rattle.lower.specs.Statements.{begun_at, opens, begins, begins_in_memory, begins_in_register, all_begin}
use Rattle.lower.specs.Emits.{nothing}
use Rattle.lower.specs.Runs.{Begins}
use Rattle.lower.proofs.Steps.{first-of, second-of}
use Rattle.lower.proofs.BeginSteps.{Sized, sized-then, sized-new, begin-step, begin-stop, begin-given}

-- ---- parts one after the other are the same in whatever way they are grouped

plus-zero : (n : ℕ) → n + 0 ≡ n
plus-zero n = omega arith

plus-plus : (a b c : ℕ) → a + (b + c) ≡ (a + b) + c
plus-plus a b c = omega arith

code-assoc : (c d e : Code) → ((c ⨟ d) ⨟ e) ≡ (c ⨟ (d ⨟ e))
code-assoc c d e = λ i around start.
    (append_assoc (c around start) (d around (start + length (c around start)))
    (e around (start + length (c around start ++ d around (start + length (c around start)))))
    ∙ ap (λ n. c around start ++ (d around (start + length (c around start)) ++ e around n))
    (ap (λ n. start + n) (length-append (c around start) (d around (start + length (c around start))))
    ∙ plus-plus start (length (c around start)) (length (d around (start + length (c around start)))))) i

behind-behind : {A : Type 0} (c d : Code) (r : Result (Made A) ℕ) → behind (c ⨟ d) r ≡ behind c (behind d r)
behind-behind c d (Ok m) = ap (λ e. made m.given e m.after) (code-assoc c d m.code)
behind-behind c d (Err line) = refl

behind-then : {A B : Type 0} (c : Code) (r : Result (Made A) ℕ) (f : A → Making B) → and_then (behind c r) f ≡ behind c (and_then r f)
behind-then c (Ok m) f = behind-behind c m.code (f m.given m.after)
behind-then c (Err line) f = refl

then-then : {A B C : Type 0} (r : Result (Made A) ℕ) (f : A → Making B) (g : B → Making C) → and_then (and_then r f) g ≡ and_then r
    (λ a allotted. and_then (f a allotted) g)
then-then (Ok m) f g = behind-then m.code (f m.given m.after) g
then-then (Err line) f g = refl

pub making-assoc : {A B C : Type 0} (m : Making A) (f : A → Making B) (g : B → Making C) → ((m >>= f) >>= g) ≡ (m >>= (λ a. f a >>= g))
unfolding ◌>>=◌
making-assoc m f g = λ i allotted. then-then (m allotted) f g i

behind-none : {A : Type 0} (r : Result (Made A) ℕ) → r ≡ behind no_code r
behind-none (Ok m) = ap (λ e. made m.given e m.after) (λ i around start. m.code around (sym (plus-zero start) i))
behind-none (Err line) = refl

pub pure-then : {A B : Type 0} (a : A) (f : A → Making B) → f a ≡ (pure a >>= f)
unfolding ◌>>=◌
pure-then a f = λ i allotted. behind-none (f a allotted) i

-- ---- one local

row-is : (i : Inside) (n : ℕ) (row : LocalRow) → row ≡ row_at i.rows n
    → begins i n ≡ either row.is_placed (begins_in_memory i row n) (begins_in_register i row n)
row-is i n row is = ap (λ (r : LocalRow). either r.is_placed (begins_in_memory i r n) (begins_in_register i r n)) (sym is)

pub begins-placed : (i : Inside) (n : ℕ) (row : LocalRow) (cells : ℕ) → row ≡ row_at i.rows n → row.is_placed ≡ true → cells ≡ cells_of row.type.type
    → begins i n ≡ (opens row.line n cells >> pure tt)
begins-placed i n row cells is placed are =
    row-is i n row is ∙ first-of (begins_in_memory i row n) (begins_in_register i row n) placed ∙ ap (λ c. opens row.line n c >> pure tt) (sym are)

pub begins-register : (i : Inside) (n : ℕ) (row : LocalRow) (kind : RegisterKind) → row ≡ row_at i.rows n → row.is_placed ≡ false
    → kind ≡ kind_of row.type.type
    → begins i n ≡ (new kind row.line >>= (λ r. settles n r >>= (λ done. emits row.first (mid.Const r 0))))
begins-register i n row kind is placed are =
    row-is i n row is ∙ second-of (begins_in_memory i row n) (begins_in_register i row n) placed
    ∙ ap (λ k. new k row.line >>= (λ r. settles n r >>= (λ done. emits row.first (mid.Const r 0)))) (sym are)

pub begun-placed : (rows : List LocalRow) (n start : ℕ) (row : LocalRow) → row ≡ row_at rows n → row.is_placed ≡ true → begun_at rows start
    (n ∷ []) ≡ start ∷ []
begun-placed rows n start row is placed =
    ap (λ (r : LocalRow). if r.is_placed then start ∷ [] else []) (sym is) ∙ ap (λ (b : Bool). if b then start ∷ [] else []) placed

pub begun-register : (rows : List LocalRow) (n start : ℕ) (row : LocalRow) → row ≡ row_at rows n → row.is_placed ≡ false → begun_at rows start (n ∷ []) ≡ []
begun-register rows n start row is placed =
    ap (λ (r : LocalRow). if r.is_placed then start ∷ [] else []) (sym is) ∙ ap (λ (b : Bool). if b then start ∷ [] else []) placed

pub sized-opens : (line n count : ℕ) (allotted : Allotted) → Sized 1 (opens line n count allotted)
sized-opens line n count allotted =
    sized-then 0 1 (new Address line) (λ r. settles n r >>= (λ done. emits line (mid.Open r count) >>= (λ done. pure r))) allotted
    (sized-new Address line allotted) (λ r a.
    sized-then 0 1 (settles n r) (λ done. emits line (mid.Open r count) >>= (λ done. pure r)) a (λ around start. refl) (λ done b.
    sized-then 1 0 (emits line (mid.Open r count)) (λ done. pure r) b (λ around start. refl) (λ done e around start. refl)))

sized-memory : (i : Inside) (row : LocalRow) (n : ℕ) (allotted : Allotted) → Sized 1 (begins_in_memory i row n allotted)
sized-memory i row n allotted =
    sized-then 1 0 (opens row.line n (cells_of row.type.type)) (λ r. pure tt) allotted (sized-opens row.line n (cells_of row.type.type) allotted)
    (λ r a around start. refl)

sized-register : (i : Inside) (row : LocalRow) (n : ℕ) (allotted : Allotted) → Sized 1 (begins_in_register i row n allotted)
sized-register i row n allotted =
    sized-then 0 1 (new (kind_of row.type.type) row.line) (λ r. settles n r >>= (λ done. emits row.first (mid.Const r 0))) allotted
    (sized-new (kind_of row.type.type) row.line allotted) (λ r a.
    sized-then 0 1 (settles n r) (λ done. emits row.first (mid.Const r 0)) a (λ around start. refl) (λ done b around start. refl))

sized-either : (b : Bool) (m n : Making (Unit {0})) (allotted : Allotted) → Sized 1 (m allotted) → Sized 1 (n allotted) → Sized 1 (either b m n allotted)
sized-either true m n allotted first second = first
sized-either false m n allotted first second = second

-- each local takes one instruction
pub sized-begins : (i : Inside) (n : ℕ) (allotted : Allotted) → Sized 1 (begins i n allotted)
sized-begins i n allotted =
    let row = row_at i.rows n in
    sized-either row.is_placed (begins_in_memory i row n) (begins_in_register i row n) allotted (sized-memory i row n allotted)
    (sized-register i row n allotted)

one-plus : (n : ℕ) → 1 + n ≡ suc n
one-plus n = omega arith

pub sized-all : (i : Inside) (ns : List ℕ) (allotted : Allotted) → Sized (length ns) (all_begin i ns allotted)
sized-all i [] allotted = λ around start. refl
sized-all i (n ∷ ns) allotted =
    subst (λ k. Sized k ((begins i n >> all_begin i ns) allotted)) (one-plus (length ns))
    (sized-then 1 (length ns) (begins i n) (λ done. all_begin i ns) allotted (sized-begins i n allotted) (λ done a. sized-all i ns a))

-- ---- lists of locals

suc-plus : (start k : ℕ) → suc start + k ≡ start + suc k
suc-plus start k = omega arith

start-one : (start : ℕ) → suc start ≡ start + 1
start-one start = omega arith

pub begun-both : (rows : List LocalRow) (start : ℕ) (ns ms : List ℕ) → begun_at rows start (ns ++ ms) ≡ begun_at rows
    (start + length ns) ms ++ begun_at rows start ns
begun-both rows start [] ms = ap (λ k. begun_at rows k ms) (sym (plus-zero start)) ∙ sym (append-nil (begun_at rows (start + 0) ms))
begun-both rows start (n ∷ ns) ms =
    let here : List ℕ = if (row_at rows n).is_placed then start ∷ [] else [] in
    ap (λ (l : List ℕ). l ++ here) (begun-both rows (suc start) ns ms)
    ∙ append_assoc (begun_at rows (suc start + length ns) ms) (begun_at rows (suc start) ns) here
    ∙ ap (λ k. begun_at rows k ms ++ (begun_at rows (suc start) ns ++ here)) (suc-plus start (length ns))

pub all-both : (i : Inside) (ns ms : List ℕ) → all_begin i (ns ++ ms) ≡ (all_begin i ns >> all_begin i ms)
all-both i [] ms = pure-then tt (λ done. all_begin i ms)
all-both i (n ∷ ns) ms =
    ap (λ (m : Making (Unit {0})). begins i n >> m) (all-both i ns ms)
    ∙ sym (making-assoc (begins i n) (λ done. all_begin i ns) (λ done. all_begin i ms))

module _ (i : Inside) (rows : List Row) (old mid new : Body) where
  -- locals begin, and others behind them
  pub lists-begin : {r : Result ⊤ LowerRefusal} (ns ms all : List ℕ) → all ≡ ns ++ ms
      → Begins nothing rows (λ start. begun_at i.rows start ns) old mid (Ok tt) (all_begin i ns)
      → Begins nothing rows (λ start. begun_at i.rows start ms) mid new r (all_begin i ms)
      → Begins nothing rows (λ start. begun_at i.rows start all) old new r (all_begin i all)
  lists-begin {r} ns ms all is first next =
      subst (λ (l : List ℕ). Begins nothing rows (λ start. begun_at i.rows start l) old new r (all_begin i l)) (sym is)
      (begin-step {first = λ start. begun_at i.rows start ns} {rest = λ start. begun_at i.rows start ms} (λ done. all_begin i ms) (length ns)
      (all-both i ns ms) (sized-all i ns)
      (λ start. begun-both i.rows start ns ms) first next)

  pub lists-stop : {r : Result ⊤ LowerRefusal} {e : LowerRefusal} (ns ms all : List ℕ) → all ≡ ns ++ ms → r ≡ Err e
      → Begins nothing rows (λ start. begun_at i.rows start ns) old mid (Err e) (all_begin i ns)
      → Begins nothing rows (λ start. begun_at i.rows start all) old new r (all_begin i all)
  lists-stop {r} {e} ns ms all is out first =
      subst (λ (l : List ℕ). Begins nothing rows (λ start. begun_at i.rows start l) old new r (all_begin i l)) (sym is)
      (begin-stop (λ done. all_begin i ms) (all-both i ns ms) out first)

  -- one local begins, and others behind it
  pub one-begins : {r : Result ⊤ LowerRefusal} (n : ℕ) (ms all : List ℕ) → all ≡ n ∷ ms
      → Begins nothing rows (λ start. begun_at i.rows start (n ∷ [])) old mid (Ok tt) (begins i n)
      → Begins nothing rows (λ start. begun_at i.rows start ms) mid new r (all_begin i ms)
      → Begins nothing rows (λ start. begun_at i.rows start all) old new r (all_begin i all)
  one-begins {r} n ms all is first next =
      subst (λ (l : List ℕ). Begins nothing rows (λ start. begun_at i.rows start l) old new r (all_begin i l)) (sym is)
      (begin-step {first = λ start. begun_at i.rows start (n ∷ [])} {rest = λ start. begun_at i.rows start ms} (λ done. all_begin i ms) 1 refl
      (sized-begins i n)
      (λ start. ap (λ k. begun_at i.rows k ms ++ begun_at i.rows start (n ∷ [])) (start-one start)) first next)

  pub one-stops : {r : Result ⊤ LowerRefusal} {e : LowerRefusal} (n : ℕ) (ms all : List ℕ) → all ≡ n ∷ ms → r ≡ Err e
      → Begins nothing rows (λ start. begun_at i.rows start (n ∷ [])) old mid (Err e) (begins i n)
      → Begins nothing rows (λ start. begun_at i.rows start all) old new r (all_begin i all)
  one-stops {r} {e} n ms all is out first =
      subst (λ (l : List ℕ). Begins nothing rows (λ start. begun_at i.rows start l) old new r (all_begin i l)) (sym is)
      (begin-stop (λ done. all_begin i ms) refl out first)

pub none-begin : (i : Inside) (rows : List Row) (s : Body) (all : List ℕ) → all ≡ []
    → Begins nothing rows (λ start. begun_at i.rows start all) s s (Ok tt) (all_begin i all)
none-begin i rows s all is =
    subst (λ (l : List ℕ). Begins nothing rows (λ start. begun_at i.rows start l) s s (Ok tt) (all_begin i l)) (sym is) (begin-given (λ start. refl))

-- ---- what is left in a loop

pub rest-at : {X : Type 0} (xs : List X) (k : ℕ) (x : X) → k < length xs → x ≡ get_or xs k x → drop k xs ≡ x ∷ drop (k + 1) xs
rest-at xs k x within is =
    let next : k + 1 ≡ suc k = omega arith in
    drop-cons xs k x within ∙ ap (λ y. y ∷ drop (suc k) xs) (sym is) ∙ ap (λ j. x ∷ drop j xs) (sym next)

module _ (types : TypeRef → CType) where
  -- the numbers of the locals of a declaration, and of items of a block
  abbrev pub numbers : List CodeLocalItem → List ℕ
  numbers locals = numbers_of (map (local_item_view types) locals)

  abbrev pub block_numbers : List code_block_item.BlockItem → List ℕ
  block_numbers items = locals_of (all_items (map (block_item_view types) items))

  abbrev pub item_numbers : code_block_item.BlockItem → List ℕ
  item_numbers item = locals_of (block_item_view types item no_items)

  pub numbers-at : (locals : List CodeLocalItem) (k : ℕ) (x : CodeLocalItem) → k < length locals → x ≡ get_or locals k x
      → numbers (drop k locals) ≡ x.number ∷ numbers (drop (k + 1) locals)
  numbers-at locals k x within is = ap numbers (rest-at locals k x within is)

  pub numbers-done : (locals : List CodeLocalItem) (k : ℕ) → length locals ≤ k → numbers (drop k locals) ≡ []
  numbers-done locals k past = ap numbers (drop_all k locals past)

  item-made : (y : BlockItem-F (Items → Items) (ℕ → Stmt) BlockView Stmt) (rest : Items)
      → locals_of (block_item_from types y rest) ≡ locals_of (block_item_from types y no_items) ++ locals_of rest
  item-made (BlockItem-F.Declaration xs) rest = ap (λ ns. ns ++ locals_of rest) (sym (append-nil (numbers xs)))
  item-made (BlockItem-F.Statement s) rest = refl

  pub item-first : (item : code_block_item.BlockItem) (rest : Items) → locals_of (block_item_view types item rest) ≡ item_numbers item ++ locals_of rest
  unfolding block_item_view
  item-first item rest =
      subst (λ (g : Items → Items). locals_of (g rest) ≡ locals_of (g no_items) ++ locals_of rest)
      (sym (code_block_item.fold_out-BlockItem (Items → Items) (ℕ → Stmt) BlockView Stmt (block_item_from types) (stmt_node_from types) (block_from types)
      (stmt_from types) item))
      (item-made _ rest)

  pub items-at : (items : List code_block_item.BlockItem) (k : ℕ) (x : code_block_item.BlockItem) → k < length items → x ≡ get_or items k x
      → block_numbers (drop k items) ≡ item_numbers x ++ block_numbers (drop (k + 1) items)
  items-at items k x within is = ap block_numbers (rest-at items k x within is) ∙ item-first x (all_items (map (block_item_view types) (drop (k + 1) items)))

  pub items-done : (items : List code_block_item.BlockItem) (k : ℕ) → length items ≤ k → block_numbers (drop k items) ≡ []
  items-done items k past = ap block_numbers (drop_all k items past)

  pub of-declaration : (item : code_block_item.BlockItem) (locals : List CodeLocalItem) → item ≡ bi.Declaration locals → item_numbers item ≡ numbers locals
  of-declaration item locals is =
      ap (λ x. locals_of (block_item_view types x no_items)) is ∙ ap locals_of (view_declaration types locals no_items) ∙ append-nil (numbers locals)

  pub of-statement : (item : code_block_item.BlockItem) (s : code_stmt.Stmt) → item ≡ bi.Statement s → item_numbers item ≡ []
  of-statement item s is = ap (λ x. locals_of (block_item_view types x no_items)) is ∙ ap locals_of (view_statement types s no_items)
