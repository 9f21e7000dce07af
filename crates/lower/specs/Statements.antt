-- Statements: what each construct is lowered to. Temporaries are free again at each of them.
use Rattle.std.specs.Prelude.{ℕ, zero, suc, ◌+◌, false, if◌then◌else◌, List, [], ◌∷◌, ◌++◌, length, Option, Some, None}
use Rattle.srmt_base.specs.declared.ty.Ty.TheVariants.{UInt}
use Rattle.mid_code.specs.declared.mid.Mid.{Mid}
use Rattle.mid_code.specs.declared.mid.Mid.TheVariants as mid
use Rattle.mid_code.specs.declared.program.RegisterKind.TheVariants.{Address}
use Rattle.c_types.specs.Types.{cells_of}
use Rattle.c_typed.specs.Typed.{Value}
use Rattle.c_typed.specs.Statements.{Cell, Initializer, scalar, cells, LocalItem, LocalRow, starts, declares, Stmt, block, empty, expression, if_only, if_else, while, do_while, for, continue, break, return, Items, no_items, declaration, statement}
use Rattle.source_meaning.specs.Statements.{numbers_of, locals_of}
use Rattle.lower.specs.Emitting.{Line, Code, Around, at_line, jumped, Making, ◌>>=◌, ◌>>◌, pure, emits, emits_code, wrapped, apart, two_ways, either, new, temporary, kind_of, home_of, settles}
use Rattle.lower.specs.Expressions.{Inside, row_at, value_of}

-- ---- the locals of a block

-- the places of the objects in memory that locals begin, from a place on, the newest first
abbrev pub begun_at : List LocalRow → ℕ → List ℕ → List ℕ
begun_at rows start [] = []
begun_at rows start (n ∷ rest) = begun_at rows (suc start) rest ++ (if (row_at rows n).is_placed then start ∷ [] else [])

-- code inside of what these locals live
abbrev pub living : List LocalRow → List ℕ → Code → Code
living rows locals c around start =
    let begun = begun_at rows start locals in
    c (record around { in_loop = begun ++ around.in_loop; in_function = begun ++ around.in_function }) start

-- objects end in order
abbrev pub closes : ℕ → List ℕ → List Line
closes line [] = []
closes line (opened ∷ rest) = at_line line (mid.Close opened) ∷ closes line rest

-- those that locals began at a place
abbrev pub closed_behind : List LocalRow → List ℕ → ℕ → Code → Code
closed_behind rows locals line c around start = c around start ++ closes line (begun_at rows start locals)

-- ---- parts that depend on nothing

-- one register goes from cell to cell: from the first to the one of an index
abbrev pub to_cell : LocalRow → ℕ → ℕ → Making (Unit {0})
to_cell row at zero = pure tt
to_cell row at (suc before) = moved
  where
    moved : Making (Unit {0})
    moved = do
      index ← temporary 0 row.line
      emits row.first (mid.Const index (suc before))
      emits row.line (mid.PtrAdd at at index UInt false 1)

-- the instruction that gives a local in memory its value
abbrev pub storing : LocalRow → ℕ → ℕ → Mid
storing row at x = if row.type.qualifiers.is_volatile then mid.VStore at x else mid.Store at x

-- the objects of the blocks that are left end, and the jump follows
abbrev pub breaks : ℕ → Code
breaks line around start = closes line around.in_loop ++ at_line line (mid.Jump around.break_at) ∷ []

abbrev pub continues : ℕ → Code
continues line around start = closes line around.in_loop ++ at_line line (mid.Jump around.continue_at) ∷ []

-- an object of so many cells begins, and a local has its address
abbrev pub opens : ℕ → ℕ → ℕ → Making ℕ
opens line n count = do
  r ← new Address line
  settles n r
  emits line (mid.Open r count)
  pure r

module _ (i : Inside) where
  abbrev pub begins_in_memory : LocalRow → ℕ → Making (Unit {0})
  begins_in_memory row n = opens row.line n (cells_of row.type.type) >> pure tt

  abbrev pub begins_in_register : LocalRow → ℕ → Making (Unit {0})
  begins_in_register row n = do
    r ← new (kind_of row.type.type) row.line
    settles n r
    emits row.first (mid.Const r 0)

  -- a local gets its register; in memory it begins as an object of zeros, else as 0
  abbrev pub begins : ℕ → Making (Unit {0})
  begins n = either (row_at i.rows n).is_placed (begins_in_memory (row_at i.rows n) n) (begins_in_register (row_at i.rows n) n)

  abbrev pub all_begin : List ℕ → Making (Unit {0})
  all_begin [] = pure tt
  all_begin (n ∷ rest) = begins n >> all_begin rest

  -- a block: its locals begin, and end behind it in reverse
  abbrev pub in_block : List ℕ → ℕ → Making (Unit {0}) → Making (Unit {0})
  in_block locals line body =
      wrapped (closed_behind i.rows locals line) (wrapped (living i.rows locals) (all_begin locals >> body))

  -- ---- initializers

  abbrev pub cell_given : LocalRow → ℕ → ℕ → Cell → Making (Unit {0})
  cell_given row home at c = do
    emits row.first (mid.Move at home)
    to_cell row at c.index
    x ← value_of i c.value 0
    emits row.line (mid.Store at x)

  abbrev pub cells_given : LocalRow → ℕ → ℕ → List Cell → Making (Unit {0})
  cells_given row home at [] = pure tt
  cells_given row home at (c ∷ rest) = cell_given row home at c >> cells_given row home at rest

  abbrev pub in_memory_given : LocalRow → ℕ → Value → Making (Unit {0})
  in_memory_given row n e = do
    home ← home_of n
    at ← new Address row.line
    emits row.first (mid.Move at home)
    x ← value_of i e 0
    emits row.line (storing row at x)

  abbrev pub in_register_given : LocalRow → ℕ → Value → Making (Unit {0})
  in_register_given row n e = do
    x ← value_of i e 0
    home ← home_of n
    emits row.first (mid.Move home x)

  abbrev pub all_cells_given : LocalRow → ℕ → List Cell → Making (Unit {0})
  all_cells_given row n given = do
    home ← home_of n
    at ← new Address row.line
    cells_given row home at given

  abbrev pub initializes : ℕ → Option Initializer → Making (Unit {0})
  initializes n None = pure tt
  initializes n (Some (scalar e)) = either (row_at i.rows n).is_placed (in_memory_given (row_at i.rows n) n e) (in_register_given (row_at i.rows n) n e)
  initializes n (Some (cells given)) = all_cells_given (row_at i.rows n) n given

  abbrev pub all_initialize : List LocalItem → Making (Unit {0})
  all_initialize [] = pure tt
  all_initialize (l ∷ rest) = initializes l.number l.initializer >> all_initialize rest

  -- ---- loops

  abbrev pub done : Option Value → Making (Unit {0})
  done None = pure tt
  done (Some e) = value_of i e 0 >> pure tt

  -- the register of a condition, where there is one
  abbrev pub tested : Option Value → Making (Option ℕ)
  tested None = pure None
  tested (Some e) = do pure (Some (← value_of i e 0))

  abbrev pub leaves_at : ℕ → Option ℕ → ℕ → List Line
  leaves_at line None to = []
  leaves_at line (Some r) to = at_line line (mid.JumpZ r to) ∷ []

  -- the body of a loop, which `break` and `continue` leave for these places
  abbrev pub within : ℕ → ℕ → Around → Around
  within break_at continue_at around = record around { break_at = break_at; continue_at = continue_at; in_loop = [] }

  -- `L: Turn, test, JumpZ E, body, step, Jump L, E:`. `continue` leads behind the body
  abbrev pub loop_code : ℕ → Option ℕ → (test body step : Code) → Code
  loop_code line r test body step around start =
      let first = test around (suc start) in
      let body_at = suc start + length first + length (leaves_at line r 0) in
      let continue_at = body_at + length (body (within 0 0 around) body_at) in
      let last = step around continue_at in
      let end = suc (continue_at + length last) in
      at_line line mid.Turn ∷ first ++ leaves_at line r end ++ body (within end continue_at around) body_at ++ last
      ++ at_line line (mid.Jump start) ∷ []

  -- `L: Turn, body, test, JumpN L, E:`
  abbrev pub do_code : ℕ → ℕ → (body test : Code) → Code
  do_code line r body test around start =
      let continue_at = suc start + length (body (within 0 0 around) (suc start)) in
      let last = test around continue_at in
      let end = suc (continue_at + length last) in
      at_line line mid.Turn ∷ body (within end continue_at around) (suc start) ++ last ++ at_line line (mid.JumpN r start) ∷ []

  abbrev pub looped : ℕ → Option Value → Making (Unit {0}) → Option Value → Making (Unit {0})
  looped line e body step = do
    test ← apart (tested e)
    inner ← apart body
    last ← apart (done step)
    emits_code (loop_code line test.0 test.1 inner.1 last.1)

  abbrev pub do_looped : ℕ → Making (Unit {0}) → Value → Making (Unit {0})
  do_looped line body e = do
    inner ← apart body
    test ← apart (value_of i e 0)
    emits_code (do_code line test.0 inner.1 test.1)

  -- ---- jumps

  -- `main` is left by `exit`, which ends no object
  abbrev pub returns : ℕ → ℕ → Code
  returns line r around start = if i.is_main then at_line line (mid.Exit r) ∷ [] else closes line around.in_function ++ at_line line (mid.Return r) ∷ []

  abbrev pub value_or_zero : ℕ → Option Value → Making ℕ
  value_or_zero line (Some e) = value_of i e 0
  value_or_zero line None = do
    r ← temporary 0 line
    emits line (mid.Const r 0)
    pure r

  -- a `for` with locals, which live as long as the loop
  abbrev pub looped_with : List LocalItem → ℕ → Option Value → Making (Unit {0}) → Option Value → Making (Unit {0})
  looped_with locals line e body step = in_block (numbers_of locals) line (all_initialize locals >> looped line e body step)

  -- ---- statements

  unfoldable mutual
    pub lowers : Stmt → Making (Unit {0})
    lowers (block line items end) = in_block (locals_of items) line (lowers_items items)
    lowers (empty line) = pure tt
    lowers (expression line e) = value_of i e 0 >> pure tt
    lowers (if_only line e a) = value_of i e 0 >>= (λ x. wrapped (jumped line (mid.JumpZ x)) (lowers a))
    lowers (if_else line e a b) = value_of i e 0 >>= (λ x. two_ways line (mid.JumpZ x) (lowers a) (λ done. lowers b))
    lowers (while line e a) = looped line (Some e) (lowers a) None
    lowers (do_while line a e) = do_looped line (lowers a) e
    lowers (for line (starts first) e step a) = done first >> looped line e (lowers a) step
    lowers (for line (declares locals) e step a) = looped_with locals line e (lowers a) step
    lowers (continue line) = emits_code (continues line)
    lowers (break line) = emits_code (breaks line)
    lowers (return line e) = value_or_zero line e >>= (λ r. emits_code (returns line r))

    pub lowers_items : Items → Making (Unit {0})
    lowers_items no_items = pure tt
    lowers_items (declaration locals rest) = all_initialize locals >> lowers_items rest
    lowers_items (statement first rest) = lowers first >> lowers_items rest
