-- What is added by one step after another.
use Rattle.std.proofs.Common.{◌≡◌, ℕ, ◌+◌, ◌-◌, ◌*◌, ◌^◌, ◌<◌, ◌≤◌, min, Bool as Test, true, false, not, ◌||◌, List, [], ◌∷◌, ◌++◌, map, length, drop, get_or, Option, is_some, Result, Ok, Err, refl, sym, ap, subst, ◌∙◌, add-one, arith}
use Rattle.std.specs.Bool.{⊤}
use Rattle.c_tree.specs.declared.declaration.Initializer as tree_initializer
use Rattle.c_types.specs.declared.qualifiers.Qualifiers.{Qualifiers}
use Rattle.c_types.specs.Types.{CType, void, integer, pointer, array, returning, taking, cells_of}
use Rattle.c_types.specs.Rules.{conversion_form}
use Rattle.c_types.specs.declared.type_ref.Row.{Row}
use Rattle.c_types.specs.Table.{type_at, Extends}
use Rattle.c_types.proofs.Grown.{Extends-refl}
use Rattle.c_typed.specs.declared.statement.Cell as code_cell
use Rattle.c_typed.specs.declared.program.Start.{Start}
use Rattle.c_typed.specs.declared.value.Value as v
use Rattle.c_typed.specs.Typed.{Value}
use Rattle.c_typed.specs.Views.{value_view}
use Rattle.c_typed.specs.Starts.{start_of}
use Rattle.c_typed.specs.Statements.{Cell}
use Rattle.typing_rules.specs.declared.refusal.TypeRefusal.{TypeRefusal}
use Rattle.typing_rules.specs.declared.refusal.TypeRefusal.TheVariants.{Mismatch}
use Rattle.typing_rules.specs.Source.{Expr}
use Rattle.typing_rules.specs.SourceUnits.{Initial, single, braced, Initials}
use Rattle.typing_rules.specs.SourceViews.{initial_view, initials_from}
use Rattle.typing_rules.specs.DeclarationRules.{is_past}
use Rattle.typing_rules.specs.Known as known
use Rattle.typing_rules.specs.Terms as terms
use Rattle.typing_rules.specs.Terms.{operand_of, converted_by}
use Rattle.typing_rules.specs.Checking.{Checked, Checking, and_then, ◌>>=◌, ◌>>◌, pure, refuse, choose, needs, ruled_by}
use Rattle.typing_rules.specs.OrderedDeclarations.{value_of, scalar_cells, insides, misshapen, single_cells, cells_given, items_given}
use Rattle.c_values.specs.declared.typed.Written.{Written}
use Rattle.c_values.specs.Stand.{MeansValue, MeansWritten}
use Rattle.c_known.specs.declared.known.Known.{Known}
use Rattle.c_known.specs.Gives.{Gives, IsDone}
use Rattle.c_known.proofs.Binding.{bind, told, pure-gives, refuse-gives, gives-same, regroup}
use Rattle.c_declarations.specs.Cells.{counted, Added, Adds, scalar_cell, converted_cell, item_given}
use Rattle.c_declarations.proofs.Runs.{from-one-on, none-from}
use Rattle.c_declarations.proofs.Counted.{counted-on, added-none, added-both}

-- ---- initializers of a wrong shape

pub shape-refused : (old new : Known) (before after : List code_cell.Cell) (at : ℕ) (x : Initial) (u : ⊤) → Gives IsDone old new (Ok u) (insides x)
    → Adds before after old new (Err (Mismatch at 16)) (misshapen at x)
shape-refused old new before after at x u g =
    bind IsDone (Added before after) old new new u (Err (Mismatch at 16)) (insides x) (λ _. refuse (Mismatch at 16)) g (λ a more done. refuse-gives (Added before after) new new (Mismatch at 16))

pub inside-refused : (old new : Known) (before after : List code_cell.Cell) (at : ℕ) (x : Initial) (e : TypeRefusal) → Gives {X = ⊤} IsDone old new (Err e) (insides x)
    → Adds before after old new (Err e) (misshapen at x)
inside-refused old new before after at x e g = told IsDone (Added before after) old new new e (insides x) (λ _. refuse (Mismatch at 16)) g

-- ---- one part in front of others

abbrev pub in_front : Checking (List Cell) → Checking (List Cell) → Checking (List Cell)
in_front m n = m >>= (λ first. n >>= (λ others. pure (first ++ others)))

pub adds-both : (old mid new : Known) (before middle after : List code_cell.Cell) (u : ⊤) (r : Result ⊤ TypeRefusal) (m n : Checking (List Cell))
    → Adds before middle old mid (Ok u) m → (Extends old.types mid.types → Adds middle after mid new r n) → Adds before after old new r (in_front m n)
adds-both old mid new before middle after u (Ok w) m n g k =
    bind (Added before middle) (Added before after) old mid new u (Ok w) m (λ first. n >>= (λ others. pure (first ++ others))) g
    (λ a more h. bind (Added middle after) (Added before after) mid new new w (Ok w) n (λ others. pure (a ++ others)) (k more)
    (λ b grown h'. pure-gives (Added before after) new w (a ++ b) (added-both before middle after mid.types new.types u w a b grown h h')))
adds-both old mid new before middle after u (Err e) m n g k =
    bind (Added before middle) (Added before after) old mid new u (Err e) m (λ first. n >>= (λ others. pure (first ++ others))) g
    (λ a more h. told (Added middle after) (Added before after) mid new new e n (λ others. pure (a ++ others)) (k more))

pub adds-refused : (old mid : Known) (before middle after : List code_cell.Cell) (e : TypeRefusal) (m n : Checking (List Cell))
    → Adds before middle old mid (Err e) m → Adds before after old mid (Err e) (in_front m n)
adds-refused old mid before middle after e m n g =
    told (Added before middle) (Added before after) old mid mid e m (λ first. n >>= (λ others. pure (first ++ others))) g

-- ---- items from one on

refused-at : {A B C : Type 0} (c : Checked A) (e : TypeRefusal) (f : B → Checking C) → and_then c (λ _. refuse e) ≡ and_then (and_then c (λ _. refuse e)) f
refused-at (Ok p) e f = refl
refused-at (Err q) e f = refl

item-in-front : (b : Test) (at : ℕ) (x : Initial) (m n : Checking (List Cell)) (k : known.Known)
    → in_front (choose b (misshapen at x) m) n k ≡ choose b (misshapen at x) (in_front m n) k
item-in-front true at x m n k = sym (refused-at (insides x k) (Mismatch at 16) (λ first. n >>= (λ others. pure (first ++ others))))
item-in-front false at x m n k = refl

module _ (shift : ℕ → ℕ) (is_static : Test) (at : ℕ) (t : CType) (n : Option ℕ) (xs : List tree_initializer.Initializer) where
  -- the items from one on, the first of which starts at a cell
  abbrev pub items_from : ℕ → ℕ → Checking (List Cell)
  items_from i index = items_given is_static at t n i index (initials_from (map (initial_view shift) (drop i xs)))

  pub one-on : (i index : ℕ) (x : tree_initializer.Initializer) → i < length xs → x ≡ get_or xs i x → (k : known.Known)
      → in_front (item_given is_static at t n i index (initial_view shift x)) (items_from (i + 1) (index + cells_of t)) k ≡ items_from i index k
  unfolding items_given cells_given
  one-on i index x below is k =
      item-in-front (is_past n i) at (initial_view shift x) (cells_given is_static at t index (initial_view shift x)) (items_from (i + 1) (index + cells_of t)) k
      ∙ ap (λ j. choose (is_past n i) (misshapen at (initial_view shift x))
      (in_front (cells_given is_static at t index (initial_view shift x)) (items_given is_static at t n j (index + cells_of t) (initials_from (map (initial_view shift) (drop (i + 1) xs))))) k) (add-one i)
      ∙ sym (ap (λ (ys : List tree_initializer.Initializer). items_given is_static at t n i index (initials_from (map (initial_view shift) ys)) k) (from-one-on xs i x below is))

  pub none-on : (i index : ℕ) (before : List code_cell.Cell) (s : Known) → length xs ≤ i → Adds before before s s (Ok tt) (items_from i index)
  unfolding items_given cells_given
  none-on i index before s past =
      subst (λ (ys : List tree_initializer.Initializer). Adds before before s s (Ok tt) (items_given is_static at t n i index (initials_from (map (initial_view shift) ys)))) (sym (none-from xs i past))
      (pure-gives (Added before before) s tt [] (added-none before s.types tt))

-- what a single expression and a list give
pub single-adds : (before after : List code_cell.Cell) (old new : Known) (r : Result ⊤ TypeRefusal) (is_static : Test) (at : ℕ) (t : CType) (i : ℕ) (e : Expr)
    → Adds before after old new r (single_cells is_static at t i e) → Adds before after old new r (cells_given is_static at t i (single e))
unfolding items_given cells_given
single-adds before after old new r is_static at t i e g = g

pub list-adds : (before after : List code_cell.Cell) (old new : Known) (r : Result ⊤ TypeRefusal) (is_static : Test) (at : ℕ) (q : Qualifiers) (t : CType) (n : Option ℕ) (i line : ℕ) (xs : Initials)
    → Adds before after old new r (items_given is_static at t n 0 i xs) → Adds before after old new r (cells_given is_static at (array q t n) i (braced line xs))
unfolding items_given cells_given
list-adds before after old new r is_static at q t n i line xs g = g

-- a list for a scalar or a function
abbrev pub takes_list : CType → Test
takes_list void = false
takes_list (integer ty) = false
takes_list (pointer q t) = false
takes_list (array q t n) = true
takes_list (returning q t) = false
takes_list (taking p t) = false

pub braced-adds : (before after : List code_cell.Cell) (old new : Known) (r : Result ⊤ TypeRefusal) (is_static : Test) (at : ℕ) (t : CType) (i line : ℕ) (xs : Initials)
    → takes_list t ≡ false → Adds before after old new r (misshapen at (braced line xs)) → Adds before after old new r (cells_given is_static at t i (braced line xs))
unfolding items_given cells_given
braced-adds before after old new r is_static at void i line xs e g = g
braced-adds before after old new r is_static at (integer ty) i line xs e g = g
braced-adds before after old new r is_static at (pointer q t) i line xs e g = g
braced-adds before after old new r is_static at (array q t n) i line xs e g = cc
braced-adds before after old new r is_static at (returning q t) i line xs e g = g
braced-adds before after old new r is_static at (taking p t) i line xs e g = g

-- ---- scalars

abbrev pub scalar_step : Test → ℕ → CType → ℕ → terms.Written → Checking (List Cell)
scalar_step is_static at t i w =
    ruled_by at (conversion_form t (operand_of w.value)) >>= (λ form. needs (not is_static || is_some (start_of (converted_by form t w))) (Mismatch at 16)
    >> pure (record { index = i; value = converted_by form t w } ∷ []))

pub value-adds : (before after : List code_cell.Cell) (old mid : Known) (x : Written) (r : Result ⊤ TypeRefusal) (is_static : Test) (at : ℕ) (t : CType) (i : ℕ) (e : Expr)
    → Gives MeansWritten old mid (Ok x) (value_of e)
    → ((w : terms.Written) → Extends old.types mid.types → MeansWritten mid.types x w → Adds before after mid mid r (converted_cell is_static at t i w))
    → Adds before after old mid r (scalar_cells is_static at t i e)
value-adds before after old mid x r is_static at t i e g next =
    bind MeansWritten (Added before after) old mid mid x r (value_of e) (scalar_step is_static at t i) g
    (λ w more mw. regroup (Added before after) mid mid r (ruled_by at (conversion_form t (operand_of w.value))) (λ form. pure (converted_by form t w)) (scalar_cell is_static at i) (next w more mw))

pub value-refused : (before after : List code_cell.Cell) (old mid : Known) (e : TypeRefusal) (is_static : Test) (at : ℕ) (t : CType) (i : ℕ) (x : Expr)
    → Gives {X = Written} MeansWritten old mid (Err e) (value_of x) → Adds before after old mid (Err e) (scalar_cells is_static at t i x)
value-refused before after old mid e is_static at t i x g = told MeansWritten (Added before after) old mid mid e (value_of x) (scalar_step is_static at t i) g

-- ---- the cell of the next item

pub next-at : (i k c : ℕ) → i + (k + 1) * c ≡ i + k * c + c
next-at i k c = omega arith

pub count-next : (n i k c s : ℕ) → n ≡ counted (i + k * c) → s ≡ c → min (n + s) (2 ^ 32 - 1) ≡ counted (i + (k + 1) * c)
count-next n i k c s e same = counted-on n (i + k * c) s e ∙ ap (λ j. counted (i + k * c + j)) same ∙ ap counted (sym (next-at i k c))

module _ (shift : ℕ → ℕ) (is_static : Test) (at : ℕ) (t : CType) (n : Option ℕ) (xs : List tree_initializer.Initializer) where
  pub item-added : (k i : ℕ) (x : tree_initializer.Initializer) (old mid new : Known) (before middle after : List code_cell.Cell) (u : ⊤) (r : Result ⊤ TypeRefusal)
      → k < length xs → x ≡ get_or xs k x → Adds before middle old mid (Ok u) (item_given is_static at t n k i (initial_view shift x))
      → (Extends old.types mid.types → Adds middle after mid new r (items_from shift is_static at t n xs (k + 1) (i + cells_of t)))
      → Adds before after old new r (items_from shift is_static at t n xs k i)
  item-added k i x old mid new before middle after u r below is g next =
      let item = item_given is_static at t n k i (initial_view shift x) in
      let rest = items_from shift is_static at t n xs (k + 1) (i + cells_of t) in
      gives-same (Added before after) old new r (in_front item rest) (items_from shift is_static at t n xs k i) (one-on shift is_static at t n xs k i x below is)
      (adds-both old mid new before middle after u r item rest g next)

  pub item-refused : (k i : ℕ) (x : tree_initializer.Initializer) (old mid : Known) (before middle after : List code_cell.Cell) (e : TypeRefusal)
      → k < length xs → x ≡ get_or xs k x → Adds before middle old mid (Err e) (item_given is_static at t n k i (initial_view shift x))
      → Adds before after old mid (Err e) (items_from shift is_static at t n xs k i)
  item-refused k i x old mid before middle after e below is g =
      let item = item_given is_static at t n k i (initial_view shift x) in
      let rest = items_from shift is_static at t n xs (k + 1) (i + cells_of t) in
      gives-same (Added before after) old mid (Err e) (in_front item rest) (items_from shift is_static at t n xs k i) (one-on shift is_static at t n xs k i x below is)
      (adds-refused old mid before middle after e item rest g)

-- ---- types by their shapes

pub single-by : (before after : List code_cell.Cell) (old new : Known) (r : Result ⊤ TypeRefusal) (is_static : Test) (at : ℕ) (t u : CType) (i : ℕ) (x : Expr) (m : CType → Checking (List Cell))
    → t ≡ u → m u ≡ single_cells is_static at u i x → Adds before after old new r (m t) → Adds before after old new r (single_cells is_static at t i x)
single-by before after old new r is_static at t u i x m is same g =
    subst (λ y. Adds before after old new r (single_cells is_static at y i x)) (sym is)
    (subst (λ (n : Checking (List Cell)). Adds before after old new r n) same (subst (λ y. Adds before after old new r (m y)) is g))

pub braced-by : (before after : List code_cell.Cell) (old new : Known) (r : Result ⊤ TypeRefusal) (is_static : Test) (at : ℕ) (t u : CType) (i : ℕ) (y : Initial) (line : ℕ) (xs : Initials)
    → y ≡ braced line xs → t ≡ u → takes_list u ≡ false → Adds before after old new r (misshapen at y) → Adds before after old new r (cells_given is_static at t i y)
braced-by before after old new r is_static at t u i y line xs is same none g =
    subst (λ z. Adds before after old new r (cells_given is_static at t i z)) (sym is)
    (braced-adds before after old new r is_static at t i line xs (ap takes_list same ∙ none) (subst (λ z. Adds before after old new r (misshapen at z)) is g))

-- ---- whether a value may stand

pub start-is : (rows : List Row) (x y : v.Value) (a : Value) (o : Option Start) → MeansValue rows x a → y ≡ x → o ≡ start_of (value_view (type_at rows) y) → o ≡ start_of a
start-is rows x y a o means same is = is ∙ ap (λ z. start_of (value_view (type_at rows) z)) same ∙ ap start_of (means.always rows (Extends-refl rows))

pub not-allowed : (b c : Test) (o p : Option Start) → b ≡ true → c ≡ true → is_some o ≡ not c → o ≡ p → false ≡ (not b || is_some p)
not-allowed b c o p static none e same = sym ((λ i. not (static i) || is_some p) ∙ ap is_some (sym same) ∙ e ∙ ap not none)

pub allowed-constant : (b c : Test) (o p : Option Start) → b ≡ true → c ≡ false → is_some o ≡ not c → o ≡ p → true ≡ (not b || is_some p)
allowed-constant b c o p static some e same = sym ((λ i. not (static i) || is_some p) ∙ ap is_some (sym same) ∙ e ∙ ap not some)

pub allowed-local : (b x : Test) → b ≡ false → true ≡ (not b || x)
allowed-local b x local = sym (λ i. not (local i) || x)
