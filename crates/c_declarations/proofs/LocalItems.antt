-- The items of a declaration, one behind the other.
use Rattle.std.proofs.Common.{◌≡◌, ℕ, ◌+◌, ◌<◌, ◌≤◌, List, [], ◌++◌, map, length, drop, get_or, Option, Ok, Err, ap, ◌∙◌}
use Rattle.std.proofs.lemmas.List.{map-append}
use Rattle.c_tree.specs.declared.declaration.Item as tree_item
use Rattle.c_types.specs.declared.type_ref.Row.{Row}
use Rattle.c_types.specs.Types.{Qualified}
use Rattle.c_types.specs.Table.{type_at, Extends}
use Rattle.c_types.proofs.Grown.{Extends-trans}
use Rattle.c_typed.specs.declared.statement.LocalItem as code_item
use Rattle.c_typed.specs.Statements.{LocalItem}
use Rattle.c_typed.specs.StatementViews.{local_item_view}
use Rattle.typing_rules.specs.declared.refusal.TypeRefusal.{TypeRefusal}
use Rattle.typing_rules.specs.SourceViews.{item_view}
use Rattle.typing_rules.specs.Checking.{Checking, ◌>>=◌, pure}
use Rattle.typing_rules.specs.OrderedDeclarations.{items_in_block, item_in_block}
use Rattle.c_known.specs.declared.known.Known.{Known}
use Rattle.c_known.specs.Gives.{Gives}
use Rattle.c_known.proofs.Binding.{bind, told, pure-gives}
use Rattle.c_declarations.specs.Parts.{AreLocalItems, IsLocalItem, one_or_none}
use Rattle.c_declarations.proofs.Runs.{from-one-on, none-from}

pub appended : (mid new : List Row) (xs ys : List code_item.LocalItem) (ls bs : List LocalItem) → Extends mid new → AreLocalItems mid xs ls → AreLocalItems new ys bs → AreLocalItems new (xs ++ ys) (ls ++ bs)
appended mid new xs ys ls bs more h k = record {
  always = λ later e. map-append (local_item_view (type_at later)) xs ys ∙ (λ i. h.always later (Extends-trans more e) i ++ k.always later e i);
}

-- what one part declares in front of what others declare
abbrev pub in_front : Checking (List LocalItem) → Checking (List LocalItem) → Checking (List LocalItem)
in_front m n = m >>= (λ first. n >>= (λ others. pure (first ++ others)))

pub front-done : (old mid new : Known) (x : Option code_item.LocalItem) (ys : List code_item.LocalItem) (m n : Checking (List LocalItem))
    → Gives IsLocalItem old mid (Ok x) m → (Extends old.types mid.types → Gives AreLocalItems mid new (Ok ys) n) → Gives AreLocalItems old new (Ok (one_or_none x ++ ys)) (in_front m n)
front-done old mid new x ys m n g k =
    bind IsLocalItem AreLocalItems old mid new x (Ok (one_or_none x ++ ys)) m (λ first. n >>= (λ others. pure (first ++ others))) g
    (λ a more h. bind AreLocalItems AreLocalItems mid new new ys (Ok (one_or_none x ++ ys)) n (λ others. pure (a ++ others)) (k more)
    (λ b grown h'. pure-gives AreLocalItems new (one_or_none x ++ ys) (a ++ b) (appended mid.types new.types (one_or_none x) ys a b grown h h')))

pub front-refused-behind : (old mid new : Known) (x : Option code_item.LocalItem) (e : TypeRefusal) (m n : Checking (List LocalItem))
    → Gives IsLocalItem old mid (Ok x) m → (Extends old.types mid.types → Gives {X = List code_item.LocalItem} AreLocalItems mid new (Err e) n)
    → Gives {X = List code_item.LocalItem} AreLocalItems old new (Err e) (in_front m n)
front-refused-behind old mid new x e m n g k =
    bind IsLocalItem AreLocalItems old mid new x (Err e) m (λ first. n >>= (λ others. pure (first ++ others))) g
    (λ a more h. told AreLocalItems AreLocalItems mid new new e n (λ others. pure (a ++ others)) (k more))

pub front-refused : (old mid : Known) (e : TypeRefusal) (m n : Checking (List LocalItem)) → Gives {X = Option code_item.LocalItem} IsLocalItem old mid (Err e) m
    → Gives {X = List code_item.LocalItem} AreLocalItems old mid (Err e) (in_front m n)
front-refused old mid e m n g = told IsLocalItem AreLocalItems old mid mid e m (λ first. n >>= (λ others. pure (first ++ others))) g

-- ---- items from one on

abbrev pub items_from : (ℕ → ℕ) → Qualified → ℕ → List tree_item.Item → ℕ → Checking (List LocalItem)
items_from shift base specifiers xs i = items_in_block base specifiers (map (item_view shift) (drop i xs))

pub one-on : (shift : ℕ → ℕ) (base : Qualified) (specifiers : ℕ) (xs : List tree_item.Item) (i : ℕ) (x : tree_item.Item) → i < length xs → x ≡ get_or xs i x
    → items_from shift base specifiers xs i ≡ in_front (item_in_block base specifiers (item_view shift x)) (items_from shift base specifiers xs (i + 1))
one-on shift base specifiers xs i x below is = ap (λ (ys : List tree_item.Item). items_in_block base specifiers (map (item_view shift) ys)) (from-one-on xs i x below is)

pub none-on : (shift : ℕ → ℕ) (base : Qualified) (specifiers : ℕ) (xs : List tree_item.Item) (i : ℕ) → length xs ≤ i → items_from shift base specifiers xs i ≡ pure []
none-on shift base specifiers xs i past = ap (λ (ys : List tree_item.Item). items_in_block base specifiers (map (item_view shift) ys)) (none-from xs i past)
