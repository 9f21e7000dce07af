-- Locals that change, as they are known.
use Rattle.std.proofs.Common.{arith, min, drop, take, length, ◌≡◌, ℕ, zero, suc, ◌||◌, List, [], ◌∷◌, map, Option, Some, None, Ok, subst, slice_get, slice_set, refl, sym, ◌∙◌, ap}
use Rattle.std.specs.Option.{option_map}
use Rattle.std.specs.declared.vec.Vec.{Vec}
use Rattle.std.specs.declared.alloc.Global.{Global}
use Rattle.std.proofs.lemmas.List.{drop_min, take_min}
use Rattle.c_types.specs.declared.type_ref.TypeRef.{TypeRef}
use Rattle.c_types.specs.declared.type_ref.Row.{Row}
use Rattle.c_types.specs.Types.{CType, Qualified, is_array}
use Rattle.c_types.specs.Table.{type_at}
use Rattle.c_types.proofs.Rows.{some_is, none_is_not}
use Rattle.c_types.proofs.Grown.{Extends-refl}
use Rattle.typing_rules.specs.Known as known
use Rattle.typing_rules.specs.UnitRules as rule
use Rattle.typing_rules.specs.UnitRules.{scope_of, row_of}
use Rattle.typing_rules.specs.Checking.{makes}
use Rattle.c_typed.specs.StatementViews.{row_view}
use Rattle.typing_rules.specs.OrderedParts.{marked}
use Rattle.c_typed.specs.declared.value.Place as p
use Rattle.c_typed.specs.Typed.{Place, place, PlaceNode, local, static, text, pointed, element}
use Rattle.c_typed.specs.Views.{place_node_view}
use Rattle.c_typed.proofs.ViewLaws.{view_place}
use Rattle.c_values.specs.Stand.{MeansPlace}
use Rattle.c_known.specs.declared.local.Local.{Local}
use Rattle.c_known.specs.declared.known.Known.{Known}
use Rattle.c_known.specs.Gives.{Gives, IsDone}
use Rattle.c_known.proofs.Binding.{pure-gives}
use Rattle.c_known.specs.Views.{scope_view, local_view}
use Rattle.c_known.specs.Locals.{changed_to, changed_at, local_number, with_name, names_from, row_in}

module _ (types : TypeRef → CType) (f : Local → Local) (g : known.Local → known.Local) (same : (l : Local) → local_view types (f l) ≡ g (local_view types l)) where
  -- a change of a local of the code is that change of a known one
  pub changed-view : (xs : List Local) (n : ℕ)
      → map (local_view types) (changed_at f xs n) ≡ slice_set (map (local_view types) xs) n (g (known.local_at (map (local_view types) xs) n))
  changed-view [] n = refl
  changed-view (x ∷ xs) zero = ap (λ l. l ∷ map (local_view types) xs) (same x)
  changed-view (x ∷ xs) (suc n) = within (slice_get xs n) ∙ ap (λ rest. local_view types x ∷ rest) (changed-view xs n)
    where
      within : (o : Option Local) → map (local_view types) (changed_to f (x ∷ xs) (suc n) o) ≡ local_view types x ∷ map (local_view types) (changed_to f xs n o)
      within None = refl
      within (Some l) = refl

-- ---- a place to which `&` is applied

node_of : Place → PlaceNode
node_of (place line type node) = node

-- the node of a place
pub node-of : (rows : List Row) (x : p.Place) (line : ℕ) (type : Qualified) (node : PlaceNode) → MeansPlace rows x (place line type node)
    → place_node_view (type_at rows) x.node ≡ node
unfolding node_of
node-of rows x line type node means = ap node_of (sym (view_place (type_at rows) x) ∙ means.always rows (Extends-refl rows))

pub marked-local : (old new : Known) (node : PlaceNode) (n : ℕ) → local_number node ≡ Some n
    → Gives IsDone old new (Ok tt) (makes (known.addressed n)) → Gives IsDone old new (Ok tt) (marked node)
marked-local old new (local m) n e g = subst (λ i. Gives IsDone old new (Ok tt) (makes (known.addressed i))) (sym (some_is e)) g
marked-local old new (static m) n e g = none_is_not e
marked-local old new (text m) n e g = none_is_not e
marked-local old new (pointed v) n e g = none_is_not e
marked-local old new (element at pointer_first a b) n e g = none_is_not e

pub marked-other : (s : Known) (node : PlaceNode) → local_number node ≡ None → Gives IsDone s s (Ok tt) (marked node)
marked-other s (local m) e = none_is_not (sym e)
marked-other s (static m) e = pure-gives IsDone s tt tt tt
marked-other s (text m) e = pure-gives IsDone s tt tt tt
marked-other s (pointed v) e = pure-gives IsDone s tt tt tt
marked-other s (element at pointer_first a b) e = pure-gives IsDone s tt tt tt

-- ---- the locals from a number on, and those before it

least : (m n : ℕ) → min m n ≡ min n m
least m n = omega arith

pub drop-least : {A : Type 0} (n : ℕ) (xs : List A) → drop (min (length xs) n) xs ≡ drop n xs
drop-least n xs = ap (λ m. drop m xs) (least (length xs) n) ∙ drop_min n xs

pub take-least : {A : Type 0} (n : ℕ) (xs : List A) → take (min (length xs) n) xs ≡ take n xs
take-least n xs = ap (λ m. take m xs) (least (length xs) n) ∙ take_min n xs

-- ---- the locals of a function

-- the scope of its parameters
pub names-view : (types : TypeRef → CType) (n : ℕ) (ps : List Local) → scope_view types (names_from n ps) ≡ scope_of n (map (local_view types) ps)
names-view types n [] = refl
names-view types n (p ∷ ps) = by p.name ∙ ap (rule.with_name (option_map (λ x. x.items) p.name) n) (names-view types (suc n) ps)
  where
    by : (o : Option (Vec ℕ Global)) → scope_view types (with_name o n (names_from (suc n) ps)) ≡ rule.with_name (option_map (λ x. x.items) o) n (scope_view types (names_from (suc n) ps))
    by None = refl
    by (Some x) = refl

pub cons-first : {A : Type 0} {x y : A} {xs ys : List A} → x ∷ xs ≡ y ∷ ys → x ≡ y
cons-first {x = x} e = ap (first_or x) e
  where
    first_or : {A : Type 0} → A → List A → A
    first_or d [] = d
    first_or d (z ∷ zs) = z

pub cons-rest : {A : Type 0} {x y : A} {xs ys : List A} → x ∷ xs ≡ y ∷ ys → xs ≡ ys
cons-rest e = ap rest_of e
  where
    rest_of : {A : Type 0} → List A → List A
    rest_of [] = []
    rest_of (z ∷ zs) = zs

one-row : (rows later : List Row) (l : Local) (k : known.Local) → local_view (type_at rows) l ≡ k → local_view (type_at later) l ≡ k
    → row_view (type_at later) (row_in rows l) ≡ row_of k
one-row rows later l k now after =
    (λ i. record (row_of (local_view (type_at later) l)) { is_placed = l.is_addressed || l.ty.qualifiers.is_volatile || is_array ((now ∙ sym after) i).type.type }) ∙ ap row_of after

-- their rows
pub rows-view : (rows later : List Row) (xs : List Local) (ks : List known.Local) → map (local_view (type_at rows)) xs ≡ ks → map (local_view (type_at later)) xs ≡ ks
    → map (row_view (type_at later)) (map (row_in rows) xs) ≡ map row_of ks
rows-view rows later [] ks now after = ap (map row_of) now
rows-view rows later (x ∷ xs) [] now after = none_is_not (ap (λ l. slice_get l 0) (sym now))
rows-view rows later (x ∷ xs) (k ∷ ks) now after =
    let first = one-row rows later x k (cons-first now) (cons-first after) in
    let rest = rows-view rows later xs ks (cons-rest now) (cons-rest after) in
    λ i. first i ∷ rest i
