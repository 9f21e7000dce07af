-- Where a place is, by its node.
use Rattle.std.proofs.Common.{◌≡◌, ◌∙◌, ℕ, Bool, if◌then◌else◌, sym, ap, ◌⊎◌, inl, inr}
use Rattle.c_typed.specs.declared.program.LocalRow.{LocalRow as CodeLocalRow}
use Rattle.c_typed.specs.declared.value.Value as v
use Rattle.c_typed.specs.declared.value.Place as p
use Rattle.c_typed.specs.declared.value.PlaceNode as code_place_node
use Rattle.c_typed.specs.declared.value.PlaceNode.TheVariants as pn
use Rattle.c_typed.specs.Statements.{LocalRow}
use Rattle.c_typed.specs.StatementViews.{row_view}
use Rattle.c_typed.specs.Typed.{place, PlaceNode, local, static, text, pointed, element}
use Rattle.c_typed.specs.Views.{value_view, place_view, place_node_view, qualified_from}
use Rattle.c_typed.proofs.ViewLaws as view
use Rattle.lower.specs.declared.inside.Inside.{Inside as CodeInside}
use Rattle.lower.specs.Expressions.{Where, in_register, in_memory, row_at, where_is}
use Rattle.lower.specs.Emits.{inside_view, types_of}

module _ (i : CodeInside) (x : p.Place) where
  abbrev Has : code_place_node.PlaceNode → Type 0
  Has n = x.node ≡ n

  -- the view of a place by the view of its node
  by_node : (n : code_place_node.PlaceNode) (m : PlaceNode) → Has n → place_node_view (types_of i) n ≡ m
      → where_is (inside_view i) (place x.line (qualified_from (types_of i) x.ty) m) ≡ where_is (inside_view i) (place_view (types_of i) x)
  by_node n m is views =
      ap (where_is (inside_view i))
      (sym (view.view_place (types_of i) x
      ∙ ap (λ (k : PlaceNode). place x.line (qualified_from (types_of i) x.ty) k) (ap (place_node_view (types_of i)) is ∙ views)))

  abbrev local_at : ℕ → Bool → Where
  local_at n placed = if placed then in_memory x.ty.qualifiers.is_volatile x.line else in_register n

  pub local_found : (n : ℕ) (r : CodeLocalRow) (placed : Bool) → Has (pn.Local n) → row_view (types_of i) r ≡ row_at (inside_view i).rows n
      → r.is_placed ≡ placed → local_at n placed ≡ where_is (inside_view i) (place_view (types_of i) x)
  local_found n r placed is row known =
      ap (local_at n) (sym known ∙ ap (λ (l : LocalRow). l.is_placed) row) ∙ by_node (pn.Local n) (local n) is (view.view_local (types_of i) n)

  pub memory_found : ((n : ℕ) × Has (pn.Static n)) ⊎ (((n : ℕ) × Has (pn.Text n)) ⊎ ((e : v.Value) × Has (pn.Pointed e)))
      → in_memory x.ty.qualifiers.is_volatile x.line ≡ where_is (inside_view i) (place_view (types_of i) x)
  memory_found (inl (n, is)) = by_node (pn.Static n) (static n) is (view.view_static (types_of i) n)
  memory_found (inr (inl (n, is))) = by_node (pn.Text n) (text n) is (view.view_text (types_of i) n)
  memory_found (inr (inr (e, is))) = by_node (pn.Pointed e) (pointed (value_view (types_of i) e)) is (view.view_pointed (types_of i) e)

  pub element_found : (at : ℕ) (pointer_first : Bool) (a b : v.Value) → Has (pn.Element at pointer_first a b)
      → in_memory x.ty.qualifiers.is_volatile at ≡ where_is (inside_view i) (place_view (types_of i) x)
  element_found at pointer_first a b is =
      by_node (pn.Element at pointer_first a b) (element at pointer_first (value_view (types_of i) a) (value_view (types_of i) b)) is
      (view.view_element (types_of i) at pointer_first a b)
