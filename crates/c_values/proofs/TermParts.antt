-- What a term is that the code knows to be an object or a value; and the first of some arguments.
use Rattle.std.proofs.Common.{◌≡◌, ℕ, List, [], ◌∷◌, map, Option, Some, None, slice_get, refl, sym, ap, ◌∙◌, subst}
use Rattle.srmt_base.specs.declared.ty.Ty.TheVariants.{Int}
use Rattle.c_types.specs.declared.type_ref.Row.{Row}
use Rattle.c_types.specs.Types.{pointer_to}
use Rattle.c_types.specs.Table.{type_at}
use Rattle.c_types.proofs.Grown.{Extends-refl}
use Rattle.c_typed.specs.declared.value.Value as v
use Rattle.c_typed.specs.declared.value.Place as p
use Rattle.c_typed.specs.Typed as tree
use Rattle.c_typed.specs.Typed.{Place, Value, Values}
use Rattle.c_typed.specs.Views.{value_view, values_from}
use Rattle.typing_rules.specs.Terms as terms
use Rattle.typing_rules.specs.Checking.{Checking, pure}
use Rattle.c_values.specs.declared.typed.Term.{Term}
use Rattle.c_values.specs.declared.typed.Term.TheVariants.{Object, Result as Known'}
use Rattle.c_values.specs.declared.typed.Typed.{Typed}
use Rattle.c_values.specs.Stand.{MeansValue, MeansPlace, MeansTyped}
use Rattle.c_values.specs.Answers.{MeansTerm, MeanValues, address_term}

pub record IsResult (rows : List Row) (x : Typed) (t : terms.Term) : Type 0 where
  pub value : Value
  pub is : terms.result value ≡ t
  pub means : MeansTyped rows x value

by-result : (rows : List Row) (x : Typed) (t : terms.Term) → MeansTerm rows (Known' x) t → IsResult rows x t
by-result rows x (terms.object q) m = absurd m
by-result rows x (terms.result w) m = record { value = w; is = refl; means = m }
by-result rows x (terms.designator line d type) m = absurd m

pub term-result : (rows : List Row) (y : Term) (x : Typed) (t : terms.Term) → y ≡ Known' x → MeansTerm rows y t → IsResult rows x t
term-result rows y x t is m = by-result rows x t (subst (λ z. MeansTerm rows z t) is m)

pub record IsObject (rows : List Row) (x : p.Place) (t : terms.Term) : Type 0 where
  pub place : Place
  pub is : terms.object place ≡ t
  pub means : MeansPlace rows x place

by-object : (rows : List Row) (x : p.Place) (t : terms.Term) → MeansTerm rows (Object x) t → IsObject rows x t
by-object rows x (terms.object q) m = record { place = q; is = refl; means = m }
by-object rows x (terms.result w) m = absurd m
by-object rows x (terms.designator line d type) m = absurd m

pub term-object : (rows : List Row) (y : Term) (x : p.Place) (t : terms.Term) → y ≡ Object x → MeansTerm rows y t → IsObject rows x t
term-object rows y x t is m = by-object rows x t (subst (λ z. MeansTerm rows z t) is m)

-- `&` of an lvalue
pub address-object : (line : ℕ) (q : Place) → pure (terms.result (tree.value line (pointer_to (tree.place_type q)) (tree.address q))) ≡ address_term line (terms.object q)
address-object line (tree.place first type node) = refl
