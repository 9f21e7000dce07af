-- The first of some arguments.
use Rattle.std.proofs.Common.{◌≡◌, ℕ, List, [], ◌∷◌, map, Option, Some, None, slice_get, refl, sym, ap, ◌∙◌, subst}
use Rattle.srmt_base.specs.declared.ty.Ty.TheVariants.{Int}
use Rattle.c_types.specs.declared.type_ref.Row.{Row}
use Rattle.c_types.specs.Table.{type_at}
use Rattle.c_types.proofs.Grown.{Extends-refl}
use Rattle.c_typed.specs.declared.value.Value as v
use Rattle.c_typed.specs.Typed.{Value, Values}
use Rattle.c_typed.specs.Views.{value_view, values_from}
use Rattle.typing_rules.specs.Terms as terms
use Rattle.c_values.specs.Stand.{MeansValue}
use Rattle.c_values.specs.Answers.{MeanValues}

abbrev or-zero : Option v.Value → v.Value → v.Value
or-zero None z = z
or-zero (Some x) z = x

pub first-means : (rows : List Row) (at : ℕ) (xs : List v.Value) (x : v.Value) (vs : Values) → slice_get xs 0 ≡ Some x → MeanValues rows xs vs → MeansValue rows x (terms.first_argument at vs)
first-means rows at [] x vs e m = absurd (none≢some e)
  where
    is-there : Option v.Value → Type 0
    is-there None = Unit {0}
    is-there (Some y) = ⊥

    none≢some : None ≡ Some x → ⊥
    none≢some h = subst is-there h tt
first-means rows at (y ∷ rest) x vs e m = record {
  always = λ later more. ap (λ z. value_view (type_at later) (or-zero z y)) (sym e) ∙ ap (terms.first_argument at) (m.always later more);
}

pub no-argument : (rows : List Row) (at : ℕ) (xs : List v.Value) (vs : Values) → xs ≡ [] → MeanValues rows xs vs → terms.number_value at Int 0 ≡ terms.first_argument at vs
no-argument rows at xs vs e m =
    ap (terms.first_argument at) (ap (λ z. values_from (map (value_view (type_at rows)) z)) (sym e) ∙ m.always rows (Extends-refl rows))
