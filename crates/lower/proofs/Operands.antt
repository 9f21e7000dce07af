-- What a box holds is lowered as the operand itself is.
use Rattle.std.proofs.Common.{◌≡◌, ℕ, List, Result, subst}
use Rattle.c_types.specs.declared.type_ref.TypeRef.{TypeRef}
use Rattle.c_types.specs.declared.type_ref.Row.{Row}
use Rattle.c_types.specs.Types.{CType}
use Rattle.c_typed.specs.declared.value.Value as v
use Rattle.c_typed.specs.declared.value.Place as p
use Rattle.c_typed.specs.Views.{value_view, place_view}
use Rattle.lower.specs.declared.emitter.Emitter.{Emitter}
use Rattle.lower.specs.declared.emitter.Located.{Located}
use Rattle.lower.specs.declared.refusal.LowerRefusal.{LowerRefusal}
use Rattle.lower.specs.Expressions.{Inside, value_of, address_of, location_of}
use Rattle.lower.specs.Emits.{Emits, itself, located_view}

module _ {rows : List Row} {old new : Emitter} (i : Inside) (types : TypeRef → CType) (k : ℕ) where
  pub value-at : {r : Result ℕ LowerRefusal} {x y : v.Value} → y ≡ x
      → Emits itself rows old new r (value_of i (value_view types y) k) → Emits itself rows old new r (value_of i (value_view types x) k)
  value-at {r} is h = subst (λ z. Emits itself rows old new r (value_of i (value_view types z) k)) is h

  pub address-at : {r : Result ℕ LowerRefusal} {x y : p.Place} → y ≡ x
      → Emits itself rows old new r (address_of i (place_view types y) k) → Emits itself rows old new r (address_of i (place_view types x) k)
  address-at {r} is h = subst (λ z. Emits itself rows old new r (address_of i (place_view types z) k)) is h

  pub location-at : {r : Result Located LowerRefusal} {x y : p.Place} → y ≡ x
      → Emits located_view rows old new r (location_of i (place_view types y) k) → Emits located_view rows old new r (location_of i (place_view types x) k)
  location-at {r} is h = subst (λ z. Emits located_view rows old new r (location_of i (place_view types z) k)) is h
