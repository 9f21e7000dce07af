-- An entity that is declared or defined once more.
use Rattle.std.proofs.Common.{◌≡◌, ℕ, List, Some, slice_get, slice_set, refl, sym, ap, Vec, Global}
use Rattle.c_types.specs.declared.type_ref.Row.{Row}
use Rattle.c_types.specs.declared.type_ref.TypeRef.{TypeRef}
use Rattle.c_types.specs.declared.type_ref.QualifiedRef.{QualifiedRef}
use Rattle.c_types.specs.Types.{Qualified, composite}
use Rattle.c_types.specs.Table.{type_at, Extends, Stands}
use Rattle.c_typed.specs.declared.program.StartCell.{StartCell}
use Rattle.c_typed.specs.Views.{qualified_from}
use Rattle.typing_rules.specs.Known as known
use Rattle.typing_rules.specs.Known.{entity_at}
use Rattle.typing_rules.specs.DeclarationRules.{composed}
use Rattle.c_entities.specs.declared.entity.Entity.{Entity}
use Rattle.c_entities.specs.declared.entity.Definition.{Definition}
use Rattle.c_entities.specs.declared.entities.Entities.{Entities}
use Rattle.c_entities.specs.Views.{entity_view, definition_view, AreEntities}
use Rattle.c_entities.proofs.Rows.{row-is, changed-at}

module _ (rows : List Row) (old new : Entities) (es : List known.Entity) (ds : List known.First) (n : ℕ) (e : Entity)
    (are : AreEntities rows old es ds) (there : slice_get old.rows.items n ≡ Some e) where
  -- what the type of the entity stands for
  pub stands-at : Stands rows e.ty.target (entity_at es n).type.type
  stands-at = record { always = λ later more. ap (λ x. x.type.type) (sym (row-is rows old es ds are n e there later more)) }

  composed-at : (r : TypeRef) (t : Qualified) → Stands rows r (composite (entity_at es n).type.type t.type) → (later : List Row) → Extends rows later
      → qualified_from (type_at later) (record { qualifiers = e.ty.qualifiers; target = r }) ≡ composed (entity_at es n).type t
  composed-at r t stands later more =
      let at = sym (row-is rows old es ds are n e there later more) in
      λ i. record { qualifiers = (at i).type.qualifiers; type = stands.always later more i }

  pub defined : (d : Definition) (is : known.Definition) → definition_view d ≡ is
      → new.rows.items ≡ slice_set old.rows.items n (record e { definition = d }) → new.declared.entries ≡ old.declared.entries → new.externals.entries ≡ old.externals.entries
      → AreEntities rows new (slice_set es n (record (entity_at es n) { definition = is })) ds
  defined d is same items declared externals =
      changed-at rows old new es ds n (record e { definition = d }) (record (entity_at es n) { definition = is }) are items declared externals
      (λ later more. let at = sym (row-is rows old es ds are n e there later more) in
      λ i. record { name = (at i).name; type = (at i).type; is_external = (at i).is_external; file = (at i).file; definition = same i; contents = (at i).contents })
      refl refl

  pub again : (r : TypeRef) (t : Qualified) → Stands rows r (composite (entity_at es n).type.type t.type)
      → new.rows.items ≡ slice_set old.rows.items n (record e { ty = record { qualifiers = e.ty.qualifiers; target = r } })
      → new.declared.entries ≡ old.declared.entries → new.externals.entries ≡ old.externals.entries
      → AreEntities rows new (slice_set es n (record (entity_at es n) { type = composed (entity_at es n).type t })) ds
  again r t stands items declared externals =
      changed-at rows old new es ds n (record e { ty = record { qualifiers = e.ty.qualifiers; target = r } }) (record (entity_at es n) { type = composed (entity_at es n).type t }) are items declared externals
      (λ later more. let at = sym (row-is rows old es ds are n e there later more) in let type = composed-at r t stands later more in
      λ i. record { name = (at i).name; type = type i; is_external = (at i).is_external; file = (at i).file; definition = (at i).definition; contents = (at i).contents })
      refl refl

  pub begun : (r : TypeRef) (t : Qualified) (cells : Vec StartCell Global) → Stands rows r (composite (entity_at es n).type.type t.type)
      → new.rows.items ≡ slice_set old.rows.items n (record e { ty = record { qualifiers = e.ty.qualifiers; target = r }; contents = cells })
      → new.declared.entries ≡ old.declared.entries → new.externals.entries ≡ old.externals.entries
      → AreEntities rows new (slice_set es n (record (entity_at es n) { type = composed (entity_at es n).type t; contents = cells.items })) ds
  begun r t cells stands items declared externals =
      changed-at rows old new es ds n (record e { ty = record { qualifiers = e.ty.qualifiers; target = r }; contents = cells })
      (record (entity_at es n) { type = composed (entity_at es n).type t; contents = cells.items }) are items declared externals
      (λ later more. let at = sym (row-is rows old es ds are n e there later more) in let type = composed-at r t stands later more in
      λ i. record { name = (at i).name; type = type i; is_external = (at i).is_external; file = (at i).file; definition = (at i).definition; contents = cells.items })
      refl refl
