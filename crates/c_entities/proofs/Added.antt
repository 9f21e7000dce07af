-- An entity that is new.
use Rattle.std.proofs.Common.{arith, ◌≡◌, ℕ, ◌+◌, Some, None, ◌&&◌, if◌then◌else◌, List, [], ◌∷◌, ◌++◌, map, length, sym, ◌∙◌, ap}
use Rattle.std.specs.Str.{bytes_eq}
use Rattle.std.specs.Map.{lookup}
use Rattle.std.proofs.lemmas.List.{map-append}
use Rattle.c_types.specs.declared.type_ref.Row.{Row}
use Rattle.c_types.specs.Table.{type_at, Extends}
use Rattle.typing_rules.specs.Known as known
use Rattle.c_entities.specs.declared.entity.Entity.{Entity}
use Rattle.c_entities.specs.declared.entities.Entities.{Entities}
use Rattle.c_entities.specs.Views.{entity_view, or_else, IsNumbered, AreEntities}
use Rattle.c_entities.proofs.Names.{external-push}

pub added : (rows : List Row) (old new : Entities) (es : List known.Entity) (ds : List known.First) (e : Entity) (is : known.Entity) (number : ℕ)
    → AreEntities rows old es ds → number ≡ length es
    → new.rows.items ≡ old.rows.items ++ e ∷ [] → new.declared.entries ≡ old.declared.entries
    → IsNumbered old.externals.entries new.externals.entries is.name is.is_external number
    → ((later : List Row) → Extends rows later → entity_view (type_at later) e ≡ is)
    → AreEntities rows new (es ++ is ∷ []) ds
added rows old new es ds e is number are long items declared named view = record {
  each = λ later more.
      ap (map (entity_view (type_at later))) items ∙ map-append (entity_view (type_at later)) old.rows.items (e ∷ [])
      ∙ (λ i. are.each later more i ++ view later more i ∷ []);
  first = ap (map _) declared ∙ are.first;
  externals = λ name.
      let same : number ≡ 0 + length es = omega arith in
      named name ∙ (λ i. or_else (are.externals name i) (if bytes_eq name is.name && is.is_external then Some (same i) else None))
      ∙ sym (external-push 0 name es is);
}
