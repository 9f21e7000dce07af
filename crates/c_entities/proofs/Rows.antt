-- The entity at a number, as it is read and as it changes.
use Rattle.std.proofs.Common.{◌≡◌, ◌<◌, ℕ, zero, suc, Bool as Test, true, false, ◌&&◌, get_or, Bor, Vec, Global, inl, inr, if◌then◌else◌, List, [], ◌∷◌, ◌++◌, map, length, Option, Some, None, slice_get, slice_set, option_map, refl, sym, ◌∙◌, ap, subst, true≢false}
use Rattle.std.specs.Str.{bytes_eq}
use Rattle.std.specs.Map.{lookup}
use Rattle.std.specs.Slice.{IsItemAt}
use Rattle.std.specs.Option.{option_copied}
use Rattle.std.proofs.lemmas.Bool.Decides.{leb_tells}
use Rattle.std.proofs.lemmas.Option.{slice_get-map, slice_get_past, slice_get-get_or, slice_get_read}
use Rattle.std.proofs.lemmas.List.{map-set}
use Rattle.c_types.specs.declared.type_ref.Row.{Row}
use Rattle.c_types.specs.Table.{type_at, Extends}
use Rattle.c_types.proofs.Grown.{Extends-refl, Extends-trans}
use Rattle.typing_rules.specs.Known as known
use Rattle.typing_rules.specs.Known.{external_from, entity_at}
use Rattle.c_entities.specs.declared.entity.Entity.{Entity}
use Rattle.c_entities.specs.declared.entities.Entities.{Entities}
use Rattle.c_entities.specs.Views.{entity_view, AreEntities}

-- the entity at a number, in a later table too
pub row-later : (rows : List Row) (x : Entities) (es : List known.Entity) (ds : List known.First) → AreEntities rows x es ds
    → (later : List Row) → Extends rows later → (n : ℕ) → option_map (entity_view (type_at later)) (slice_get x.rows.items n) ≡ slice_get es n
row-later rows x es ds are later more n = sym (slice_get-map (entity_view (type_at later)) x.rows.items n) ∙ ap (λ l. slice_get l n) (are.each later more)

pub row-at : (rows : List Row) (x : Entities) (es : List known.Entity) (ds : List known.First) → AreEntities rows x es ds
    → (n : ℕ) → option_map (entity_view (type_at rows)) (slice_get x.rows.items n) ≡ slice_get es n
row-at rows x es ds are n = row-later rows x es ds are rows (Extends-refl rows) n

-- the one that is there
pub row-is : (rows : List Row) (x : Entities) (es : List known.Entity) (ds : List known.First) → AreEntities rows x es ds
    → (n : ℕ) (e : Entity) → slice_get x.rows.items n ≡ Some e → (later : List Row) → Extends rows later → entity_at es n ≡ entity_view (type_at later) e
row-is rows x es ds are n e there later more =
    ap known.or_entity (sym (row-later rows x es ds are later more n) ∙ ap (option_map (entity_view (type_at later))) there)

some-none : {A B : Type 0} {x : A} → Some x ≡ None → B
some-none e = absurd (true≢false (ap (λ o. elim o [ Some z ↦ true | None ↦ false ]) e))

-- nothing is set where nothing is
pub set-past : {A : Type 0} (xs : List A) (n : ℕ) (y : A) → slice_get xs n ≡ None → slice_set xs n y ≡ xs
set-past [] n y e = refl
set-past (x ∷ xs) zero y e = some-none e
set-past (x ∷ xs) (suc n) y e = ap (λ l. x ∷ l) (set-past xs n y e)

-- the entity with external linkage stays where names and linkage stay
pub external-set : (m : ℕ) (name : List ℕ) (es : List known.Entity) (n : ℕ) (e : known.Entity)
    → e.name ≡ (entity_at es n).name → e.is_external ≡ (entity_at es n).is_external
    → external_from m name (slice_set es n e) ≡ external_from m name es
external-set m name [] n e a b = refl
external-set m name (x ∷ es) zero e a b = λ i. if bytes_eq name (a i) && b i then Some m else external_from (suc m) name es
external-set m name (x ∷ es) (suc n) e a b =
    ap (λ r. if bytes_eq name x.name && x.is_external then Some m else r) (external-set (suc m) name es n e a b)

-- an entity is changed, but for its name and linkage
pub changed-at : (rows : List Row) (old new : Entities) (es : List known.Entity) (ds : List known.First) (n : ℕ) (e : Entity) (changed : known.Entity)
    → AreEntities rows old es ds
    → new.rows.items ≡ slice_set old.rows.items n e → new.declared.entries ≡ old.declared.entries → new.externals.entries ≡ old.externals.entries
    → ((later : List Row) → Extends rows later → entity_view (type_at later) e ≡ changed)
    → changed.name ≡ (entity_at es n).name → changed.is_external ≡ (entity_at es n).is_external
    → AreEntities rows new (slice_set es n changed) ds
changed-at rows old new es ds n e changed are items declared externals is a b = record {
  each = λ later more.
      ap (map (entity_view (type_at later))) items ∙ map-set (entity_view (type_at later)) old.rows.items n e
      ∙ (λ i. slice_set (are.each later more i) n (is later more i));
  first = ap (map _) declared ∙ are.first;
  externals = λ name. ap (lookup _) externals ∙ are.externals name ∙ sym (external-set 0 name es n changed a b);
}

-- there is none of the number
pub unchanged-at : (rows : List Row) (x : Entities) (es : List known.Entity) (ds : List known.First) (n : ℕ) (changed : known.Entity)
    → AreEntities rows x es ds → slice_get x.rows.items n ≡ None → AreEntities rows x (slice_set es n changed) ds
unchanged-at rows x es ds n changed are none =
    let past : slice_get es n ≡ None = sym (row-at rows x es ds are n) ∙ ap (option_map (entity_view (type_at rows))) none in
    subst (λ l. AreEntities rows x l ds) (sym (set-past es n changed past)) are

-- what is lent of a list
pub lent-is : {A : Type 0} (xs : List A) (i : ℕ) (r : Option (Bor A)) → IsItemAt xs i r → option_copied r ≡ slice_get xs i
lent-is xs i None h = sym (slice_get_past xs i h.3)
lent-is xs i (Some x) h = ap Some (h.3.1 x.now) ∙ sym (slice_get-get_or xs i x.now h.3.0)

-- what a vector has nowhere
pub lent-none : {A : Type 0} (v : Vec A Global) (i : ℕ) → (i < v.len → ⊥) → slice_get v.items i ≡ None
lent-none v i never = elim (leb_tells (length v.items) i) [
  | inl h ↦ slice_get_past v.items i h.1
  | inr h ↦ absurd (never (subst (λ n. i < n) (sym v.ok.0) h.1))
]

pub lent-some : {A : Type 0} (v : Vec A Global) (i : ℕ) (x : A) → i < v.len → x ≡ get_or v.items i x → slice_get v.items i ≡ Some x
lent-some v i x within is = slice_get_read v.items v.len i x v.ok.0 within is

-- the same in a later table
pub are-later : (rows : List Row) (x : Entities) (es : List known.Entity) (ds : List known.First) → AreEntities rows x es ds
    → (later : List Row) → Extends rows later → AreEntities later x es ds
are-later rows x es ds are later more = record {
  each = λ last again. are.each last (Extends-trans more again);
  first = are.first;
  externals = are.externals;
}
