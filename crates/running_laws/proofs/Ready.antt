-- At each place of a program there is room for its texts and static objects, and no name means a constant that is large.
use Rattle.std.proofs.Common.{◌≡◌, ℕ, ◌+◌, ◌≤◌, List, [], ◌∷◌, length, Option, Some, None, rules}
use Rattle.std.specs.Prelude.{bytes_eq}
use Rattle.c_typed.specs.declared.program.TextObject.{TextObject}
use Rattle.c_types.specs.Types.{CType}
use Rattle.typing_rules.specs.Source.{Bytes}
use Rattle.typing_rules.specs.Known as known
use Rattle.typing_rules.specs.Known.{Known, File, Entity, First, Meaning, Scope, found_in, or_else, meaning_of, all_scopes, predeclared_scope, outer_scopes, with_meaning, is_among}
use Rattle.typing_rules.specs.Limits.{most_static_cells}
use Rattle.typing_rules.specs.Holding.{Makes}
use Rattle.typing_rules.specs.Laws.{Each}
use Rattle.typing_rules.proofs.Keeping.{each_append}
use Rattle.typing_rules.proofs.Sound.{Sound, Any, sound_makes}
use Rattle.typing_rules.proofs.LanguageNodesMade.{if_has}
use Rattle.source_meaning.specs.Values.{IsValue}

-- ---- what is fixed while an expression is typed

-- how many functions the file has, how many static objects are counted, and what is asked of the entities, of what
-- the file declares and of its scope
pub record Frame : Type 1 where
  pub functions : ℕ
  pub statics : ℕ
  pub linkage : File → List Entity → List First → Scope → Type 0

abbrev pub IsSmall : Meaning → Type 0
IsSmall (known.local n) = Unit {0}
IsSmall (known.linked n type) = Unit {0}
IsSmall (known.predeclared p) = Unit {0}
IsSmall (known.constant n) = IsValue n

abbrev pub AreSmall : Scope → Type 0
AreSmall scope = Each (λ d. IsSmall d.1) scope

abbrev pub TextHasCells : TextObject → Type 0
TextHasCells t = length t.bytes + 1 ≤ 65535

-- the texts are counted among the static cells, which are not too many
pub record Room (f : Frame) (scope : Scope) (ts : List TextObject) (cells count : ℕ) : Type 0 where
  pub functions : count ≡ f.functions
  pub texts : Each TextHasCells ts
  pub room : f.statics + length ts ≤ cells
  pub most : cells ≤ most_static_cells
  pub small : AreSmall scope

pub record Ready (f : Frame) (k : Known) : Type 0 where
  pub scopes : Each AreSmall k.scopes
  pub room : Room f k.file_scope k.texts k.static_cells k.functions
  pub linkage : f.linkage k.file k.entities k.declared k.file_scope

-- two invariants at once
pub record Both (I J : Known → Type 0) (k : Known) : Type 0 where
  pub first : I k
  pub second : J k

-- ---- names

abbrev pub IsSmallIf : Option Meaning → Type 0
IsSmallIf None = Unit {0}
IsSmallIf (Some m) = IsSmall m

pub found_small : (name : Bytes) (scope : Scope) → AreSmall scope → IsSmallIf (found_in name scope)
found_small name [] h = tt
found_small name (d ∷ rest) h = if_has IsSmallIf (bytes_eq name d.0) (Some d.1) (found_in name rest) h.0 (found_small name rest h.1)

or_else_small : (a b : Option Meaning) → IsSmallIf a → IsSmallIf b → IsSmallIf (or_else a b)
or_else_small None b h k = k
or_else_small (Some m) b h k = h

meaning_small : (name : Bytes) (scopes : List Scope) → Each AreSmall scopes → IsSmallIf (meaning_of name scopes)
meaning_small name [] h = tt
meaning_small name (scope ∷ outer) h =
    or_else_small (found_in name scope) (meaning_of name outer) (found_small name scope h.0) (meaning_small name outer h.1)

pub predeclared_small : AreSmall predeclared_scope
predeclared_small = (tt, (tt, (tt, (constant_small, (constant_zero, tt)))))
  where
    constant_small : IsValue 4294967295
    constant_small = search rules

    constant_zero : IsValue 0
    constant_zero = search rules

pub name_small : (f : Frame) (name : Bytes) (k : Known) → Ready f k → IsSmallIf (meaning_of name (all_scopes k))
name_small f name k r =
    meaning_small name (all_scopes k)
    (each_append AreSmall k.scopes (k.file_scope ∷ predeclared_scope ∷ []) r.scopes (r.room.small, (predeclared_small, tt)))

-- ---- scopes

outer_small : (scopes : List Scope) → Each AreSmall scopes → Each AreSmall (outer_scopes scopes)
outer_small [] h = tt
outer_small (scope ∷ outer) h = h.1

means_small : (name : Bytes) (m : Meaning) (scopes : List Scope) → IsSmall m → Each AreSmall scopes → Each AreSmall (with_meaning name m scopes)
means_small name m [] p h = tt
means_small name m (scope ∷ outer) p h = ((p, h.0), h.1)

pub ready_opened : (f : Frame) (k : Known) → Ready f k → Ready f (known.opened k)
ready_opened f k r = record { scopes = (tt, r.scopes); room = r.room; linkage = r.linkage }

pub ready_closed : (f : Frame) (k : Known) → Ready f k → Ready f (known.closed k)
ready_closed f k r = record { scopes = outer_small k.scopes r.scopes; room = r.room; linkage = r.linkage }

pub ready_meaning : (f : Frame) (name : Bytes) (m : Meaning) → IsSmall m → (k : Known) → Ready f k → Ready f (known.meaning name m k)
ready_meaning f name m p k r = record { scopes = means_small name m k.scopes p r.scopes; room = r.room; linkage = r.linkage }

pub ready_type : (f : Frame) (t : CType) → Sound (Ready f) Any (Makes (known.with_type t))
ready_type f t =
    sound_makes (λ k r. if_has (Ready f) (is_among t k.types) k _ r (record { scopes = r.scopes; room = r.room; linkage = r.linkage }))
