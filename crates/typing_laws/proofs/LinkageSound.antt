-- What declarations with linkage make known has types of the language.
use Rattle.std.proofs.Common.{ℕ, zero, suc, Bool as Test, List, [], ◌∷◌, Option, Some, None}
use Rattle.std.specs.Prelude.{slice_set}
use Rattle.c_types.specs.Types.{CType, void, integer, pointer, array, returning, taking, Qualified, composite}
use Rattle.typing_rules.specs.Source.{Bytes, Named}
use Rattle.typing_rules.specs.Known as known
use Rattle.typing_rules.specs.Known.{Known, Meaning, Entity, Linked, linked_as, entity_at, found_in, is_declared_among}
use Rattle.typing_rules.specs.SpecifierRules.{Storage}
use Rattle.typing_rules.specs.DeclarationRules.{Defining, composed, declared_entity, defined_by, with_definition, type_known}
use Rattle.typing_rules.specs.Holding.{Makes}
use Rattle.typing_rules.specs.TypingDeclarations.{IsLinked}
use Rattle.typing_rules.specs.Laws.{Each}
use Rattle.typing_rules.proofs.Keeping.{each_append}
use Rattle.typing_rules.proofs.Sound.{Sound, Any, sound_is, sound_given, sound_holds, sound_asks, sound_makes, sound_bind}
use Rattle.typing_rules.proofs.LanguageNodesMade.{if_has}
use Rattle.typing_rules.proofs.LanguageKnown.{IsMeaningIf}
use Rattle.typing_laws.proofs.BlocksSound.{IsThere, IsEntity, Block, found_is}

-- ---- entities

pub composite_is : (a b : CType) → IsThere a → IsThere b → IsThere (composite a b)
composite_is void b h k = h
composite_is (integer ty) b h k = h
composite_is (pointer q t) b h k = h
composite_is (array q t None) b h k = k
composite_is (array q t (Some n)) b h k = h
composite_is (returning q t) b h k = h
composite_is (taking p t) b h k = h

entities_set : (es : List Entity) (n : ℕ) (f : Entity → Entity) → ((e : Entity) → IsEntity e → IsEntity (f e)) → Each IsEntity es
    → Each IsEntity (slice_set es n (f (entity_at es n)))
entities_set [] n f g h = tt
entities_set (e ∷ es) zero f g h = (g e h.0, h.1)
entities_set (e ∷ es) (suc n) f g h = (h.0, entities_set es n f g h.1)

-- an entity is another from now on
pub entity_set : (n : ℕ) (f : Entity → Entity) → ((e : Entity) → IsEntity e → IsEntity (f e)) → (k : Known) → Block k
    → Block (known.with_entity_at n (f (entity_at k.entities n)) k)
entity_set n f g k b =
    record { scopes = b.scopes; file_scope = b.file_scope; locals = b.locals; entities = entities_set k.entities n f g b.entities }

sound_entity : (old : Option ℕ) (bytes : Bytes) (type : Qualified) (external : Test) → IsThere type.type
    → Sound Block Any (Makes (declared_entity old bytes type external))
sound_entity None bytes type external t = sound_makes (λ k b. record {
  scopes = b.scopes;
  file_scope = b.file_scope;
  locals = b.locals;
  entities = each_append IsEntity k.entities _ b.entities (t, tt);
})
sound_entity (Some n) bytes type external t =
    sound_makes (entity_set n (λ e. record e { type = composed e.type type }) (λ e h. composite_is e.type.type type.type h t))

pub sound_definition : (how : Defining) (n : ℕ) → Sound Block Any (Makes (with_definition how n))
sound_definition how n = sound_makes (λ k b. entity_set n (λ e. record e { definition = defined_by how e.definition k.file }) (λ e h. h) k b)

sound_first : (n line : ℕ) → Sound Block Any (Makes (known.declared_first n line))
sound_first n line = sound_makes (λ k b. if_has Block (is_declared_among n k.declared) k _ b (record {
  scopes = b.scopes;
  file_scope = b.file_scope;
  locals = b.locals;
  entities = b.entities;
}))

-- ---- declarations

abbrev pub IsLinkedIf : Option Linked → Type 0
IsLinkedIf None = Unit {0}
IsLinkedIf (Some l) = IsThere l.type.type

linked_if : (m : Option Meaning) → IsMeaningIf [] m → IsLinkedIf (linked_as m)
linked_if None h = tt
linked_if (Some (known.local n)) h = tt
linked_if (Some (known.linked n type)) h = record { is_there = h.0; of_language = h.1 }
linked_if (Some (known.predeclared p)) h = tt
linked_if (Some (known.constant n)) h = tt

type_known_is : (before : Option Linked) (type : Qualified) → IsLinkedIf before → IsThere type.type → IsThere (type_known before type).type
type_known_is None type h t = t
type_known_is (Some l) type h t = composite_is l.type.type type.type h t

abbrev pub LinkedIs : Linked → Type 0
LinkedIs l = IsThere l.type.type

pub sound_linked : (name : Named) (storage : Storage) (type : Qualified) → IsThere type.type → Sound Block LinkedIs (IsLinked name storage type)
sound_linked name storage type t =
    sound_bind {P = IsLinkedIf} (sound_asks (λ k b.
    linked_if (found_in name.bytes k.file_scope) (found_is [] name.bytes k.file_scope b.file_scope))) (λ before h.
    sound_bind {P = Any} (sound_asks (λ k b. tt)) (λ external u. sound_bind {P = Any} (sound_asks (λ k b. tt)) (λ old u'.
    sound_bind sound_given (λ v w. sound_bind sound_holds (λ v' w'. sound_bind sound_holds (λ v'' w''.
    sound_bind {P = Any} (sound_asks (λ k b. tt)) (λ n u''. sound_bind (sound_entity old name.bytes type external t) (λ x y.
    sound_bind (sound_first n name.line) (λ x' y'. sound_is (type_known_is before type h t))))))))))

-- a name of file scope means an entity
pub sound_file_meaning : (bytes : Bytes) (l : Linked) → LinkedIs l → Sound Block Any (Makes (known.with_file_meaning bytes (known.linked l.entity l.type)))
sound_file_meaning bytes l t = sound_makes (λ k b. record {
  scopes = b.scopes;
  file_scope = ((t.is_there, t.of_language), b.file_scope);
  locals = b.locals;
  entities = b.entities;
})
