-- The static objects of a file have types of objects.
use Rattle.std.proofs.Common.{ℕ, zero, suc, Bool as Test, true, false, List, [], ◌∷◌, refl, arith}
use Rattle.std.specs.Prelude.{◌&&◌, not, if◌then◌else◌, IsTrue, IsFalse}
use Rattle.c_types.specs.Types.{is_function}
use Rattle.c_typed.specs.Statements as t
use Rattle.typing_rules.specs.Known.{File, Entity, First, entity_at}
use Rattle.typing_rules.specs.UnitRules.{is_defined_in, is_object, static_of, statics_of}
use Rattle.typing_rules.specs.Laws.{Each}
use Rattle.typing_rules.specs.LanguageTypes.{IsObjectType}
use Rattle.typing_laws.proofs.BlocksSound.{IsEntity}

abbrev IsStaticObject : t.Static → Type 0
IsStaticObject s = IsObjectType s.type.type

is_no_function : (a b : Test) → IsTrue (not a && b) → IsFalse a
is_no_function a b h = grind arith

-- an entity that a file defines, and that is an object
object_is : (file : File) (entities : List Entity) (n : ℕ) → Each IsEntity entities
    → IsTrue (is_object (entity_at entities n) && is_defined_in file (entity_at entities n).definition)
    → IsObjectType (entity_at entities n).type.type
object_is file [] n h d = absurd cc
object_is file (e ∷ rest) zero h d = record {
  is_there = h.0.is_there;
  is_object = is_no_function (is_function e.type.type) (is_defined_in file e.definition) d;
  of_language = h.0.of_language;
}
object_is file (e ∷ rest) (suc n) h d = object_is file rest n h.1 d

pub statics_have : (file : File) (entities : List Entity) (declared : List First) → Each IsEntity entities
    → Each IsStaticObject (statics_of file entities declared)
statics_have file entities [] h = tt
statics_have file entities (f ∷ rest) h =
    go (is_object (entity_at entities f.entity) && is_defined_in file (entity_at entities f.entity).definition)
    (object_is file entities f.entity h) (statics_have file entities rest h)
  where
    go : (test : Test) → (IsTrue test → IsObjectType (entity_at entities f.entity).type.type) → Each IsStaticObject (statics_of file entities rest)
        → Each IsStaticObject (if test then static_of f (entity_at entities f.entity) ∷ statics_of file entities rest else statics_of file entities rest)
    go true own others = (own refl, others)
    go false own others = others
