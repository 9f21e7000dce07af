-- At each place of a program what is known has types of the language: of names, locals, objects and functions.
use Rattle.std.proofs.Common.{◌≡◌, ℕ, zero, suc, List, [], ◌∷◌, ◌++◌, map, length, refl, ap, sym, subst, ◌∙◌, Some}
use Rattle.std.proofs.lemmas.List.{length-map, map-append}
use Rattle.std.specs.Prelude.{IsFalse, slice_set, bytes_eq}
use Rattle.c_types.specs.Types.{CType, is_void}
use Rattle.typing_rules.specs.Source.{Bytes, Expr, Declarator, line_of}
use Rattle.typing_rules.specs.Known as known
use Rattle.typing_rules.specs.Known.{Known, Meaning, Scope, Local, Entity, found_in, with_meaning, outer_scopes, local_at}
use Rattle.typing_rules.specs.DeclaratorRules.{parameter_type}
use Rattle.typing_rules.specs.Holding.{Typing, Makes}
use Rattle.typing_rules.specs.Typing.{AreDerivations}
use Rattle.typing_rules.specs.TypingDeclarations.{IsValueOf}
use Rattle.typing_rules.specs.Laws.{Each}
use Rattle.typing_rules.specs.LanguageTypes.{IsOfLanguage, IsObjectType}
use Rattle.typing_rules.specs.LanguageTerms.{type_at, IsMeaning, IsScope}
use Rattle.typing_rules.proofs.Keeping.{each_append}
use Rattle.typing_rules.proofs.Sound.{Sound, Any, sound_makes}
use Rattle.typing_rules.proofs.LanguageNodesMade.{IsTyped, if_has}
use Rattle.typing_rules.proofs.LanguageKnown.{Setting, At, IsGood, IsMeaningIf}
use Rattle.typing_rules.proofs.DerivedTypes.{IsDerivation}
use Rattle.typing_rules.proofs.ParametersSound.{scope_more, scopes_more}
use Rattle.typing_rules.proofs.PartsSound.{sound_written}
use Rattle.typing_rules.proofs.TermsSound.{sound_term, sound_derivations}
use Rattle.typing_laws.proofs.Leaving.{Leaves}
use Rattle.typing_laws.proofs.PartsLeave.{leaves_written}
use Rattle.typing_laws.proofs.TermsLeave.{leaves_term, leaves_derivations}

-- the type of an object or a function
pub record IsThere (t : CType) : Type 0 where
  pub is_there : IsFalse (is_void t)
  pub of_language : IsOfLanguage t

abbrev pub IsEntity : Entity → Type 0
IsEntity e = IsThere e.type.type

-- what is known has types of the language; a name of file scope means no local
pub record Block (k : Known) : Type 0 where
  pub scopes : Each (IsScope (map parameter_type k.locals)) k.scopes
  pub file_scope : IsScope [] k.file_scope
  pub locals : Each IsObjectType (map parameter_type k.locals)
  pub entities : Each IsEntity k.entities

pub object_is_there : (t : CType) → IsObjectType t → IsThere t
object_is_there t h = record { is_there = h.is_there; of_language = h.of_language }

-- ---- what leaves the setting as it is

sound_inner : {A : Type 0} {Q : A → Type 0} {R : Typing A} → ((s : Setting) → IsGood s → Sound (At s) Q R) → Leaves R → Sound Block Q R
sound_inner f leaves = record {
  sound = λ x k l h b.
      let s : Setting = record { scopes = k.scopes; types = map parameter_type k.locals; file_scope = k.file_scope } in
      let good : IsGood s = record { scopes = b.scopes; file_scope = scope_more [] (map parameter_type k.locals) k.file_scope b.file_scope } in
      let p = (f s good).sound x k l h (record { scopes = refl; types = refl; file_scope = refl }) in (
        p.0,
        record {
          scopes = subst (λ ts. Each (IsScope ts) l.scopes) (sym p.1.types)
              (subst (Each (IsScope (map parameter_type k.locals))) (sym p.1.scopes) b.scopes);
          file_scope = subst (IsScope []) (sym p.1.file_scope) b.file_scope;
          locals = subst (Each IsObjectType) (sym p.1.types) b.locals;
          entities = subst (Each IsEntity) (sym (leaves.left x k l h)) b.entities;
        },
      );
}

pub sound_value_of : (e : Expr) → Sound Block IsTyped (IsValueOf e)
sound_value_of e = sound_inner (λ s g. sound_written (line_of e) (sound_term s g e)) (leaves_written (line_of e) (leaves_term e))

pub sound_derives : (d : Declarator) → Sound Block (Each IsDerivation) (AreDerivations d)
sound_derives d = sound_inner (λ s g. sound_derivations s g d) (leaves_derivations d)

-- ---- scopes

pub sound_opened : Sound Block Any (Makes known.opened)
sound_opened = sound_makes (λ k b. record { scopes = (tt, b.scopes); file_scope = b.file_scope; locals = b.locals; entities = b.entities })

outer_are : (ts : List CType) (scopes : List Scope) → Each (IsScope ts) scopes → Each (IsScope ts) (outer_scopes scopes)
outer_are ts [] h = tt
outer_are ts (scope ∷ outer) h = h.1

pub sound_closed : Sound Block Any (Makes known.closed)
sound_closed = sound_makes (λ k b. record {
  scopes = outer_are (map parameter_type k.locals) k.scopes b.scopes;
  file_scope = b.file_scope;
  locals = b.locals;
  entities = b.entities;
})

pub found_is : (ts : List CType) (name : Bytes) (scope : Scope) → IsScope ts scope → IsMeaningIf ts (found_in name scope)
found_is ts name [] h = tt
found_is ts name (d ∷ rest) h =
    if_has (IsMeaningIf ts) (bytes_eq name d.0) (Some d.1) (found_in name rest) h.0 (found_is ts name rest h.1)

meaning_are : (ts : List CType) (name : Bytes) (m : Meaning) (scopes : List Scope) → IsMeaning ts m → Each (IsScope ts) scopes
    → Each (IsScope ts) (with_meaning name m scopes)
meaning_are ts name m [] p h = tt
meaning_are ts name m (scope ∷ outer) p h = ((p, h.0), h.1)

pub meaning_known : (name : Bytes) (m : Meaning) (k : Known) → IsMeaning (map parameter_type k.locals) m → Block k → Block (known.meaning name m k)
meaning_known name m k p b = record {
  scopes = meaning_are (map parameter_type k.locals) name m k.scopes p b.scopes;
  file_scope = b.file_scope;
  locals = b.locals;
  entities = b.entities;
}

-- ---- locals

type_of_last : (ts : List CType) (t : CType) → type_at (ts ++ t ∷ []) (length ts) ≡ t
type_of_last [] t = refl
type_of_last (u ∷ ts) t = type_of_last ts t

-- a local is declared, and its name
pub local_known : (name : Bytes) (n : ℕ) (own : Local) (k : Known) → n ≡ length k.locals → IsObjectType (parameter_type own) → Block k
    → Block (known.with_local own (known.meaning name (known.local n) k))
local_known name n own k counted o b =
    let ts = map parameter_type k.locals in
    let more : map parameter_type (k.locals ++ own ∷ []) ≡ ts ++ parameter_type own ∷ [] = map-append parameter_type k.locals (own ∷ []) in
    let last : IsObjectType (type_at (ts ++ parameter_type own ∷ []) n) =
    subst IsObjectType (sym (ap (type_at (ts ++ parameter_type own ∷ [])) (counted ∙ sym (length-map k.locals parameter_type))
    ∙ type_of_last ts (parameter_type own))) o in
    record {
      scopes = subst (λ us. Each (IsScope us) (with_meaning name (known.local n) k.scopes)) (sym more)
          (meaning_are (ts ++ parameter_type own ∷ []) name (known.local n) k.scopes last (scopes_more ts (parameter_type own ∷ []) k.scopes b.scopes));
      file_scope = b.file_scope;
      locals = subst (Each IsObjectType) (sym more) (each_append IsObjectType ts (parameter_type own ∷ []) b.locals (o, tt));
      entities = b.entities;
    }

locals_set : (ls : List Local) (n : ℕ) (own : Local) → IsObjectType (parameter_type own) → Each IsObjectType (map parameter_type ls)
    → Each IsObjectType (map parameter_type (slice_set ls n own))
locals_set [] n own o h = tt
locals_set (l ∷ ls) zero own o h = (o, h.1)
locals_set (l ∷ ls) (suc n) own o h = (h.0, locals_set ls n own o h.1)

type_set : (ls : List Local) (n m : ℕ) (own : Local) → IsObjectType (parameter_type own) → IsObjectType (type_at (map parameter_type ls) m)
    → IsObjectType (type_at (map parameter_type (slice_set ls n own)) m)
type_set [] n m own o h = h
type_set (l ∷ ls) zero zero own o h = o
type_set (l ∷ ls) zero (suc m) own o h = h
type_set (l ∷ ls) (suc n) zero own o h = h
type_set (l ∷ ls) (suc n) (suc m) own o h = type_set ls n m own o h

meaning_set : (ls : List Local) (n : ℕ) (own : Local) (m : Meaning) → IsObjectType (parameter_type own) → IsMeaning (map parameter_type ls) m
    → IsMeaning (map parameter_type (slice_set ls n own)) m
meaning_set ls n own (known.local m) o h = type_set ls n m own o h
meaning_set ls n own (known.linked m type) o h = h
meaning_set ls n own (known.predeclared p) o h = tt
meaning_set ls n own (known.constant c) o h = tt

scope_set : (ls : List Local) (n : ℕ) (own : Local) (scope : Scope) → IsObjectType (parameter_type own) → IsScope (map parameter_type ls) scope
    → IsScope (map parameter_type (slice_set ls n own)) scope
scope_set ls n own [] o h = tt
scope_set ls n own (d ∷ rest) o h = (meaning_set ls n own d.1 o h.0, scope_set ls n own rest o h.1)

scopes_set : (ls : List Local) (n : ℕ) (own : Local) (scopes : List Scope) → IsObjectType (parameter_type own)
    → Each (IsScope (map parameter_type ls)) scopes → Each (IsScope (map parameter_type (slice_set ls n own))) scopes
scopes_set ls n own [] o h = tt
scopes_set ls n own (scope ∷ outer) o h = (scope_set ls n own scope o h.0, scopes_set ls n own outer o h.1)

-- a local has another type of an object from now on
pub local_set : (n : ℕ) (own : Local) (k : Known) → IsObjectType (parameter_type own) → Block k
    → Block (known.with_locals (slice_set k.locals n own) k)
local_set n own k o b = record {
  scopes = scopes_set k.locals n own k.scopes o b.scopes;
  file_scope = b.file_scope;
  locals = locals_set k.locals n own o b.locals;
  entities = b.entities;
}
