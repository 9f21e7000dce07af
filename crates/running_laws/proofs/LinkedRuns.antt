-- A declaration of an object or function with linkage keeps what is kept of them.
use Rattle.std.proofs.Common.{◌≡◌, ℕ, zero, suc, Bool as Test, true, false, List, [], ◌∷◌, ◌++◌, refl, ap, sym, subst, ◌∙◌, Option, Some, None}
use Rattle.std.specs.Prelude.{◌&&◌, not, slice_set, IsTrue, IsFalse, if◌then◌else◌, bytes_eq}
use Rattle.c_types.specs.Types.{CType, Qualified, is_function, is_complete, composite}
use Rattle.typing_rules.specs.Source.{Bytes, Named}
use Rattle.typing_rules.specs.Known as known
use Rattle.typing_rules.specs.Known.{Known, File, Entity, First, Meaning, Scope, Local, Linked, no_entity, earlier, linked_as, found_in, entity_at, is_declared_among}
use Rattle.typing_rules.specs.SpecifierRules.{Storage}
use Rattle.typing_rules.specs.DeclarationRules.{entity_of, agrees_with, number_of, type_known, composed, declared_entity}
use Rattle.typing_rules.specs.TypingDeclarations.{IsLinked}
use Rattle.typing_rules.specs.UnitRules.{is_defined_in}
use Rattle.typing_rules.specs.Laws.{Each}
use Rattle.typing_rules.proofs.Exactness.{some_same}
use Rattle.typing_rules.proofs.LanguageNodesMade.{if_has}
use Rattle.running_laws.proofs.Tests.{not_both}
use Rattle.running_laws.proofs.Ready.{Ready}
use Rattle.running_laws.proofs.StaticsCounted.{among_last}
use Rattle.running_laws.proofs.Linkage.{IsWhole, IsInMain, StartsFit, IsKnownWhole, AreKnownWhole, Linkage, frame, may_be_complete, may_be_function, composite_both, composite_complete, composite_function, linkage_set, linkage_new, linkage_declared, at_last}

-- ---- what a declaration makes known

record IsSo (name : Named) (type : Qualified) (x : Linked) (k l : Known) : Type 0 where
  before : Option Linked
  before_is : before ≡ earlier name.bytes k
  external : Test
  old : Option ℕ
  old_is : old ≡ entity_of before external name.bytes k.entities
  agrees : IsTrue (agrees_with old type k.entities)
  after : l ≡ known.declared_first (number_of old k.entities) name.line (declared_entity old name.bytes type external k)
  result : x ≡ record { entity = number_of old k.entities; type = type_known before type }

is_so : (name : Named) (storage : Storage) (type : Qualified) (x : Linked) (k l : Known) → IsLinked name storage type x k l → IsSo name type x k l
is_so name storage type x k l h =
    let a = h.second in
    let b = a.second in
    let c = b.second in
    let d = c.second in
    let e = d.second in
    let g = e.second in
    let i = g.second in
    let j = i.second in
    let m = j.second in
    let at_b : a.between ≡ k = a.first.1 ∙ h.first.1 in
    let at_d : c.between ≡ k = c.first.1 ∙ b.first.1 ∙ at_b in
    let at_g : e.between ≡ k = e.first.1 ∙ d.first.1 ∙ at_d in
    let at_i : g.between ≡ k = g.first.1 ∙ at_g in
    let number : g.of ≡ number_of b.of k.entities = g.first.0 ∙ ap (λ z. number_of b.of z.entities) at_g in
    record {
      before = h.of;
      before_is = h.first.0;
      external = a.of;
      old = b.of;
      old_is = b.first.0 ∙ ap (λ z. entity_of h.of a.of name.bytes z.entities) at_b;
      agrees = subst (λ z. IsTrue (agrees_with b.of type z.entities)) at_d d.first.0;
      after = m.1 ∙ j.first ∙ ap (λ n. known.declared_first n name.line i.between) number
          ∙ ap (known.declared_first (number_of b.of k.entities) name.line) (i.first ∙ ap (declared_entity b.of name.bytes type a.of) at_i);
      result = m.0 ∙ ap (λ n. record { entity = n; type = type_known h.of type }) number;
    }

-- ---- what it keeps

each_at : (P : Entity → Type 0) (es : List Entity) (n : ℕ) → P no_entity → Each P es → P (entity_at es n)
each_at P [] n p h = p
each_at P (x ∷ es) zero p h = h.0
each_at P (x ∷ es) (suc n) p h = each_at P es n p h.1

object_before : (before after is_defined : Test) → (IsTrue before → IsTrue after) → IsTrue (not after && is_defined) → IsTrue (not before && is_defined)
object_before true true d f h = absurd cc
object_before true false d f h = absurd (not_both false (f refl) refl)
object_before false true d f h = absurd cc
object_before false false d f h = h

no_function_before : (before after : Test) → (IsTrue before → IsTrue after) → IsFalse after → IsFalse before
no_function_before true true f h = absurd cc
no_function_before true false f h = absurd (not_both false (f refl) refl)
no_function_before false b f h = refl

nothing_whole : IsWhole no_entity
nothing_whole u f = absurd (not_both false (sym u) refl)

pub whole_at : (es : List Entity) (n : ℕ) → Each IsWhole es → IsWhole (entity_at es n)
whole_at es n h = each_at IsWhole es n nothing_whole h

pub starts_at : (es : List Entity) (n : ℕ) → Each StartsFit es → StartsFit (entity_at es n)
starts_at es n h = each_at StartsFit es n tt h

pub main_at : (es : List Entity) (n : ℕ) → Each IsInMain es → IsInMain (entity_at es n)
main_at es n h = each_at IsInMain es n refl h

linkage_again : (which : File) (counted : ℕ) (file : File) (es : List Entity) (ds : List First) (scope : Scope) (n : ℕ) (type : Qualified)
    → Linkage which counted file es ds scope
    → Linkage which counted file (slice_set es n (record (entity_at es n) { type = composed (entity_at es n).type type })) ds scope
linkage_again which counted file es ds scope n type l =
    let e = entity_at es n in
    let stays = composite_function e.type.type type.type in
    linkage_set which counted file es ds scope n (record e { type = composed e.type type }) l
    (object_before (is_function e.type.type) (is_function (composite e.type.type type.type)) (is_defined_in file e.definition) stays)
    (l.among n)
    (record { function = stays; complete = composite_complete e.type.type type.type })
    (λ u f. composite_complete e.type.type type.type
    (whole_at es n l.whole u (no_function_before (is_function e.type.type) (is_function (composite e.type.type type.type)) stays f)))
    (starts_at es n l.starts) (λ m. main_at es n (l.here m))

declared_entity_ready : (which : File) (functions counted : ℕ) (old : Option ℕ) (bytes : Bytes) (type : Qualified) (external : Test) (k : Known)
    → Ready (frame which functions counted) k → Ready (frame which functions counted) (declared_entity old bytes type external k)
declared_entity_ready which functions counted None bytes type external k r = record {
  scopes = r.scopes;
  room = r.room;
  linkage = linkage_new which counted k.file k.entities k.declared k.file_scope _ r.linkage refl refl;
}
declared_entity_ready which functions counted (Some n) bytes type external k r =
    record { scopes = r.scopes; room = r.room; linkage = linkage_again which counted k.file k.entities k.declared k.file_scope n type r.linkage }

declared_first_ready : (which : File) (functions counted n line : ℕ) (k : Known) → Ready (frame which functions counted) k
    → Ready (frame which functions counted) (known.declared_first n line k)
declared_first_ready which functions counted n line k r = by (is_declared_among n k.declared) refl
  where
    by : (test : Test) → is_declared_among n k.declared ≡ test
        → Ready (frame which functions counted) (if test then k else record k { declared = k.declared ++ record { entity = n; line = line } ∷ [] })
    by true e = r
    by false e = record {
      scopes = r.scopes;
      room = r.room;
      linkage = linkage_declared which counted k.file k.entities k.declared k.file_scope _ r.linkage e;
    }

first_among : (n line : ℕ) (k : Known) → IsTrue (is_declared_among n (known.declared_first n line k).declared)
first_among n line k = by (is_declared_among n k.declared) refl
  where
    by : (test : Test) → is_declared_among n k.declared ≡ test
        → IsTrue (is_declared_among n (if test then k else record k { declared = k.declared ++ record { entity = n; line = line } ∷ [] }).declared)
    by true e = e
    by false e = among_last k.declared (record { entity = n; line = line })

first_leaves : (n line : ℕ) (k : Known) → (known.declared_first n line k).entities ≡ k.entities
first_leaves n line k = if_has (λ m. m.entities ≡ k.entities) (is_declared_among n k.declared) k _ refl refl

first_leaves_locals : (n line : ℕ) (k : Known) → (known.declared_first n line k).locals ≡ k.locals
first_leaves_locals n line k = if_has (λ m. m.locals ≡ k.locals) (is_declared_among n k.declared) k _ refl refl

entity_leaves_locals : (old : Option ℕ) (bytes : Bytes) (type : Qualified) (external : Test) (k : Known)
    → (declared_entity old bytes type external k).locals ≡ k.locals
entity_leaves_locals None bytes type external k = refl
entity_leaves_locals (Some n) bytes type external k = refl

-- ---- what is known of the entity

abbrev IsKnownIf : List Entity → Option Meaning → Type 0
IsKnownIf es None = Unit {0}
IsKnownIf es (Some m) = IsKnownWhole es m

found_known : (es : List Entity) (name : Bytes) (scope : Scope) → AreKnownWhole es scope → IsKnownIf es (found_in name scope)
found_known es name [] h = tt
found_known es name (d ∷ rest) h =
    if_has (IsKnownIf es) (bytes_eq name d.0) (Some d.1) (found_in name rest) h.0 (found_known es name rest h.1)

linked_known : (es : List Entity) (m : Option Meaning) (l : Linked) → Some l ≡ linked_as m → IsKnownIf es m
    → IsTrue (is_complete l.type.type) → IsTrue (is_complete (entity_at es l.entity).type.type)
linked_known es None l e h c = absurd cc
linked_known es (Some (known.local n)) l e h c = absurd cc
linked_known es (Some (known.linked n type)) l e h c =
    let same : record { entity = n; type = type } ≡ l = sym (some_same l (record { entity = n; type = type }) e) in
    subst (λ x. IsTrue (is_complete (entity_at es x.entity).type.type)) same (h (subst (λ x. IsTrue (is_complete x.type.type)) (sym same) c))
linked_known es (Some (known.predeclared p)) l e h c = absurd cc
linked_known es (Some (known.constant n)) l e h c = absurd cc

at_grown : (P : CType → Type 0) (es : List Entity) (n : ℕ) (type : Qualified) → P (composite (entity_at es n).type.type type.type)
    → P (entity_at (slice_set es n (record (entity_at es n) { type = composed (entity_at es n).type type })) n).type.type
at_grown P [] n type p = p
at_grown P (x ∷ es) zero type p = p
at_grown P (x ∷ es) (suc n) type p = at_grown P es n type p

abbrev IsCompleteType : CType → Type 0
IsCompleteType t = IsTrue (is_complete t)

abbrev IsFunctionType : CType → Type 0
IsFunctionType t = IsTrue (is_function t)

-- the entity is complete where the type that is known is
complete_so : (bytes : Bytes) (type : Qualified) (external : Test) (k : Known) (before : Option Linked) (old : Option ℕ) → before ≡ earlier bytes k
    → old ≡ entity_of before external bytes k.entities → IsTrue (agrees_with old type k.entities) → AreKnownWhole k.entities k.file_scope
    → IsTrue (is_complete (type_known before type).type)
    → IsTrue (is_complete (entity_at (declared_entity old bytes type external k).entities (number_of old k.entities)).type.type)
complete_so bytes type external k None None b o a h c = subst (λ e. IsTrue (is_complete e.type.type)) (sym (at_last k.entities _)) c
complete_so bytes type external k None (Some n) b o a h c =
    at_grown IsCompleteType k.entities n type (may_be_complete (entity_at k.entities n).type type a c)
complete_so bytes type external k (Some l) None b o a h c = absurd cc
complete_so bytes type external k (Some l) (Some n) b o a h c =
    let same : n ≡ l.entity = some_same n l.entity o in
    let entity = entity_at k.entities n in
    at_grown IsCompleteType k.entities n type (composite_both l.type.type entity.type.type type.type
    (λ d. subst (λ m. IsTrue (is_complete (entity_at k.entities m).type.type)) (sym same)
    (linked_known k.entities (found_in bytes k.file_scope) l b (found_known k.entities bytes k.file_scope h) d))
    (may_be_complete entity.type type a) c)

function_so : (bytes : Bytes) (type : Qualified) (external : Test) (k : Known) (old : Option ℕ) → IsTrue (agrees_with old type k.entities)
    → IsTrue (is_function type.type)
    → IsTrue (is_function (entity_at (declared_entity old bytes type external k).entities (number_of old k.entities)).type.type)
function_so bytes type external k None a f = subst (λ e. IsTrue (is_function e.type.type)) (sym (at_last k.entities _)) f
function_so bytes type external k (Some n) a f =
    at_grown IsFunctionType k.entities n type (may_be_function (entity_at k.entities n).type type a f)

pub record IsWell (type : Qualified) (x : Linked) (l : Known) : Type 0 where
  pub among : IsTrue (is_declared_among x.entity l.declared)
  pub complete : IsTrue (is_complete x.type.type) → IsTrue (is_complete (entity_at l.entities x.entity).type.type)
  pub function : IsTrue (is_function type.type) → IsTrue (is_function (entity_at l.entities x.entity).type.type)

pub linked_ready : (which : File) (functions counted : ℕ) (name : Named) (storage : Storage) (type : Qualified) (x : Linked) (k l : Known)
    → IsLinked name storage type x k l → Ready (frame which functions counted) k → Ready (frame which functions counted) l
linked_ready which functions counted name storage type x k l h r =
    let so = is_so name storage type x k l h in
    subst (Ready (frame which functions counted)) (sym so.after)
    (declared_first_ready which functions counted (number_of so.old k.entities) name.line (declared_entity so.old name.bytes type so.external k)
    (declared_entity_ready which functions counted so.old name.bytes type so.external k r))

pub linked_well : (which : File) (functions counted : ℕ) (name : Named) (storage : Storage) (type : Qualified) (x : Linked) (k l : Known)
    → IsLinked name storage type x k l → Ready (frame which functions counted) k → IsWell type x l
linked_well which functions counted name storage type x k l h r =
    let so = is_so name storage type x k l h in
    let n = number_of so.old k.entities in
    let made = declared_entity so.old name.bytes type so.external k in
    let left = first_leaves n name.line made in
    let complete = complete_so name.bytes type so.external k so.before so.old so.before_is so.old_is so.agrees r.linkage.named in
    let function = function_so name.bytes type so.external k so.old so.agrees in
    let first : IsWell type (record { entity = n; type = type_known so.before type }) (known.declared_first n name.line made) = record {
      among = first_among n name.line made;
      complete = λ c. subst (λ es. IsTrue (is_complete (entity_at es n).type.type)) (sym left) (complete c);
      function = λ f. subst (λ es. IsTrue (is_function (entity_at es n).type.type)) (sym left) (function f);
    } in
    subst (λ m. IsWell type x m) (sym so.after) (subst (λ y. IsWell type y (known.declared_first n name.line made)) (sym so.result) first)

pub linked_leaves : (name : Named) (storage : Storage) (type : Qualified) (x : Linked) (k l : Known) → IsLinked name storage type x k l
    → l.locals ≡ k.locals
linked_leaves name storage type x k l h =
    let so = is_so name storage type x k l h in
    ap (λ m. m.locals) so.after ∙ first_leaves_locals (number_of so.old k.entities) name.line (declared_entity so.old name.bytes type so.external k)
    ∙ entity_leaves_locals so.old name.bytes type so.external k
