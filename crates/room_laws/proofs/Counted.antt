-- At each place of a file the texts and static objects so far are counted, and declarations of objects and functions keep that.
use Rattle.std.proofs.Common.{◌≡◌, ℕ, suc, ◌+◌, ◌≤◌, Bool as Test, true, false, List, [], ◌∷◌, ◌++◌, length, refl, ap, sym, subst, ◌∙◌, Option, Some, None, arith}
use Rattle.std.specs.Prelude.{if◌then◌else◌, IsTrue, slice_set, bytes_eq}
use Rattle.c_types.specs.Types.{CType, Qualified, is_function, is_complete, composite}
use Rattle.c_typed.specs.declared.program.TextObject.{TextObject}
use Rattle.typing_rules.specs.Source.{Bytes, Named}
use Rattle.typing_rules.specs.Known as known
use Rattle.typing_rules.specs.Known.{Known, File, Entity, First, Meaning, Scope, Linked, earlier, linked_as, found_in, entity_at, is_declared_among}
use Rattle.typing_rules.specs.Limits.{most_static_cells}
use Rattle.typing_rules.specs.SpecifierRules.{Storage}
use Rattle.typing_rules.specs.DeclarationRules.{entity_of, agrees_with, number_of, type_known, composed, declared_entity}
use Rattle.typing_rules.specs.TypingDeclarations.{IsLinked}
use Rattle.typing_rules.specs.UnitRules.{is_defined_in, is_object}
use Rattle.typing_rules.proofs.Exactness.{some_same}
use Rattle.room_laws.proofs.Keeping.{Keeps, Stays}
use Rattle.room_laws.proofs.TypesCovered.{Covers, composite_function, may_be_covers, may_be_function, covers_itself, covers_more, composite_covers}
use Rattle.room_laws.proofs.StaticsTotal.{at_own, at_last, all_cells, declared_adds_none, not_both, among_last, text_cells, text_more}
use Rattle.room_laws.proofs.Linkage.{IsCovered, AreCovered, Linkage, Grows, grown_no_more, grown_whole, set_no_more, new_no_more, linkage_set, linkage_new, not_static, linkage_declared, linkage_named}

-- ---- what is counted

pub record Counted (which : File) (k : Known) : Type 0 where
  pub file : k.file ≡ which
  pub linkage : Linkage which k.entities k.declared k.file_scope
  pub room : all_cells which k.entities k.declared + text_cells k.texts ≤ k.static_cells
  pub most : k.static_cells ≤ most_static_cells

pub room_of_text : (objects : ℕ) (texts : List TextObject) (line : ℕ) (bytes : Bytes) (cells : ℕ) → objects + text_cells texts ≤ cells
    → objects + text_cells (texts ++ record { line = line; bytes = bytes } ∷ []) ≤ cells + suc (length bytes)
room_of_text objects texts line bytes cells h =
    let more = text_more texts (record { line = line; bytes = bytes }) in
    omega (arith, more, h)

pub stays_counted : (which : File) → Stays (Counted which)
stays_counted which = record {
  scopes = λ k scopes c. record { file = c.file; linkage = c.linkage; room = c.room; most = c.most };
  locals = λ k locals c. record { file = c.file; linkage = c.linkage; room = c.room; most = c.most };
  uses = λ k uses c. record { file = c.file; linkage = c.linkage; room = c.room; most = c.most };
  types = λ k types c. record { file = c.file; linkage = c.linkage; room = c.room; most = c.most };
  text = λ k line bytes most c. record {
    file = c.file;
    linkage = c.linkage;
    room = room_of_text (all_cells which k.entities k.declared) k.texts line bytes k.static_cells c.room;
    most = most;
  };
}

-- ---- what a declaration makes known

record IsSo (name : Named) (type : Qualified) (x : Linked) (k l : Known) : Type 0 where
  before : Option Linked
  before_is : before ≡ earlier name.bytes k
  external : Test
  old : Option ℕ
  old_is : old ≡ entity_of before external name.bytes k.entities
  agrees : IsTrue (agrees_with old type k.entities)
  after : l ≡ known.declared_first (number_of old k.entities) name.line (declared_entity old name.bytes type external k)
  result : x ≡ record { entity = number_of old k.entities; type = type_known before type }

is_so : (name : Named) (storage : Storage) (type : Qualified) (x : Linked) (k l : Known) → IsLinked name storage type x k l → IsSo name type x k l
is_so name storage type x k l h =
    let a = h.second in
    let b = a.second in
    let c = b.second in
    let d = c.second in
    let e = d.second in
    let g = e.second in
    let i = g.second in
    let j = i.second in
    let m = j.second in
    let at_b : a.between ≡ k = a.first.1 ∙ h.first.1 in
    let at_d : c.between ≡ k = c.first.1 ∙ b.first.1 ∙ at_b in
    let at_g : e.between ≡ k = e.first.1 ∙ d.first.1 ∙ at_d in
    let at_i : g.between ≡ k = g.first.1 ∙ at_g in
    let number : g.of ≡ number_of b.of k.entities = g.first.0 ∙ ap (λ z. number_of b.of z.entities) at_g in
    record {
      before = h.of;
      before_is = h.first.0;
      external = a.of;
      old = b.of;
      old_is = b.first.0 ∙ ap (λ z. entity_of h.of a.of name.bytes z.entities) at_b;
      agrees = subst (λ z. IsTrue (agrees_with b.of type z.entities)) at_d d.first.0;
      after = m.1 ∙ j.first ∙ ap (λ n. known.declared_first n name.line i.between) number
          ∙ ap (known.declared_first (number_of b.of k.entities) name.line) (i.first ∙ ap (declared_entity b.of name.bytes type a.of) at_i);
      result = m.0 ∙ ap (λ n. record { entity = n; type = type_known h.of type }) number;
    }

-- ---- that it keeps what is counted

pub room_less : (before after texts cells : ℕ) → after ≤ before → before + texts ≤ cells → after + texts ≤ cells
room_less before after texts cells h k = omega (arith, h, k)

counted_again : (which : File) (n : ℕ) (type : Qualified) (k : Known) → Counted which k
    → Counted which (known.with_entity_at n (record (entity_at k.entities n) { type = composed (entity_at k.entities n).type type }) k)
counted_again which n type k c =
    let e = entity_at k.entities n in
    let after : Entity = record e { type = composed e.type type } in
    let grows : Grows e after =
    record { function = composite_function e.type.type type.type; covers = λ h. covers_more e.type.type type.type h } in
    record {
      file = c.file;
      linkage = linkage_set which k.entities k.declared k.file_scope n after c.linkage (c.linkage.among n) grows
          (grown_whole which e after grows (λ d. d) (c.linkage.whole n)) (λ m. c.linkage.here m n);
      room = room_less (all_cells which k.entities k.declared) (all_cells which _ k.declared) (text_cells k.texts) k.static_cells
          (set_no_more which k.entities n after k.declared (grown_no_more which e after grows (λ d. d) (c.linkage.whole n))) c.room;
      most = c.most;
    }

counted_entity : (which : File) (old : Option ℕ) (bytes : Bytes) (type : Qualified) (external : Test) (k : Known) → Counted which k
    → Counted which (declared_entity old bytes type external k)
counted_entity which None bytes type external k c = record {
  file = c.file;
  linkage = linkage_new which k.entities k.declared k.file_scope _ c.linkage refl;
  room = room_less (all_cells which k.entities k.declared) (all_cells which _ k.declared) (text_cells k.texts) k.static_cells
      (new_no_more which k.entities _ k.declared refl) c.room;
  most = c.most;
}
counted_entity which (Some n) bytes type external k c = counted_again which n type k c

counted_first : (which : File) (n line : ℕ) (k : Known) → Counted which k → Counted which (known.declared_first n line k)
counted_first which n line k c = by (is_declared_among n k.declared) refl
  where
    by : (test : Test) → is_declared_among n k.declared ≡ test
        → Counted which (if test then k else record k { declared = k.declared ++ record { entity = n; line = line } ∷ [] })
    by true e = c
    by false e =
        let d : First = record { entity = n; line = line } in
        let same = declared_adds_none which k.entities k.declared d (not_static (is_object (entity_at k.entities n))
        (is_defined_in which (entity_at k.entities n).definition) (λ s. not_both (is_declared_among n k.declared) (c.linkage.among n s) e)) in
        let before = c.room in
        record {
          file = c.file;
          linkage = linkage_declared which k.entities k.declared k.file_scope d c.linkage e;
          room = omega (arith, same, before);
          most = c.most;
        }

linked_counted : (which : File) (name : Named) (storage : Storage) (type : Qualified) (x : Linked) (k l : Known) → IsLinked name storage type x k l
    → Counted which k → Counted which l
linked_counted which name storage type x k l h c =
    let so = is_so name storage type x k l h in
    subst (Counted which) (sym so.after) (counted_first which (number_of so.old k.entities) name.line
    (declared_entity so.old name.bytes type so.external k) (counted_entity which so.old name.bytes type so.external k c))

pub keeps_linked : (which : File) (name : Named) (storage : Storage) (type : Qualified) → Keeps (Counted which) (IsLinked name storage type)
keeps_linked which name storage type = record { kept = linked_counted which name storage type }

-- ---- what is known of the entity

abbrev IsCoveredIf : List Entity → Option Meaning → Type 0
IsCoveredIf es None = Unit {0}
IsCoveredIf es (Some m) = IsCovered es m

found_covered : (es : List Entity) (name : Bytes) (scope : Scope) → AreCovered es scope → IsCoveredIf es (found_in name scope)
found_covered es name [] h = tt
found_covered es name (d ∷ rest) h = by (bytes_eq name d.0) h.0 (found_covered es name rest h.1)
  where
    by : (test : Test) → IsCovered es d.1 → IsCoveredIf es (found_in name rest) → IsCoveredIf es (if test then Some d.1 else found_in name rest)
    by true p q = p
    by false p q = q

linked_covered : (es : List Entity) (m : Option Meaning) (l : Linked) → Some l ≡ linked_as m → IsCoveredIf es m
    → IsTrue (is_complete l.type.type) → Covers l.type.type (entity_at es l.entity).type.type
linked_covered es None l e h c = absurd cc
linked_covered es (Some (known.local n)) l e h c = absurd cc
linked_covered es (Some (known.linked n type)) l e h c =
    let same : record { entity = n; type = type } ≡ l = sym (some_same l (record { entity = n; type = type }) e) in
    subst (λ x. Covers x.type.type (entity_at es x.entity).type.type) same (h (subst (λ x. IsTrue (is_complete x.type.type)) (sym same) c))
linked_covered es (Some (known.predeclared p)) l e h c = absurd cc
linked_covered es (Some (known.constant n)) l e h c = absurd cc

at_grown : (P : CType → Type 0) (es : List Entity) (n : ℕ) (type : Qualified) → P (composite (entity_at es n).type.type type.type)
    → P (entity_at (slice_set es n (record (entity_at es n) { type = composed (entity_at es n).type type })) n).type.type
at_grown P es n type p = at_own (λ e. P e.type.type) es n (λ e. record e { type = composed e.type type }) (λ q. q) p

-- the entity has as many cells as the type that is known, where that is complete
covers_so : (bytes : Bytes) (type : Qualified) (external : Test) (k : Known) (before : Option Linked) (old : Option ℕ) → before ≡ earlier bytes k
    → old ≡ entity_of before external bytes k.entities → IsTrue (agrees_with old type k.entities) → AreCovered k.entities k.file_scope
    → IsTrue (is_complete (type_known before type).type)
    → Covers (type_known before type).type (entity_at (declared_entity old bytes type external k).entities (number_of old k.entities)).type.type
covers_so bytes type external k None None b o a h c =
    subst (λ e. Covers type.type e.type.type) (sym (at_last k.entities _)) (covers_itself type.type c)
covers_so bytes type external k None (Some n) b o a h c =
    at_grown (Covers type.type) k.entities n type (may_be_covers (entity_at k.entities n).type type a c)
covers_so bytes type external k (Some l) None b o a h c = absurd cc
covers_so bytes type external k (Some l) (Some n) b o a h c =
    let same : n ≡ l.entity = some_same n l.entity o in
    let entity = entity_at k.entities n in
    at_grown (Covers (composite l.type.type type.type)) k.entities n type (composite_covers l.type.type entity.type.type type.type
    (λ d. subst (λ m. Covers l.type.type (entity_at k.entities m).type.type) (sym same)
    (linked_covered k.entities (found_in bytes k.file_scope) l b (found_covered k.entities bytes k.file_scope h) d))
    (may_be_covers entity.type type a) c)

function_so : (bytes : Bytes) (type : Qualified) (external : Test) (k : Known) (old : Option ℕ) → IsTrue (agrees_with old type k.entities)
    → IsTrue (is_function type.type)
    → IsTrue (is_function (entity_at (declared_entity old bytes type external k).entities (number_of old k.entities)).type.type)
function_so bytes type external k None a f = subst (λ e. IsTrue (is_function e.type.type)) (sym (at_last k.entities _)) f
function_so bytes type external k (Some n) a f =
    at_grown (λ t. IsTrue (is_function t)) k.entities n type (may_be_function (entity_at k.entities n).type type a f)

first_among : (n line : ℕ) (k : Known) → IsTrue (is_declared_among n (known.declared_first n line k).declared)
first_among n line k = by (is_declared_among n k.declared) refl
  where
    by : (test : Test) → is_declared_among n k.declared ≡ test
        → IsTrue (is_declared_among n (if test then k else record k { declared = k.declared ++ record { entity = n; line = line } ∷ [] }).declared)
    by true e = e
    by false e = among_last k.declared (record { entity = n; line = line })

first_leaves : (n line : ℕ) (k : Known) → (known.declared_first n line k).entities ≡ k.entities
first_leaves n line k = by (is_declared_among n k.declared)
  where
    by : (test : Test) → (if test then k else record k { declared = k.declared ++ record { entity = n; line = line } ∷ [] }).entities ≡ k.entities
    by true = refl
    by false = refl

pub record IsWell (type : Qualified) (x : Linked) (l : Known) : Type 0 where
  pub among : IsTrue (is_declared_among x.entity l.declared)
  pub covers : IsTrue (is_complete x.type.type) → Covers x.type.type (entity_at l.entities x.entity).type.type
  pub function : IsTrue (is_function type.type) → IsTrue (is_function (entity_at l.entities x.entity).type.type)

pub linked_well : (which : File) (name : Named) (storage : Storage) (type : Qualified) (x : Linked) (k l : Known) → IsLinked name storage type x k l
    → Counted which k → IsWell type x l
linked_well which name storage type x k l h c =
    let so = is_so name storage type x k l h in
    let n = number_of so.old k.entities in
    let made = declared_entity so.old name.bytes type so.external k in
    let left = first_leaves n name.line made in
    let covers = covers_so name.bytes type so.external k so.before so.old so.before_is so.old_is so.agrees c.linkage.named in
    let function = function_so name.bytes type so.external k so.old so.agrees in
    let first : IsWell type (record { entity = n; type = type_known so.before type }) (known.declared_first n name.line made) = record {
      among = first_among n name.line made;
      covers = λ d. subst (λ es. Covers (type_known so.before type).type (entity_at es n).type.type) (sym left) (covers d);
      function = λ f. subst (λ es. IsTrue (is_function (entity_at es n).type.type)) (sym left) (function f);
    } in
    subst (λ m. IsWell type x m) (sym so.after) (subst (λ y. IsWell type y (known.declared_first n name.line made)) (sym so.result) first)

-- ---- names of file scope

pub record LinkedAt (which : File) (type : Qualified) (x : Linked) (k : Known) : Type 0 where
  pub counted : Counted which k
  pub well : IsWell type x k

pub linked_at : (which : File) (name : Named) (word : Storage) (type : Qualified) (x : Linked) (k l : Known) → IsLinked name word type x k l
    → Counted which k → LinkedAt which type x l
linked_at which name word type x k l h c =
    record { counted = linked_counted which name word type x k l h c; well = linked_well which name word type x k l h c }

-- the name means the entity from now on
pub named_at : (which : File) (bytes : Bytes) (type : Qualified) (x : Linked) (k : Known) → LinkedAt which type x k
    → LinkedAt which type x (known.with_file_meaning bytes (known.linked x.entity x.type) k)
named_at which bytes type x k h = record {
  counted = record {
    file = h.counted.file;
    linkage = linkage_named which k.entities k.declared k.file_scope bytes (known.linked x.entity x.type) h.counted.linkage h.well.covers;
    room = h.counted.room;
    most = h.counted.most;
  };
  well = record { among = h.well.among; covers = h.well.covers; function = h.well.function };
}
