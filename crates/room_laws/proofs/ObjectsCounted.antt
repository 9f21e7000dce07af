-- Definitions of objects keep what is counted: the cells of an object are counted where it is defined for the first time.
use Rattle.std.proofs.Common.{◌≡◌, ℕ, zero, suc, ◌+◌, ◌≤◌, Bool as Test, true, false, List, [], ◌∷◌, refl, ap, ap₂, sym, subst, ◌∙◌, Option, Some, None, inl, inr, arith}
use Rattle.std.specs.Prelude.{◌&&◌, not, if◌then◌else◌, IsTrue, IsFalse, slice_set}
use Rattle.c_types.specs.Types.{CType, void, integer, pointer, array, returning, taking, Qualified, is_void, is_function, is_complete, cells_of, may_be_one, composite}
use Rattle.c_typed.specs.Statements.{Cell}
use Rattle.typing_rules.specs.Source.{Named}
use Rattle.typing_rules.specs.SourceUnits.{Initial, single, braced}
use Rattle.typing_rules.specs.Known as known
use Rattle.typing_rules.specs.Known.{Known, File, main_file, binary_file, same_file, Definition, undefined, tentative, defined, Entity, First, Scope, Linked, entity_at}
use Rattle.typing_rules.specs.Limits.{most_static_cells}
use Rattle.typing_rules.specs.SpecifierRules.{Storage}
use Rattle.typing_rules.specs.DeclarationRules.{Defining, tentatively, fully, may_define, defined_by, is_undefined, with_definition, composed, starts_of, completed, TextAt, text_for, text_length, Initialized}
use Rattle.typing_rules.specs.UnitRules.{is_defined_in, with_contents}
use Rattle.typing_rules.specs.Holding.{Sequence}
use Rattle.typing_rules.specs.TypingDeclarations.{IsTextGiven, AreCellsGiven, IsInitialized}
use Rattle.typing_rules.specs.TypingUnits.{IsDefined, AreCountedIf, IsDefinedTentatively, IsDefinedWith, IsObjectDefined}
use Rattle.room_laws.proofs.Keeping.{Stays}
use Rattle.room_laws.proofs.TypesCovered.{Covers, and_second, composite_function, may_be_other_covers, covers_more, composite_covers}
use Rattle.room_laws.proofs.InitializersKeep.{keeps_initialized}
use Rattle.room_laws.proofs.StaticsTotal.{at_own, set_twice, own_cells, all_cells, own_at_most, is_static, one_more, not_both, text_cells}
use Rattle.room_laws.proofs.Linkage.{Linkage, Grows, grows_itself, grown_no_more, set_no_more, linkage_set, linkage_named}
use Rattle.room_laws.proofs.Counted.{Counted, room_of_text, IsWell}

-- ---- definitions

pub record DefinedSo (how : Defining) (n : ℕ) (first : Test) (k l : Known) : Type 0 where
  pub first_is : first ≡ is_undefined (entity_at k.entities n).definition
  pub may : IsTrue (may_define how (entity_at k.entities n).definition k.file)
  pub after : l ≡ with_definition how n k

pub defined_so : (how : Defining) (n : ℕ) (first : Test) (k l : Known) → IsDefined how n first k l → DefinedSo how n first k l
defined_so how n first k l h =
    let held = h.second in
    let made = held.second in
    let at = held.first.1 ∙ h.first.1 in
    record {
      first_is = made.second.0 ∙ ap is_undefined h.first.0;
      may = subst (λ d. IsTrue (may_define how d k.file)) h.first.0 (subst (λ m. IsTrue (may_define how h.of m.file)) h.first.1 held.first.0);
      after = made.second.1 ∙ made.first ∙ ap (with_definition how n) at;
    }

same_files : (a b : File) → same_file a b ≡ same_file b a
same_files main_file main_file = refl
same_files main_file binary_file = refl
same_files binary_file main_file = refl
same_files binary_file binary_file = refl

-- an entity that was defined is defined in this file
still_defined : (how : Defining) (d : Definition) (file : File) → IsTrue (may_define how d file) → IsFalse (is_undefined d) → IsTrue (is_defined_in file d)
still_defined how undefined file m u = absurd (not_both true refl u)
still_defined how (tentative other) file m u = same_files file other ∙ m
still_defined tentatively (defined other) file m u = same_files file other ∙ m
still_defined fully (defined other) file m u = absurd (not_both false m refl)

-- in the main file nothing is defined in the binary file
pub main_defined : (how : Defining) (d : Definition) (file : File) → file ≡ main_file → IsFalse (is_defined_in binary_file d)
    → IsFalse (is_defined_in binary_file (defined_by how d file))
main_defined tentatively undefined file e h = subst (λ f. IsFalse (same_file binary_file f)) (sym e) refl
main_defined tentatively (tentative other) file e h = h
main_defined tentatively (defined other) file e h = h
main_defined fully d file e h = subst (λ f. IsFalse (same_file binary_file f)) (sym e) refl

abbrev pub redefined : Defining → File → Entity → Entity
redefined how file e = record e { definition = defined_by how e.definition file }

pub redefined_grows : (how : Defining) (file : File) (e : Entity) → Grows e (redefined how file e)
redefined_grows how file e =
    let own = grows_itself e in
    record { function = own.function; covers = own.covers }

-- ---- what is counted

abbrev cells_if : Test → Qualified → ℕ
cells_if test type = if test then cells_of type.type else 0

record CountedSo (test : Test) (type : Qualified) (k l : Known) : Type 0 where
  more : k.static_cells + cells_if test type ≤ most_static_cells
  after : l ≡ known.with_cells (cells_if test type) k

no_cells : (k : Known) → known.with_cells 0 k ≡ k
no_cells k = let none : k.static_cells + 0 ≡ k.static_cells = omega arith in ap (λ n. record k { static_cells = n }) none

counted_so : (test : Test) (type : Qualified) (u : Unit {0}) (k l : Known) → k.static_cells ≤ most_static_cells → AreCountedIf test type u k l
    → CountedSo test type k l
counted_so true type u k l most (inl p) = record { more = p.1.first.0; after = p.1.second ∙ ap (known.with_cells (cells_of type.type)) p.1.first.1 }
counted_so true type u k l most (inr p) = absurd (not_both true refl p.0)
counted_so false type u k l most (inl p) = absurd (not_both false p.0 refl)
counted_so false type u k l most (inr p) = record { more = omega (arith, most); after = p.1.1 ∙ sym (no_cells k) }

-- ---- tentative definitions

room_first : (before after own cells counted texts statics : ℕ) → after ≤ own + before → own ≤ cells → cells ≡ counted → before + texts ≤ statics
    → after + texts ≤ statics + counted
room_first before after own cells counted texts statics a b c d = omega (arith, a, b, c, d)

room_again : (before after counted texts statics : ℕ) → after ≤ before → before + texts ≤ statics → after + texts ≤ statics + counted
room_again before after counted texts statics a b = omega (arith, a, b)

module _ (which : File) (type : Qualified) (l : Linked) (k : Known) (well : IsWell type l k) (c : Counted which k) where
  abbrev old : Entity
  old = entity_at k.entities l.entity

  -- an entity that was defined is defined in this file
  still_here : (how : Defining) (first : Test) → first ≡ is_undefined old.definition → IsTrue (may_define how old.definition k.file) → IsFalse first
      → IsTrue (is_defined_in which old.definition)
  still_here how first same may f =
      subst (λ file. IsTrue (is_defined_in file old.definition)) c.file (still_defined how old.definition k.file may (sym same ∙ f))

  abbrev held : Entity
  held = redefined tentatively k.file old

  tentatively_room : (first : Test) → IsTrue (is_complete l.type.type) → (IsFalse first → IsTrue (is_defined_in which old.definition))
      → all_cells which (slice_set k.entities l.entity held) k.declared + text_cells k.texts ≤ k.static_cells + cells_if first l.type
  tentatively_room true complete before =
      room_first (all_cells which k.entities k.declared) (all_cells which (slice_set k.entities l.entity held) k.declared) (own_cells which held)
      (cells_of old.type.type) (cells_of l.type.type) (text_cells k.texts) k.static_cells
      (one_more which k.entities l.entity held k.declared c.linkage.once) (own_at_most (is_static which held) (cells_of old.type.type))
      (well.covers complete).cells c.room
  tentatively_room false complete before =
      room_again (all_cells which k.entities k.declared) (all_cells which (slice_set k.entities l.entity held) k.declared) 0 (text_cells k.texts)
      k.static_cells
      (set_no_more which k.entities l.entity held k.declared
      (grown_no_more which old held (redefined_grows tentatively k.file old) (λ d. before refl) (c.linkage.whole l.entity))) c.room

  tentatively_counted : (u : Unit {0}) (m : Known) → IsDefinedTentatively l u k m → Counted which m
  tentatively_counted u m h =
      let rest = subst (λ z. Sequence (IsDefined tentatively l.entity) (λ first. AreCountedIf first l.type) u z m) h.first.1 h.second in
      let so = defined_so tentatively l.entity rest.of k rest.between rest.first in
      let most : rest.between.static_cells ≤ most_static_cells = subst (λ z. z.static_cells ≤ most_static_cells) (sym so.after) c.most in
      let counting = counted_so rest.of l.type u rest.between m most rest.second in
      let result : Counted which (known.with_cells (cells_if rest.of l.type) (with_definition tentatively l.entity k)) = record {
        file = c.file;
        linkage = linkage_set which k.entities k.declared k.file_scope l.entity held c.linkage (λ s. well.among) (redefined_grows tentatively k.file old)
            (λ s. (well.covers h.first.0).complete)
            (λ i. main_defined tentatively old.definition k.file (c.file ∙ i) (c.linkage.here i l.entity));
        room = tentatively_room rest.of h.first.0 (still_here tentatively rest.of so.first_is so.may);
        most = subst (λ z. z.static_cells + cells_if rest.of l.type ≤ most_static_cells) so.after counting.more;
      } in
      subst (Counted which) (sym (counting.after ∙ ap (known.with_cells (cells_if rest.of l.type)) so.after)) result

-- ---- definitions with an initializer

-- while an initializer is typed: only texts become more, which are counted
record Inside (k : Known) (base : ℕ) (l : Known) : Type 0 where
  file : l.file ≡ k.file
  entities : l.entities ≡ k.entities
  declared : l.declared ≡ k.declared
  scope : l.file_scope ≡ k.file_scope
  room : base + text_cells l.texts ≤ l.static_cells
  most : l.static_cells ≤ most_static_cells

stays_inside : (k : Known) (base : ℕ) → Stays (Inside k base)
stays_inside k base = record {
  scopes = λ l scopes i.
      record { file = i.file; entities = i.entities; declared = i.declared; scope = i.scope; room = i.room; most = i.most };
  locals = λ l locals i.
      record { file = i.file; entities = i.entities; declared = i.declared; scope = i.scope; room = i.room; most = i.most };
  uses = λ l uses i.
      record { file = i.file; entities = i.entities; declared = i.declared; scope = i.scope; room = i.room; most = i.most };
  types = λ l types i.
      record { file = i.file; entities = i.entities; declared = i.declared; scope = i.scope; room = i.room; most = i.most };
  text = λ l line bytes most i. record {
    file = i.file;
    entities = i.entities;
    declared = i.declared;
    scope = i.scope;
    room = room_of_text base l.texts line bytes l.static_cells i.room;
    most = most;
  };
}

room_more : (base texts cells more : ℕ) → base + texts ≤ cells → base + more + texts ≤ cells + more
room_more base texts cells more h = omega (arith, h)

inside_counted : (k : Known) (base : ℕ) (test : Test) (type : Qualified) (u : Unit {0}) (l m : Known) → AreCountedIf test type u l m → Inside k base l
    → Inside k (base + cells_if test type) m
inside_counted k base test type u l m h i =
    let so = counted_so test type u l m i.most h in
    let result : Inside k (base + cells_if test type) (known.with_cells (cells_if test type) l) = record {
      file = i.file;
      entities = i.entities;
      declared = i.declared;
      scope = i.scope;
      room = room_more base (text_cells l.texts) l.static_cells (cells_if test type) i.room;
      most = so.more;
    } in
    subst (Inside k (base + cells_if test type)) (sym so.after) result

-- ---- the type that an initializer completes

text_completes : (q : _) (t : CType) (n : Option TextAt) (index : ℕ) (given : List Cell) (k l : Known) → IsTextGiven t None index n given k l
    → IsTrue (is_complete (array q t (text_length n)))
text_completes q t None index given k l h = absurd h
text_completes q t (Some text) index given k l h = refl

completes : (is_static : Test) (type : CType) (index : ℕ) (x : Initial) (given : List Cell) (k l : Known) → AreCellsGiven is_static type index x given k l
    → IsFalse (is_void type) → IsFalse (is_function type) → IsTrue (is_complete (completed type x))
unfolding AreCellsGiven
completes is_static void index x given k l h v f = absurd cc
completes is_static (integer ty) index x given k l h v f = refl
completes is_static (pointer q t) index x given k l h v f = refl
completes is_static (array q t None) index (single e) given k l h v f = text_completes q t (text_for t e) index given k l h
completes is_static (array q t None) index (braced line items) given k l h v f = refl
completes is_static (array q t (Some n)) index x given k l h v f = refl
completes is_static (returning q t) index x given k l h v f = absurd cc
completes is_static (taking p t) index x given k l h v f = absurd cc

initialized_complete : (is_static : Test) (type : Qualified) (x : Initial) (done : Initialized) (k l : Known) → IsInitialized is_static type x done k l
    → IsFalse (is_void type.type) → IsFalse (is_function type.type) → IsTrue (is_complete done.type.type)
initialized_complete is_static type x done k l h v f =
    subst (λ d. IsTrue (is_complete d.type.type)) (sym h.second.second.0) (completes is_static type.type 0 x h.of k h.between h.first v f)

type_stays : (es : List Entity) (n : ℕ) (d : Definition)
    → (entity_at (slice_set es n (record (entity_at es n) { definition = d })) n).type ≡ (entity_at es n).type
type_stays [] n d = refl
type_stays (x ∷ es) zero d = refl
type_stays (x ∷ es) (suc n) d = type_stays es n d

linkage_at : (which : File) (fs es : List Entity) (cs ds : List First) (r s : Scope) → fs ≡ es → cs ≡ ds → r ≡ s → Linkage which es ds s
    → Linkage which fs cs r
linkage_at which fs es cs ds r s a b c h =
    subst (λ xs. Linkage which xs cs r) (sym a) (subst (λ xs. Linkage which es xs r) (sym b) (subst (Linkage which es ds) (sym c) h))

-- ---- the entity behind its initializer

module _ (which : File) (type : Qualified) (l : Linked) (k : Known) (well : IsWell type l k) (c : Counted which k) (done : Initialized)
    (whole : IsTrue (is_complete done.type.type)) (one : IsTrue (may_be_one done.type (entity_at k.entities l.entity).type)) where
  abbrev define : Entity → Entity
  define e = redefined fully k.file e

  abbrev fill : Entity → Entity
  fill e = record e { type = composed e.type done.type; contents = starts_of done.given }

  abbrev before : Entity
  before = entity_at k.entities l.entity

  abbrev filled : Entity
  filled = fill (define before)

  filled_grows : Grows before filled
  filled_grows =
      record { function = composite_function before.type.type done.type.type; covers = λ h. covers_more before.type.type done.type.type h }

  filled_covers : Covers done.type.type filled.type.type
  filled_covers = may_be_other_covers done.type before.type one whole

  -- it has the cells that are counted: before its initializer where the type of its name was complete, else behind it
  filled_cells : (complete : Test) → is_complete l.type.type ≡ complete
      → cells_of filled.type.type ≡ cells_if (true && complete) l.type + cells_if (true && not complete) done.type
  filled_cells true e =
      let named = (well.covers e).cells in
      let same = (filled_grows.covers (well.covers e).complete).cells in
      omega (arith, named, same)
  filled_cells false e =
      let same = filled_covers.cells in
      omega (arith, same)

  filled_room : (first : Test) → (IsFalse first → IsTrue (is_defined_in which before.definition))
      → all_cells which (slice_set k.entities l.entity filled) k.declared
      ≤ all_cells which k.entities k.declared + cells_if (first && is_complete l.type.type) l.type
      + cells_if (first && not (is_complete l.type.type)) done.type
  filled_room true old =
      let more = one_more which k.entities l.entity filled k.declared c.linkage.once in
      let own = own_at_most (is_static which filled) (cells_of filled.type.type) in
      let cells = filled_cells (is_complete l.type.type) refl in
      omega (arith, more, own, cells)
  filled_room false old =
      let less = set_no_more which k.entities l.entity filled k.declared
      (grown_no_more which before filled filled_grows (λ d. old refl) (c.linkage.whole l.entity)) in
      omega (arith, less)

  filled_linkage : Linkage which (slice_set k.entities l.entity filled) k.declared k.file_scope
  filled_linkage =
      linkage_set which k.entities k.declared k.file_scope l.entity filled c.linkage (λ s. well.among) filled_grows (λ s. filled_covers.complete)
      (λ i. main_defined fully before.definition k.file (c.file ∙ i) (c.linkage.here i l.entity))

  -- the name has the type that the initializer completes
  named_covers : IsTrue (is_complete (composite l.type.type done.type.type))
      → Covers (composite l.type.type done.type.type) (entity_at (slice_set k.entities l.entity filled) l.entity).type.type
  named_covers h =
      at_own (λ e. Covers (composite l.type.type done.type.type) e.type.type) k.entities l.entity (λ e. fill (define e)) (λ p. p)
      (composite_covers l.type.type before.type.type done.type.type well.covers (λ d. filled_covers) h)

  -- behind the initializer, from what is so while it is typed
  contents_counted : (name : Named) (first : Test) → (IsFalse first → IsTrue (is_defined_in which before.definition)) → (m : Known)
      → Inside (with_definition fully l.entity k) (all_cells which k.entities k.declared + cells_if (first && is_complete l.type.type) l.type
      + cells_if (first && not (is_complete l.type.type)) done.type) m
      → Counted which (with_contents name l done m)
  contents_counted name first old m i =
      let entities : slice_set m.entities l.entity (fill (entity_at m.entities l.entity)) ≡ slice_set k.entities l.entity filled =
      ap (λ es. slice_set es l.entity (fill (entity_at es l.entity))) i.entities ∙ set_twice k.entities l.entity define fill in
      let scope : (name.bytes, known.linked l.entity (composed l.type done.type)) ∷ m.file_scope
      ≡ (name.bytes, known.linked l.entity (composed l.type done.type)) ∷ k.file_scope =
      ap (λ s. (name.bytes, known.linked l.entity (composed l.type done.type)) ∷ s) i.scope in
      let linkage = linkage_named which (slice_set k.entities l.entity filled) k.declared k.file_scope name.bytes
      (known.linked l.entity (composed l.type done.type)) filled_linkage named_covers in
      let cells = ap₂ (all_cells which) entities i.declared in
      let room = filled_room first old in
      let counted = i.room in
      record {
        file = i.file ∙ c.file;
        linkage = linkage_at which _ _ _ _ _ _ entities i.declared scope linkage;
        room = omega (arith, cells, room, counted);
        most = i.most;
      }

defined_with : (which : File) (name : Named) (type : Qualified) (l : Linked) (x : Initial) → IsFalse (is_void type.type) → IsFalse (is_function type.type)
    → (u : Unit {0}) (k m : Known) → IsDefinedWith name l type x u k m → IsWell type l k → Counted which k → Counted which m
defined_with which name type l x v f u k m h well c =
    let n = l.entity in
    let so = defined_so fully n h.of k h.between h.first in
    let made = with_definition fully n k in
    let e = entity_at k.entities n in
    let base = all_cells which k.entities k.declared in
    let begun : Inside made base made = record { file = refl; entities = refl; declared = refl; scope = refl; room = c.room; most = c.most } in
    let second = h.second in
    let counted = inside_counted made base (h.of && is_complete l.type.type) l.type second.of h.between second.between second.first
    (subst (Inside made base) (sym so.after) begun) in
    let base1 = base + cells_if (h.of && is_complete l.type.type) l.type in
    let third = second.second in
    let done = third.of in
    let typed : Inside made base1 third.between =
    (keeps_initialized (stays_inside made base1) true type x).kept done second.between third.between third.first counted in
    let whole = initialized_complete true type x done second.between third.between third.first v f in
    let fourth = third.second in
    let one_here : IsTrue (may_be_one done.type (entity_at made.entities n).type) =
    subst (λ es. IsTrue (may_be_one done.type (entity_at es n).type)) typed.entities
    (and_second (may_be_one done.type l.type) (may_be_one done.type (entity_at third.between.entities n).type) fourth.first.0) in
    let one : IsTrue (may_be_one done.type e.type) =
    subst (λ t. IsTrue (may_be_one done.type t)) (type_stays k.entities n (defined_by fully e.definition k.file)) one_here in
    let fifth = fourth.second in
    let again = inside_counted made base1 (h.of && not (is_complete l.type.type)) done.type fifth.of fourth.between fifth.between fifth.first
    (subst (Inside made base1) (sym fourth.first.1) typed) in
    subst (Counted which) (sym fifth.second) (contents_counted which type l k well c done whole one name h.of
    (still_here which type l k well c fully h.of so.first_is so.may) fifth.between again)

pub object_counted : (which : File) (name : Named) (word : Storage) (type : Qualified) (l : Linked) (x : Option Initial) → IsFalse (is_void type.type)
    → IsFalse (is_function type.type) → (u : Unit {0}) (k m : Known) → IsObjectDefined name word l type x u k m → IsWell type l k → Counted which k
    → Counted which m
object_counted which name word type l None v f u k m h well c = elim h [
  | inl p ↦ subst (Counted which) (sym p.1.1) c
  | inr p ↦ tentatively_counted which type l k well c u m p.1
]
object_counted which name word type l (Some x) v f u k m h well c = defined_with which name type l x v f u k m h well c
