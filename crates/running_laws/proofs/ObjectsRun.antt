-- Definitions of objects leave room for what is counted, and each object that is defined has its cells.
use Rattle.std.proofs.Common.{◌≡◌, ℕ, zero, suc, ◌+◌, ◌≤◌, Bool as Test, true, false, List, [], ◌∷◌, refl, ap, sym, subst, ◌∙◌, Option, Some, None, inl, inr, arith}
use Rattle.std.specs.Prelude.{◌⊎◌, ◌&&◌, not, IsTrue, IsFalse, slice_set}
use Rattle.c_types.specs.Types.{CType, void, integer, pointer, array, returning, taking, Qualified, is_function, is_complete, cells_of, same_type, same_qualifiers, are_for_one, may_be_one, composite}
use Rattle.c_typed.specs.Starts.{start_of}
use Rattle.c_typed.specs.Statements.{Cell}
use Rattle.c_typed.specs.declared.program.Start.{Start}
use Rattle.c_typed.specs.declared.program.TextObject.{TextObject}
use Rattle.source_meaning.specs.Sound.{HasCells}
use Rattle.typing_rules.specs.Source.{Named}
use Rattle.typing_rules.specs.SourceUnits.{Initial}
use Rattle.typing_rules.specs.Known as known
use Rattle.typing_rules.specs.Known.{Known, File, main_file, binary_file, same_file, Definition, undefined, tentative, defined, Entity, First, Scope, Linked, no_entity, entity_at}
use Rattle.typing_rules.specs.Limits.{most_static_cells}
use Rattle.typing_rules.specs.SpecifierRules.{Storage}
use Rattle.typing_rules.specs.DeclarationRules.{Defining, tentatively, fully, may_define, defined_by, is_undefined, with_definition, composed, or_zero, starts_of, Initialized}
use Rattle.typing_rules.specs.UnitRules.{is_defined_in, is_object, with_contents}
use Rattle.typing_rules.specs.Holding.{Sequence}
use Rattle.typing_rules.specs.TypingUnits.{IsDefined, AreCountedIf, IsDefinedTentatively, IsDefinedWith, IsObjectDefined}
use Rattle.typing_rules.specs.Laws.{Each}
use Rattle.typing_rules.specs.LanguageTypes.{IsObjectType}
use Rattle.typing_laws.specs.LanguagePrograms.{IfThere}
use Rattle.typing_laws.proofs.BlocksSound.{Block, object_is_there}
use Rattle.typing_laws.proofs.LinkageSound.{LinkedIs, composite_is, entity_set, sound_definition}
use Rattle.typing_laws.proofs.InitializersSound.{IsGivenItems, IsGivenIf}
use Rattle.running_laws.specs.HasNumbers.{InitialHasNumbers}
use Rattle.running_laws.proofs.Tests.{not_both, and_second}
use Rattle.running_laws.proofs.NodesRun.{complete_has_cells}
use Rattle.running_laws.proofs.Ready.{Frame, Room, Ready}
use Rattle.running_laws.proofs.StartsRun.{StartFits, StartIfFits, start_fits, zero_fits}
use Rattle.running_laws.proofs.StaticsCounted.{set_twice}
use Rattle.running_laws.proofs.Linkage.{Fit, Linkage, frame, Grows, linkage_set, linkage_more, linkage_named, composite_complete, composite_function}
use Rattle.running_laws.proofs.LinkedRuns.{IsWell, starts_at, main_at}
use Rattle.running_laws.proofs.RunningStatements.{CellRuns}
use Rattle.running_laws.proofs.InsideRuns.{Inside}
use Rattle.running_laws.proofs.InitializersRun.{in_initialized}

-- outside of functions nothing is asked of locals
abbrev pub Anything : List CType → Type 0
Anything ts = Unit {0}

-- what is so outside of functions, where the file has so many functions
pub record AtFile (which : File) (functions : ℕ) (k : Known) : Type 0 where
  pub counted : ℕ
  pub inside : Inside (frame which functions counted) Anything k

-- ---- definitions

pub record DefinedSo (how : Defining) (n : ℕ) (first : Test) (k l : Known) : Type 0 where
  pub first_is : first ≡ is_undefined (entity_at k.entities n).definition
  pub may : IsTrue (may_define how (entity_at k.entities n).definition k.file)
  pub after : l ≡ with_definition how n k

pub defined_so : (how : Defining) (n : ℕ) (first : Test) (k l : Known) → IsDefined how n first k l → DefinedSo how n first k l
defined_so how n first k l h =
    let held = h.second in
    let made = held.second in
    let at = held.first.1 ∙ h.first.1 in
    record {
      first_is = made.second.0 ∙ ap is_undefined h.first.0;
      may = subst (λ d. IsTrue (may_define how d k.file)) h.first.0 (subst (λ m. IsTrue (may_define how h.of m.file)) h.first.1 held.first.0);
      after = made.second.1 ∙ made.first ∙ ap (with_definition how n) at;
    }

same_files : (a b : File) → same_file a b ≡ same_file b a
same_files main_file main_file = refl
same_files main_file binary_file = refl
same_files binary_file main_file = refl
same_files binary_file binary_file = refl

-- an entity that was defined is defined in this file
still_defined : (how : Defining) (d : Definition) (file : File) → IsTrue (may_define how d file) → IsFalse (is_undefined d) → IsTrue (is_defined_in file d)
still_defined how undefined file m u = absurd (not_both true refl u)
still_defined how (tentative other) file m u = same_files file other ∙ m
still_defined tentatively (defined other) file m u = same_files file other ∙ m
still_defined fully (defined other) file m u = absurd (not_both false m refl)

-- in the main file nothing is defined in the binary file
pub main_defined : (how : Defining) (d : Definition) (file : File) → file ≡ main_file → IsFalse (is_defined_in binary_file d)
    → IsFalse (is_defined_in binary_file (defined_by how d file))
main_defined tentatively undefined file e h = subst (λ f. IsFalse (same_file binary_file f)) (sym e) refl
main_defined tentatively (tentative other) file e h = h
main_defined tentatively (defined other) file e h = h
main_defined fully d file e h = subst (λ f. IsFalse (same_file binary_file f)) (sym e) refl

and_so : (a b c : Test) → IsTrue c → IsTrue (a && b) → IsTrue (a && c)
and_so true b c h k = h
and_so false b c h k = k

-- ---- what is counted

abbrev CountedSo : Test → Qualified → Known → Known → Type 0
CountedSo test type k l =
    (IsTrue test × (k.static_cells + cells_of type.type ≤ most_static_cells) × (l ≡ known.with_cells (cells_of type.type) k)) ⊎ (IsFalse test × (l ≡ k))

counted_so : (test : Test) (type : Qualified) (u : Unit {0}) (k l : Known) → AreCountedIf test type u k l → CountedSo test type k l
counted_so test type u k l h = elim h [
  | inl p ↦ inl (p.0, p.1.first.0, p.1.second ∙ ap (known.with_cells (cells_of type.type)) p.1.first.1)
  | inr p ↦ inr (p.0, p.1.1)
]

-- there is room for one static object more behind its cells
room_more : (functions statics c : ℕ) (f : Frame) (scope : Scope) (ts : List TextObject) (cells count : ℕ) → f.functions ≡ functions
    → f.statics ≡ statics → 1 ≤ c
    → cells + c ≤ most_static_cells → Room f scope ts cells count → (g : Frame) → g.functions ≡ functions → g.statics ≡ suc statics
    → Room g scope ts (cells + c) count
room_more functions statics c f scope ts cells count a b one most r g d e = record {
  functions = r.functions ∙ a ∙ sym d;
  texts = r.texts;
  room = let before = r.room in omega (arith, before, b, e, one);
  most = most;
  small = r.small;
}

room_as : (f g : Frame) (scope : Scope) (ts : List TextObject) (cells count : ℕ) → f.functions ≡ g.functions → g.statics ≡ f.statics
    → Room f scope ts cells count
    → Room g scope ts cells count
room_as f g scope ts cells count a b r = record {
  functions = r.functions ∙ a;
  texts = r.texts;
  room = let before = r.room in omega (arith, before, b);
  most = r.most;
  small = r.small;
}

block_counted : (cells : ℕ) (k : Known) → Block k → Block (known.with_cells cells k)
block_counted cells k b = record { scopes = b.scopes; file_scope = b.file_scope; locals = b.locals; entities = b.entities }

-- ---- tentative definitions

tentatively_so : (which : File) (functions : ℕ) (type : Qualified) (l : Linked) (u : Unit {0}) (k m : Known) → IsDefinedTentatively l u k m
    → IsWell type l k → LinkedIs l
    → AtFile which functions k → AtFile which functions m
tentatively_so which functions type l u k m h well there at =
    let complete : IsTrue (is_complete l.type.type) = h.first.0 in
    let rest = subst (λ z. Sequence (IsDefined tentatively l.entity) (λ first. AreCountedIf first l.type) u z m) h.first.1 h.second in
    let so = defined_so tentatively l.entity rest.of k rest.between rest.first in
    by rest.of rest.between so complete (counted_so rest.of l.type u rest.between m rest.second)
  where
    by : (first : Test) (between : Known) → DefinedSo tentatively l.entity first k between → IsTrue (is_complete l.type.type)
        → CountedSo first l.type between m
        → AtFile which functions m
    by first between so complete (inl p) =
        let e = entity_at k.entities l.entity in
        let e' : Entity = record e { definition = defined_by tentatively e.definition k.file } in
        let made = with_definition tentatively l.entity k in
        let ready = at.inside.ready in
        let cells = cells_of l.type.type in
        let has : HasCells l.type.type = complete_has_cells l.type.type complete there.of_language in
        let most : k.static_cells + cells ≤ most_static_cells = subst (λ z. z.static_cells + cells ≤ most_static_cells) so.after p.1 in
        let result : AtFile which functions (known.with_cells cells made) = record {
          counted = suc at.counted;
          inside = record {
            block = block_counted cells made ((sound_definition tentatively l.entity).sound tt k made refl at.inside.block).1;
            ready = record {
              scopes = ready.scopes;
              room = room_more functions at.counted cells (frame which functions at.counted) k.file_scope k.texts k.static_cells k.functions refl refl
                  has.0 most
                  ready.room (frame which functions (suc at.counted)) refl refl;
              linkage = linkage_more which at.counted k.file k.entities k.declared k.file_scope l.entity e' ready.linkage well.among
                  (record { function = λ f. f; complete = λ c. c }) (λ u f. well.complete complete) (starts_at k.entities l.entity ready.linkage.starts)
                  (λ m. main_defined tentatively e.definition k.file (ready.linkage.file_is ∙ m) (main_at k.entities l.entity (ready.linkage.here m)));
            };
            locals = tt;
          };
        } in
        subst (AtFile which functions) (sym (p.2 ∙ ap (known.with_cells cells) so.after)) result
    by first between so complete (inr p) =
        let e = entity_at k.entities l.entity in
        let e' : Entity = record e { definition = defined_by tentatively e.definition k.file } in
        let made = with_definition tentatively l.entity k in
        let ready = at.inside.ready in
        let before : IsFalse (is_undefined e.definition) = subst IsFalse so.first_is p.0 in
        let result : AtFile which functions made = record {
          counted = at.counted;
          inside = record {
            block = ((sound_definition tentatively l.entity).sound tt k made refl at.inside.block).1;
            ready = record {
              scopes = ready.scopes;
              room = ready.room;
              linkage = linkage_set which at.counted k.file k.entities k.declared k.file_scope l.entity e' ready.linkage
                  (and_so (is_object e) (is_defined_in k.file e'.definition) (is_defined_in k.file e.definition)
                  (still_defined tentatively e.definition k.file so.may before))
                  (λ s. well.among)
                  (record { function = λ f. f; complete = λ c. c }) (λ u f. well.complete complete) (starts_at k.entities l.entity ready.linkage.starts)
                  (λ m. main_defined tentatively e.definition k.file (ready.linkage.file_is ∙ m) (main_at k.entities l.entity (ready.linkage.here m)));
            };
            locals = tt;
          };
        } in
        subst (AtFile which functions) (sym (p.1 ∙ so.after)) result

-- ---- definitions with an initializer

-- declarations of one object, of which the first has a complete type
other_complete : (a b : CType) → IsTrue (are_for_one a b) → IsTrue (is_complete a) → IsTrue (is_complete (composite b a))
unfolding same_type
other_complete void b h c = absurd cc
other_complete (integer ty) void h c = absurd cc
other_complete (integer ty) (integer tz) h c = refl
other_complete (integer ty) (pointer q t) h c = absurd cc
other_complete (integer ty) (array q t n) h c = absurd cc
other_complete (integer ty) (returning q t) h c = absurd cc
other_complete (integer ty) (taking p t) h c = absurd cc
other_complete (pointer r u) void h c = absurd cc
other_complete (pointer r u) (integer ty) h c = absurd cc
other_complete (pointer r u) (pointer q t) h c = refl
other_complete (pointer r u) (array q t n) h c = absurd cc
other_complete (pointer r u) (returning q t) h c = absurd cc
other_complete (pointer r u) (taking p t) h c = absurd cc
other_complete (array r u None) b h c = absurd cc
other_complete (array r u (Some m)) void h c = absurd cc
other_complete (array r u (Some m)) (integer ty) h c = absurd cc
other_complete (array r u (Some m)) (pointer q t) h c = absurd cc
other_complete (array r u (Some m)) (array q t None) h c = refl
other_complete (array r u (Some m)) (array q t (Some n)) h c = refl
other_complete (array r u (Some m)) (returning q t) h c = absurd cc
other_complete (array r u (Some m)) (taking p t) h c = absurd cc
other_complete (returning r u) b h c = absurd cc
other_complete (taking r u) b h c = absurd cc

may_be_other_complete : (a b : Qualified) → IsTrue (may_be_one a b) → IsTrue (is_complete a.type) → IsTrue (is_complete (composite b.type a.type))
may_be_other_complete a b h c =
    other_complete a.type b.type (and_second (same_qualifiers a.qualifiers b.qualifiers) (are_for_one a.type b.type) h) c

starts_fit : (given : List Cell) → Each CellRuns given → Fit (starts_of given)
starts_fit [] h = tt
starts_fit (c ∷ rest) h = (or_zero_fits (start_of c.value) (start_fits c.value h.0), starts_fit rest h.1)
  where
    or_zero_fits : (s : Option Start) → StartIfFits s → StartFits (or_zero s)
    or_zero_fits None k = zero_fits
    or_zero_fits (Some s) k = k

at_own : (P : Entity → Type 0) (es : List Entity) (n : ℕ) (h : Entity → Entity) → (P (h no_entity) → P no_entity) → P (h (entity_at es n))
    → P (entity_at (slice_set es n (h (entity_at es n))) n)
at_own P [] n h q p = q p
at_own P (x ∷ es) zero h q p = p
at_own P (x ∷ es) (suc n) h q p = at_own P es n h q p

-- while the initializer is typed: the entity is defined, and nothing else of what has linkage changes
record SameAs (k : Known) (file : File) (es : List Entity) (ds : List First) (scope : Scope) : Type 0 where
  files : file ≡ k.file
  entities : es ≡ k.entities
  declared : ds ≡ k.declared
  scopes : scope ≡ k.file_scope

abbrev middle : ℕ → ℕ → Known → Frame
middle functions counted k = record { functions = functions; statics = counted; linkage = SameAs k }

linkage_at : (which : File) (counted : ℕ) (k l : Known) (file : File) (es : List Entity) (ds : List First) (scope : Scope) → k.file ≡ file → k.entities ≡ es
    → k.declared ≡ ds → k.file_scope ≡ scope → Linkage which counted file es ds scope → Linkage which counted k.file k.entities k.declared k.file_scope
linkage_at which counted k l file es ds scope a b c d h =
    subst (λ f. Linkage which counted f k.entities k.declared k.file_scope) (sym a)
    (subst (λ xs. Linkage which counted file xs k.declared k.file_scope) (sym b)
    (subst (λ xs. Linkage which counted file es xs k.file_scope) (sym c) (subst (Linkage which counted file es ds) (sym d) h)))

linkage_less : (which : File) (counted more : ℕ) (file : File) (es : List Entity) (ds : List First) (scope : Scope) → counted ≤ more
    → Linkage which counted file es ds scope
    → Linkage which more file es ds scope
linkage_less which counted more file es ds scope le l = record {
  statics = let before = l.statics in omega (arith, before, le);
  once = l.once;
  among = l.among;
  whole = l.whole;
  named = l.named;
  starts = l.starts;
  file_is = l.file_is;
  here = l.here;
}

contents_block : (name : Named) (l : Linked) (done : Initialized) → LinkedIs l → IsObjectType done.type.type → (k : Known) → Block k
    → Block (with_contents name l done k)
contents_block name l done t o k b =
    let there = object_is_there done.type.type o in
    let both = composite_is l.type.type done.type.type t there in
    let set = entity_set l.entity (λ e. record e { type = composed e.type done.type; contents = starts_of done.given })
    (λ e h. composite_is e.type.type done.type.type h there) k b in
    record { scopes = set.scopes; file_scope = ((both.is_there, both.of_language), set.file_scope); locals = set.locals; entities = set.entities }

-- how many static objects are counted while the initializer is typed, and behind it
record CountedOnce (test : Test) (counted : ℕ) (functions : ℕ) (k m l : Known) : Type 0 where
  statics : ℕ
  more : counted ≤ statics
  once : (suc counted ≤ statics) ⊎ IsFalse test
  block : Block l
  ready : Ready (middle functions statics m) l

counted_once : (functions counted : ℕ) (test : Test) (type : Qualified) (k m l : Known) → CountedSo test type k l → (IsTrue test → HasCells type.type)
    → Block k
    → Ready (middle functions counted m) k → CountedOnce test counted functions k m l
counted_once functions counted test type k m l (inl p) has b r =
    let cells = cells_of type.type in
    let now : Ready (middle functions (suc counted) m) (known.with_cells cells k) = record {
      scopes = r.scopes;
      room = room_more functions counted cells (middle functions counted m) k.file_scope k.texts k.static_cells k.functions refl refl (has p.0).0 p.1
          r.room (middle functions (suc counted) m) refl refl;
      linkage = record { files = r.linkage.files; entities = r.linkage.entities; declared = r.linkage.declared; scopes = r.linkage.scopes };
    } in
    record {
      statics = suc counted;
      more = omega arith;
      once = inl (omega arith);
      block = subst Block (sym p.2) (block_counted cells k b);
      ready = subst (Ready (middle functions (suc counted) m)) (sym p.2) now;
    }
counted_once functions counted test type k m l (inr p) has b r = record {
  statics = counted;
  more = omega arith;
  once = inr p.0;
  block = subst Block (sym p.1) b;
  ready = subst (Ready (middle functions counted m)) (sym p.1) r;
}

-- the two tests by which an object is counted: before its initializer where its type was complete, else behind it
first_is_new : (first complete : Test) → IsTrue (first && complete) → IsTrue complete
first_is_new first complete h = and_second first complete h

counted_or_old : (first complete : Test) → IsFalse (first && complete) → IsFalse (first && not complete) → IsFalse first
counted_or_old true true a b = absurd cc
counted_or_old true false a b = absurd cc
counted_or_old false complete a b = refl

once_of_two : (counted statics more : ℕ) (first complete : Test) → (suc counted ≤ statics) ⊎ IsFalse (first && complete) → statics ≤ more
    → (suc statics ≤ more) ⊎ IsFalse (first && not complete) → counted ≤ statics → (suc counted ≤ more) ⊎ IsFalse first
once_of_two counted statics more first complete (inl p) le b c = inl (omega (arith, p, le))
once_of_two counted statics more first complete (inr p) le (inl q) c = inl (omega (arith, q, c))
once_of_two counted statics more first complete (inr p) le (inr q) c = inr (counted_or_old first complete p q)

-- what has linkage, once the entity is defined and has its contents
module _ (k : Known) (name : Named) (type : Qualified) (l : Linked) (done : Initialized) (well : IsWell type l k)
    (whole : IsTrue (is_complete done.type.type))
    (one : IsTrue (may_be_one done.type (entity_at k.entities l.entity).type)) (cells : Each CellRuns done.given) where
  abbrev filled : Entity → Entity
  filled e = record e { definition = defined_by fully e.definition k.file; type = composed e.type done.type; contents = starts_of done.given }

  abbrev old_entity : Entity
  old_entity = entity_at k.entities l.entity

  abbrev new_entity : Entity
  new_entity = filled old_entity

  new_complete : IsTrue (is_complete new_entity.type.type)
  new_complete = may_be_other_complete done.type old_entity.type one whole

  new_grows : Grows old_entity new_entity
  new_grows =
      record { function = composite_function old_entity.type.type done.type.type; complete = composite_complete old_entity.type.type done.type.type }

  function_before : (a b : Test) → (IsTrue a → IsTrue b) → (c d : Test) → IsTrue c → IsTrue (not b && d) → IsTrue (not a && c)
  function_before true true f c d h g = absurd cc
  function_before true false f c d h g = absurd (not_both false (f refl) refl)
  function_before false b f c d h g = h

  linkage_first : (which : File) (counted : ℕ) → Linkage which counted k.file k.entities k.declared k.file_scope
      → Linkage which (suc counted) k.file (slice_set k.entities l.entity new_entity) k.declared k.file_scope
  linkage_first which counted h =
      linkage_more which counted k.file k.entities k.declared k.file_scope l.entity new_entity h well.among new_grows (λ u f. new_complete)
      (starts_fit done.given cells)
      (λ m. main_defined fully old_entity.definition k.file (h.file_is ∙ m) (main_at k.entities l.entity (h.here m)))

  linkage_later : (which : File) (counted : ℕ) → IsTrue (is_defined_in k.file old_entity.definition)
      → Linkage which counted k.file k.entities k.declared k.file_scope
      → Linkage which counted k.file (slice_set k.entities l.entity new_entity) k.declared k.file_scope
  linkage_later which counted before h =
      linkage_set which counted k.file k.entities k.declared k.file_scope l.entity new_entity h
      (function_before (is_function old_entity.type.type) (is_function new_entity.type.type) new_grows.function
      (is_defined_in k.file old_entity.definition) (is_defined_in k.file new_entity.definition) before)
      (λ s. well.among) new_grows (λ u f. new_complete) (starts_fit done.given cells)
      (λ m. main_defined fully old_entity.definition k.file (h.file_is ∙ m) (main_at k.entities l.entity (h.here m)))

  entity_complete : IsTrue (is_complete (entity_at (slice_set k.entities l.entity new_entity) l.entity).type.type)
  entity_complete = at_own (λ e. IsTrue (is_complete e.type.type)) k.entities l.entity filled (λ p. p) new_complete

  linkage_last : (which : File) (counted statics : ℕ) (first : Test) → Linkage which counted k.file k.entities k.declared k.file_scope → counted ≤ statics
      → (suc counted ≤ statics) ⊎ IsFalse first → (IsFalse first → IsTrue (is_defined_in k.file old_entity.definition))
      → Linkage which statics k.file (slice_set k.entities l.entity new_entity) k.declared
      ((name.bytes, known.linked l.entity (composed l.type done.type)) ∷ k.file_scope)
  linkage_last which counted statics first h le (inl p) before =
      linkage_named which statics k.file (slice_set k.entities l.entity new_entity) k.declared k.file_scope name.bytes
      (known.linked l.entity (composed l.type done.type))
      (linkage_less which (suc counted) statics k.file (slice_set k.entities l.entity new_entity) k.declared k.file_scope p (linkage_first which counted h))
      (λ c. entity_complete)
  linkage_last which counted statics first h le (inr p) before =
      linkage_named which statics k.file (slice_set k.entities l.entity new_entity) k.declared k.file_scope name.bytes
      (known.linked l.entity (composed l.type done.type))
      (linkage_less which counted statics k.file (slice_set k.entities l.entity new_entity) k.declared k.file_scope le
      (linkage_later which counted (before p) h))
      (λ c. entity_complete)

type_stays : (es : List Entity) (n : ℕ) (d : Definition)
    → (entity_at (slice_set es n (record (entity_at es n) { definition = d })) n).type ≡ (entity_at es n).type
type_stays [] n d = refl
type_stays (x ∷ es) zero d = refl
type_stays (x ∷ es) (suc n) d = type_stays es n d

defined_with : (which : File) (functions : ℕ) (name : Named) (l : Linked) (type : Qualified) (x : Initial) → InitialHasNumbers x → IsGivenItems type.type x
    → IsObjectType type.type → (u : Unit {0}) (k m : Known) → IsDefinedWith name l type x u k m → IsWell type l k → LinkedIs l → AtFile which functions k
    → AtFile which functions m
defined_with which functions name l type x numbers items object u k m h well there at =
    let n = l.entity in
    let so = defined_so fully n h.of k h.between h.first in
    let made = with_definition fully n k in
    let e = entity_at k.entities n in
    let ready = at.inside.ready in
    let counted = at.counted in
    let block1 : Block h.between = subst Block (sym so.after) ((sound_definition fully n).sound tt k made refl at.inside.block).1 in
    let same : SameAs made made.file made.entities made.declared made.file_scope =
    record { files = refl; entities = refl; declared = refl; scopes = refl } in
    let ready_made : Ready (middle functions counted made) made = record {
      scopes = ready.scopes;
      room = room_as (frame which functions counted) (middle functions counted made) k.file_scope k.texts k.static_cells k.functions refl refl ready.room;
      linkage = same;
    } in
    let ready1 : Ready (middle functions counted made) h.between = subst (Ready (middle functions counted made)) (sym so.after) ready_made in
    let second = h.second in
    let once = counted_once functions counted (h.of && is_complete l.type.type) l.type h.between made second.between
    (counted_so (h.of && is_complete l.type.type) l.type second.of h.between second.between second.first)
    (λ t. complete_has_cells l.type.type (first_is_new h.of (is_complete l.type.type) t) there.of_language) block1 ready1 in
    let third = second.second in
    let done = third.of in
    let inner : Inside (middle functions once.statics made) Anything second.between = record { block = once.block; ready = once.ready; locals = tt } in
    let p = (in_initialized true type x numbers items object).sound done second.between third.between third.first inner in
    let fourth = third.second in
    let fifth = fourth.second in
    let block4 : Block fourth.between = subst Block (sym fourth.first.1) p.1.block in
    let ready4 : Ready (middle functions once.statics made) fourth.between =
    subst (Ready (middle functions once.statics made)) (sym fourth.first.1) p.1.ready in
    let again = counted_once functions once.statics (h.of && not (is_complete l.type.type)) done.type fourth.between made fifth.between
    (counted_so (h.of && not (is_complete l.type.type)) done.type fifth.of fourth.between fifth.between fifth.first) (λ t. p.0.has_cells) block4 ready4 in
    let last = fifth.between in
    let statics = again.statics in
    let less : counted ≤ statics = omega (arith, once.more, again.more) in
    let link = again.ready.linkage in
    let one_here : IsTrue (may_be_one done.type (entity_at made.entities n).type) =
    subst (λ es. IsTrue (may_be_one done.type (entity_at es n).type)) p.1.ready.linkage.entities
    (and_second (may_be_one done.type l.type) (may_be_one done.type (entity_at third.between.entities n).type) fourth.first.0) in
    let one : IsTrue (may_be_one done.type e.type) =
    subst (λ t. IsTrue (may_be_one done.type t)) (type_stays k.entities n (defined_by fully e.definition k.file)) one_here in
    let linked = linkage_last k name type l done well p.0.is_complete one p.0.cells which counted statics h.of ready.linkage less
    (once_of_two counted once.statics statics h.of (is_complete l.type.type) once.once again.more again.once once.more)
    (λ f. still_defined fully e.definition k.file so.may (subst IsFalse so.first_is f)) in
    let define : Entity → Entity = λ y. record y { definition = defined_by fully y.definition k.file } in
    let fill : Entity → Entity = λ y. record y { type = composed y.type done.type; contents = starts_of done.given } in
    let entities : slice_set last.entities n (fill (entity_at last.entities n)) ≡ slice_set k.entities n (fill (define e)) =
    ap (λ es. slice_set es n (fill (entity_at es n))) link.entities ∙ set_twice k.entities n define fill in
    let final = with_contents name l done last in
    let result : AtFile which functions final = record {
      counted = statics;
      inside = record {
        block = contents_block name l done there p.0.is_object last again.block;
        ready = record {
          scopes = again.ready.scopes;
          room = record {
            functions = again.ready.room.functions;
            texts = again.ready.room.texts;
            room = again.ready.room.room;
            most = again.ready.room.most;
            small = (tt, again.ready.room.small);
          };
          linkage = linkage_at which statics final final k.file (slice_set k.entities n (fill (define e))) k.declared
              ((name.bytes, known.linked n (composed l.type done.type)) ∷ k.file_scope) link.files entities link.declared
              (ap (λ scope. (name.bytes, known.linked n (composed l.type done.type)) ∷ scope) link.scopes) linked;
        };
        locals = tt;
      };
    } in
    subst (AtFile which functions) (sym fifth.second) result

pub object_so : (which : File) (functions : ℕ) (name : Named) (word : Storage) (l : Linked) (type : Qualified) (x : Option Initial)
    → IfThere InitialHasNumbers x
    → IsGivenIf type.type x → IsObjectType type.type → (u : Unit {0}) (k m : Known) → IsObjectDefined name word l type x u k m → IsWell type l k
    → LinkedIs l → AtFile which functions k → AtFile which functions m
object_so which functions name word l type None n g o u k m h well there at = elim h [
  | inl p ↦ subst (AtFile which functions) (sym p.1.1) at
  | inr p ↦ tentatively_so which functions type l u k m p.1 well there at
]
object_so which functions name word l type (Some x) n g o u k m h well there at = defined_with which functions name l type x n g o u k m h well there at
