-- The contents that an initializer gives an object fit its cells.
use Rattle.std.proofs.Common.{◌≡◌, ℕ, zero, suc, ◌+◌, ◌*◌, ◌<◌, ◌≤◌, Bool as Test, true, false, List, [], ◌∷◌, ◌++◌, length, refl, ap, sym, subst, ◌∙◌, Option, Some, None, inl, inr, arith}
use Rattle.std.specs.Prelude.{map, IsTrue, ◌&&◌, nat_le, if◌then◌else◌}
use Rattle.srmt_base.specs.declared.ty.Ty.{Ty}
use Rattle.srmt_base.specs.declared.ty.Ty.TheVariants as ty
use Rattle.c_typed.specs.Statements.{Cell}
use Rattle.c_types.specs.Types.{CType, void, integer, pointer, array, returning, taking, Qualified, is_complete, composite, cells_of, cells_of_integer, same_type, same_length, same_qualifiers, are_for_one, function_of}
use Rattle.c_tree.specs.declared.specifier.SpecifierWord.{SpecifierWord}
use Rattle.typing_rules.specs.UnitRules.{with_contents}
use Rattle.typing_rules.specs.SpecifierRules.{Specified, Naming, named_by, name_alike, namings}
use Rattle.typing_rules.specs.DeclaratorRules.{Derivation, to_pointer, to_array, to_function, parameter_type}
use Rattle.typing_rules.specs.Declarators.{Says, DerivesType, IsDerived}
use Rattle.c_types.specs.declared.qualifiers.Qualifiers.{Qualifiers}
use Rattle.c_types.specs.declared.form.Conversion.{Conversion}
use Rattle.c_types.specs.Rules.{Operand}
use Rattle.typing_rules.specs.Constraints.{Converts}
use Rattle.std.proofs.Common.{length-append, zero-le}
use Rattle.std.proofs.lemmas.Bool.{leb-true, eqb-true}
use Rattle.std.proofs.lemmas.Bool.Decides.{leb_tells}
use Rattle.typing_rules.proofs.Exactness.{some_same}
use Rattle.typing_rules.specs.Source.{Bytes, Named, Expr}
use Rattle.typing_rules.specs.SourceUnits.{Initial, single, braced, Initials, no_initials, first_initial}
use Rattle.typing_rules.specs.Known.{Known, Linked, entity_at}
use Rattle.typing_rules.specs.DeclarationRules.{Defining, fully, TextAt, text_for, text_cells, text_fits, byte_cells, completed, starts_of, initials_count, Initialized}
use Rattle.typing_rules.specs.TypingDeclarations.{IsScalar, IsTextGiven, AreSingleCells, AreCellsGiven, AreItemsGiven, IsInitialized}
use Rattle.typing_rules.specs.TypingUnits.{IsDefined, AreCountedIf, IsDefinedWith}
use Rattle.typing_rules.specs.Laws.{Each, AreWithin}
use Rattle.typing_rules.proofs.Keeping.{Keeps, IsFit, AreFit, keeps_is, keeps_holds, keeps_asks, keeps_bind, keeps_either, keeps_definition, each_append, each_set, within_more}
use Rattle.typing_rules.proofs.PartsKeep.{keeps_counted}
use Rattle.typing_rules.proofs.DeclarationsKeep.{keeps_initialized}

-- ---- cells that are given

-- cells from one on to before another
abbrev Between : ℕ → ℕ → List Cell → Type 0
Between low high given = Each (λ c. (low ≤ c.index) × (c.index < high)) given

between_more : (low high low' high' : ℕ) (given : List Cell) → low' ≤ low → high ≤ high' → Between low high given → Between low' high' given
between_more low high low' high' [] l h b = tt
between_more low high low' high' (c ∷ rest) l h b = ((omega (arith, b.0), omega (arith, b.0)), between_more low high low' high' rest l h b.1)

bytes_between : (line : ℕ) (t : Ty) (n : ℕ) (bytes : Bytes) → Between n (n + length bytes) (byte_cells line t n bytes)
bytes_between line t n [] = tt
bytes_between line t n (byte ∷ rest) = (
  (omega arith, omega arith),
  between_more (suc n) (suc n + length rest) n (n + suc (length rest)) _ (omega arith) (omega arith)
      (bytes_between line t (suc n) rest),
)

cells_of_one : (t : Ty) → cells_of_integer t ≡ 1
cells_of_one ty.Bool = refl
cells_of_one ty.Char = refl
cells_of_one ty.SChar = refl
cells_of_one ty.UChar = refl
cells_of_one ty.Short = refl
cells_of_one ty.UShort = refl
cells_of_one ty.Int = refl
cells_of_one ty.UInt = refl

-- ---- types whose elements are complete

abbrev pub IsWhole : CType → Type 0
IsWhole void = Unit {0}
IsWhole (integer t) = Unit {0}
IsWhole (pointer q t) = Unit {0}
IsWhole (array q t n) = IsTrue (is_complete t) × IsWhole t
IsWhole (returning q t) = Unit {0}
IsWhole (taking p t) = Unit {0}

derives_whole : (is_adjusted : Test) (d : Derivation) (t u : Qualified) → IsWhole t.type → DerivesType is_adjusted d t u → IsWhole u.type
derives_whole is_adjusted (to_pointer q) t u w h = subst (λ v. IsWhole v.type) (sym h.1) tt
derives_whole is_adjusted (to_array n) t u w h = subst (λ v. IsWhole v.type) (sym h.2) (h.0, w)
derives_whole is_adjusted (to_function ps) t u w h = subst (λ v. IsWhole v.type) (sym h.3) (function_whole (map parameter_type ps) t)
  where
    function_whole : (ps : List CType) (t : Qualified) → IsWhole (function_of ps t)
    function_whole [] t = tt
    function_whole (p ∷ ps) t = tt

pub derived_whole : (is_adjusted : Test) (base : Qualified) (ds : List Derivation) (u : Qualified) → IsWhole base.type → IsDerived is_adjusted base
    ds u → IsWhole u.type
derived_whole is_adjusted base [] u w h = subst (λ v. IsWhole v.type) (sym h) w
derived_whole is_adjusted base (d ∷ ds) u w h = derives_whole is_adjusted d h.0 u (derived_whole false base ds h.0 w h.1) h.2

named_whole : (words : List SpecifierWord) (ns : List Naming) (t : CType) → Each (λ n. IsWhole n.type) ns → named_by words ns ≡ Some t → IsWhole t
named_whole words [] t each e = absurd cc
named_whole words (n ∷ rest) t each e = go (name_alike n.words words) (named_whole words rest t each.1) e
  where
    go : (test : Test) → (named_by words rest ≡ Some t → IsWhole t) → (if test then Some n.type else named_by words rest) ≡ Some t → IsWhole t
    go true others p = subst IsWhole (some_same n.type t p) each.0
    go false others p = others p

pub says_whole : (may_store : Test) (words : List SpecifierWord) (s : Specified) → Says may_store words s → IsWhole s.type.type
says_whole may_store words s h = subst (λ v. IsWhole v.type.type) (sym h.1.2)
    (named_whole words namings h.1.0 (tt, (tt, (tt, (tt, (tt, (tt, (tt, (tt, (tt, (tt, (tt, (tt, (tt, (tt, (tt, (tt, tt)))))))))))))))) h.1.1)

completed_alike : (t : CType) (x : Initial) → IsTrue (is_complete t) → completed t x ≡ t
completed_alike void x c = refl
completed_alike (integer t) x c = refl
completed_alike (pointer q t) x c = refl
completed_alike (array q t None) x c = absurd cc
completed_alike (array q t (Some n)) x c = refl
completed_alike (returning q t) x c = refl
completed_alike (taking p t) x c = refl

-- ---- the cells that an initializer gives

scalar_between : (is_static : Test) (type : CType) (index : ℕ) (e : Expr) (given : List Cell) (k l : Known)
    → cells_of type ≡ 1 → IsScalar is_static type index e given k l → Between index (index + cells_of type) given
scalar_between is_static type index e given k l one h = rw h.second.second.second.0 ((omega arith, omega (arith, one)), tt)

void_becomes_nothing : (from : Operand) (f : Conversion) → Converts void from f → ⊥
void_becomes_nothing from f h = grind arith

past : (n i : ℕ) → nat_le n i ≡ false → i + 1 ≤ n
past n i e = grind (arith, leb_tells)

text_length_fits : (n : ℕ) (bytes : Bytes) → IsTrue (text_fits (Some n) bytes) → length (text_cells (Some n) bytes) ≤ n
text_length_fits n bytes h = go (nat_le n (length bytes)) refl
  where
    go : (test : Test) → nat_le n (length bytes) ≡ test → length (if test then bytes else bytes ++ 0 ∷ []) ≤ n
    go true e = leb-true (length bytes) n h
    go false e = rw (length-append bytes (0 ∷ [])) (past n (length bytes) e)

text_between : (t : Ty) (n : Option ℕ) (index : ℕ) (e : Expr) (x : Option TextAt) (q : Qualifiers) (given : List Cell) (k l : Known)
    → text_for (integer t) e ≡ x → IsTextGiven (integer t) n index x given k l → Between index
    (index + cells_of (completed (array q (integer t) n) (single e))) given
text_between t n index e None q given k l p h = absurd h
text_between t None index e (Some x) q given k l p h =
    rw (p, h.second.0, cells_of_one t) (between_more index (index + length (x.bytes ++ 0 ∷ [])) index (index + suc (length x.bytes) * 1) _ (omega arith)
    (omega (arith, length-append x.bytes (0 ∷ []))) (bytes_between x.line t index (x.bytes ++ 0 ∷ [])))
text_between t (Some n) index e (Some x) q given k l p h =
    rw (h.second.0, cells_of_one t) (between_more index (index + length (text_cells (Some n) x.bytes)) index (index + n * 1) _ (omega arith)
    (omega (arith, text_length_fits n x.bytes h.first.0)) (bytes_between x.line t index (text_cells (Some n) x.bytes)))

single_between : (is_static : Test) (type : CType) (index : ℕ) (e : Expr) (given : List Cell) (k l : Known)
    → AreSingleCells is_static type index e given k l → Between index (index + cells_of (completed type (single e))) given
single_between is_static (array q (integer t) n) index e given k l h = text_between t n index e (text_for (integer t) e) q given k l refl h
single_between is_static (array q void n) index e given k l h = absurd h
single_between is_static (array q (pointer r t) n) index e given k l h = absurd h
single_between is_static (array q (array r t m) n) index e given k l h = absurd h
single_between is_static (array q (returning r t) n) index e given k l h = absurd h
single_between is_static (array q (taking p t) n) index e given k l h = absurd h
single_between is_static (returning q t) index e given k l h = absurd h
single_between is_static (taking p t) index e given k l h = absurd h
single_between is_static void index e given k l h = absurd (void_becomes_nothing _ h.second.of h.second.first.0)
single_between is_static (integer t) index e given k l h = scalar_between is_static (integer t) index e given k l (cells_of_one t) h
single_between is_static (pointer q t) index e given k l h = scalar_between is_static (pointer q t) index e given k l refl h

-- there is room for the items of a list up to a cell
Room : Option ℕ → ℕ → ℕ → ℕ → Initials → ℕ → Type 0
Room None i cells index xs high = index + initials_count xs * cells ≤ high
Room (Some n) i cells index xs high = (left : ℕ) × (i + left ≡ n) × (index + left * cells ≤ high)

-- one item fewer is left
less_room : (n i cells index high left : ℕ) → i + left ≡ n → index + left * cells ≤ high → i + 1 ≤ n
    → (fewer : ℕ) × (suc i + fewer ≡ n) × (index + cells + fewer * cells ≤ high) × (index + cells ≤ high)
less_room n i cells index high zero e r h = absurd (omega arith)
less_room n i cells index high (suc j) e r h = (j, omega arith, omega arith, omega arith)

-- the cells of an item and of those behind it
both_between : (is_static : Test) (t : CType) (index cells high : ℕ) (x : Initial) (first others given : List Cell)
    → completed t x ≡ t → index + cells_of t ≤ high → given ≡ first ++ others
    → Between index (index + cells_of (completed t x)) first → Between (index + cells_of t) high others → Between index high given
both_between is_static t index cells high x first others given c r e f o =
    rw e (each_append _ first others (between_more index (index + cells_of t) index high first (omega arith) r (rw c at f))
    (between_more (index + cells_of t) high index high others (omega arith) (omega arith) o))

mutual
  unfolding AreCellsGiven Room

  given_between : (is_static : Test) (type : CType) (index : ℕ) (x : Initial) (given : List Cell) (k l : Known)
      → IsWhole type → AreCellsGiven is_static type index x given k l → Between index (index + cells_of (completed type x)) given
  given_between is_static type index (single e) given k l w h = single_between is_static type index e given k l h
  given_between is_static (array q t None) index (braced line items) given k l w h =
      items_between is_static t None 0 index items (index + initials_count items * cells_of t) given k l w (omega arith) h
  given_between is_static (array q t (Some n)) index (braced line items) given k l w h =
      items_between is_static t (Some n) 0 index items (index + n * cells_of t) given k l w (n, omega arith, omega arith) h
  given_between is_static (returning q t) index (braced line items) given k l w h = absurd h
  given_between is_static (taking p t) index (braced line items) given k l w h = absurd h
  given_between is_static void index (braced line items) given k l w h = absurd h
  given_between is_static (integer t) index (braced line items) given k l w h = absurd h
  given_between is_static (pointer q t) index (braced line items) given k l w h = absurd h

  items_between : (is_static : Test) (t : CType) (n : Option ℕ) (i index : ℕ) (xs : Initials) (high : ℕ) (given : List Cell) (k l : Known)
      → IsTrue (is_complete t) × IsWhole t → Room n i (cells_of t) index xs high → AreItemsGiven is_static t n i index xs given k l → Between index high given
  items_between is_static t n i index no_initials high given k l w r h = rw h.0 tt
  items_between is_static t None i index (first_initial x rest) high given k l w r h =
      elim h [
        | inl p ↦ absurd p.1
        | inr p ↦
            both_between is_static t index (cells_of t) high x p.1.of p.1.second.of given (completed_alike t x w.0) (omega arith) p.1.second.second.0
            (given_between is_static t index x p.1.of k p.1.between w.1 p.1.first)
            (items_between is_static t None (suc i) (index + cells_of t) rest high p.1.second.of p.1.between p.1.second.between w (omega arith) p.1.second.first)
      ]
  items_between is_static t (Some n) i index (first_initial x rest) high given k l w r h =
      elim h [
        | inl p ↦ absurd p.1
        | inr p ↦
            let s = less_room n i (cells_of t) index high r.0 r.1 r.2 (past n i p.0) in
            both_between is_static t index (cells_of t) high x p.1.of p.1.second.of given (completed_alike t x w.0) s.3 p.1.second.second.0
            (given_between is_static t index x p.1.of k p.1.between w.1 p.1.first)
            (items_between is_static t (Some n) (suc i) (index + cells_of t) rest high p.1.second.of p.1.between p.1.second.between w (s.0, s.1, s.2)
            p.1.second.first)
      ]

-- ---- contents

starts_within : (high : ℕ) (given : List Cell) → Between 0 high given → AreWithin high (starts_of given)
starts_within high [] b = tt
starts_within high (c ∷ rest) b = (b.0.1, starts_within high rest b.1)

pub keeps_defines : (how : Defining) (line n : ℕ) → Keeps (IsDefined how n)
keeps_defines how line n = keeps_bind keeps_asks (λ before. keeps_bind keeps_holds (λ u. keeps_bind (keeps_definition how n) (λ u'. keeps_is)))

pub keeps_counted_if : (test : Test) (line : ℕ) (type : Qualified) → Keeps (AreCountedIf test type)
keeps_counted_if test line type = keeps_either (keeps_counted line (cells_of type.type)) keeps_is

all_three : (a b c : Test) → IsTrue (a && b && c) → IsTrue b × IsTrue c
all_three a b c h = grind arith

same_lengths : (n m : Option ℕ) (a b : CType) (q r : Qualifiers) → IsTrue (same_length n m) → cells_of a ≡ cells_of b → cells_of (array q a n) ≡
    cells_of (array r b m)
same_lengths None None a b q r h e = refl
same_lengths None (Some m) a b q r h e = absurd cc
same_lengths (Some n) None a b q r h e = absurd cc
same_lengths (Some n) (Some m) a b q r h e = rw (eqb-true n m h, e)

-- one type has as many cells
same_cells : (a b : CType) → IsTrue (same_type a b) → cells_of a ≡ cells_of b
unfolding same_type
same_cells void void h = refl
same_cells (integer a) (integer b) h = cells_of_one a ∙ sym (cells_of_one b)
same_cells (pointer q a) (pointer r b) h = refl
same_cells (array q a n) (array r b m) h =
    let p = all_three (same_qualifiers q r) (same_type a b) (same_length n m) h in same_lengths n m a b q r p.1 (same_cells a b p.0)
same_cells (returning q a) (returning r b) h = refl
same_cells (taking p a) (taking r b) h = refl
same_cells _ _ h = absurd cc

same_more : (a b : CType) → IsTrue (same_type a b) → cells_of a ≤ cells_of (composite b a)
same_more a void h = omega (arith, same_cells a void h)
same_more a (integer t) h = omega (arith, same_cells a (integer t) h)
same_more a (pointer q t) h = omega (arith, same_cells a (pointer q t) h)
same_more a (array q t None) h = omega arith
same_more a (array q t (Some n)) h = omega (arith, same_cells a (array q t (Some n)) h)
same_more a (returning q t) h = omega (arith, same_cells a (returning q t) h)
same_more a (taking p t) h = omega (arith, same_cells a (taking p t) h)

-- the types of two declarations of one object
agreed_cells : (a b : CType) → IsTrue (are_for_one a b) → cells_of a ≤ cells_of (composite b a)
agreed_cells (array q a None) (array r b m) h = zero-le
agreed_cells (array q a (Some n)) (array r b None) h = omega arith
agreed_cells a b h = same_more a b h

counted_same : (test : Test) (type : Qualified) (u : Unit {0}) (k l : Known) → AreCountedIf test type u k l → l.entities ≡ k.entities
counted_same test type u k l h =
    elim h [ inl p ↦ ap (λ m. m.entities) p.1.second ∙ ap (λ m. m.entities) p.1.first.1 | inr p ↦ ap (λ m. m.entities) p.1.1 ]

second_holds : (a c d : Test) → IsTrue (a && (c && d)) → IsTrue d
second_holds a c d h = grind arith

-- what an initializer gives an entity fits the type that it completes
contents_fit : (type e : Qualified) (x : Initial) (done : Initialized) (k l : Known)
    → IsWhole type.type → IsInitialized true type x done k l → IsTrue (are_for_one done.type.type e.type) → AreWithin
    (cells_of (composite e.type done.type.type)) (starts_of done.given)
contents_fit type e x done k l w h a =
    let e = h.second.second.0 in
    rw e (within_more (cells_of (completed type.type x)) _ (starts_of h.of) (agreed_cells _ _ (rw e at a))
    (starts_within (cells_of (completed type.type x)) h.of
    (between_more 0 (0 + cells_of (completed type.type x)) 0 _ h.of (omega arith) (omega arith) (given_between true type.type 0 x h.of k h.between w h.first))))

with_contents_fit : (name : Named) (l : Linked) (done : Initialized) (k m after : Known)
    → AreFit k.entities → m.entities ≡ k.entities
    → AreWithin (cells_of (composite (entity_at k.entities l.entity).type.type done.type.type)) (starts_of done.given)
    → after ≡ with_contents name l done m → AreFit after.entities
with_contents_fit name l done k m after fit same within e = rw (e, same) (each_set IsFit k.entities l.entity _ within fit)

pub keeps_defined_with : (name : Named) (l : Linked) (type : Qualified) (x : Initial) → IsWhole type.type → Keeps (IsDefinedWith name l type x)
keeps_defined_with name l type x w = record {
  kept = λ u k m h fit.
      let counted = h.second in
      let made = counted.second in
      let agrees = made.second in
      let more = agrees.second in
      let before = (keeps_counted_if _ name.line l.type).kept _ h.between counted.between counted.first
      ((keeps_defines fully name.line l.entity).kept _ k h.between h.first fit) in
      let after = (keeps_initialized true name.line type x).kept made.of counted.between made.between made.first before in
      let still = counted_same _ made.of.type more.of agrees.between more.between more.first ∙ ap (λ s. s.entities) agrees.first.1 in
      with_contents_fit name l made.of made.between more.between m after still
      (contents_fit type (entity_at made.between.entities l.entity).type x made.of counted.between made.between w made.first
      (second_holds _ _ _ agrees.first.0)) more.second;
}
