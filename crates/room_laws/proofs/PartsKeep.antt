-- The parts of expressions keep an invariant.
use Rattle.std.proofs.Common.{ℕ, suc, ◌+◌, ◌≤◌, Bool as Test, true, false, List, [], ◌∷◌, ◌++◌, length, ap, sym, subst, ◌∙◌, Option, Some, None}
use Rattle.std.specs.Prelude.{if◌then◌else◌}
use Rattle.srmt_base.specs.declared.op.Op.{Op}
use Rattle.c_types.specs.Types.{CType, Qualified, parameters_of}
use Rattle.c_typed.specs.Typed as t
use Rattle.c_typed.specs.Typed.{Place, place, PlaceNode, Value, value, Values, type_of}
use Rattle.typing_rules.specs.Source.{Bytes}
use Rattle.typing_rules.specs.Known as known
use Rattle.typing_rules.specs.Known.{Known, Meaning, Local, meaning_of, local_at, entity_at, is_main, is_among}
use Rattle.typing_rules.specs.Limits.{most_static_cells}
use Rattle.typing_rules.specs.Terms.{Term, object, result, designator, Designated, entity, predeclared, through, Written, Target, Change}
use Rattle.typing_rules.specs.Holding.{Typing, Makes}
use Rattle.typing_rules.specs.TypingParts.{IsDesignated, IsValue, IsWritten, IsMeant, IsNamed, IsText, IsIndexed, IsIndirect, IsMarked, IsAddress, IsOpposite, IsPromoted, IsNegative, IsComplement, IsComputed, AreTested, IsConjunction, IsDisjunction, IsChosen, IsTarget, IsAssigned, IsChanged, IsCast, IsUnvalued, IsSized, IsCalled, ArePassed, IsCounted, IsCallThrough, IsCall}
use Rattle.room_laws.proofs.Keeping.{Keeps, Stays, keeps_is, keeps_never, keeps_holds, keeps_such, keeps_asks, keeps_makes, keeps_bind}

module _ {I : Known → Type 0} (stays : Stays I) where
  pub keeps_designated : (line : ℕ) (d : Designated) (type : CType) → Keeps I (IsDesignated line d type)
  keeps_designated line (entity n true) type = keeps_never
  keeps_designated line (entity n false) type = keeps_is
  keeps_designated line (predeclared p) type = keeps_never
  keeps_designated line (through v) type = keeps_is

  pub keeps_valued : (term : Term) → Keeps I (IsValue term)
  keeps_valued (object p) = keeps_is
  keeps_valued (result v) = keeps_is
  keeps_valued (designator line d type) = keeps_designated line d type

  pub keeps_written : {S : Typing Term} (first : ℕ) → Keeps I S → Keeps I (IsWritten first S)
  keeps_written first h = keeps_bind h (λ term. keeps_bind (keeps_valued term) (λ v. keeps_is))

  pub keeps_meant : (line : ℕ) (m : Option Meaning) → Keeps I (IsMeant line m)
  keeps_meant line None = keeps_never
  keeps_meant line (Some (known.local n)) = keeps_asks
  keeps_meant line (Some (known.linked n type)) = keeps_bind (keeps_makes (λ k i. stays.uses k _ i)) (λ u. keeps_asks)
  keeps_meant line (Some (known.predeclared p)) = keeps_is
  keeps_meant line (Some (known.constant n)) = keeps_is

  pub keeps_named : (line : ℕ) (bytes : Bytes) → Keeps I (IsNamed line bytes)
  keeps_named line bytes = keeps_bind keeps_asks (keeps_meant line)

  -- a text is counted, and stands behind those that are there
  pub keeps_text : (line : ℕ) (bytes : Bytes) → Keeps I (IsText line bytes)
  keeps_text line bytes = record {
    kept = λ x k l h i.
        let counting = h.second.first in
        let most = subst (λ m. m.static_cells + suc (length bytes) ≤ most_static_cells) h.first.1 counting.first.0 in
        let counted = counting.second ∙ ap (known.with_cells (suc (length bytes))) (counting.first.1 ∙ h.first.1) in
        let asked = h.second.second in
        let made = asked.second in
        subst I (sym (made.second.1 ∙ made.first ∙ ap (known.with_text line bytes) (asked.first.1 ∙ counted))) (stays.text k line bytes most i);
  }

  pub keeps_indexed : (line at : ℕ) (a b : Written) → Keeps I (IsIndexed line at a b)
  keeps_indexed line at a b = keeps_bind keeps_such (λ form. keeps_is)

  pub keeps_indirect : (line : ℕ) (a : Written) → Keeps I (IsIndirect line a)
  keeps_indirect line a = keeps_bind keeps_such (λ to. keeps_is)

  pub keeps_marked : (node : PlaceNode) → Keeps I (IsMarked node)
  keeps_marked (t.local n) = keeps_makes (λ k i. stays.locals k _ i)
  keeps_marked (t.static n) = keeps_is
  keeps_marked (t.text n) = keeps_is
  keeps_marked (t.pointed v) = keeps_is
  keeps_marked (t.element at pointer_first a b) = keeps_is

  pub keeps_address : (line : ℕ) (term : Term) → Keeps I (IsAddress line term)
  keeps_address line (object (place first type node)) = keeps_bind (keeps_marked node) (λ u. keeps_is)
  keeps_address line (result v) = keeps_never
  keeps_address line (designator first d type) = keeps_bind (keeps_designated first d type) (λ v. keeps_is)

  pub keeps_opposite : (line : ℕ) (a : Written) → Keeps I (IsOpposite line a)
  keeps_opposite line a = keeps_bind keeps_such (λ ty. keeps_is)

  pub keeps_promoted : (line : ℕ) (a : Written) → Keeps I (IsPromoted line a)
  keeps_promoted line a = keeps_bind keeps_such (λ ty. keeps_is)

  pub keeps_negative : (line : ℕ) (a : Written) → Keeps I (IsNegative line a)
  keeps_negative line a = keeps_bind keeps_such (λ ty. keeps_is)

  pub keeps_complemented : (line : ℕ) (a : Written) → Keeps I (IsComplement line a)
  keeps_complemented line a = keeps_bind keeps_such (λ ty. keeps_is)

  pub keeps_computed : (line : ℕ) (op : Op) (at : ℕ) (a b : Written) → Keeps I (IsComputed line op at a b)
  keeps_computed line op at a b = keeps_bind keeps_such (λ form. keeps_is)

  pub keeps_tested : (a b : Written) → Keeps I (AreTested a b)
  keeps_tested a b = keeps_bind keeps_such (λ u. keeps_bind keeps_such (λ u'. keeps_is))

  pub keeps_conjoined : (line at : ℕ) (a b : Written) → Keeps I (IsConjunction line a b)
  keeps_conjoined line at a b = keeps_bind (keeps_tested a b) (λ u. keeps_is)

  pub keeps_disjoined : (line at : ℕ) (a b : Written) → Keeps I (IsDisjunction line a b)
  keeps_disjoined line at a b = keeps_bind (keeps_tested a b) (λ u. keeps_is)

  pub keeps_chosen : (line at : ℕ) (test a b : Written) → Keeps I (IsChosen line test a b)
  keeps_chosen line at test a b = keeps_bind keeps_such (λ form. keeps_is)

  pub keeps_target : (term : Term) → Keeps I (IsTarget term)
  keeps_target (object p) = keeps_is
  keeps_target (result v) = keeps_is
  keeps_target (designator line d type) = keeps_bind (keeps_designated line d type) (λ v. keeps_is)

  pub keeps_assigned : (line at : ℕ) (target : Target) (a : Written) → Keeps I (IsAssigned line target a)
  keeps_assigned line at target a = keeps_bind keeps_such (λ form. keeps_bind keeps_such (λ p. keeps_is))

  pub keeps_changed : (line : ℕ) (c : Change) (target : Target) (a : Written) → Keeps I (IsChanged line c target a)
  keeps_changed line c target a = keeps_bind keeps_such (λ form. keeps_bind keeps_such (λ p. keeps_is))

  pub keeps_cast : (line : ℕ) (type : Qualified) (a : Written) → Keeps I (IsCast line type a)
  keeps_cast line type a = keeps_bind keeps_such (λ to. keeps_is)

  pub keeps_unvalued : (term : Term) → Keeps I (IsUnvalued term)
  keeps_unvalued (object p) = keeps_is
  keeps_unvalued (result v) = keeps_is
  keeps_unvalued (designator line (entity n main) type) = keeps_is
  keeps_unvalued (designator line (predeclared p) type) = keeps_never
  keeps_unvalued (designator line (through v) type) = keeps_is

  pub keeps_sized : (line : ℕ) (of : CType) → Keeps I (IsSized line of)
  keeps_sized line of = keeps_bind keeps_such (λ type. keeps_is)

  pub keeps_called : (term : Term) → Keeps I (IsCalled term)
  keeps_called (object p) = keeps_is
  keeps_called (result v) = keeps_is
  keeps_called (designator line (entity n true) type) = keeps_never
  keeps_called (designator line (entity n false) type) = keeps_is
  keeps_called (designator line (predeclared p) type) = keeps_is
  keeps_called (designator line (through v) type) = keeps_is

  pub keeps_passed : (ps : List CType) (xs : List Written) → Keeps I (ArePassed ps xs)
  keeps_passed [] [] = keeps_is
  keeps_passed [] (a ∷ xs) = keeps_never
  keeps_passed (p ∷ ps) [] = keeps_never
  keeps_passed (p ∷ ps) (a ∷ xs) = keeps_bind keeps_such (λ form. keeps_bind (keeps_passed ps xs) (λ rest. keeps_is))

  pub keeps_arguments : (type : CType) (xs : List Written) → Keeps I (ArePassed (parameters_of type) xs)
  keeps_arguments type xs = keeps_passed (parameters_of type) xs

  keeps_type : (t : CType) → Keeps I (Makes (known.with_type t))
  keeps_type t = keeps_makes (λ k i. by_test (is_among t k.types) k (record k { types = k.types ++ t ∷ [] }) i (stays.types k (k.types ++ t ∷ []) i))
    where
      by_test : (test : Test) (k m : Known) → I k → I m → I (if test then k else m)
      by_test true k m p q = p
      by_test false k m p q = q

  pub keeps_counted_type : (type : CType) → Keeps I (IsCounted type)
  keeps_counted_type type = keeps_bind (keeps_type type) (λ u. keeps_holds)

  pub keeps_call_through : (line at : ℕ) (v : Value) (xs : List Written) → Keeps I (IsCallThrough line at v xs)
  keeps_call_through line at v xs =
      keeps_bind keeps_such (λ type. keeps_bind (keeps_arguments type xs) (λ vs. keeps_bind (keeps_counted_type type) (λ u. keeps_is)))

  pub keeps_call : (line at : ℕ) (term : Term) (xs : List Written) → Keeps I (IsCall line at term xs)
  keeps_call line at (object p) xs = keeps_call_through line at _ xs
  keeps_call line at (result v) xs = keeps_call_through line at v xs
  keeps_call line at (designator first (entity n main) type) xs = keeps_bind (keeps_arguments type xs) (λ vs. keeps_is)
  keeps_call line at (designator first (predeclared p) type) xs = keeps_bind (keeps_arguments type xs) (λ vs. keeps_is)
  keeps_call line at (designator first (through v) type) xs = keeps_call_through line at v xs
