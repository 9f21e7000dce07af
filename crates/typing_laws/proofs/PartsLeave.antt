-- The parts of expressions leave what is known of objects and functions with linkage.
use Rattle.std.proofs.Common.{ℕ, suc, true, false, List, [], ◌∷◌, length, refl, Option, Some, None}
use Rattle.srmt_base.specs.declared.op.Op.{Op}
use Rattle.c_types.specs.Types.{CType, Qualified, parameters_of}
use Rattle.c_typed.specs.Typed as t
use Rattle.c_typed.specs.Typed.{Place, place, PlaceNode, Value, value, Values, type_of}
use Rattle.typing_rules.specs.Source.{Bytes}
use Rattle.typing_rules.specs.Known as known
use Rattle.typing_rules.specs.Known.{Known, Meaning, Local, meaning_of, local_at, entity_at, is_main}
use Rattle.typing_rules.specs.Terms.{Term, object, result, designator, Designated, entity, predeclared, through, Written, Target, Change}
use Rattle.typing_rules.specs.Holding.{Typing}
use Rattle.typing_rules.specs.TypingParts.{IsDesignated, IsValue, IsWritten, IsMeant, IsNamed, AreCounted, IsText, IsIndexed, IsIndirect, IsMarked, IsAddress, IsOpposite, IsPromoted, IsNegative, IsComplement, IsComputed, AreTested, IsConjunction, IsDisjunction, IsChosen, IsTarget, IsAssigned, IsChanged, IsCast, IsUnvalued, IsSized, IsCalled, ArePassed, IsCounted, IsCallThrough, IsCall}
use Rattle.typing_laws.proofs.Leaving.{Leaves, leaves_is, leaves_never, leaves_given, leaves_holds, leaves_such, leaves_asks, leaves_makes, leaves_bind, leaves_type}

pub leaves_designated : (line : ℕ) (d : Designated) (type : CType) → Leaves (IsDesignated line d type)
leaves_designated line (entity n true) type = leaves_never
leaves_designated line (entity n false) type = leaves_is
leaves_designated line (predeclared p) type = leaves_never
leaves_designated line (through v) type = leaves_is

pub leaves_valued : (term : Term) → Leaves (IsValue term)
leaves_valued (object p) = leaves_is
leaves_valued (result v) = leaves_is
leaves_valued (designator line d type) = leaves_designated line d type

pub leaves_written : {S : Typing Term} (first : ℕ) → Leaves S → Leaves (IsWritten first S)
leaves_written first h = leaves_bind h (λ term. leaves_bind (leaves_valued term) (λ v. leaves_is))

pub leaves_meant : (line : ℕ) (m : Option Meaning) → Leaves (IsMeant line m)
leaves_meant line None = leaves_never
leaves_meant line (Some (known.local n)) = leaves_asks
leaves_meant line (Some (known.linked n type)) = leaves_bind (leaves_makes (λ k. refl)) (λ u. leaves_asks)
leaves_meant line (Some (known.predeclared p)) = leaves_is
leaves_meant line (Some (known.constant n)) = leaves_is

pub leaves_named : (line : ℕ) (bytes : Bytes) → Leaves (IsNamed line bytes)
leaves_named line bytes = leaves_bind leaves_asks (leaves_meant line)

pub leaves_counted : (cells : ℕ) → Leaves (AreCounted cells)
leaves_counted cells = leaves_bind leaves_holds (λ u. leaves_makes (λ k. refl))

pub leaves_text : (line : ℕ) (bytes : Bytes) → Leaves (IsText line bytes)
leaves_text line bytes =
    leaves_bind leaves_given (λ u. leaves_bind (leaves_counted (suc (length bytes))) (λ u'. leaves_bind leaves_asks (λ number.
    leaves_bind (leaves_makes (λ k. refl)) (λ u''. leaves_is))))

pub leaves_indexed : (line at : ℕ) (a b : Written) → Leaves (IsIndexed line at a b)
leaves_indexed line at a b = leaves_bind leaves_such (λ form. leaves_is)

pub leaves_indirect : (line : ℕ) (a : Written) → Leaves (IsIndirect line a)
leaves_indirect line a = leaves_bind leaves_such (λ to. leaves_is)

pub leaves_marked : (node : PlaceNode) → Leaves (IsMarked node)
leaves_marked (t.local n) = leaves_makes (λ k. refl)
leaves_marked (t.static n) = leaves_is
leaves_marked (t.text n) = leaves_is
leaves_marked (t.pointed v) = leaves_is
leaves_marked (t.element at pointer_first a b) = leaves_is

pub leaves_address : (line : ℕ) (term : Term) → Leaves (IsAddress line term)
leaves_address line (object (place first type node)) = leaves_bind (leaves_marked node) (λ u. leaves_is)
leaves_address line (result v) = leaves_never
leaves_address line (designator first d type) = leaves_bind (leaves_designated first d type) (λ v. leaves_is)

pub leaves_opposite : (line : ℕ) (a : Written) → Leaves (IsOpposite line a)
leaves_opposite line a = leaves_bind leaves_such (λ ty. leaves_is)

pub leaves_promoted : (line : ℕ) (a : Written) → Leaves (IsPromoted line a)
leaves_promoted line a = leaves_bind leaves_such (λ ty. leaves_is)

pub leaves_negative : (line : ℕ) (a : Written) → Leaves (IsNegative line a)
leaves_negative line a = leaves_bind leaves_such (λ ty. leaves_is)

pub leaves_complemented : (line : ℕ) (a : Written) → Leaves (IsComplement line a)
leaves_complemented line a = leaves_bind leaves_such (λ ty. leaves_is)

pub leaves_computed : (line : ℕ) (op : Op) (at : ℕ) (a b : Written) → Leaves (IsComputed line op at a b)
leaves_computed line op at a b = leaves_bind leaves_such (λ form. leaves_is)

pub leaves_tested : (a b : Written) → Leaves (AreTested a b)
leaves_tested a b = leaves_bind leaves_such (λ u. leaves_bind leaves_such (λ u'. leaves_is))

pub leaves_conjoined : (line at : ℕ) (a b : Written) → Leaves (IsConjunction line a b)
leaves_conjoined line at a b = leaves_bind (leaves_tested a b) (λ u. leaves_is)

pub leaves_disjoined : (line at : ℕ) (a b : Written) → Leaves (IsDisjunction line a b)
leaves_disjoined line at a b = leaves_bind (leaves_tested a b) (λ u. leaves_is)

pub leaves_chosen : (line at : ℕ) (test a b : Written) → Leaves (IsChosen line test a b)
leaves_chosen line at test a b = leaves_bind leaves_such (λ form. leaves_is)

pub leaves_target : (term : Term) → Leaves (IsTarget term)
leaves_target (object p) = leaves_is
leaves_target (result v) = leaves_is
leaves_target (designator line d type) = leaves_bind (leaves_designated line d type) (λ v. leaves_is)

pub leaves_assigned : (line at : ℕ) (target : Target) (a : Written) → Leaves (IsAssigned line target a)
leaves_assigned line at target a = leaves_bind leaves_such (λ form. leaves_bind leaves_such (λ p. leaves_is))

pub leaves_changed : (line : ℕ) (c : Change) (target : Target) (a : Written) → Leaves (IsChanged line c target a)
leaves_changed line c target a = leaves_bind leaves_such (λ form. leaves_bind leaves_such (λ p. leaves_is))

pub leaves_cast : (line : ℕ) (type : Qualified) (a : Written) → Leaves (IsCast line type a)
leaves_cast line type a = leaves_bind leaves_such (λ to. leaves_is)

pub leaves_unvalued : (term : Term) → Leaves (IsUnvalued term)
leaves_unvalued (object p) = leaves_is
leaves_unvalued (result v) = leaves_is
leaves_unvalued (designator line (entity n main) type) = leaves_is
leaves_unvalued (designator line (predeclared p) type) = leaves_never
leaves_unvalued (designator line (through v) type) = leaves_is

pub leaves_sized : (line : ℕ) (of : CType) → Leaves (IsSized line of)
leaves_sized line of = leaves_bind leaves_such (λ type. leaves_is)

pub leaves_called : (term : Term) → Leaves (IsCalled term)
leaves_called (object p) = leaves_is
leaves_called (result v) = leaves_is
leaves_called (designator line (entity n true) type) = leaves_never
leaves_called (designator line (entity n false) type) = leaves_is
leaves_called (designator line (predeclared p) type) = leaves_is
leaves_called (designator line (through v) type) = leaves_is

pub leaves_passed : (ps : List CType) (xs : List Written) → Leaves (ArePassed ps xs)
leaves_passed [] [] = leaves_is
leaves_passed [] (a ∷ xs) = leaves_never
leaves_passed (p ∷ ps) [] = leaves_never
leaves_passed (p ∷ ps) (a ∷ xs) = leaves_bind leaves_such (λ form. leaves_bind (leaves_passed ps xs) (λ rest. leaves_is))

pub leaves_arguments : (type : CType) (xs : List Written) → Leaves (ArePassed (parameters_of type) xs)
leaves_arguments type xs = leaves_passed (parameters_of type) xs

pub leaves_counted_type : (type : CType) → Leaves (IsCounted type)
leaves_counted_type type = leaves_bind (leaves_type type) (λ u. leaves_holds)

pub leaves_call_through : (line at : ℕ) (v : Value) (xs : List Written) → Leaves (IsCallThrough line at v xs)
leaves_call_through line at v xs =
    leaves_bind leaves_such (λ type. leaves_bind (leaves_arguments type xs) (λ vs. leaves_bind (leaves_counted_type type) (λ u. leaves_is)))

pub leaves_call : (line at : ℕ) (term : Term) (xs : List Written) → Leaves (IsCall line at term xs)
leaves_call line at (object p) xs = leaves_call_through line at _ xs
leaves_call line at (result v) xs = leaves_call_through line at v xs
leaves_call line at (designator first (entity n main) type) xs = leaves_bind (leaves_arguments type xs) (λ vs. leaves_is)
leaves_call line at (designator first (predeclared p) type) xs = leaves_bind (leaves_arguments type xs) (λ vs. leaves_is)
leaves_call line at (designator first (through v) type) xs = leaves_call_through line at v xs
