-- The parts of expressions: the ordered function and the relation are one.
use Rattle.std.proofs.Common.{◌≡◌, ℕ, suc, ◌≤◌, ◌+◌, true, false, List, [], ◌∷◌, length, refl, ap, Option, Some, None, ◌↔◌, arith}
use Rattle.std.specs.Prelude.{nat_le, IsTrue}
use Rattle.srmt_base.specs.declared.op.Op.{Op}
use Rattle.c_types.specs.Types.{CType, Qualified, parameters_of}
use Rattle.c_typed.specs.Typed as t
use Rattle.c_typed.specs.Typed.{Place, place, PlaceNode, Value, value, Values, type_of}
use Rattle.typing_rules.specs.declared.refusal.TypeRefusal.TheVariants.{Unknown, Mismatch, TooLarge}
use Rattle.typing_rules.specs.declared.refusal.Size.TheVariants.{Statics, Types}
use Rattle.typing_rules.specs.Source.{Bytes}
use Rattle.typing_rules.specs.Known as known
use Rattle.typing_rules.specs.Known.{Known, Meaning, Local, meaning_of, local_at, entity_at, is_main}
use Rattle.typing_rules.specs.Limits.{most_cells, most_static_cells, most_types}
use Rattle.typing_rules.specs.Terms.{Term, object, result, designator, Designated, entity, predeclared, through, Written, written_type, operand_of, Target, may_change, Change}
use Rattle.typing_rules.specs.Checking.{Checking}
use Rattle.typing_rules.specs.Holding.{Typing}
use Rattle.typing_rules.specs.Exact.{Exact}
use Rattle.typing_rules.specs.OrderedParts.{designated, valued, written, meant, named, counted, text_term, indexed, indirect, marked, address_of, opposite, promoted, negative, complemented, computed, tested_both, conjoined, disjoined, chosen, target_of, assigned, changed, cast_to, unvalued, sized, called, passed, arguments_for, counted_type, call_through, call_of}
use Rattle.typing_rules.specs.TypingParts.{IsDesignated, IsValue, IsWritten, IsMeant, IsNamed, AreCounted, IsText, IsIndexed, IsIndirect, IsMarked, IsAddress, IsOpposite, IsPromoted, IsNegative, IsComplement, IsComputed, AreTested, IsConjunction, IsDisjunction, IsChosen, IsTarget, IsAssigned, IsChanged, IsCast, IsUnvalued, IsSized, IsCalled, ArePassed, IsCounted, IsCallThrough, IsCall}
use Rattle.std.proofs.lemmas.Bool.{leb-true, le-leb, eq-eqb}
use Rattle.typing_rules.proofs.Exactness.{exact_pure, exact_refuse, exact_asks, exact_makes, exact_bind, exact_needs, exact_tests, exact_ruled, exact_given, exact_beside}
use Rattle.typing_rules.proofs.RulesAllow.{NullIsInteger, unary_allows, tested_allows, binary_allows, update_allows, conversion_allows, assignment_allows, choice_allows, indirection_allows, index_allows, callee_allows, cast_allows, sizeof_allows}

pub null_is_integer : (v : Value) → NullIsInteger (operand_of v)
null_is_integer v h = grind arith

pub exact_designated : (line : ℕ) (d : Designated) (type : CType) → Exact (designated line d type) (IsDesignated line d type)
exact_designated line (entity n true) type = exact_refuse (Mismatch line 20)
exact_designated line (entity n false) type = exact_pure _
exact_designated line (predeclared p) type = exact_refuse (Mismatch line 20)
exact_designated line (through v) type = exact_pure v

pub exact_valued : (term : Term) → Exact (valued term) (IsValue term)
exact_valued (object p) = exact_pure _
exact_valued (result v) = exact_pure v
exact_valued (designator line d type) = exact_designated line d type

pub exact_written : {m : Checking Term} {S : Typing Term} (first : ℕ) → Exact m S → Exact (written first m) (IsWritten first S)
exact_written first h = exact_bind h (λ term. exact_bind (exact_valued term) (λ v. exact_pure _))

pub exact_meant : (line : ℕ) (m : Option Meaning) → Exact (meant line m) (IsMeant line m)
exact_meant line None = exact_refuse (Unknown line)
exact_meant line (Some (known.local n)) = exact_asks _
exact_meant line (Some (known.linked n type)) = exact_bind (exact_makes _) (λ u. exact_asks _)
exact_meant line (Some (known.predeclared p)) = exact_pure _
exact_meant line (Some (known.constant n)) = exact_pure _

pub exact_named : (line : ℕ) (bytes : Bytes) → Exact (named line bytes) (IsNamed line bytes)
exact_named line bytes = exact_bind (exact_asks _) (exact_meant line)

pub at_most : (a b : ℕ) → IsTrue (nat_le a b) ↔ (a ≤ b)
at_most a b = (leb-true a b, le-leb a b)

pub exact_counted : (line cells : ℕ) → Exact (counted line cells) (AreCounted cells)
exact_counted line cells =
    exact_bind (exact_tests _ _ (TooLarge line Statics) (λ k. at_most (k.static_cells + cells) most_static_cells)) (λ u. exact_makes _)

pub exact_text : (line : ℕ) (bytes : Bytes) → Exact (text_term line bytes) (IsText line bytes)
exact_text line bytes =
    exact_bind (exact_needs _ _ _ (at_most (suc (length bytes)) most_cells)) (λ u.
    exact_bind (exact_counted line (suc (length bytes))) (λ u'.
    exact_bind (exact_asks _) (λ number.
    exact_bind (exact_makes _) (λ u''. exact_pure _))))

pub exact_indexed : (line at : ℕ) (a b : Written) → Exact (indexed line at a b) (IsIndexed line at a b)
exact_indexed line at a b = exact_bind (exact_ruled at _ _ (index_allows (written_type a) (written_type b))) (λ form. exact_pure _)

pub exact_indirect : (line : ℕ) (a : Written) → Exact (indirect line a) (IsIndirect line a)
exact_indirect line a = exact_bind (exact_ruled line _ _ (indirection_allows (written_type a))) (λ to. exact_pure _)

pub exact_marked : (node : PlaceNode) → Exact (marked node) (IsMarked node)
exact_marked (t.local n) = exact_makes _
exact_marked (t.static n) = exact_pure tt
exact_marked (t.text n) = exact_pure tt
exact_marked (t.pointed v) = exact_pure tt
exact_marked (t.element at pointer_first a b) = exact_pure tt

pub exact_address : (line : ℕ) (term : Term) → Exact (address_of line term) (IsAddress line term)
exact_address line (object (place first type node)) = exact_bind (exact_marked node) (λ u. exact_pure _)
exact_address line (result v) = exact_refuse (Mismatch line 9)
exact_address line (designator first d type) = exact_bind (exact_designated first d type) (λ v. exact_pure _)

pub exact_opposite : (line : ℕ) (a : Written) → Exact (opposite line a) (IsOpposite line a)
exact_opposite line a = exact_bind (exact_ruled line _ _ (tested_allows (written_type a))) (λ ty. exact_pure _)

pub exact_promoted : (line : ℕ) (a : Written) → Exact (promoted line a) (IsPromoted line a)
exact_promoted line a = exact_bind (exact_ruled line _ _ (unary_allows (written_type a))) (λ ty. exact_pure _)

pub exact_negative : (line : ℕ) (a : Written) → Exact (negative line a) (IsNegative line a)
exact_negative line a = exact_bind (exact_ruled line _ _ (unary_allows (written_type a))) (λ ty. exact_pure _)

pub exact_complemented : (line : ℕ) (a : Written) → Exact (complemented line a) (IsComplement line a)
exact_complemented line a = exact_bind (exact_ruled line _ _ (unary_allows (written_type a))) (λ ty. exact_pure _)

pub exact_computed : (line : ℕ) (op : Op) (at : ℕ) (a b : Written) → Exact (computed line op at a b) (IsComputed line op at a b)
exact_computed line op at a b =
    exact_bind (exact_ruled at _ _ (λ f. binary_allows op (operand_of a.value) (operand_of b.value) f (null_is_integer a.value)
    (null_is_integer b.value))) (λ form. exact_pure _)

pub exact_tested : (at : ℕ) (a b : Written) → Exact (tested_both at a b) (AreTested a b)
exact_tested at a b =
    exact_bind (exact_ruled at _ _ (tested_allows (written_type a)))
    (λ u. exact_bind (exact_ruled at _ _ (tested_allows (written_type b))) (λ u'. exact_pure tt))

pub exact_conjoined : (line at : ℕ) (a b : Written) → Exact (conjoined line at a b) (IsConjunction line a b)
exact_conjoined line at a b = exact_bind (exact_tested at a b) (λ u. exact_pure _)

pub exact_disjoined : (line at : ℕ) (a b : Written) → Exact (disjoined line at a b) (IsDisjunction line a b)
exact_disjoined line at a b = exact_bind (exact_tested at a b) (λ u. exact_pure _)

pub exact_chosen : (line at : ℕ) (test a b : Written) → Exact (chosen line at test a b) (IsChosen line test a b)
exact_chosen line at test a b =
    exact_bind (exact_ruled at _ _ (λ f. choice_allows (written_type test) (operand_of a.value) (operand_of b.value) f (null_is_integer a.value)
    (null_is_integer b.value))) (λ form. exact_pure _)

pub exact_target : (term : Term) → Exact (target_of term) (IsTarget term)
exact_target (object p) = exact_pure _
exact_target (result v) = exact_pure _
exact_target (designator line d type) = exact_bind (exact_designated line d type) (λ v. exact_pure _)

pub exact_assigned : (line at : ℕ) (target : Target) (a : Written) → Exact (assigned line at target a) (IsAssigned line target a)
exact_assigned line at target a =
    exact_bind (exact_ruled at _ _ (λ f. assignment_allows (may_change target) (type_of target.old) (operand_of a.value) f (null_is_integer a.value)))
    (λ form. exact_bind (exact_given target.lvalue (Mismatch at 7)) (λ p. exact_pure _))

pub exact_changed : (line : ℕ) (c : Change) (target : Target) (a : Written) → Exact (changed line c target a) (IsChanged line c target a)
exact_changed line c target a =
    exact_bind (exact_ruled c.at _ _ (λ f. update_allows c.op (may_change target) (type_of target.old) (written_type a) f))
    (λ form. exact_bind (exact_given target.lvalue (Mismatch c.at 7)) (λ p. exact_pure _))

pub exact_cast : (line : ℕ) (type : Qualified) (a : Written) → Exact (cast_to line type a) (IsCast line type a)
exact_cast line type a = exact_bind (exact_ruled line _ _ (cast_allows type.type (written_type a))) (λ to. exact_pure _)

pub exact_unvalued : (term : Term) → Exact (unvalued term) (IsUnvalued term)
exact_unvalued (object p) = exact_pure _
exact_unvalued (result v) = exact_pure _
exact_unvalued (designator line (entity n main) type) = exact_pure type
exact_unvalued (designator line (predeclared p) type) = exact_refuse (Mismatch line 20)
exact_unvalued (designator line (through v) type) = exact_pure type

pub exact_sized : (line : ℕ) (of : CType) → Exact (sized line of) (IsSized line of)
exact_sized line of = exact_bind (exact_ruled line _ _ (sizeof_allows of)) (λ type. exact_pure _)

pub exact_called : (term : Term) → Exact (called term) (IsCalled term)
exact_called (object p) = exact_pure _
exact_called (result v) = exact_pure _
exact_called (designator line (entity n true) type) = exact_refuse (Mismatch line 20)
exact_called (designator line (entity n false) type) = exact_pure _
exact_called (designator line (predeclared p) type) = exact_pure _
exact_called (designator line (through v) type) = exact_pure _

pub exact_passed : (at : ℕ) (ps : List CType) (xs : List Written) → Exact (passed at ps xs) (ArePassed ps xs)
exact_passed at [] [] = exact_pure _
exact_passed at [] (a ∷ xs) = exact_refuse (Mismatch at 11)
exact_passed at (p ∷ ps) [] = exact_refuse (Mismatch at 11)
exact_passed at (p ∷ ps) (a ∷ xs) =
    exact_bind (exact_ruled at _ _ (λ f. conversion_allows p (operand_of a.value) f (null_is_integer a.value)))
    (λ form. exact_bind (exact_passed at ps xs) (λ rest. exact_pure _))

-- where arguments are passed, there are as many as parameters
as_many : (ps : List CType) (xs : List Written) (vs : Values) (k l : Known) → ArePassed ps xs vs k l → length ps ≡ length xs
as_many [] [] vs k l h = refl
as_many [] (a ∷ xs) vs k l h = absurd h
as_many (p ∷ ps) [] vs k l h = absurd h
as_many (p ∷ ps) (a ∷ xs) vs k l h = ap suc (as_many ps xs h.second.of h.between h.second.between h.second.first)

pub exact_arguments : (at : ℕ) (type : CType) (xs : List Written) → Exact (arguments_for at type xs) (ArePassed (parameters_of type) xs)
exact_arguments at type xs = exact_beside _ _ (exact_passed at (parameters_of type) xs) (λ vs k l h. eq-eqb _ _ (as_many (parameters_of type) xs vs k l h))

pub exact_counted_type : (line : ℕ) (type : CType) → Exact (counted_type line type) (IsCounted type)
exact_counted_type line type =
    exact_bind (exact_makes _) (λ u. exact_tests _ _ (TooLarge line Types) (λ k. at_most (length k.types) most_types))

pub exact_call_through : (line at : ℕ) (v : Value) (xs : List Written) → Exact (call_through line at v xs) (IsCallThrough line at v xs)
exact_call_through line at v xs =
    exact_bind (exact_ruled at _ _ (callee_allows (type_of v))) (λ type.
    exact_bind (exact_arguments at type xs) (λ vs.
    exact_bind (exact_counted_type at type) (λ u. exact_pure _)))

pub exact_call : (line at : ℕ) (term : Term) (xs : List Written) → Exact (call_of line at term xs) (IsCall line at term xs)
exact_call line at (object p) xs = exact_call_through line at _ xs
exact_call line at (result v) xs = exact_call_through line at v xs
exact_call line at (designator first (entity n main) type) xs = exact_bind (exact_arguments at type xs) (λ vs. exact_pure _)
exact_call line at (designator first (predeclared p) type) xs = exact_bind (exact_arguments at type xs) (λ vs. exact_pure _)
exact_call line at (designator first (through v) type) xs = exact_call_through line at v xs
