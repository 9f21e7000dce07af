-- The typing relation on what expressions are made of, apart from its recursion on them.
use Rattle.std.specs.Prelude.{◌≡◌, ℕ, suc, ◌+◌, ◌≤◌, ◌<◌, true, false, List, [], ◌∷◌, length, Option, Some, None}
use Rattle.srmt_base.specs.declared.ty.Ty.TheVariants.{Int}
use Rattle.srmt_base.specs.declared.op.Op.{Op}
use Rattle.c_types.specs.Types.{CType, Qualified, integer, plain, pointer, parameters_of, result_of, pointer_to}
use Rattle.c_typed.specs.Typed as t
use Rattle.c_typed.specs.Typed.{Place, place, PlaceNode, Value, value, Values, no_values, first_value, type_of, place_type}
use Rattle.typing_rules.specs.Source.{Bytes}
use Rattle.typing_rules.specs.Known as known
use Rattle.typing_rules.specs.Known.{Known, Meaning, Local, meaning_of, innermost, found_in, local_at, entity_at, is_main, type_of_predeclared}
use Rattle.typing_rules.specs.Limits.{most_cells, most_static_cells, most_types}
use Rattle.typing_rules.specs.Terms.{Term, object, result, designator, Designated, entity, predeclared, through, Written, written_type, operand_of, number_value, value_at, converted, converted_by, binary_value, negated_value, minus_value, complement_value, choice_value, element_place, Target, may_change, Change, changed_value, assigned_value, cast_value, sizeof_value, predeclared_node, text_type, linked_term, pointed_term}
use Rattle.typing_rules.specs.Constraints.{Promotes, IsTested, Operates, Updates, Converts, Assigns, Chooses, PointsTo, Indexes, Calls, CastsTo, HasSize}
use Rattle.typing_rules.specs.Holding.{Typing, ◌>>=◌, ◌>>◌, Is, Such, Given, Holds, Asks, Makes, Never}

-- ---- values

-- a function designator other than one of `main` or of a predeclared function becomes a pointer (C11 6.3.2.1p4)
abbrev pub IsDesignated : ℕ → Designated → CType → Typing Value
IsDesignated line (entity n true) type = Never
IsDesignated line (entity n false) type = Is (value line (pointer plain type) (t.function n))
IsDesignated line (predeclared p) type = Never
IsDesignated line (through v) type = Is v

-- the value of an operand: an lvalue is read, an array and a function decay (C11 6.3.2.1p2, p3, p4)
abbrev pub IsValue : Term → Typing Value
IsValue (object p) = Is (value_at p)
IsValue (result v) = Is v
IsValue (designator line d type) = IsDesignated line d type

abbrev pub IsWritten : ℕ → Typing Term → Typing Written
IsWritten first S = do
  term ← S
  v ← IsValue term
  Is (record { first = first; value = v })

-- ---- names and texts

-- what a name means (C11 6.2.1, 6.5.1p2)
abbrev pub IsMeant : ℕ → Option Meaning → Typing Term
IsMeant line None = Never
IsMeant line (Some (known.local n)) = Asks (λ k. object (place line (local_at k.locals n).type (t.local n)))
IsMeant line (Some (known.linked n type)) = do
  Makes (known.used n line)
  Asks (λ k. linked_term line n type (is_main (entity_at k.entities n)))
IsMeant line (Some (known.predeclared p)) = Is (designator line (predeclared p) (type_of_predeclared p))
IsMeant line (Some (known.constant n)) = Is (result (number_value line Int n))

abbrev pub IsNamed : ℕ → Bytes → Typing Term
IsNamed line bytes = Asks (λ k. meaning_of bytes (known.all_scopes k)) >>= IsMeant line

-- more static cells of a file, which has room for them
abbrev pub AreCounted : ℕ → Typing (Unit {0})
AreCounted cells = do
  Holds (λ k. k.static_cells + cells ≤ most_static_cells)
  Makes (known.with_cells cells)

-- a text is an object of its own (C11 6.4.5p6)
abbrev pub IsText : ℕ → Bytes → Typing Term
IsText line bytes = do
  Given (length bytes < most_cells)
  AreCounted (suc (length bytes))
  number ← Asks (λ k. length k.texts)
  Makes (known.with_text line bytes)
  Is (object (place line (text_type (length bytes)) (t.text number)))

-- ---- operators

-- C11 6.5.2.1
abbrev pub IsIndexed : ℕ → ℕ → Written → Written → Typing Term
IsIndexed line at a b = do
  form ← Such (Indexes (written_type a) (written_type b))
  Is (object (element_place line at form a b))

-- C11 6.5.3.2p4
abbrev pub IsIndirect : ℕ → Written → Typing Term
IsIndirect line a = do
  to ← Such (PointsTo (written_type a))
  Is (pointed_term line a.value to)

-- a local whose address is taken is placed
abbrev pub IsMarked : PlaceNode → Typing (Unit {0})
IsMarked (t.local n) = Makes (known.addressed n)
IsMarked (t.static n) = Is tt
IsMarked (t.text n) = Is tt
IsMarked (t.pointed v) = Is tt
IsMarked (t.element at pointer_first a b) = Is tt

-- `&` of an lvalue or of a function (C11 6.5.3.2p1, p3)
abbrev pub IsAddress : ℕ → Term → Typing Term
IsAddress line (object (place first type node)) = do
  IsMarked node
  Is (result (value line (pointer_to type) (t.address (place first type node))))
IsAddress line (result v) = Never
IsAddress line (designator first d type) = do
  v ← IsDesignated first d type
  Is (result (value line (type_of v) (t.requalified v)))

-- C11 6.5.3.3
abbrev pub IsOpposite : ℕ → Written → Typing Term
IsOpposite line a = do
  Such (IsTested (written_type a))
  Is (result (negated_value line a))

abbrev pub IsPromoted : ℕ → Written → Typing Term
IsPromoted line a = do
  ty ← Such (Promotes (written_type a))
  Is (result (converted ty a))

abbrev pub IsNegative : ℕ → Written → Typing Term
IsNegative line a = do
  ty ← Such (Promotes (written_type a))
  Is (result (minus_value line ty a))

abbrev pub IsComplement : ℕ → Written → Typing Term
IsComplement line a = do
  ty ← Such (Promotes (written_type a))
  Is (result (complement_value line ty a))

-- C11 6.5.5 to 6.5.12
abbrev pub IsComputed : ℕ → Op → ℕ → Written → Written → Typing Term
IsComputed line op at a b = do
  form ← Such (Operates op (operand_of a.value) (operand_of b.value))
  Is (result (binary_value line op at form a b))

abbrev pub AreTested : Written → Written → Typing (Unit {0})
AreTested a b = do
  Such (IsTested (written_type a))
  Such (IsTested (written_type b))
  Is tt

-- C11 6.5.13, 6.5.14
abbrev pub IsConjunction : ℕ → Written → Written → Typing Term
IsConjunction line a b = do
  AreTested a b
  Is (result (value line (integer Int) (t.conjunction a.value b.value)))

abbrev pub IsDisjunction : ℕ → Written → Written → Typing Term
IsDisjunction line a b = do
  AreTested a b
  Is (result (value line (integer Int) (t.disjunction a.value b.value)))

-- C11 6.5.15
abbrev pub IsChosen : ℕ → Written → Written → Written → Typing Term
IsChosen line test a b = do
  form ← Such (Chooses (written_type test) (operand_of a.value) (operand_of b.value))
  Is (result (choice_value line form test.value a b))

-- ---- assignments

-- the left side of an assignment, or the operand of `++ --`
abbrev pub IsTarget : Term → Typing Target
IsTarget (object p) = Is (record { old = value_at p; lvalue = Some p })
IsTarget (result v) = Is (record { old = v; lvalue = None })
IsTarget (designator line d type) = do
  v ← IsDesignated line d type
  Is (record { old = v; lvalue = None })

-- C11 6.5.16.1
abbrev pub IsAssigned : ℕ → Target → Written → Typing Term
IsAssigned line target a = do
  form ← Such (Assigns (may_change target) (type_of target.old) (operand_of a.value))
  p ← Such (λ p. target.lvalue ≡ Some p)
  Is (result (assigned_value line form p a))

-- C11 6.5.16.2, 6.5.2.4, 6.5.3.1
abbrev pub IsChanged : ℕ → Change → Target → Written → Typing Term
IsChanged line c target a = do
  form ← Such (Updates c.op (may_change target) (type_of target.old) (written_type a))
  p ← Such (λ p. target.lvalue ≡ Some p)
  Is (result (changed_value line c form p a))

-- ---- casts and sizes

-- C11 6.5.4
abbrev pub IsCast : ℕ → Qualified → Written → Typing Term
IsCast line type a = do
  to ← Such (CastsTo type.type (written_type a))
  Is (result (cast_value line to a))

-- the type of an operand of `sizeof`, which is not evaluated and does not decay (C11 6.5.3.4p2, 6.3.2.1p3)
abbrev pub IsUnvalued : Term → Typing CType
IsUnvalued (object p) = Is (place_type p).type
IsUnvalued (result v) = Is (type_of v)
IsUnvalued (designator line (entity n main) type) = Is type
IsUnvalued (designator line (predeclared p) type) = Never
IsUnvalued (designator line (through v) type) = Is type

-- C11 6.5.3.4
abbrev pub IsSized : ℕ → CType → Typing Term
IsSized line of = do
  type ← Such (HasSize of)
  Is (result (sizeof_value line type of))

-- ---- calls (C11 6.5.2.2)

-- what is called: a function by its name, other than `main`, a predeclared one, or the one that a value points to
abbrev pub IsCalled : Term → Typing Term
IsCalled (object p) = Is (result (value_at p))
IsCalled (result v) = Is (result v)
IsCalled (designator line (entity n true) type) = Never
IsCalled (designator line (entity n false) type) = Is (designator line (entity n false) type)
IsCalled (designator line (predeclared p) type) = Is (designator line (predeclared p) type)
IsCalled (designator line (through v) type) = Is (result v)

-- each argument is converted to the type of its parameter
abbrev pub ArePassed : List CType → List Written → Typing Values
ArePassed [] [] = Is no_values
ArePassed [] (a ∷ xs) = Never
ArePassed (p ∷ ps) [] = Never
ArePassed (p ∷ ps) (a ∷ xs) = do
  form ← Such (Converts p (operand_of a.value))
  rest ← ArePassed ps xs
  Is (first_value (converted_by form p a) rest)

-- the type of a function that is defined or called through a pointer, among those of the program
abbrev pub IsCounted : CType → Typing (Unit {0})
IsCounted type = do
  Makes (known.with_type type)
  Holds (λ k. length k.types ≤ most_types)

abbrev pub IsCallThrough : ℕ → ℕ → Value → List Written → Typing Term
IsCallThrough line at v xs = do
  type ← Such (Calls (type_of v))
  vs ← ArePassed (parameters_of type) xs
  IsCounted type
  Is (result (value line (result_of type) (t.call_through at v vs)))

abbrev pub IsCall : ℕ → ℕ → Term → List Written → Typing Term
IsCall line at (object p) xs = IsCallThrough line at (value_at p) xs
IsCall line at (result v) xs = IsCallThrough line at v xs
IsCall line at (designator first (entity n main) type) xs = do
  vs ← ArePassed (parameters_of type) xs
  Is (result (value line (result_of type) (t.call at n vs)))
IsCall line at (designator first (predeclared p) type) xs = do
  vs ← ArePassed (parameters_of type) xs
  Is (result (value line (result_of type) (predeclared_node p at vs)))
IsCall line at (designator first (through v) type) xs = IsCallThrough line at v xs
