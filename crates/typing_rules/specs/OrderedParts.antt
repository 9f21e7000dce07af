-- The ordered function on what expressions are made of, apart from its recursion on them.
use Rattle.std.specs.Prelude.{ℕ, suc, ◌+◌, ◌==◌, nat_le, Bool as Test, true, false, List, [], ◌∷◌, length, drop, take, Option, Some, None, is_none}
use Rattle.srmt_base.specs.declared.ty.Ty.TheVariants.{Int}
use Rattle.srmt_base.specs.declared.op.Op.{Op}
use Rattle.c_types.specs.Types.{CType, Qualified, integer, plain, pointer, parameters_of, result_of, pointer_to}
use Rattle.c_types.specs.Rules.{conversion_form, callee_type, indirection_type, index_form, binary_form, tested_type, unary_type, choice_form, assignment_form, update_form, cast_type, sizeof_type}
use Rattle.c_typed.specs.Typed as t
use Rattle.c_typed.specs.Typed.{Place, place, PlaceNode, Value, value, Values, no_values, first_value, type_of, place_type}
use Rattle.typing_rules.specs.declared.refusal.TypeRefusal.TheVariants.{Unknown, Twice, Mismatch, TooLarge}
use Rattle.typing_rules.specs.declared.refusal.Size.TheVariants.{Cells, Statics, Types}
use Rattle.typing_rules.specs.Source.{Bytes, Named, Specifiers, Declarator, Parameters}
use Rattle.typing_rules.specs.Known as known
use Rattle.typing_rules.specs.Known.{Known, Meaning, Local, Predeclared, Entity, meaning_of, innermost, found_in, local_at, entity_at, is_main, type_of_predeclared}
use Rattle.typing_rules.specs.Limits.{most_cells, most_static_cells, most_types}
use Rattle.typing_rules.specs.Terms.{Term, object, result, designator, Designated, entity, predeclared, through, Written, written_type, operand_of, number_value, value_at, converted, converted_by, binary_value, negated_value, minus_value, complement_value, choice_value, element_place, Target, may_change, Change, changed_value, assigned_value, cast_value, sizeof_value, predeclared_node, text_type, linked_term, pointed_term}
use Rattle.typing_rules.specs.DeclaratorRules.{Derivation, lines_of, name_of, is_empty_list, derived, parameter_of, parameter_local}
use Rattle.typing_rules.specs.SpecifierRules.{Specified, specified_by}
use Rattle.typing_rules.specs.Checking.{Checking, ◌>>=◌, ◌>>◌, pure, refuse, asks, makes, choose, needs, tests, ruled_by, given, from_result}

-- ---- values

abbrev pub designated : ℕ → Designated → CType → Checking Value
designated line (entity n true) type = refuse (Mismatch line 20)
designated line (entity n false) type = pure (value line (pointer plain type) (t.function n))
designated line (predeclared p) type = refuse (Mismatch line 20)
designated line (through v) type = pure v

-- the value of an operand: an lvalue is read, an array and a function decay (C11 6.3.2.1)
abbrev pub valued : Term → Checking Value
valued (object p) = pure (value_at p)
valued (result v) = pure v
valued (designator line d type) = designated line d type

-- with the line of its first token as it is written
abbrev pub written : ℕ → Checking Term → Checking Written
written first m = do
  term ← m
  v ← valued term
  pure (record { first = first; value = v })

-- ---- names and texts

abbrev pub meant : ℕ → Option Meaning → Checking Term
meant line None = refuse (Unknown line)
meant line (Some (known.local n)) = asks (λ k. object (place line (local_at k.locals n).type (t.local n)))
meant line (Some (known.linked n type)) = do
  makes (known.used n line)
  asks (λ k. linked_term line n type (is_main (entity_at k.entities n)))
meant line (Some (known.predeclared p)) = pure (designator line (predeclared p) (type_of_predeclared p))
meant line (Some (known.constant n)) = pure (result (number_value line Int n))

abbrev pub named : ℕ → Bytes → Checking Term
named line bytes = asks (λ k. meaning_of bytes (known.all_scopes k)) >>= meant line

-- a file has room for more static cells
abbrev pub counted : ℕ → ℕ → Checking (Unit {0})
counted line cells = do
  tests (λ k. nat_le (k.static_cells + cells) most_static_cells) (TooLarge line Statics)
  makes (known.with_cells cells)

-- a text is an object of its own (C11 6.4.5p6)
abbrev pub text_term : ℕ → Bytes → Checking Term
text_term line bytes = do
  needs (nat_le (suc (length bytes)) most_cells) (TooLarge line Cells)
  counted line (suc (length bytes))
  number ← asks (λ k. length k.texts)
  makes (known.with_text line bytes)
  pure (object (place line (text_type (length bytes)) (t.text number)))

-- ---- operators

abbrev pub indexed : ℕ → ℕ → Written → Written → Checking Term
indexed line at a b = do
  form ← ruled_by at (index_form (written_type a) (written_type b))
  pure (object (element_place line at form a b))

abbrev pub indirect : ℕ → Written → Checking Term
indirect line a = do
  to ← ruled_by line (indirection_type (written_type a))
  pure (pointed_term line a.value to)

abbrev pub marked : PlaceNode → Checking (Unit {0})
marked (t.local n) = makes (known.addressed n)
marked (t.static n) = pure tt
marked (t.text n) = pure tt
marked (t.pointed v) = pure tt
marked (t.element at pointer_first a b) = pure tt

-- `&` (C11 6.5.3.2): of a function it is the pointer to which it decays
abbrev pub address_of : ℕ → Term → Checking Term
address_of line (object (place first type node)) = do
  marked node
  pure (result (value line (pointer_to type) (t.address (place first type node))))
address_of line (result v) = refuse (Mismatch line 9)
address_of line (designator first d type) = do
  v ← designated first d type
  pure (result (value line (type_of v) (t.requalified v)))

abbrev pub opposite : ℕ → Written → Checking Term
opposite line a = do
  ruled_by line (tested_type (written_type a))
  pure (result (negated_value line a))

abbrev pub promoted : ℕ → Written → Checking Term
promoted line a = do
  ty ← ruled_by line (unary_type (written_type a))
  pure (result (converted ty a))

abbrev pub negative : ℕ → Written → Checking Term
negative line a = do
  ty ← ruled_by line (unary_type (written_type a))
  pure (result (minus_value line ty a))

abbrev pub complemented : ℕ → Written → Checking Term
complemented line a = do
  ty ← ruled_by line (unary_type (written_type a))
  pure (result (complement_value line ty a))

abbrev pub computed : ℕ → Op → ℕ → Written → Written → Checking Term
computed line op at a b = do
  form ← ruled_by at (binary_form op (operand_of a.value) (operand_of b.value))
  pure (result (binary_value line op at form a b))

abbrev pub tested_both : ℕ → Written → Written → Checking (Unit {0})
tested_both at a b = do
  ruled_by at (tested_type (written_type a))
  ruled_by at (tested_type (written_type b))
  pure tt

abbrev pub conjoined : ℕ → ℕ → Written → Written → Checking Term
conjoined line at a b = do
  tested_both at a b
  pure (result (value line (integer Int) (t.conjunction a.value b.value)))

abbrev pub disjoined : ℕ → ℕ → Written → Written → Checking Term
disjoined line at a b = do
  tested_both at a b
  pure (result (value line (integer Int) (t.disjunction a.value b.value)))

abbrev pub chosen : ℕ → ℕ → Written → Written → Written → Checking Term
chosen line at test a b = do
  form ← ruled_by at (choice_form (written_type test) (operand_of a.value) (operand_of b.value))
  pure (result (choice_value line form test.value a b))

-- ---- assignments

-- the left side of an assignment, or the operand of `++ --`
abbrev pub target_of : Term → Checking Target
target_of (object p) = pure (record { old = value_at p; lvalue = Some p })
target_of (result v) = pure (record { old = v; lvalue = None })
target_of (designator line d type) = do
  v ← designated line d type
  pure (record { old = v; lvalue = None })

abbrev pub assigned : ℕ → ℕ → Target → Written → Checking Term
assigned line at target a = do
  form ← ruled_by at (assignment_form (may_change target) (type_of target.old) (operand_of a.value))
  p ← given target.lvalue (Mismatch at 7)
  pure (result (assigned_value line form p a))

abbrev pub changed : ℕ → Change → Target → Written → Checking Term
changed line c target a = do
  form ← ruled_by c.at (update_form c.op (may_change target) (type_of target.old) (written_type a))
  p ← given target.lvalue (Mismatch c.at 7)
  pure (result (changed_value line c form p a))

-- ---- casts and sizes

abbrev pub cast_to : ℕ → Qualified → Written → Checking Term
cast_to line type a = do
  to ← ruled_by line (cast_type type.type (written_type a))
  pure (result (cast_value line to a))

-- the type of an operand of `sizeof`, which is not evaluated and does not decay
abbrev pub unvalued : Term → Checking CType
unvalued (object p) = pure (place_type p).type
unvalued (result v) = pure (type_of v)
unvalued (designator line (entity n main) type) = pure type
unvalued (designator line (predeclared p) type) = refuse (Mismatch line 20)
unvalued (designator line (through v) type) = pure type

abbrev pub sized : ℕ → CType → Checking Term
sized line of = do
  type ← ruled_by line (sizeof_type of)
  pure (result (sizeof_value line type of))

-- ---- calls

-- what is called: a function by its name, a predeclared one, or the one that a value points to
abbrev pub called : Term → Checking Term
called (object p) = pure (result (value_at p))
called (result v) = pure (result v)
called (designator line (entity n true) type) = refuse (Mismatch line 20)
called (designator line (entity n false) type) = pure (designator line (entity n false) type)
called (designator line (predeclared p) type) = pure (designator line (predeclared p) type)
called (designator line (through v) type) = pure (result v)

abbrev pub passed : ℕ → List CType → List Written → Checking Values
passed at [] [] = pure no_values
passed at [] (a ∷ xs) = refuse (Mismatch at 11)
passed at (p ∷ ps) [] = refuse (Mismatch at 11)
passed at (p ∷ ps) (a ∷ xs) = do
  form ← ruled_by at (conversion_form p (operand_of a.value))
  rest ← passed at ps xs
  pure (first_value (converted_by form p a) rest)

-- as many arguments as parameters, each converted as by assignment (C11 6.5.2.2p2)
abbrev pub arguments_for : ℕ → CType → List Written → Checking Values
arguments_for at type xs = do
  needs (length (parameters_of type) == length xs) (Mismatch at 11)
  passed at (parameters_of type) xs

-- the type of a function that is defined or called through a pointer
abbrev pub counted_type : ℕ → CType → Checking (Unit {0})
counted_type line type = do
  makes (known.with_type type)
  tests (λ k. nat_le (length k.types) most_types) (TooLarge line Types)

abbrev pub call_through : ℕ → ℕ → Value → List Written → Checking Term
call_through line at v xs = do
  type ← ruled_by at (callee_type (type_of v))
  vs ← arguments_for at type xs
  counted_type at type
  pure (result (value line (result_of type) (t.call_through at v vs)))

abbrev pub call_of : ℕ → ℕ → Term → List Written → Checking Term
call_of line at (object p) xs = call_through line at (value_at p) xs
call_of line at (result v) xs = call_through line at v xs
call_of line at (designator first (entity n main) type) xs = do
  vs ← arguments_for at type xs
  pure (result (value line (result_of type) (t.call at n vs)))
call_of line at (designator first (predeclared p) type) xs = do
  vs ← arguments_for at type xs
  pure (result (value line (result_of type) (predeclared_node p at vs)))
call_of line at (designator first (through v) type) xs = call_through line at v xs

-- ---- declarators

abbrev pub specified : Test → Specifiers → Checking Specified
specified may_store s = ruled_by s.line (specified_by may_store s.words)

-- a name gets its meaning in the innermost scope, where it has none yet
abbrev pub declares : Named → Meaning → Checking (Unit {0})
declares name m = do
  tests (λ k. is_none (found_in name.bytes (innermost k.scopes))) (Twice name.line)
  makes (known.meaning name.bytes m)

-- a new local with its number, under its name if it has one
abbrev pub named_local : Option Named → ℕ → Checking (Unit {0})
named_local None n = pure tt
named_local (Some name) n = declares name (known.local n)

abbrev pub parameter : Specifiers → Qualified → Declarator → List Derivation → Checking (Unit {0})
parameter s base d ds = do
  type ← from_result (parameter_of (lines_of d s.line) (derived (lines_of d s.line) true base ds))
  n ← asks (λ k. length k.locals)
  named_local (name_of d) n
  makes (known.with_local (parameter_local d s.line type))

-- a list of parameters in a scope of its own: its locals are its parameters, and do not outlive it
abbrev pub parameter_list : Parameters → Checking (Unit {0}) → Checking (List Local)
parameter_list ps each = choose (is_empty_list ps) (pure []) (do
  before ← asks (λ k. length k.locals)
  makes known.opened
  each
  found ← asks (λ k. drop before k.locals)
  makes (λ k. known.closed (known.with_locals (take before k.locals) k))
  pure found)
