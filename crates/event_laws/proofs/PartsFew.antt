-- What expressions are made of gives no more events than its operands and its operator have tokens.
use Rattle.std.proofs.Common.{ℕ, ◌+◌, ◌≤◌, Bool as Test, true, false, List, [], ◌∷◌, subst, Option, Some, None, arith}
use Rattle.srmt_base.specs.declared.ty.Ty.TheVariants.{Int}
use Rattle.srmt_base.specs.declared.op.Op.{Op}
use Rattle.c_types.specs.declared.qualifiers.Qualifiers.{Qualifiers}
use Rattle.c_types.specs.Types.{CType, void, integer, pointer, array, returning, taking, Qualified, parameters_of, result_of}
use Rattle.c_typed.specs.Typed as t
use Rattle.c_typed.specs.Typed.{place, Value, value, Values, no_values, first_value}
use Rattle.source_meaning.specs.EventLaws.{events_of, events_in}
use Rattle.typing_rules.specs.Source.{Bytes}
use Rattle.typing_rules.specs.Known as known
use Rattle.typing_rules.specs.Known.{Meaning, Predeclared, the_putchar, the_getchar, the_exit}
use Rattle.typing_rules.specs.Terms.{Term, object, result, designator, Designated, entity, predeclared, through, Written, Target, Change, value_at, one_value, first_argument, predeclared_node, linked_term, pointed_term, sequence_of}
use Rattle.typing_rules.specs.Holding.{Typing}
use Rattle.typing_rules.specs.TypingParts.{IsDesignated, IsValue, IsWritten, IsMeant, IsNamed, IsText, IsIndexed, IsIndirect, IsAddress, IsOpposite, IsPromoted, IsNegative, IsComplement, IsComputed, IsConjunction, IsDisjunction, IsChosen, IsTarget, IsAssigned, IsChanged, IsCast, IsSized, IsCalled, ArePassed, IsCallThrough, IsCall}
use Rattle.typing_rules.specs.Typing.{IsStepped}
use Rattle.event_laws.proofs.Giving.{Gives, gives_is, gives_such, gives_asks, gives_never, gives_bind, gives_after}
use Rattle.event_laws.proofs.NodesFew.{Within, PlaceWithin, value_at_within, converted_within, converted_by_within, negated_within, minus_within, complement_within, cast_within, both, binary_within, element_within, choice_within, assigned_within, changed_within, events_written, values_within}

-- ---- terms

abbrev pub DesignatedWithin : ℕ → Designated → Type 0
DesignatedWithin n (entity m main) = Unit {0}
DesignatedWithin n (predeclared p) = Unit {0}
DesignatedWithin n (through v) = Within n v

-- the events of a term are within so many
abbrev pub TermWithin : ℕ → Term → Type 0
TermWithin n (object p) = PlaceWithin n p
TermWithin n (result v) = Within n v
TermWithin n (designator line d type) = DesignatedWithin n d

abbrev pub WrittenWithin : ℕ → Written → Type 0
WrittenWithin n w = Within n w.value

-- an operator has a token of its own
with_token : (a n : ℕ) → a ≤ n → a ≤ 1 + n
with_token a n h = omega (arith, h)

pub constant_within : (n line c : ℕ) (type : CType) → Within n (value line type (t.constant c))
unfolding events_of
constant_within n line c type = omega arith

designated_within : (n line : ℕ) (d : Designated) (type : CType) → DesignatedWithin n d → Gives (Within n) (IsDesignated line d type)
unfolding events_of
designated_within n line (entity m true) type h = gives_never
designated_within n line (entity m false) type h = gives_is (omega arith)
designated_within n line (predeclared p) type h = gives_never
designated_within n line (through v) type h = gives_is h

valued_within : (n : ℕ) (term : Term) → TermWithin n term → Gives (Within n) (IsValue term)
valued_within n (object p) h = gives_is (value_at_within n p h)
valued_within n (result v) h = gives_is h
valued_within n (designator line d type) h = designated_within n line d type h

pub written_within : {n : ℕ} {S : Typing Term} (first : ℕ) → Gives (TermWithin n) S → Gives (WrittenWithin n) (IsWritten first S)
written_within {n = n} first h = gives_bind h (λ term p. gives_bind (valued_within n term p) (λ v q. gives_is q))

-- ---- names and texts

linked_within : (line n : ℕ) (q : Qualifiers) (type : CType) (main : Test)
    → TermWithin 1 (linked_term line n (record { qualifiers = q; type = type }) main)
unfolding events_of
linked_within line n q void main = omega arith
linked_within line n q (integer ty) main = omega arith
linked_within line n q (pointer r u) main = omega arith
linked_within line n q (array r u m) main = omega arith
linked_within line n q (returning r u) main = tt
linked_within line n q (taking p u) main = tt

pointed_within : (n line : ℕ) (x : Value) (q : Qualifiers) (type : CType) → Within n x
    → TermWithin (1 + n) (pointed_term line x (record { qualifiers = q; type = type }))
unfolding events_of
pointed_within n line x q void h = omega (arith, h)
pointed_within n line x q (integer ty) h = omega (arith, h)
pointed_within n line x q (pointer r u) h = omega (arith, h)
pointed_within n line x q (array r u m) h = omega (arith, h)
pointed_within n line x q (returning r u) h = omega (arith, h)
pointed_within n line x q (taking p u) h = omega (arith, h)

meant_within : (line : ℕ) (m : Option Meaning) → Gives (TermWithin 1) (IsMeant line m)
unfolding events_of
meant_within line None = gives_never
meant_within line (Some (known.local n)) = gives_asks (λ k. omega arith)
meant_within line (Some (known.linked n type)) = gives_after (λ u. gives_asks (λ k. linked_within line n type.qualifiers type.type _))
meant_within line (Some (known.predeclared p)) = gives_is tt
meant_within line (Some (known.constant n)) = gives_is (constant_within 1 line n (integer Int))

pub named_within : (line : ℕ) (bytes : Bytes) → Gives (TermWithin 1) (IsNamed line bytes)
named_within line bytes = gives_after (meant_within line)

pub text_within : (line : ℕ) (bytes : Bytes) → Gives (TermWithin 1) (IsText line bytes)
unfolding events_of
text_within line bytes = gives_after (λ u. gives_after (λ u'. gives_after (λ n. gives_after (λ u''. gives_is (omega arith)))))

-- ---- operators on one operand

module _ {n : ℕ} (line : ℕ) (a : Written) (h : WrittenWithin n a) where
  pub indirect_within : Gives (TermWithin (1 + n)) (IsIndirect line a)
  indirect_within = gives_after (λ to. gives_is (pointed_within n line a.value to.qualifiers to.type h))

  pub opposite_within : Gives (TermWithin (1 + n)) (IsOpposite line a)
  opposite_within = gives_after (λ u. gives_is (with_token _ n (negated_within n line a h)))

  pub promoted_within : Gives (TermWithin (1 + n)) (IsPromoted line a)
  promoted_within = gives_after (λ ty. gives_is (with_token _ n (converted_within n ty a h)))

  pub negative_within : Gives (TermWithin (1 + n)) (IsNegative line a)
  negative_within = gives_after (λ ty. gives_is (with_token _ n (minus_within n line ty a h)))

  pub complemented_within : Gives (TermWithin (1 + n)) (IsComplement line a)
  complemented_within = gives_after (λ ty. gives_is (with_token _ n (complement_within n line ty a h)))

  pub casts_within : (type : Qualified) → Gives (TermWithin (1 + n)) (IsCast line type a)
  casts_within type = gives_after (λ to. gives_is (with_token _ n (cast_within n line to a h)))

pub address_within : (n line : ℕ) (term : Term) → TermWithin n term → Gives (TermWithin (1 + n)) (IsAddress line term)
unfolding events_of
address_within n line (object (place first type node)) h = gives_after (λ u. gives_is (omega (arith, h)))
address_within n line (result v) h = gives_never
address_within n line (designator first d type) h =
    gives_bind (designated_within n first d type h) (λ v p. gives_is (with_token _ n p))

pub sized_within : (n line : ℕ) (type : CType) → Gives (TermWithin n) (IsSized line type)
sized_within n line type = gives_after (λ to. gives_is (constant_within n line _ to))

-- ---- operators between operands

module _ {m n : ℕ} (line at : ℕ) (a b : Written) (h : WrittenWithin m a) (k : WrittenWithin n b) where
  pub indexed_within : Gives (TermWithin (1 + (m + n))) (IsIndexed line at a b)
  indexed_within = gives_after (λ form. gives_is (element_within m n a b h k line at form))

  pub computed_within : (op : Op) → Gives (TermWithin (1 + (m + n))) (IsComputed line op at a b)
  computed_within op = gives_after (λ form. gives_is (with_token _ (m + n) (binary_within m n a b h k line op at form)))

  pub conjoined_within : Gives (TermWithin (1 + (m + n))) (IsConjunction line a b)
  unfolding events_of
  conjoined_within = gives_after (λ u. gives_is (with_token _ (m + n) (both _ _ m n h k)))

  pub disjoined_within : Gives (TermWithin (1 + (m + n))) (IsDisjunction line a b)
  unfolding events_of
  disjoined_within = gives_after (λ u. gives_is (with_token _ (m + n) (both _ _ m n h k)))

pub chosen_within : {l m n : ℕ} (line : ℕ) (test a b : Written) → WrittenWithin l test → WrittenWithin m a → WrittenWithin n b
    → Gives (TermWithin (1 + (l + (m + n)))) (IsChosen line test a b)
chosen_within {l = l} {m = m} {n = n} line test a b e h k =
    gives_after (λ form. gives_is (with_token _ (l + (m + n)) (choice_within l m n line form test.value a b e h k)))

-- ---- assignments

abbrev pub PlaceWithinIf : ℕ → Option t.Place → Type 0
PlaceWithinIf n None = Unit {0}
PlaceWithinIf n (Some p) = PlaceWithin n p

abbrev pub TargetWithin : ℕ → Target → Type 0
TargetWithin n target = PlaceWithinIf n target.lvalue

pub target_within : (n : ℕ) (term : Term) → TermWithin n term → Gives (TargetWithin n) (IsTarget term)
target_within n (object p) h = gives_is h
target_within n (result v) h = gives_is tt
target_within n (designator line d type) h = gives_after (λ v. gives_is tt)

module _ (m n line : ℕ) (target : Target) (a : Written) (h : TargetWithin m target) (k : WrittenWithin n a) where
  pub assigns_within : Gives (TermWithin (1 + (m + n))) (IsAssigned line target a)
  assigns_within =
      gives_after (λ form. gives_bind gives_such (λ p e.
      gives_is (with_token _ (m + n) (assigned_within m n line p a (subst (PlaceWithinIf m) e h) k form))))

  pub changes_within : (c : Change) → Gives (TermWithin (1 + (m + n))) (IsChanged line c target a)
  changes_within c =
      gives_after (λ form. gives_bind gives_such (λ p e. gives_is (changed_within m n line p a (subst (PlaceWithinIf m) e h) k c form)))

pub stepped_within : {n : ℕ} {S : Typing Term} (line : ℕ) (c : Change) → Gives (TermWithin n) S → Gives (TermWithin (1 + n)) (IsStepped line c S)
stepped_within {n = n} line c h =
    gives_bind h (λ term p. gives_bind (target_within n term p) (λ target q.
    subst (λ m. Gives (TermWithin (1 + m)) (IsChanged line c target (one_value line))) (search arith)
    (changes_within n 0 line target (one_value line) q (constant_within 0 line 1 (integer Int)) c)))

-- ---- calls and lists

pub called_within : (n : ℕ) (term : Term) → TermWithin n term → Gives (TermWithin n) (IsCalled term)
called_within n (object p) h = gives_is (value_at_within n p h)
called_within n (result v) h = gives_is h
called_within n (designator line (entity m true) type) h = gives_never
called_within n (designator line (entity m false) type) h = gives_is h
called_within n (designator line (predeclared p) type) h = gives_is h
called_within n (designator line (through v) type) h = gives_is h

abbrev pub AllWithin : ℕ → List Written → Type 0
AllWithin n xs = events_written xs ≤ n

passed_within : (ps : List CType) (xs : List Written) → Gives (λ vs. events_in vs ≤ events_written xs) (ArePassed ps xs)
unfolding events_of
passed_within [] [] = gives_is (omega arith)
passed_within [] (a ∷ xs) = gives_never
passed_within (p ∷ ps) [] = gives_never
passed_within (p ∷ ps) (a ∷ xs) =
    gives_after (λ form. gives_bind (passed_within ps xs) (λ rest q.
    gives_is (both _ _ (events_of a.value) (events_written xs) (converted_by_within (events_of a.value) form p a (omega arith)) q)))

first_within : (line : ℕ) (vs : Values) → Within (events_in vs) (first_argument line vs)
unfolding events_of
first_within line no_values = omega arith
first_within line (first_value v rest) = omega arith

predeclared_within : (p : Predeclared) (line at : ℕ) (type : CType) (vs : Values) → Within (1 + events_in vs) (value line type (predeclared_node p at vs))
unfolding events_of
predeclared_within the_putchar line at type vs = let first = first_within at vs in omega (arith, first)
predeclared_within the_getchar line at type vs = omega arith
predeclared_within the_exit line at type vs = let first = first_within at vs in omega (arith, first)

module _ (m n line at : ℕ) (xs : List Written) (k : AllWithin n xs) where
  through_within : (v : Value) → Within m v → Gives (TermWithin (1 + (m + n))) (IsCallThrough line at v xs)
  unfolding events_of
  through_within v h =
      gives_after (λ type. gives_bind (passed_within (parameters_of type) xs) (λ vs p. gives_after (λ u.
      gives_is (omega (arith, h, k, p)))))

  pub call_within : (term : Term) → TermWithin m term → Gives (TermWithin (1 + (m + n))) (IsCall line at term xs)
  unfolding events_of
  call_within (object p) h = through_within (value_at p) (value_at_within m p h)
  call_within (result v) h = through_within v h
  call_within (designator first (entity e main) type) h =
      gives_bind (passed_within (parameters_of type) xs) (λ vs p. gives_is (omega (arith, p, k)))
  call_within (designator first (predeclared f) type) h =
      gives_bind (passed_within (parameters_of type) xs) (λ vs p.
      gives_is (let one = predeclared_within f line at (result_of type) vs in omega (arith, one, p, k)))
  call_within (designator first (through v) type) h = through_within v h

pub sequence_within : (m n line : ℕ) (dropped : List Written) (last : Written) → AllWithin m dropped → WrittenWithin n last
    → Within (m + n) (sequence_of line dropped last)
unfolding events_of
sequence_within m n line dropped last h k = let all = values_within m dropped h in omega (arith, all, k)
