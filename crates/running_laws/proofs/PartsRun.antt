-- What expressions are made of runs.
use Rattle.std.proofs.Common.{◌≡◌, ℕ, suc, ◌+◌, ◌<◌, ◌≤◌, true, false, List, [], ◌∷◌, length, refl, ap, sym, subst, ◌∙◌, Option, Some, None, arith, rules}
use Rattle.std.specs.Prelude.{◌&&◌, not, IsTrue}
use Rattle.std.proofs.lemmas.List.{length-append}
use Rattle.srmt_base.specs.declared.op.Op.{Op}
use Rattle.srmt_base.specs.Types.{IsPromoted as IsPromotedTy}
use Rattle.c_types.specs.declared.qualifiers.Qualifiers.{Qualifiers}
use Rattle.c_types.specs.Types.{CType, void, integer, pointer, array, returning, taking, Qualified, is_scalar, is_complete_pointer, ty_of, parameters_of}
use Rattle.c_types.specs.Rules.{is_modifiable}
use Rattle.c_typed.specs.Typed as t
use Rattle.c_typed.specs.Typed.{Place, place, PlaceNode, Value, value, Values, no_values, first_value, type_of, place_type}
use Rattle.source_meaning.specs.Values.{IsValue}
use Rattle.source_meaning.specs.Sound.{HasScale}
use Rattle.typing_rules.specs.Source.{Bytes}
use Rattle.typing_rules.specs.Known as known
use Rattle.typing_rules.specs.Known.{Known, Meaning, Predeclared, the_putchar, the_getchar, the_exit}
use Rattle.typing_rules.specs.Limits.{most_cells, most_static_cells}
use Rattle.typing_rules.specs.Terms.{Term, object, result, designator, Designated, entity, predeclared, through, Written, written_type, Target, may_change, Change, value_at, first_argument, predeclared_node, linked_term, pointed_term}
use Rattle.typing_rules.specs.Holding.{Typing}
use Rattle.typing_rules.specs.TypingParts.{IsDesignated, IsValue as IsValueOfTerm, IsWritten, IsMeant, IsNamed, IsText, IsIndexed, IsIndirect, IsMarked, IsAddress, IsOpposite, IsPromoted, IsNegative, IsComplement, IsComputed, AreTested, IsConjunction, IsDisjunction, IsChosen, IsTarget, IsAssigned, IsChanged, IsCast, IsSized, IsCalled, ArePassed, IsCounted, IsCallThrough, IsCall}
use Rattle.typing_rules.specs.Laws.{Each}
use Rattle.typing_rules.specs.LanguageTypes.{IsOfLanguage, HasTypes, PlaceHasTypes}
use Rattle.typing_rules.specs.LanguageTerms.{TermHas}
use Rattle.typing_rules.proofs.Keeping.{each_append}
use Rattle.typing_rules.proofs.Sound.{Sound, Any, sound_is, sound_such_as, sound_holds, sound_asks, sound_makes, sound_never, sound_bind}
use Rattle.typing_rules.proofs.LanguageNodesMade.{IsTyped, type_is, place_type_is}
use Rattle.typing_rules.proofs.PartsSound.{sound_valued}
use Rattle.typing_rules.proofs.CallsSound.{TargetHas}
use Rattle.running_laws.proofs.Running.{Runs, PlaceRuns, NodeRuns, AllRun}
use Rattle.running_laws.proofs.NodesRun.{has_scale, size_is_value, promoted_is, value_at_runs, converted_runs, converted_by_runs, negated_runs, minus_runs, complement_runs, binary_runs, choice_runs, element_runs, changed_runs, assigned_runs, cast_runs}
use Rattle.running_laws.proofs.Ready.{Frame, Ready, Both, IsSmallIf, TextHasCells, name_small, ready_type}

-- ---- terms

abbrev pub DesignatedRuns : Designated → Type 0
DesignatedRuns (entity n main) = Unit {0}
DesignatedRuns (predeclared p) = Unit {0}
DesignatedRuns (through v) = Runs v

abbrev pub TermRuns : Term → Type 0
TermRuns (object p) = PlaceRuns p
TermRuns (result v) = Runs v
TermRuns (designator line d type) = DesignatedRuns d

-- what has types of the language, and runs
pub record TermIs (term : Term) : Type 0 where
  pub has : TermHas term
  pub runs : TermRuns term

pub record ValueIs (v : Value) : Type 0 where
  pub has : HasTypes v
  pub runs : Runs v

abbrev pub WrittenIs : Written → Type 0
WrittenIs w = ValueIs w.value

pub term_is : {I J : Known → Type 0} {R : Typing Term} → Sound I TermHas R → Sound J TermRuns R → Sound (Both I J) TermIs R
term_is h r = record {
  sound = λ x k l g b.
      let p = h.sound x k l g b.first in
      let q = r.sound x k l g b.second in
      (record { has = p.0; runs = q.0 }, record { first = p.1; second = q.1 });
}

pub value_is : {I J : Known → Type 0} {R : Typing Value} → Sound I HasTypes R → Sound J Runs R → Sound (Both I J) ValueIs R
value_is h r = record {
  sound = λ x k l g b.
      let p = h.sound x k l g b.first in
      let q = r.sound x k l g b.second in
      (record { has = p.0; runs = q.0 }, record { first = p.1; second = q.1 });
}

runs_designated : {J : Known → Type 0} (line : ℕ) (d : Designated) (type : CType) → DesignatedRuns d → Sound J Runs (IsDesignated line d type)
unfolding Runs
runs_designated line (entity n true) type h = sound_never
runs_designated line (entity n false) type h = sound_is tt
runs_designated line (predeclared p) type h = sound_never
runs_designated line (through v) type h = sound_is h

runs_valued : {J : Known → Type 0} (term : Term) → TermRuns term → Sound J Runs (IsValueOfTerm term)
runs_valued (object p) h = sound_is (value_at_runs p h)
runs_valued (result v) h = sound_is h
runs_valued (designator line d type) h = runs_designated line d type h

pub written_is : {I J : Known → Type 0} {S : Typing Term} (first : ℕ) → Sound (Both I J) TermIs S → Sound (Both I J) WrittenIs (IsWritten first S)
written_is first h =
    sound_bind h (λ term p. sound_bind (value_is (sound_valued term p.has) (runs_valued term p.runs)) (λ v q. sound_is q))

-- ---- names and texts

linked_runs : (line n : ℕ) (q : Qualifiers) (type : CType) (main : _) → TermRuns (linked_term line n (record { qualifiers = q; type = type }) main)
unfolding Runs
linked_runs line n q void main = tt
linked_runs line n q (integer ty) main = tt
linked_runs line n q (pointer r u) main = tt
linked_runs line n q (array r u m) main = tt
linked_runs line n q (returning r u) main = tt
linked_runs line n q (taking p u) main = tt

pointed_runs : (line : ℕ) (x : Value) (q : Qualifiers) (type : CType) → Runs x → TermRuns (pointed_term line x (record { qualifiers = q; type = type }))
unfolding Runs
pointed_runs line x q void h = h
pointed_runs line x q (integer ty) h = h
pointed_runs line x q (pointer r u) h = h
pointed_runs line x q (array r u m) h = h
pointed_runs line x q (returning r u) h = h
pointed_runs line x q (taking p u) h = h

runs_meant : (f : Frame) (line : ℕ) (m : Option Meaning) → IsSmallIf m → Sound (Ready f) TermRuns (IsMeant line m)
unfolding Runs
runs_meant f line None h = sound_never
runs_meant f line (Some (known.local n)) h = sound_asks (λ k r. tt)
runs_meant f line (Some (known.linked n type)) h =
    sound_bind (sound_makes (λ k r. record { scopes = r.scopes; room = r.room; linkage = r.linkage }))
    (λ u p. sound_asks (λ k r. linked_runs line n type.qualifiers type.type _))
runs_meant f line (Some (known.predeclared p)) h = sound_is tt
runs_meant f line (Some (known.constant n)) h = sound_is h

pub runs_named : (f : Frame) (line : ℕ) (bytes : Bytes) → Sound (Ready f) TermRuns (IsNamed line bytes)
runs_named f line bytes = sound_bind {P = IsSmallIf} (sound_asks (name_small f bytes)) (λ m h. runs_meant f line m h)

-- a text is counted, and stands behind those that are there
text_known : (f : Frame) (line : ℕ) (bytes : Bytes) (k : Known) → length bytes < most_cells
    → k.static_cells + suc (length bytes) ≤ most_static_cells → Ready f k → Ready f (known.with_text line bytes (known.with_cells (suc (length bytes)) k))
text_known f line bytes k fits most r = record {
  scopes = r.scopes;
  room = record {
    functions = r.room.functions;
    texts = each_append TextHasCells k.texts _ r.room.texts (omega (arith, fits), tt);
    room =
        let before = r.room.room in
        let more = length-append k.texts (record { line = line; bytes = bytes } ∷ []) in
        omega (arith, before, more);
    most = most;
    small = r.room.small;
  };
  linkage = r.linkage;
}

pub runs_text : (f : Frame) (line : ℕ) (bytes : Bytes) → Sound (Ready f) TermRuns (IsText line bytes)
unfolding Runs
runs_text f line bytes = record {
  sound = λ x k l h r.
      let fits = h.first.0 in
      let counting = h.second.first in
      let most = subst (λ m. m.static_cells + suc (length bytes) ≤ most_static_cells) h.first.1 counting.first.0 in
      let counted = counting.second ∙ ap (known.with_cells (suc (length bytes))) (counting.first.1 ∙ h.first.1) in
      let asked = h.second.second in
      let made = asked.second in
      let behind = made.second.1 ∙ made.first ∙ ap (known.with_text line bytes) (asked.first.1 ∙ counted) in
      let ready = text_known f line bytes k fits most r in
      let number = asked.first.0 ∙ ap (λ m. length m.texts) counted in (
        subst TermRuns (sym made.second.0) (few asked.of (length k.texts) k.static_cells number r.room.room r.room.most),
        subst (Ready f) (sym behind) ready,
      );
}
  where
    few : (n m cells : ℕ) → n ≡ m → f.statics + m ≤ cells → cells ≤ most_static_cells → n ≤ 1048576
    few n m cells e h k = omega (arith, e, h, k)

-- ---- operators

pub runs_indexed : {J : Known → Type 0} (line at : ℕ) (a b : Written) → WrittenIs a → WrittenIs b → Sound J TermRuns (IsIndexed line at a b)
runs_indexed line at a b h k =
    sound_bind sound_such_as (λ form p. sound_is (element_runs line at form a b p (type_is a.value h.has) (type_is b.value k.has) h.runs k.runs))

pub runs_indirect : {J : Known → Type 0} (line : ℕ) (a : Written) → WrittenIs a → Sound J TermRuns (IsIndirect line a)
runs_indirect line a h =
    sound_bind sound_such_as (λ to p. sound_is (pointed_runs line a.value to.qualifiers to.type h.runs))

runs_marked : (f : Frame) (node : PlaceNode) → Sound (Ready f) Any (IsMarked node)
runs_marked f (t.local n) = sound_makes (λ k r. record { scopes = r.scopes; room = r.room; linkage = r.linkage })
runs_marked f (t.static n) = sound_is tt
runs_marked f (t.text n) = sound_is tt
runs_marked f (t.pointed v) = sound_is tt
runs_marked f (t.element at pointer_first a b) = sound_is tt

pub runs_address : (f : Frame) (line : ℕ) (term : Term) → TermRuns term → Sound (Ready f) TermRuns (IsAddress line term)
unfolding Runs
runs_address f line (object (place first type node)) h = sound_bind (runs_marked f node) (λ u p. sound_is h)
runs_address f line (result v) h = sound_never
runs_address f line (designator first d type) h = sound_bind (runs_designated first d type h) (λ v p. sound_is p)

pub runs_opposite : {J : Known → Type 0} (line : ℕ) (a : Written) → WrittenIs a → Sound J TermRuns (IsOpposite line a)
runs_opposite line a h = sound_bind sound_such_as (λ ty p. sound_is (negated_runs line a h.runs))

pub runs_promoted : {J : Known → Type 0} (line : ℕ) (a : Written) → WrittenIs a → Sound J TermRuns (IsPromoted line a)
runs_promoted line a h = sound_bind sound_such_as (λ ty p. sound_is (converted_runs ty a h.runs))

pub runs_negative : {J : Known → Type 0} (line : ℕ) (a : Written) → WrittenIs a → Sound J TermRuns (IsNegative line a)
runs_negative line a h =
    sound_bind sound_such_as (λ ty p. sound_is (minus_runs line ty a (subst IsPromotedTy (sym p.1) (promoted_is (ty_of (written_type a)))) h.runs))

pub runs_complemented : {J : Known → Type 0} (line : ℕ) (a : Written) → WrittenIs a → Sound J TermRuns (IsComplement line a)
runs_complemented line a h =
    sound_bind sound_such_as (λ ty p. sound_is (complement_runs line ty a (subst IsPromotedTy (sym p.1) (promoted_is (ty_of (written_type a)))) h.runs))

pub runs_computed : {J : Known → Type 0} (line : ℕ) (op : Op) (at : ℕ) (a b : Written) → WrittenIs a → WrittenIs b
    → Sound J TermRuns (IsComputed line op at a b)
runs_computed line op at a b h k =
    sound_bind sound_such_as (λ form p. sound_is (binary_runs at a b (type_is a.value h.has) (type_is b.value k.has) h.runs k.runs line op form p))

runs_tested : {J : Known → Type 0} (a b : Written) → Sound J Any (AreTested a b)
runs_tested a b = sound_bind sound_such_as (λ u p. sound_bind sound_such_as (λ u' p'. sound_is tt))

pub runs_conjoined : {J : Known → Type 0} (line : ℕ) (a b : Written) → WrittenIs a → WrittenIs b → Sound J TermRuns (IsConjunction line a b)
unfolding Runs
runs_conjoined line a b h k = sound_bind (runs_tested a b) (λ u p. sound_is (h.runs, k.runs))

pub runs_disjoined : {J : Known → Type 0} (line : ℕ) (a b : Written) → WrittenIs a → WrittenIs b → Sound J TermRuns (IsDisjunction line a b)
unfolding Runs
runs_disjoined line a b h k = sound_bind (runs_tested a b) (λ u p. sound_is (h.runs, k.runs))

pub runs_chosen : {J : Known → Type 0} (line : ℕ) (test a b : Written) → WrittenIs test → WrittenIs a → WrittenIs b
    → Sound J TermRuns (IsChosen line test a b)
runs_chosen line test a b e h k = sound_bind sound_such_as (λ form p. sound_is (choice_runs line form test.value a b e.runs h.runs k.runs))

-- ---- assignments

-- the left side of an assignment: what it holds is read from it
abbrev pub PlaceIfIs : Value → Option Place → Type 0
PlaceIfIs old None = Unit {0}
PlaceIfIs old (Some p) = PlaceHasTypes p × PlaceRuns p × (old ≡ value_at p)

abbrev pub TargetIs : Target → Type 0
TargetIs target = PlaceIfIs target.old target.lvalue

pub target_has : (target : Target) → TargetIs target → TargetHas target
target_has target h = by target.lvalue h
  where
    by : (p : Option Place) → PlaceIfIs target.old p → TargetHas (record { old = target.old; lvalue = p })
    by None k = tt
    by (Some p) k = k.0

pub is_target : {J : Known → Type 0} (term : Term) → TermIs term → Sound J TargetIs (IsTarget term)
is_target (object p) h = sound_is (h.has, h.runs, refl)
is_target (result v) h = sound_is tt
is_target (designator line d type) h = sound_bind (runs_designated line d type h.runs) (λ v p. sound_is tt)

pub runs_assigned : {J : Known → Type 0} (line : ℕ) (target : Target) (a : Written) → TargetIs target → WrittenIs a
    → Sound J TermRuns (IsAssigned line target a)
runs_assigned line target a h k =
    sound_bind sound_such_as (λ form u. sound_bind sound_such_as (λ p e.
    let place : PlaceIfIs target.old (Some p) = subst (PlaceIfIs target.old) e h in
    sound_is (assigned_runs line form p a place.1 k.runs)))

-- a modifiable lvalue that holds a pointer is one of a pointer's type
scale_at : (line : ℕ) (q : Qualifiers) (type : CType) (node : PlaceNode) → IsTrue (is_scalar type && not q.is_const)
    → IsTrue (is_complete_pointer (type_of (value_at (place line (record { qualifiers = q; type = type }) node)))) → IsOfLanguage type → HasScale type
scale_at line q void node m c l = absurd cc
scale_at line q (integer ty) node m c l = absurd cc
scale_at line q (pointer r u) node m c l = has_scale (pointer r u) c l
scale_at line q (array r u n) node m c l = absurd cc
scale_at line q (returning r u) node m c l = absurd cc
scale_at line q (taking p u) node m c l = absurd cc

place_scale : (p : Place) → PlaceHasTypes p → IsTrue (is_modifiable (place_type p)) → IsTrue (is_complete_pointer (type_of (value_at p)))
    → HasScale (place_type p).type
place_scale (place line type node) h m c =
    scale_at line type.qualifiers type.type node m c (place_type_is (place line type node) h).of_language

pub runs_changed : {J : Known → Type 0} (line : ℕ) (c : Change) (target : Target) (a : Written) → TargetIs target → WrittenIs a
    → Sound J TermRuns (IsChanged line c target a)
runs_changed line c target a h k =
    sound_bind sound_such_as (λ form u. sound_bind sound_such_as (λ p e.
    let place : PlaceIfIs target.old (Some p) = subst (PlaceIfIs target.old) e h in
    let modifiable : IsTrue (is_modifiable (place_type p)) = subst (λ l. IsTrue (may_change (record { old = target.old; lvalue = l }))) e u.0 in
    sound_is (changed_runs c p (type_of target.old) a place.1 k.runs line c.op form
    (λ pointer. place_scale p place.0 modifiable (subst (λ v. IsTrue (is_complete_pointer (type_of v))) place.2 pointer)) u.1)))

-- ---- casts and sizes

pub runs_cast : {J : Known → Type 0} (line : ℕ) (type : Qualified) (a : Written) → WrittenIs a → Sound J TermRuns (IsCast line type a)
runs_cast line type a h = sound_bind sound_such_as (λ to p. sound_is (cast_runs line to a h.runs))

pub runs_sized : {J : Known → Type 0} (line : ℕ) (of : CType) → IsOfLanguage of → Sound J TermRuns (IsSized line of)
unfolding Runs
runs_sized line of l = sound_bind sound_such_as (λ type p. sound_is (size_is_value of l))

-- ---- calls

pub runs_called : {J : Known → Type 0} (term : Term) → TermRuns term → Sound J TermRuns (IsCalled term)
runs_called (object p) h = sound_is (value_at_runs p h)
runs_called (result v) h = sound_is h
runs_called (designator line (entity n true) type) h = sound_never
runs_called (designator line (entity n false) type) h = sound_is h
runs_called (designator line (predeclared p) type) h = sound_is h
runs_called (designator line (through v) type) h = sound_is h

runs_passed : {J : Known → Type 0} (ps : List CType) (xs : List Written) → Each WrittenIs xs → Sound J AllRun (ArePassed ps xs)
unfolding Runs
runs_passed [] [] h = sound_is tt
runs_passed [] (a ∷ xs) h = sound_never
runs_passed (p ∷ ps) [] h = sound_never
runs_passed (p ∷ ps) (a ∷ xs) h =
    sound_bind sound_such_as (λ form u. sound_bind (runs_passed ps xs h.1) (λ rest q. sound_is (converted_by_runs form p a h.0.runs, q)))

pub runs_counted : (f : Frame) (type : CType) → Sound (Ready f) Any (IsCounted type)
runs_counted f type = sound_bind (ready_type f type) (λ u p. sound_holds)

runs_call_through : (f : Frame) (line at : ℕ) (v : Value) (xs : List Written) → Runs v → Each WrittenIs xs
    → Sound (Ready f) TermRuns (IsCallThrough line at v xs)
unfolding Runs
runs_call_through f line at v xs h k =
    sound_bind sound_such_as (λ type l. sound_bind (runs_passed (parameters_of type) xs k) (λ vs p.
    sound_bind (runs_counted f type) (λ u q. sound_is (h, p))))

first_runs : (line : ℕ) (vs : Values) → AllRun vs → Runs (first_argument line vs)
unfolding Runs
first_runs line no_values h = zero_is_value
  where
    zero_is_value : IsValue 0
    zero_is_value = search rules
first_runs line (first_value v rest) h = h.0

predeclared_runs : (p : Predeclared) (at : ℕ) (vs : Values) → AllRun vs → NodeRuns (predeclared_node p at vs)
unfolding Runs
predeclared_runs the_putchar at vs h = first_runs at vs h
predeclared_runs the_getchar at vs h = tt
predeclared_runs the_exit at vs h = first_runs at vs h

pub runs_call : (f : Frame) (line at : ℕ) (term : Term) (xs : List Written) → TermRuns term → Each WrittenIs xs
    → Sound (Ready f) TermRuns (IsCall line at term xs)
unfolding Runs
runs_call f line at (object p) xs h k = runs_call_through f line at (value_at p) xs (value_at_runs p h) k
runs_call f line at (result v) xs h k = runs_call_through f line at v xs h k
runs_call f line at (designator first (entity n main) type) xs h k =
    sound_bind (runs_passed (parameters_of type) xs k) (λ vs p. sound_is p)
runs_call f line at (designator first (predeclared p) type) xs h k =
    sound_bind (runs_passed (parameters_of type) xs k) (λ vs q. sound_is (predeclared_runs p at vs q))
runs_call f line at (designator first (through v) type) xs h k = runs_call_through f line at v xs h k

-- ---- lists

pub all_typed : (xs : List Written) → Each WrittenIs xs → Each IsTyped xs
all_typed [] h = tt
all_typed (x ∷ xs) h = (h.0.has, all_typed xs h.1)

pub all_run : (xs : List Written) → Each WrittenIs xs → Each (λ w. Runs w.value) xs
all_run [] h = tt
all_run (x ∷ xs) h = (h.0.runs, all_run xs h.1)
