-- Assignments, casts, sizes and calls have types of the language.
use Rattle.std.proofs.Common.{ℕ, true, false, List, [], ◌∷◌, sym, subst, Option, Some, None, inl, inr}
use Rattle.c_types.specs.Types.{CType, Qualified, parameters_of}
use Rattle.c_typed.specs.Typed.{Place, Value, Values, no_values, first_value, type_of}
use Rattle.typing_rules.specs.Known.{Known, Predeclared, the_putchar, the_getchar, the_exit}
use Rattle.typing_rules.specs.Terms.{Term, object, result, designator, entity, predeclared, through, Written, Target, Change, value_at, first_argument, predeclared_node}
use Rattle.typing_rules.specs.Constraints.{CastsTo}
use Rattle.typing_rules.specs.TypingParts.{IsTarget, IsAssigned, IsChanged, IsCast, IsUnvalued, IsSized, IsCalled, ArePassed, IsCounted, IsCallThrough, IsCall}
use Rattle.typing_rules.specs.Laws.{Each}
use Rattle.typing_rules.specs.LanguageTypes.{IsOfLanguage, HasTypes, PlaceHasTypes, NodeHasTypes, AllHaveTypes}
use Rattle.typing_rules.specs.LanguageTerms.{TermHas}
use Rattle.typing_rules.proofs.Sound.{Sound, Any, sound_is, sound_such_as, sound_such, sound_holds, sound_makes, sound_never, sound_bind}
use Rattle.typing_rules.proofs.LanguageTypesMade.{target_is, result_is, parameters_are}
use Rattle.typing_rules.proofs.LanguageNodesMade.{IsTyped, integer_is, void_is, type_is, place_type_is, value_at_has, converted_by_has, changed_has, assigned_has, cast_has}
use Rattle.typing_rules.proofs.LanguageKnown.{Setting, At, at_type}
use Rattle.typing_rules.proofs.PartsSound.{sound_designated}

-- ---- assignments

abbrev PlaceIfHas : Option Place → Type 0
PlaceIfHas None = Unit {0}
PlaceIfHas (Some p) = PlaceHasTypes p

abbrev pub TargetHas : Target → Type 0
TargetHas target = PlaceIfHas target.lvalue

pub sound_target : {I : Known → Type 0} (term : Term) → TermHas term → Sound I TargetHas (IsTarget term)
sound_target (object p) h = sound_is h
sound_target (result v) h = sound_is tt
sound_target (designator line d type) h = sound_bind (sound_designated line d type h) (λ v p. sound_is tt)

pub sound_assigned : {I : Known → Type 0} (line at : ℕ) (target : Target) (a : Written) → TargetHas target → IsTyped a
    → Sound I TermHas (IsAssigned line target a)
sound_assigned line at target a h k =
    sound_bind sound_such_as (λ form u. sound_bind sound_such_as (λ p e. sound_is (assigned_has line form p a (subst PlaceIfHas e h) k)))

pub sound_changed : {I : Known → Type 0} (line : ℕ) (c : Change) (target : Target) (a : Written) → TargetHas target → IsTyped a
    → Sound I TermHas (IsChanged line c target a)
sound_changed line c target a h k =
    sound_bind sound_such_as (λ form u. sound_bind sound_such_as (λ p e. sound_is (changed_has line c form p a (subst PlaceIfHas e h) k)))

-- ---- casts and sizes

cast_is : (target from t : CType) → CastsTo target from t → IsOfLanguage target → IsOfLanguage t
cast_is target from t (inl p) l = subst IsOfLanguage (sym p.1) void_is
cast_is target from t (inr p) l = subst IsOfLanguage (sym p.2) l

pub sound_cast : {I : Known → Type 0} (line : ℕ) (type : Qualified) (a : Written) → IsOfLanguage type.type → IsTyped a → Sound I TermHas (IsCast line type a)
sound_cast line type a l h = sound_bind sound_such_as (λ to p. sound_is (cast_has line to a (cast_is type.type _ to p l) h))

pub sound_unvalued : {I : Known → Type 0} (term : Term) → TermHas term → Sound I IsOfLanguage (IsUnvalued term)
sound_unvalued (object p) h = sound_is (place_type_is p h).of_language
sound_unvalued (result v) h = sound_is (type_is v h)
sound_unvalued (designator line (entity n main) type) h = sound_is h.of_language
sound_unvalued (designator line (predeclared p) type) h = sound_never
sound_unvalued (designator line (through v) type) h = sound_is h.of_language

pub sound_sized : {I : Known → Type 0} (line : ℕ) (of : CType) → Sound I TermHas (IsSized line of)
unfolding HasTypes
sound_sized line of = sound_bind sound_such_as (λ type p. sound_is (subst IsOfLanguage (sym p.1) (integer_is _), tt))

-- ---- calls

pub sound_called : {I : Known → Type 0} (term : Term) → TermHas term → Sound I TermHas (IsCalled term)
sound_called (object p) h = sound_is (value_at_has p h)
sound_called (result v) h = sound_is h
sound_called (designator line (entity n true) type) h = sound_never
sound_called (designator line (entity n false) type) h = sound_is h
sound_called (designator line (predeclared p) type) h = sound_is h
sound_called (designator line (through v) type) h = sound_is h.has

sound_passed : {I : Known → Type 0} (ps : List CType) (xs : List Written) → Each IsOfLanguage ps → Each IsTyped xs → Sound I AllHaveTypes (ArePassed ps xs)
unfolding HasTypes
sound_passed [] [] l h = sound_is tt
sound_passed [] (a ∷ xs) l h = sound_never
sound_passed (p ∷ ps) [] l h = sound_never
sound_passed (p ∷ ps) (a ∷ xs) l h =
    sound_bind sound_such_as (λ form u. sound_bind (sound_passed ps xs l.1 h.1) (λ rest q. sound_is (converted_by_has form p a l.0 h.0, q)))

sound_counted_type : (s : Setting) (type : CType) → Sound (At s) Any (IsCounted type)
sound_counted_type s type = sound_bind (sound_makes (at_type s type)) (λ u p. sound_holds)

sound_call_through : (s : Setting) (line at : ℕ) (v : Value) (xs : List Written) → HasTypes v → Each IsTyped xs
    → Sound (At s) TermHas (IsCallThrough line at v xs)
unfolding HasTypes
sound_call_through s line at v xs h k =
    sound_bind {P = IsOfLanguage} (sound_such (λ type p. subst IsOfLanguage (sym p.1) (target_is (type_of v) (type_is v h)))) (λ type l.
    sound_bind (sound_passed (parameters_of type) xs (parameters_are type l) k) (λ vs p.
    sound_bind (sound_counted_type s type) (λ u q. sound_is (result_is type l, (h, p)))))

first_has : (line : ℕ) (vs : Values) → AllHaveTypes vs → HasTypes (first_argument line vs)
unfolding HasTypes
first_has line no_values h = (integer_is _, tt)
first_has line (first_value v rest) h = h.0

predeclared_node_has : (p : Predeclared) (at : ℕ) (vs : Values) → AllHaveTypes vs → NodeHasTypes (predeclared_node p at vs)
unfolding HasTypes
predeclared_node_has the_putchar at vs h = first_has at vs h
predeclared_node_has the_getchar at vs h = tt
predeclared_node_has the_exit at vs h = first_has at vs h

pub sound_call : (s : Setting) (line at : ℕ) (term : Term) (xs : List Written) → TermHas term → Each IsTyped xs → Sound (At s) TermHas (IsCall line at term xs)
unfolding HasTypes
sound_call s line at (object p) xs h k = sound_call_through s line at (value_at p) xs (value_at_has p h) k
sound_call s line at (result v) xs h k = sound_call_through s line at v xs h k
sound_call s line at (designator first (entity n main) type) xs h k =
    sound_bind (sound_passed (parameters_of type) xs (parameters_are type h.of_language) k) (λ vs p. sound_is (result_is type h.of_language, p))
sound_call s line at (designator first (predeclared p) type) xs h k =
    sound_bind (sound_passed (parameters_of type) xs (parameters_are type h.of_language) k)
    (λ vs q. sound_is (result_is type h.of_language, predeclared_node_has p at vs q))
sound_call s line at (designator first (through v) type) xs h k = sound_call_through s line at v xs h.has k
