-- How what is given along a path through a function makes what it gives.
use Rattle.std.proofs.Common.{◌≡◌, List, [], ◌∷◌, Some, None, Result, Ok, Err, refl, sym, ◌∙◌, ap, subst}
use Rattle.std.specs.Result.{IsErrAnd}
use Rattle.std.proofs.lemmas.Result.{err_from_is_err_and}
use Rattle.c_types.specs.declared.type_ref.Row.{Row}
use Rattle.c_types.specs.Table.{Extends, Stands, StandsFor}
use Rattle.c_types.specs.declared.type_ref.QualifiedRef.{QualifiedRef}
use Rattle.c_types.specs.declared.type_ref.TypeRef.{TypeRef}
use Rattle.c_types.specs.Types.{CType, Qualified}
use Rattle.c_types.proofs.Grown.{Extends-trans}
use Rattle.typing_rules.specs.declared.refusal.TypeRefusal.{TypeRefusal}
use Rattle.typing_rules.specs.Checking.{Checked, Checking, and_then, ◌>>=◌}
use Rattle.typing_rules.specs.Terms as terms
use Rattle.c_typed.specs.Typed as tree
use Rattle.c_typed.specs.declared.value.Value as v
use Rattle.c_typed.specs.declared.value.Place as p
use Rattle.c_values.specs.declared.typed.Typed.{Typed}
use Rattle.c_values.specs.declared.typed.Written.{Written}
use Rattle.c_values.specs.declared.typed.Designated.{Designated}
use Rattle.c_values.specs.declared.typed.Designated.TheVariants.{Entity, Predeclared as Outside, Through}
use Rattle.c_values.specs.declared.typed.Term.{Term}
use Rattle.c_values.specs.declared.typed.Term.TheVariants.{Object, Result as Known', Designator}
use Rattle.c_values.specs.declared.typed.Target.{Target}
use Rattle.c_values.specs.Stand.{MeansPlace, MeansTyped, MeansWritten}
use Rattle.c_values.specs.Answers.{MeansTerm, MeansDesignated, MeansTarget, MeansPlaceIf, AreWritten, MeanValues}
use Rattle.c_known.specs.declared.known.Known.{Known}
use Rattle.c_known.specs.Gives.{Standing, GivesAt, Gives}
use Rattle.c_known.proofs.Binding.{bind, told}

-- ---- paths

-- what the exit of a `?` returns
pub exits : {T : Type 0} (r : Result T TypeRefusal) (e : TypeRefusal) → IsErrAnd r (λ y. y ≡ e) → r ≡ Err e
exits r e h = let p = err_from_is_err_and r h in p.1 ∙ ap Err p.2

-- a call gave something, and what comes after it gives the rest
pub step : {X A Y B : Type 0} {M : Standing X A} {N : Standing Y B} {old mid new : Known} {x : X} {r : Result Y TypeRefusal} {m : Checking A} {f : A → Checking B} {w : Checking B}
    → w ≡ (m >>= f) → Gives M old mid (Ok x) m
    → ((a : A) → Extends old.types mid.types → M mid.types x a → Gives N mid new r (f a))
    → Gives N old new r w
step {X} {A} {Y} {B} {M} {N} {old} {mid} {new} {x} {r} {m} {f} {w} e g next =
    subst (Gives N old new r) (sym e) (bind M N old mid new x r m f g next)

-- a call gave a refusal, which the whole returns
pub stop : {X A Y B : Type 0} {M : Standing X A} {N : Standing Y B} {old mid : Known} {r : Result Y TypeRefusal} {e : TypeRefusal} {m : Checking A} (f : A → Checking B) {w : Checking B}
    → w ≡ (m >>= f) → r ≡ Err e → Gives {X = X} {A = A} M old mid (Err e) m → Gives {X = Y} {A = B} N old mid r w
stop {X} {A} {Y} {B} {M} {N} {old} {mid} {r} {e} {m} f {w} is out g =
    subst (λ s. Gives {X = Y} {A = B} N old mid s w) (sym out) (subst (Gives {X = Y} {A = B} N old mid (Err e)) (sym is) (told M N old mid mid e m f g))

pub same : {Y B : Type 0} {N : Standing Y B} {old new : Known} {r : Result Y TypeRefusal} {m w : Checking B} → w ≡ m → Gives N old new r m → Gives N old new r w
same {Y} {B} {N} {old} {new} {r} e g = subst (Gives N old new r) (sym e) g

assoc-at : {A B C : Type 0} (c : Checked A) (f : A → Checking B) (g : B → Checking C) → and_then (and_then c f) g ≡ and_then c (λ a. f a >>= g)
assoc-at (Ok p) f g = refl
assoc-at (Err e) f g = refl

pub assoc : {A B C : Type 0} (m : Checking A) (f : A → Checking B) (g : B → Checking C) → ((m >>= f) >>= g) ≡ (m >>= (λ a. f a >>= g))
assoc m f g = λ i k. assoc-at (m k) f g i

-- ---- later tables

pub stands-later : {old new : List Row} {r : TypeRef} {t : CType} → Extends old new → Stands old r t → Stands new r t
stands-later more s = record { always = λ later l. s.always later (Extends-trans more l) }

pub type-later : {old new : List Row} {r : QualifiedRef} {t : Qualified} → Extends old new → StandsFor old r t → StandsFor new r t
type-later more s = record { qualifiers = s.qualifiers; type = stands-later more s.type }

pub typed-later : {old new : List Row} {x : Typed} {t : tree.Value} → Extends old new → MeansTyped old x t → MeansTyped new x t
typed-later more m = record { value = record { always = λ later l. m.value.always later (Extends-trans more l) }; constant = m.constant }

pub written-later : {old new : List Row} {x : Written} {w : terms.Written} → Extends old new → MeansWritten old x w → MeansWritten new x w
written-later more m = record { first = m.first; typed = typed-later more m.typed }

pub place-later : {old new : List Row} {x : p.Place} {q : tree.Place} → Extends old new → MeansPlace old x q → MeansPlace new x q
place-later more m = record { always = λ later l. m.always later (Extends-trans more l) }

designated-later : {old new : List Row} (x : Designated) (d : terms.Designated) → Extends old new → MeansDesignated old x d → MeansDesignated new x d
designated-later (Entity n m) (terms.entity number is_main) more h = h
designated-later (Entity n m) (terms.predeclared q) more h = h
designated-later (Entity n m) (terms.through pointer) more h = h
designated-later (Outside o) (terms.entity number is_main) more h = h
designated-later (Outside o) (terms.predeclared q) more h = h
designated-later (Outside o) (terms.through pointer) more h = h
designated-later (Through x) (terms.entity number is_main) more h = h
designated-later (Through x) (terms.predeclared q) more h = h
designated-later (Through x) (terms.through pointer) more h = typed-later more h

pub term-later : {old new : List Row} (x : Term) (t : terms.Term) → Extends old new → MeansTerm old x t → MeansTerm new x t
term-later (Object x) (terms.object q) more h = place-later more h
term-later (Object x) (terms.result u) more h = h
term-later (Object x) (terms.designator line of type) more h = h
term-later (Known' x) (terms.object q) more h = h
term-later (Known' x) (terms.result u) more h = typed-later more h
term-later (Known' x) (terms.designator line of type) more h = h
term-later (Designator at x ty) (terms.object q) more h = h
term-later (Designator at x ty) (terms.result u) more h = h
term-later (Designator at x ty) (terms.designator line of type) more h = (h.0, designated-later x of more h.1, stands-later more h.2)

place-if-later : {old new : List Row} (x : _) (q : _) → Extends old new → MeansPlaceIf old x q → MeansPlaceIf new x q
place-if-later None None more h = h
place-if-later None (Some q) more h = h
place-if-later (Some x) None more h = h
place-if-later (Some x) (Some q) more h = place-later more h

pub target-later : {old new : List Row} {x : Target} {t : terms.Target} → Extends old new → MeansTarget old x t → MeansTarget new x t
target-later {old} {new} {x} {t} more m = record { type = stands-later more m.type; place = place-if-later x.place t.lvalue more m.place }

pub all-later : {old new : List Row} (xs : List Written) (ws : List terms.Written) → Extends old new → AreWritten old xs ws → AreWritten new xs ws
all-later [] [] more h = h
all-later [] (w ∷ ws) more h = h
all-later (x ∷ xs) [] more h = h
all-later (x ∷ xs) (w ∷ ws) more h = (written-later more h.0, all-later xs ws more h.1)

-- what a path returns
pub returned : {Y B : Type 0} {N : Standing Y B} {old new : Known} {r s : Result Y TypeRefusal} {w : Checking B} → r ≡ s → Gives {X = Y} {A = B} N old new s w → Gives {X = Y} {A = B} N old new r w
returned {Y} {B} {N} {old} {new} {r} {s} {w} e g = subst (λ z. Gives {X = Y} {A = B} N old new z w) (sym e) g

abbrev pub told-of : {X : Type 0} → Result X TypeRefusal → TypeRefusal → TypeRefusal
told-of (Ok x) e = e
told-of (Err told) e = told

-- one refusal of one result
pub told-is : {X : Type 0} (r s : Result X TypeRefusal) (d : TypeRefusal) → r ≡ s → told-of r d ≡ told-of s d
told-is r s d is = ap (λ z. told-of z d) is

means-at : {X Y A : Type 0} (M : Standing X A) (N : Standing Y A) (old new : Known) (x : X) (y : Y) (c : Checked A) → ((a : A) → M new.types x a → N new.types y a)
    → GivesAt M old new (Ok x) c → GivesAt N old new (Ok y) c
means-at M N old new x y (Ok found) means g = record { grown = g.grown; means = means found.0 g.means; knows = g.knows }
means-at M N old new x y (Err refusal) means g = g

-- what stands for something, as a part of it stands for it
pub means-as : {X Y A : Type 0} (M : Standing X A) (N : Standing Y A) (old new : Known) (x : X) (y : Y) (m : Checking A) → ((a : A) → M new.types x a → N new.types y a)
    → Gives M old new (Ok x) m → Gives N old new (Ok y) m
means-as M N old new x y m means g = record { at = λ k knows. means-at M N old new x y (m k) means (g.at k knows) }

pub values-later : {old new : List Row} {xs : List v.Value} {vs : tree.Values} → Extends old new → MeanValues old xs vs → MeanValues new xs vs
values-later more m = record { always = λ later l. m.always later (Extends-trans more l) }
