-- What a declarator derives, part by part.
use Rattle.std.proofs.Common.{◌≡◌, ℕ, zero, suc, ◌-◌, ◌<◌, ◌≤◌, Bool as Test, true, false, not, ◌||◌, take, length-drop, if◌then◌else◌, nat_le, List, [], ◌∷◌, map, length, drop, get_or, Option, Some, None, Result, Ok, Err, refl, sym, ap, ◌∙◌, subst, arith, inl, inr}
use Rattle.std.proofs.Math.Seq.{drop-nil}
use Rattle.std.proofs.lemmas.List.{length-map}
use Rattle.std.proofs.Math.Seq.{take-length}
use Rattle.std.specs.Result.{IfOk}
use Rattle.std.specs.declared.alloc.AllocError.{AllocError}
use Rattle.std.proofs.lemmas.Result.{IfOk-at_ok}
use Rattle.std.proofs.lemmas.Bool.Decides.{nat_tests}
use Rattle.c_types.specs.declared.type_ref.TypeRef.{TypeRef}
use Rattle.c_types.specs.declared.type_ref.QualifiedRef.{QualifiedRef}
use Rattle.c_types.specs.declared.type_ref.Row.{Row}
use Rattle.c_types.specs.Types.{Qualified, plain, unqualified, is_void, is_function, is_array, is_complete, cells_of, array_of, function_of}
use Rattle.c_types.specs.Table.{type_at, qualified_at, Extends, Stands, StandsFor}
use Rattle.c_types.proofs.Grown.{Extends-refl, Extends-trans}
use Rattle.typing_rules.specs.declared.refusal.TypeRefusal.{TypeRefusal}
use Rattle.typing_rules.specs.declared.refusal.TypeRefusal.TheVariants.{Mismatch, TooLarge}
use Rattle.typing_rules.specs.declared.refusal.Size.TheVariants.{Cells, Params}
use Rattle.typing_rules.specs.Known as known
use Rattle.typing_rules.specs.DeclaratorRules as rule
use Rattle.c_known.specs.declared.local.Local.{Local}
use Rattle.c_known.specs.Views.{local_view}
use Rattle.c_declarators.specs.declared.derivation.Derivation.{Derivation}
use Rattle.c_declarators.specs.declared.derivation.Derivation.TheVariants.{Pointer, Array, Function}
use Rattle.c_declarators.specs.Derivations.{Derives, IsPlain, array_refusal, array_sized, MeansDerivation, AreDerivations}
use Rattle.c_known.specs.Standing.{MeanLocals}

pub qualified-stands : (rows : List Row) (r : QualifiedRef) (t : Qualified) → StandsFor rows r t → qualified_at rows r ≡ t
qualified-stands rows r t h = λ i. record { qualifiers = h.qualifiers i; type = h.type.always rows (Extends-refl rows) i }

le-true : (a b : ℕ) → nat_le a b ≡ true → a ≤ b
le-true a b e = grind (arith, nat_tests)

le-false : (a b : ℕ) → nat_le a b ≡ false → b < a
le-false a b e = grind (arith, nat_tests)

-- ---- arrays

pub array-made : (new : List Row) (at : rule.Lines) (n : Option ℕ) (target : TypeRef) (t u : Qualified) → u ≡ t → (65535 < cells_of (array_of u n) → ⊥) → Stands new target (array_of u n)
    → Derives new (Ok (record { qualifiers = plain; target = target })) (array_sized at n t)
array-made new at n target t u same few stands = subst (λ v. Derives new (Ok (record { qualifiers = plain; target = target })) (array_sized at n v)) same (by (nat_le (cells_of (array_of u n)) 65535) refl)
  where
    by : (b : Test) → nat_le (cells_of (array_of u n)) 65535 ≡ b
        → Derives new (Ok (record { qualifiers = plain; target = target })) (if b then Ok (unqualified (array_of u n)) else Err (TooLarge at.lengths Cells))
    by true e = record { qualifiers = refl; type = stands }
    by false e = absurd (few (le-false (cells_of (array_of u n)) 65535 e))

pub array-large : (new : List Row) (at : rule.Lines) (n : Option ℕ) (t u : Qualified) → u ≡ t → 65535 < cells_of (array_of u n)
    → Derives new (Err (TooLarge at.lengths Cells)) (array_sized at n t)
array-large new at n t u same large = subst (λ v. Derives new (Err (TooLarge at.lengths Cells)) (array_sized at n v)) same (by (nat_le (cells_of (array_of u n)) 65535) refl)
  where
    by : (b : Test) → nat_le (cells_of (array_of u n)) 65535 ≡ b
        → Derives new (Err (TooLarge at.lengths Cells)) (if b then Ok (unqualified (array_of u n)) else Err (TooLarge at.lengths Cells))
    by true e = let h = le-true (cells_of (array_of u n)) 65535 e in absurd (omega arith)
    by false e = inl refl

sized : (at : rule.Lines) (f v c : Test) (r : Result Qualified TypeRefusal)
    → None ≡ (if f then Some (Mismatch at.rules 22) else if v then Some (Mismatch at.rules 14) else if not c then Some (Mismatch at.lengths 15) else None)
    → (if f then Err (Mismatch at.rules 22) else if v then Err (Mismatch at.rules 14) else if not c then Err (Mismatch at.lengths 15) else r) ≡ r
sized at true v c r e = cc
sized at false true c r e = cc
sized at false false true r e = refl
sized at false false false r e = cc

pub arrayed-sized : (at : rule.Lines) (n : Option ℕ) (t : Qualified) → None ≡ array_refusal at t.type → rule.arrayed at false n t ≡ array_sized at n t
arrayed-sized at n t e = sized at (is_function t.type) (is_void t.type) (is_complete t.type) (array_sized at n t) e

-- ---- functions

-- the first of some parameters, and the others
pub record Front (rows : List Row) (p : Local) (ps : List Local) (ls : List known.Local) : Type 0 where
  pub first : known.Local
  pub others : List known.Local
  pub is : ls ≡ first ∷ others
  pub stands : Stands rows p.ty.target first.type.type
  pub mean : MeanLocals rows ps others

head-is : {A : Type 0} (x y : A) (xs ys : List A) → x ∷ xs ≡ y ∷ ys → x ≡ y
head-is x y xs ys e = cc

tail-is : {A : Type 0} (x y : A) (xs ys : List A) → x ∷ xs ≡ y ∷ ys → xs ≡ ys
tail-is x y xs ys e = cc

front-of : (rows : List Row) (q : Local) (qs : List Local) (ls : List known.Local) → MeanLocals rows (q ∷ qs) ls → Front rows q qs ls
front-of rows q qs [] h = let e = h.always rows (Extends-refl rows) in cc
front-of rows q qs (l ∷ ls) h = record {
  first = l;
  others = ls;
  is = refl;
  stands = record { always = λ later more. ap (λ x. x.type.type) (head-is (local_view (type_at later) q) l (map (local_view (type_at later)) qs) ls (h.always later more)) };
  mean = record { always = λ later more. tail-is (local_view (type_at later) q) l (map (local_view (type_at later)) qs) ls (h.always later more) };
}

pub front : (rows : List Row) (ps : List Local) (p : Local) (ls : List known.Local) → 1 ≤ length ps → p ≡ get_or ps 0 p → MeanLocals rows ps ls → Front rows p (drop 1 ps) ls
front rows [] p ls some is h = absurd (omega arith)
front rows (q ∷ qs) p ls some is h = subst (λ x. Front rows x qs ls) (sym is) (front-of rows q qs ls h)

pub rest-of : {A : Type 0} (xs : List A) → take (length xs - 1) (drop 1 xs) ≡ drop 1 xs
rest-of xs = let e : length xs - 1 ≡ length (drop 1 xs) = omega (arith, length-drop 1 xs) in ap (λ n. take n (drop 1 xs)) e ∙ take-length (drop 1 xs)

pub as-many : (rows : List Row) (ps : List Local) (ls : List known.Local) → MeanLocals rows ps ls → length ps ≡ length ls
as-many rows ps ls h = sym (length-map ps (local_view (type_at rows))) ∙ ap length (h.always rows (Extends-refl rows))

pub function-returned : (new : List Row) (at : rule.Lines) (ls : List known.Local) (t : Qualified) (x : Result QualifiedRef TypeRefusal) (made : Result TypeRef AllocError)
    → (is_array t.type || is_function t.type) ≡ false → length ls ≤ 16 → IsPlain x made → IfOk made (λ r. Stands new r (function_of (map rule.parameter_type ls) t))
    → Derives new x (rule.returned at ls t)
function-returned new at ls t x made result few is stands = by (is_array t.type || is_function t.type) (nat_le (length ls) 16) result refl
  where
    makes : (y : Result QualifiedRef TypeRefusal) → IsPlain y made → Derives new y (Ok (unqualified (function_of (map rule.parameter_type ls) t)))
    makes (Ok r) h = record { qualifiers = h.0; type = IfOk-at_ok (λ z. Stands new z (function_of (map rule.parameter_type ls) t)) h.1 stands }
    makes (Err e) h = h

    by : (b f : Test) → b ≡ false → nat_le (length ls) 16 ≡ f
        → Derives new x (if b then Err (Mismatch at.rules 22) else if f then Ok (unqualified (function_of (map rule.parameter_type ls) t)) else Err (TooLarge at.lengths Params))
    by true f e g = cc
    by false true e g = makes x is
    by false false e g = let h = le-false (length ls) 16 g in absurd (omega arith)

-- ---- parts

pub later-means : (old new : List Row) (x : Derivation) (e : rule.Derivation) → Extends old new → MeansDerivation old x e → MeansDerivation new x e
later-means old new (Pointer q) (rule.to_pointer r) more h = h
later-means old new (Pointer q) (rule.to_array m) more h = h
later-means old new (Pointer q) (rule.to_function ls) more h = h
later-means old new (Array n) (rule.to_pointer r) more h = h
later-means old new (Array n) (rule.to_array m) more h = h
later-means old new (Array n) (rule.to_function ls) more h = h
later-means old new (Function ps) (rule.to_pointer r) more h = h
later-means old new (Function ps) (rule.to_array m) more h = h
later-means old new (Function ps) (rule.to_function ls) more h = record { always = λ later e. h.always later (Extends-trans more e) }

-- the part at a place
pub record At (rows : List Row) (x : Derivation) (i : ℕ) (es : List rule.Derivation) : Type 0 where
  pub part : rule.Derivation
  pub is : drop i es ≡ part ∷ drop (suc i) es
  pub means : MeansDerivation rows x part

pub part-at : (rows : List Row) (xs : List Derivation) (es : List rule.Derivation) (i : ℕ) (x : Derivation) → i < length xs → x ≡ get_or xs i x → AreDerivations rows xs es → At rows x i es
part-at rows [] es i x below is h = absurd (omega arith)
part-at rows (y ∷ ys) [] i x below is h = absurd h
part-at rows (y ∷ ys) (e ∷ es) zero x below is h = record { part = e; is = refl; means = subst (λ z. MeansDerivation rows z e) (sym is) h.0 }
part-at rows (y ∷ ys) (e ∷ es) (suc i) x below is h =
    let r = part-at rows ys es i x (omega arith) is h.1 in record { part = r.part; is = r.is; means = r.means }

pub same-length : (rows : List Row) (xs : List Derivation) (es : List rule.Derivation) → AreDerivations rows xs es → length xs ≡ length es
same-length rows [] [] h = refl
same-length rows [] (e ∷ es) h = absurd h
same-length rows (x ∷ xs) [] h = absurd h
same-length rows (x ∷ xs) (e ∷ es) h = ap suc (same-length rows xs es h.1)

-- ---- one part behind the others

pub derived-step : (mid new : List Row) (t : QualifiedRef) (found : Result Qualified TypeRefusal) (at : rule.Lines) (e : rule.Derivation) (x : Result QualifiedRef TypeRefusal)
    → Derives mid (Ok t) found → ((w : Qualified) → StandsFor mid t w → Derives new x (rule.derived_by at false e w)) → Derives new x (rule.derived_from found at false e)
derived-step mid new t (Ok w) at e x h next = next w h
derived-step mid new t (Err refusal) at e x h next = absurd h

refused-front : (new : List Row) (told : TypeRefusal) (found : Result Qualified TypeRefusal) (at : rule.Lines) (e : rule.Derivation)
    → Derives new (Err told) found → Derives new (Err told) (rule.derived_from found at false e)
refused-front new told (Ok w) at e h = wanting (rule.derived_by at false e w)
  where
    wanting : (r : Result Qualified TypeRefusal) → Derives new (Err told) r
    wanting (Ok v) = h
    wanting (Err refusal) = inr h
refused-front new told (Err refusal) at e h = h

-- what a part behind refuses, the whole refuses
pub refused-whole : (new : List Row) (told : TypeRefusal) (at : rule.Lines) (u : Qualified) (es : List rule.Derivation) (i : ℕ)
    → Derives new (Err told) (rule.derived at false u (drop i es)) → Derives new (Err told) (rule.derived at false u es)
refused-whole new told at u [] i h = subst (λ ds. Derives new (Err told) (rule.derived at false u ds)) (drop-nil i) h
refused-whole new told at u (e ∷ es) zero h = h
refused-whole new told at u (e ∷ es) (suc i) h = refused-front new told (rule.derived at false u es) at e (refused-whole new told at u es i h)

-- a part is derived behind those that were
pub outward : (old mid new : List Row) (at : rule.Lines) (xs : List Derivation) (es : List rule.Derivation) (i n m : ℕ) (x : Derivation) (u : Qualified) (t : QualifiedRef)
    (made : Result QualifiedRef TypeRefusal)
    → i < length xs → n ≡ suc i → m ≡ i → x ≡ get_or xs i x → AreDerivations old xs es → Extends old mid
    → Derives mid (Ok t) (rule.derived at false u (drop n es))
    → ((e : rule.Derivation) → MeansDerivation mid x e → (w : Qualified) → StandsFor mid t w → Derives new made (rule.derived_by at false e w))
    → Derives new made (rule.derived at false u (drop m es))
outward old mid new at xs es i n m x u t made below n-is m-is is means grown before next =
    let a = part-at old xs es i x below is means in
    let behind = subst (λ k. Derives mid (Ok t) (rule.derived at false u (drop k es))) n-is before in
    let step = derived-step mid new t (rule.derived at false u (drop (suc i) es)) at a.part made behind (next a.part (later-means old mid x a.part grown a.means)) in
    subst (λ ds. Derives new made (rule.derived at false u ds)) (sym a.is ∙ ap (λ k. drop k es) (sym m-is)) step

-- ---- a parameter's own type

-- what is derived is adjusted
pub adjusted-step : (mid new : List Row) (r : QualifiedRef) (found : Result Qualified TypeRefusal) (at : rule.Lines) (made : Result QualifiedRef TypeRefusal)
    → Derives mid (Ok r) found → ((w : Qualified) → StandsFor mid r w → Derives new made (rule.parameter_of at (Ok w))) → Derives new made (rule.parameter_of at found)
adjusted-step mid new r (Ok w) at made h next = next w h
adjusted-step mid new r (Err refusal) at made h next = absurd h

pub adjusted-refused : (new : List Row) (told : TypeRefusal) (found : Result Qualified TypeRefusal) (at : rule.Lines) → Derives new (Err told) found → Derives new (Err told) (rule.parameter_of at found)
adjusted-refused new told (Ok w) at h = wanting (rule.parameter_of at (Ok w))
  where
    wanting : (r : Result Qualified TypeRefusal) → Derives new (Err told) r
    wanting (Ok v) = h
    wanting (Err refusal) = inr h
adjusted-refused new told (Err refusal) at h = h

-- the part nearest to the name, and those behind it
pub record First (rows : List Row) (x : Derivation) (xs : List Derivation) (es : List rule.Derivation) : Type 0 where
  pub part : rule.Derivation
  pub others : List rule.Derivation
  pub is : es ≡ part ∷ others
  pub means : MeansDerivation rows x part
  pub behind : AreDerivations rows xs others

pub first-part : (rows : List Row) (xs : List Derivation) (es : List rule.Derivation) (x : Derivation) → 1 ≤ length xs → x ≡ get_or xs 0 x → AreDerivations rows xs es → First rows x (drop 1 xs) es
first-part rows [] es x some is h = absurd (omega arith)
first-part rows (y ∷ ys) [] x some is h = absurd h
first-part rows (y ∷ ys) (e ∷ es) x some is h =
    record { part = e; others = es; is = refl; means = subst (λ z. MeansDerivation rows z e) (sym is) h.0; behind = h.1 }

pub nearest-step : (mid new : List Row) (r : QualifiedRef) (found : Result Qualified TypeRefusal) (at : rule.Lines) (e : rule.Derivation) (made : Result QualifiedRef TypeRefusal)
    → Derives mid (Ok r) found → ((w : Qualified) → StandsFor mid r w → Derives new made (rule.parameter_of at (rule.derived_by at true e w)))
    → Derives new made (rule.parameter_of at (rule.derived_from found at true e))
nearest-step mid new r (Ok w) at e made h next = next w h
nearest-step mid new r (Err refusal) at e made h next = absurd h
