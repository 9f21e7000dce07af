-- Static objects are set up one after another.
use Rattle.std.proofs.Common.{◌≡◌, ℕ, zero, suc, ◌+◌, ◌-◌, ◌*◌, ◌/◌, ◌%◌, ◌<◌, ◌≤◌, List, [], ◌∷◌, ◌++◌, length, map, take, replicate, get_or, set, Some, None, Ok, true, false, cond, eqb, leb, refl, sym, ap, ◌∙◌, subst, arith}
use Rattle.std.specs.Prelude.{All, find, ◌==◌, nat_lt, sum_by}
use Rattle.std.proofs.lemmas.Bool.{ne_eqb, eq-eqb, le-ltb, lt-leb}
use Rattle.std.proofs.lemmas.List.{length-take-le, length-append, length-replicate, map-append, take_more, take_all, append_assoc, set_at}
use Rattle.std.proofs.lemmas.List.Sums.{sum_by-cons, sum_by_more_le}
use Rattle.std.proofs.lemmas.List.Elements.{All-take}
use Rattle.std.proofs.lemmas.Nat.{div-mul-add, div-add-mod'}
use Rattle.srmt_base.specs.Objects.{Object, Objects, object_part, live_cells, access_of, written_in, set_up_of, add_of}
use Rattle.srmt_base.specs.declared.statics.Static.{Static}
use Rattle.srmt_base.specs.Statics.{static_cells, static_object, static_objects}
use Rattle.frames.specs.Statics.{IsSound, with_static}

-- objects of lower numbers are not the one of a number, and stay as they are when it is written
not_among : (objects : List Object) (object : Object) (number : ℕ) → All (λ o. o.number < number) objects → object.number ≡ number → find (λ o. o.number == number) (objects ++ object ∷ []) ≡ Some object
not_among [] object number below is = ap (λ b. cond b (Some object) None) (eq-eqb object.number number is)
not_among (first ∷ objects) object number below is =
    let other : eqb first.number number ≡ false = ne_eqb first.number number (λ e. absurd (omega (arith, below 0 first (omega arith)))) in
    ap (λ b. cond b (Some first) (find (λ o. o.number == number) (objects ++ object ∷ []))) other
    ∙ not_among objects object number (λ k d h. below (suc k) d (omega arith)) is

unwritten : (objects : List Object) (pointer value number : ℕ) → All (λ o. o.number < number) objects → object_part pointer ≡ number → map (written_in pointer value) objects ≡ objects
unwritten [] pointer value number below is = refl
unwritten (first ∷ objects) pointer value number below is =
    let other : eqb first.number (object_part pointer) ≡ false = ne_eqb first.number (object_part pointer) (λ e. absurd (omega (arith, below 0 first (omega arith), is))) in
    let rest : map (written_in pointer value) objects ≡ objects = unwritten objects pointer value number (λ k d h. below (suc k) d (omega arith)) is in
    rw (other, rest) refl

-- a value more is set up
set_more : (values : List ℕ) (cells i : ℕ) → i < length values → length values ≤ cells → set (take i values ++ replicate (cells - i) 0) i (get_or values i 0) ≡ take (i + 1) values ++ replicate (cells - (i + 1)) 0
set_more values cells i within fits =
    let e : cells - i ≡ suc (cells - (i + 1)) = omega arith in
    let front : length (take i values) ≡ i = length-take-le i values (omega arith) in
    let next : take (i + 1) values ≡ take i values ++ get_or values i 0 ∷ [] = take_more values i 0 within in
    ap (λ (n : ℕ). set (take i values ++ replicate n 0) i (get_or values i 0)) e
    ∙ set_at (take i values) 0 (replicate (cells - (i + 1)) 0) (get_or values i 0) i front
    ∙ sym (ap (λ (xs : List ℕ). xs ++ replicate (cells - (i + 1)) 0) next ∙ append_assoc (take i values) (get_or values i 0 ∷ []) (replicate (cells - (i + 1)) 0))

cells_long : (values : List ℕ) (cells i : ℕ) → i ≤ length values → length values ≤ cells → length (take i values ++ replicate (cells - i) 0) ≡ cells
cells_long values cells i within fits =
    let a = length-append (take i values) (replicate (cells - i) 0) in
    let b : length (take i values) ≡ i = length-take-le i values within in
    let zeros : List ℕ = replicate (cells - i) 0 in
    let c : length zeros ≡ cells - i = length-replicate (cells - i) 0 in
    omega (arith, a, b, c)

offset_is : (number i : ℕ) → i < 65536 → (number * 65536 + i) % 65536 ≡ i
offset_is number i small =
    let whole = div-add-mod' (number * 65536 + i) 65536 in
    let part : (number * 65536 + i) / 65536 ≡ number = div-mul-add number 65536 i small in
    let e : number * 65536 + (number * 65536 + i) % 65536 ≡ number * 65536 + i = subst (λ (q : ℕ). q * 65536 + (number * 65536 + i) % 65536 ≡ number * 65536 + i) part whole in
    omega (arith, e)

pub set_up_more : (s : Objects) (number : ℕ) (object : Static) (i : ℕ) → 1 ≤ number → All (λ o. o.number < number) s.live → IsSound object → i < 65536 → i < length object.values → set_up_of (with_static s number object i) (number * 65536 + i) (get_or object.values i 0) ≡ Ok (with_static s number object (i + 1))
set_up_more s number object i some below sound small within =
    let p : ℕ = number * 65536 + i in
    let v : ℕ = get_or object.values i 0 in
    let cells : List ℕ = take i object.values ++ replicate (object.cells - i) 0 in
    let o : Object = record { number = number; cells = cells; read_only = object.read_only } in
    let part : (number * 65536 + i) / 65536 ≡ number = div-mul-add number 65536 i small in
    let offset : (number * 65536 + i) % 65536 ≡ i = offset_is number i small in
    let long : length cells ≡ object.cells = cells_long object.values object.cells i (omega arith) sound.values in
    let not_null : eqb number 0 ≡ false = ne_eqb number 0 (λ e. absurd (omega (arith, e, some))) in
    let alive : find (λ x. x.number == number) (s.live ++ o ∷ []) ≡ Some o = not_among s.live o number below refl in
    let inside : leb (length cells) i ≡ false = lt-leb (length cells) i (omega (arith, long, within, sound.values)) in
    let passes : access_of false (with_static s number object i) p ≡ Ok o = rw (part, offset, not_null, alive, inside) refl in
    let same : eqb number number ≡ true = eq-eqb number number refl in
    let more : set cells i v ≡ take (i + 1) object.values ++ replicate (object.cells - (i + 1)) 0 = set_more object.values object.cells i within sound.values in
    let o2 : Object = record { number = number; cells = take (i + 1) object.values ++ replicate (object.cells - (i + 1)) 0; read_only = object.read_only } in
    let this : written_in p v o ≡ o2 = rw (part, offset, same, more) refl in
    let others : map (written_in p v) s.live ≡ s.live = unwritten s.live p v number below part in
    let all : map (written_in p v) (s.live ++ o ∷ []) ≡ s.live ++ o2 ∷ [] = map-append (written_in p v) s.live (o ∷ []) ∙ rw (this, others) refl in
    rw passes (ap (λ (live : List Object). Ok (record s { fresh = number + 1; live = live })) all)

-- a static object begins
pub added : (s : Objects) (number : ℕ) (object : Static) → number ≡ s.fresh → live_cells s + object.cells ≤ s.budget → add_of s number object.cells object.read_only ≡ Ok (with_static s number object 0)
added s number object is room =
    let a : nat_lt number s.fresh ≡ false = le-ltb number s.fresh (omega arith) in
    let b : nat_lt s.budget (live_cells s + object.cells) ≡ false = le-ltb s.budget (live_cells s + object.cells) room in
    let e : object.cells - 0 ≡ object.cells = omega arith in
    rw (a, b, e) refl

-- the objects so far, numbered from a first one on
abbrev pub objects_from : ℕ → List Static → ℕ → Objects
objects_from first statics cells = record { budget = cells; fresh = first + length statics; live = static_objects first statics }

objects_below : (statics : List Static) (number : ℕ) → All (λ o. o.number < number + length statics) (static_objects number statics)
objects_below [] number k d h = absurd (omega arith)
objects_below (x ∷ xs) number zero d h = omega arith
objects_below (x ∷ xs) number (suc k) d h = omega (arith, objects_below xs (number + 1) k d (omega arith))

objects_long : (statics : List Static) (number : ℕ) → All IsSound statics → sum_by (λ (o : Object). length o.cells) (static_objects number statics) ≡ static_cells statics
objects_long [] number sound = refl
objects_long (x ∷ xs) number sound =
    let rest = objects_long xs (number + 1) (λ k d h. sound (suc k) d (omega arith)) in
    let this = sound 0 x (omega arith) in
    let a = length-append x.values (replicate (x.cells - length x.values) 0) in
    let zeros : List ℕ = replicate (x.cells - length x.values) 0 in
    let b : length zeros ≡ x.cells - length x.values = length-replicate (x.cells - length x.values) 0 in
    let long : length (x.values ++ replicate (x.cells - length x.values) 0) ≡ x.cells = omega (arith, a, b, this.values) in
    rw (sum_by-cons, sum_by-cons) (omega (arith, rest, long))

objects_push : (statics : List Static) (number : ℕ) (x : Static) → static_objects number (statics ++ x ∷ []) ≡ static_objects number statics ++ static_object (number + length statics) x ∷ []
objects_push [] number x = let e : number + 0 ≡ number = omega arith in rw e refl
objects_push (y ∷ ys) number x =
    let e : number + 1 + length ys ≡ number + suc (length ys) = omega arith in
    ap (λ (os : List Object). static_object number y ∷ os) (objects_push ys (number + 1) x ∙ ap (λ (n : ℕ). static_objects (number + 1) ys ++ static_object n x ∷ []) e)

-- what the next static object needs
pub record IsNext (s : Objects) (number : ℕ) (object : Static) : Type 0 where
  pub fresh : number ≡ s.fresh
  pub others : All (λ o. o.number < number) s.live
  pub sound : IsSound object
  pub room : live_cells s + object.cells ≤ s.budget

pub next_static : (first : ℕ) (statics : List Static) (cells i : ℕ) (d : Static) → i < length statics → All IsSound statics → static_cells statics ≤ cells → IsNext (objects_from first (take i statics) cells) (first + i) (get_or statics i d)
next_static first statics cells i d within sound room =
    let front : length (take i statics) ≡ i = length-take-le i statics (omega arith) in
    let below : All (λ o. o.number < first + i) (static_objects (first) (take i statics)) =
    subst (λ (n : ℕ). All (λ o. o.number < first + n) (static_objects (first) (take i statics))) front (objects_below (take i statics) (first)) in
    let used = objects_long (take i statics) (first) (All-take IsSound i statics sound) in
    let more = sum_by_more_le (λ (x : Static). x.cells) statics i d within in
    record {
      fresh = omega (arith, front);
      others = below;
      sound = sound i d within;
      room = omega (arith, used, more, room);
    }

pub started_more : (first : ℕ) (statics : List Static) (cells i : ℕ) (d : Static) → i < length statics → with_static (objects_from first (take i statics) cells) (first + i) (get_or statics i d) (length (get_or statics i d).values) ≡ objects_from first (take (i + 1) statics) cells
started_more first statics cells i d within =
    let x : Static = get_or statics i d in
    let front : length (take i statics) ≡ i = length-take-le i statics (omega arith) in
    let next : take (i + 1) statics ≡ take i statics ++ get_or statics i d ∷ [] = take_more statics i d within in
    let push : static_objects (first) (take i statics ++ get_or statics i d ∷ []) ≡ static_objects (first) (take i statics) ++ static_object (first + i) (get_or statics i d) ∷ [] =
    objects_push (take i statics) (first) (get_or statics i d) ∙ ap (λ (n : ℕ). static_objects (first) (take i statics) ++ static_object (first + n) (get_or statics i d) ∷ []) front in
    let whole : take (length (get_or statics i d).values) (get_or statics i d).values ≡ (get_or statics i d).values = take_all (length (get_or statics i d).values) (get_or statics i d).values (omega arith) in
    let len : length (take i statics ++ get_or statics i d ∷ []) ≡ i + 1 = length-append (take i statics) (get_or statics i d ∷ []) ∙ omega (arith, front) in
    let count : first + i + 1 ≡ first + (i + 1) = omega arith in
    rw (next, push, len, whole, count) refl

-- there are no more static objects than cells
pub few_statics : (statics : List Static) → All IsSound statics → length statics ≤ static_cells statics
few_statics [] sound = omega arith
few_statics (x ∷ xs) sound =
    let rest = few_statics xs (λ k d h. sound (suc k) d (omega arith)) in
    let this = sound 0 x (omega arith) in
    rw sum_by-cons (omega (arith, rest, this.some))
