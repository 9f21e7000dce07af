-- Parts of rows, and the activations that they are.
use Rattle.std.proofs.Common.{ℕ, ◌+◌, ◌-◌, ◌*◌, ◌^◌, ◌<◌, ◌≤◌, ◌≡◌, zero, suc, List, [], ◌∷◌, ◌++◌, length, map, take, drop, replicate, get_or, slice_index, set, refl, ap, sym, subst, ◌∙◌, arith}
use Rattle.std.specs.Prelude.{reverse, All}
use Rattle.std.proofs.lemmas.List.{length-take, length-take-le, length-drop, length-append, length-replicate, length-map, length-reverse, length-set, take_all, take_more, take_at, drop_all, append-nil, take-append-drop, map_push, drop-append-le, take-append-le, drop-take, take-take, take-set-le, drop-set-add, reverse-append, append_assoc, drop_at, get_or-take, get_or-drop}
use Rattle.std.proofs.Math.Seq.{take-set-lt}
use Rattle.std.proofs.lemmas.List.Elements.{All-set, All-take, All-append, All-replicate}
use Rattle.srmt_base.specs.declared.budgets.Budgets.{Budgets}
use Rattle.mid_code.specs.Fits.{IsValue, open_count}
use Rattle.mid_code.specs.Machine.{activations, Activation, Opened, given, given_object, passed_close, resumed, with_top}
use Rattle.frames.specs.declared.frames.Line.{Line}
use Rattle.frames.specs.declared.frames.Room.{Room}
use Rattle.frames.specs.declared.frames.Begun.{Begun}
use Rattle.frames.specs.Kept.{activation_in, opened_of, machine_in, AreStacked, AreKept, depths, fresh, pushed, popped}

-- a part of the first n of a row
pub part_take : {A : Type 0} (from long n : ℕ) (xs : List A) → from + long ≤ n → take long (drop from (take n xs)) ≡ take long (drop from xs)
part_take from long n xs h =
    let e : n ≡ from + (n - from) = omega arith in
    ap (λ (k : ℕ). take long (drop from (take k xs))) e ∙ ap (take long) (drop-take from (n - from) xs) ∙ take-take long (n - from) (drop from xs) (omega arith)

-- rows that begin alike have that part alike
pub part_same : {A : Type 0} (from long n : ℕ) (xs ys : List A) → take n xs ≡ take n ys → from + long ≤ n → take long (drop from xs) ≡ take long (drop from ys)
part_same from long n xs ys same h =
    sym (part_take from long n xs h) ∙ ap (λ zs. take long (drop from zs)) same ∙ part_take from long n ys h

pub activation_same : (line : Line) (end top : ℕ) (rs rs2 : List ℕ) (os os2 : List Begun) → take end rs2 ≡ take end rs → take top os2 ≡ take top os → line.base + line.count ≤ end → line.floor + line.held ≤ top → activation_in rs2 os2 line ≡ activation_in rs os line
activation_same line end top rs rs2 os os2 same_rs same_os a b =
    let e = part_same line.base line.count end rs2 rs same_rs a in
    let f = part_same line.floor line.held top os2 os same_os b in
    rw (e, f) refl

take_less : {A : Type 0} (m n : ℕ) (xs ys : List A) → take n xs ≡ take n ys → m ≤ n → take m xs ≡ take m ys
take_less m n xs ys same h = sym (take-take m n xs h) ∙ ap (take m) same ∙ take-take m n ys h

-- the activations below stay
pub below_same : (lines : List Line) (end top : ℕ) (rs rs2 : List ℕ) (os os2 : List Begun) → take end rs2 ≡ take end rs → take top os2 ≡ take top os → AreStacked end top lines → map (activation_in rs2 os2) lines ≡ map (activation_in rs os) lines
below_same [] end top rs rs2 os os2 same_rs same_os laid = refl
below_same (line ∷ lines) end top rs rs2 os os2 same_rs same_os laid =
    let first = activation_same line end top rs rs2 os os2 same_rs same_os (omega (arith, laid.0)) (omega (arith, laid.1)) in
    let rest : map (activation_in rs2 os2) lines ≡ map (activation_in rs os) lines =
    below_same lines line.base line.floor rs rs2 os os2 (take_less line.base end rs2 rs same_rs (omega (arith, laid.0))) (take_less line.floor top os2 os same_os (omega (arith, laid.1))) laid.3 in
    rw rest (ap (λ (a : Activation). a ∷ map (activation_in rs os) lines) first)

-- an activation's registers are as many as its line says
pub registers_length : (line : Line) (end : ℕ) (rs : List ℕ) → line.base + line.count ≤ length rs → length (take line.count (drop line.base rs)) ≡ line.count
registers_length line end rs h = rw (length-take, length-drop) (omega arith)

-- a register of the newest activation that is written
pub part_set : (from long r v : ℕ) (xs : List ℕ) → r < long → take long (drop from (set xs (from + r) v)) ≡ set (take long (drop from xs)) r v
part_set from long r v xs h = ap (take long) (drop-set-add from xs r v) ∙ take-set-lt long (drop from xs) r v h

-- the newest activation passes its instruction, with a value in a register
pub given-rows : (rs : List ℕ) (os : List Begun) (top : Line) (below : List Line) (budgets : Budgets) (r v : ℕ) → AreStacked (length rs) (length os) (top ∷ reverse below) → r < top.count → machine_in (set rs (top.base + r) v) os (record top { place = top.place + 1 }) below budgets ≡ with_top (given r v (activation_in rs os top)) (machine_in rs os top below budgets)
given-rows rs os top below budgets r v laid h =
    let same : take top.base (set rs (top.base + r) v) ≡ take top.base rs = take-set-le top.base rs (top.base + r) v (omega arith) in
    let low : map (activation_in (set rs (top.base + r) v) os) (reverse below) ≡ map (activation_in rs os) (reverse below) =
    below_same (reverse below) top.base top.floor rs (set rs (top.base + r) v) os os same refl laid.3 in
    let high : take top.count (drop top.base (set rs (top.base + r) v)) ≡ set (take top.count (drop top.base rs)) r v = part_set top.base top.count r v rs h in
    rw (low, high) refl

-- the same where it stands
pub taken-rows : (rs : List ℕ) (os : List Begun) (top : Line) (below : List Line) (budgets : Budgets) (r v : ℕ) → AreStacked (length rs) (length os) (top ∷ reverse below) → r < top.count → machine_in (set rs (top.base + r) v) os top below budgets ≡ with_top (resumed r v (activation_in rs os top)) (machine_in rs os top below budgets)
taken-rows rs os top below budgets r v laid h =
    let same : take top.base (set rs (top.base + r) v) ≡ take top.base rs = take-set-le top.base rs (top.base + r) v (omega arith) in
    let low : map (activation_in (set rs (top.base + r) v) os) (reverse below) ≡ map (activation_in rs os) (reverse below) =
    below_same (reverse below) top.base top.floor rs (set rs (top.base + r) v) os os same refl laid.3 in
    let high : take top.count (drop top.base (set rs (top.base + r) v)) ≡ set (take top.count (drop top.base rs)) r v = part_set top.base top.count r v rs h in
    rw (low, high) refl

-- the open objects with one more, and with one less
objects_more : (os : List Begun) (o : Begun) (floor held : ℕ) → floor + held ≡ length os → reverse (map opened_of (take (held + 1) (drop floor (os ++ o ∷ [])))) ≡ opened_of o ∷ reverse (map opened_of (take held (drop floor os)))
objects_more os o floor held h =
    let d : drop floor (os ++ o ∷ []) ≡ drop floor os ++ o ∷ [] = drop-append-le floor os (o ∷ []) (omega arith) in
    let len : length (drop floor os) ≡ held = rw length-drop (omega arith) in
    let len2 : length (drop floor os ++ o ∷ []) ≡ held + 1 = rw length-append (omega (arith, len)) in
    let t : take (held + 1) (drop floor os ++ o ∷ []) ≡ drop floor os ++ o ∷ [] = take_all (held + 1) (drop floor os ++ o ∷ []) (omega (arith, len2)) in
    let u : take held (drop floor os) ≡ drop floor os = take_all held (drop floor os) (omega (arith, len)) in
    rw (d, t, u, map_push) (reverse-append (map opened_of (drop floor os)) (opened_of o ∷ []))

objects_less : (os : List Begun) (floor held : ℕ) → floor + held ≡ length os → 1 ≤ held → reverse (map opened_of (take (held - 1) (drop floor (take (length os - 1) os)))) ≡ drop 1 (reverse (map opened_of (take held (drop floor os))))
objects_less os floor held h some =
    let zs : List Begun = take held (drop floor os) in
    let d : Begun = record { place = 0; number = 0 } in
    let part = part_take floor (held - 1) (length os - 1) os (omega arith) in
    let len : length (take held (drop floor os)) ≡ held = rw (length-take, length-drop) (omega arith) in
    let e : take (held - 1) (drop floor os) ≡ take (held - 1) (take held (drop floor os)) = sym (take-take (held - 1) held (drop floor os) (omega arith)) in
    let last : take held (drop floor os) ≡ take (held - 1) (take held (drop floor os)) ++ get_or (take held (drop floor os)) (held - 1) d ∷ [] =
    last_of (take held (drop floor os)) held d len some in
    ap (λ (xs : List Begun). reverse (map opened_of xs)) (part ∙ e)
    ∙ sym (ap (λ (xs : List Begun). drop 1 (reverse (map opened_of xs))) last ∙ ap (λ (xs : List Opened). drop 1 (reverse xs)) (map_push opened_of (take (held - 1) (take held (drop floor os))) (get_or (take held (drop floor os)) (held - 1) d))
    ∙ ap (drop 1) (reverse-append (map opened_of (take (held - 1) (take held (drop floor os)))) (opened_of (get_or (take held (drop floor os)) (held - 1) d) ∷ [])))
  where
    last_of : (xs : List Begun) (n : ℕ) (d : Begun) → length xs ≡ n → 1 ≤ n → xs ≡ take (n - 1) xs ++ get_or xs (n - 1) d ∷ []
    last_of xs n d len some =
        let more = take_more xs (n - 1) d (omega arith) in
        let e : n - 1 + 1 ≡ n = omega arith in
        let all : take (n - 1 + 1) xs ≡ xs = take_all (n - 1 + 1) xs (omega arith) in
        sym all ∙ more

-- an object more
pub begun-rows : (rs : List ℕ) (os : List Begun) (top : Line) (below : List Line) (budgets : Budgets) (o : Begun) (r number : ℕ) → AreStacked (length rs) (length os) (top ∷ reverse below) → r < top.count → o.place ≡ top.place → o.number ≡ number → machine_in (set rs (top.base + r) (number * 65536)) (os ++ o ∷ []) (record top { place = top.place + 1; held = top.held + 1 }) below budgets ≡ with_top (given_object r number (activation_in rs os top)) (machine_in rs os top below budgets)
begun-rows rs os top below budgets o r number laid h place is =
    let rs2 : List ℕ = set rs (top.base + r) (number * 65536) in
    let same : take top.base rs2 ≡ take top.base rs = take-set-le top.base rs (top.base + r) (number * 65536) (omega arith) in
    let same_os : take top.floor (os ++ o ∷ []) ≡ take top.floor os = take-append-le top.floor os (o ∷ []) (omega (arith, laid.1)) in
    let low : map (activation_in rs2 (os ++ o ∷ [])) (reverse below) ≡ map (activation_in rs os) (reverse below) =
    below_same (reverse below) top.base top.floor rs rs2 os (os ++ o ∷ []) same same_os laid.3 in
    let high : take top.count (drop top.base rs2) ≡ set (take top.count (drop top.base rs)) r (number * 65536) = part_set top.base top.count r (number * 65536) rs h in
    let more = objects_more os o top.floor top.held laid.1 in
    let zero : number * 65536 ≡ number * 65536 + 0 = omega arith in
    let one : opened_of o ≡ record { place = top.place; number = number } = rw (place, is) refl in
    rw (low, high, more, one, ← zero) refl

-- an object less
pub finished-rows : (rs : List ℕ) (os : List Begun) (top : Line) (below : List Line) (budgets : Budgets) → AreStacked (length rs) (length os) (top ∷ reverse below) → 1 ≤ top.held → machine_in rs (take (length os - 1) os) (record top { place = top.place + 1; held = top.held - 1 }) below budgets ≡ with_top (passed_close (activation_in rs os top)) (machine_in rs os top below budgets)
finished-rows rs os top below budgets laid some =
    let same_os : take top.floor (take (length os - 1) os) ≡ take top.floor os = take-take top.floor (length os - 1) os (omega (arith, laid.1)) in
    let low : map (activation_in rs (take (length os - 1) os)) (reverse below) ≡ map (activation_in rs os) (reverse below) =
    below_same (reverse below) top.base top.floor rs rs os (take (length os - 1) os) refl same_os laid.3 in
    let less = objects_less os top.floor top.held laid.1 some in
    rw (low, less) refl

-- a register of the newest activation lies within its part
pub target_within : (rs : List ℕ) (os : List Begun) (top : Line) (below : List Line) (r : ℕ) → AreStacked (length rs) (length os) (top ∷ reverse below) → r < length (take top.count (drop top.base rs)) → r < top.count
target_within rs os top below r laid h =
    let e = registers_length top (length rs) rs (omega (arith, laid.0)) in
    omega (arith, e)

-- an activation has as many open objects as its line says
pub opened_length : (floor held : ℕ) (os : List Begun) → floor + held ≤ length os → length (reverse (map opened_of (take held (drop floor os)))) ≡ held
opened_length floor held os h = rw (length-reverse, length-map, length-take, length-drop) (omega arith)

-- all open objects are those of the row
held_sum : (lines : List Line) (end top : ℕ) (rs : List ℕ) (os : List Begun) → AreStacked end top lines → top ≤ length os → open_count (map (activation_in rs os) lines) ≡ top
held_sum [] end top rs os laid h = omega (arith, laid.1)
held_sum (line ∷ lines) end top rs os laid h =
    let rest = held_sum lines line.base line.floor rs os laid.3 (omega (arith, laid.1)) in
    let len = opened_length line.floor line.held os (omega (arith, laid.1)) in
    omega (arith, rest, len, laid.1)

pub open_count-rows : (rs : List ℕ) (os : List Begun) (top : Line) (below : List Line) (budgets : Budgets) → AreStacked (length rs) (length os) (top ∷ reverse below) → open_count (activations (machine_in rs os top below budgets)) ≡ length os
open_count-rows rs os top below budgets laid = held_sum (top ∷ reverse below) (length rs) (length os) rs os laid (omega arith)

-- each activation has at most 1,024 registers
rows_fit : (lines : List Line) (end top : ℕ) → AreStacked end top lines → end ≤ 1024 * length lines
rows_fit [] end top laid = omega (arith, laid.0)
rows_fit (line ∷ lines) end top laid =
    let rest = rows_fit lines line.base line.floor laid.3 in
    omega (arith, laid.0, laid.2, rest)

pub registers_fit : (rs : List ℕ) (os : List Begun) (top : Line) (below : List Line) → AreStacked (length rs) (length os) (top ∷ reverse below) → length rs ≤ 1024 * (length below + 1)
registers_fit rs os top below laid =
    let h = rows_fit (top ∷ reverse below) (length rs) (length os) laid in
    let e : length (reverse below) ≡ length below = length-reverse below in
    omega (arith, h, e)

-- what is kept, after an object has begun
pub kept_begun : (room : Room) (rs : List ℕ) (os : List Begun) (top : Line) (below : List Line) (budgets : Budgets) (rc oc lc oc2 i v place : ℕ) (o : Begun) → AreKept room rs os top below budgets rc oc lc → v < 2 ^ 44 → length os < room.objects → oc ≤ oc2 → AreKept room (set rs i v) (os ++ o ∷ []) (record top { place = place; held = top.held + 1 }) below budgets rc oc2 lc
kept_begun room rs os top below budgets rc oc lc oc2 i v place o k small less more =
    let len : length (set rs i v) ≡ length rs = length-set rs i v in
    let len2 : length (os ++ o ∷ []) ≡ length os + 1 = length-append os (o ∷ []) in
    record {
      laid = rw (len, len2) (k.laid.0, omega (arith, k.laid.1), k.laid.2, k.laid.3);
      small = All-set IsValue rs i v small k.small;
      few = k.few;
      bounded = k.bounded;
      object_bound = k.object_bound;
      objects_within = omega (arith, len2);
      registers_fit = k.registers_fit;
      objects_fit = omega (arith, k.objects_fit);
      lines_fit = k.lines_fit;
    }

pub stacked_pop : (end top : ℕ) (line caller : Line) (rest : List Line) → AreStacked end top (line ∷ reverse (rest ++ caller ∷ [])) → AreStacked end top (line ∷ caller ∷ reverse rest)
stacked_pop end top line caller rest laid = subst (λ (ls : List Line). AreStacked end top (line ∷ ls)) (reverse-append rest (caller ∷ [])) laid

pub stacked_push : (end top : ℕ) (line caller : Line) (rest : List Line) → AreStacked end top (line ∷ caller ∷ reverse rest) → AreStacked end top (line ∷ reverse (rest ++ caller ∷ []))
stacked_push end top line caller rest laid = subst (λ (ls : List Line). AreStacked end top (line ∷ ls)) (sym (reverse-append rest (caller ∷ []))) laid

-- and after the newest activation is away
pub kept_popped : (room : Room) (rs : List ℕ) (os : List Begun) (top caller : Line) (rest : List Line) (budgets : Budgets) (rc oc lc : ℕ) → AreKept room rs os top (rest ++ caller ∷ []) budgets rc oc lc → AreKept room (take top.base rs) (take top.floor os) caller rest budgets rc oc lc
kept_popped room rs os top caller rest budgets rc oc lc k =
    let laid = stacked_pop (length rs) (length os) top caller rest k.laid in
    let a : length (take top.base rs) ≡ top.base = length-take-le top.base rs (omega (arith, laid.0)) in
    let b : length (take top.floor os) ≡ top.floor = length-take-le top.floor os (omega (arith, laid.1)) in
    let count : length (rest ++ caller ∷ []) ≡ length rest + 1 = length-append rest (caller ∷ []) in
    record {
      laid = rw (a, b) laid.3;
      small = All-take IsValue top.base rs k.small;
      few = omega (arith, k.few, count);
      bounded = k.bounded;
      object_bound = k.object_bound;
      objects_within = omega (arith, b, laid.1, k.objects_within);
      registers_fit = k.registers_fit;
      objects_fit = k.objects_fit;
      lines_fit = k.lines_fit;
    }

-- and after another one has begun
pub kept_pushed : (room : Room) (rs rs2 : List ℕ) (os : List Begun) (top callee : Line) (below : List Line) (budgets : Budgets) (rc oc lc rc2 lc2 : ℕ) → AreKept room rs os top below budgets rc oc lc → length below + 1 + depths budgets < room.activations → callee.base ≡ length rs → callee.floor ≡ length os → callee.held ≡ 0 → callee.count ≤ 1024 → length rs2 ≡ length rs + callee.count → All IsValue rs2 → rc ≤ rc2 → lc ≤ lc2 → AreKept room rs2 os callee (below ++ top ∷ []) budgets rc2 oc lc2
kept_pushed room rs rs2 os top callee below budgets rc oc lc rc2 lc2 k one base floor none few len small more_rs more_ls =
    let laid = k.laid in
    let size : length (below ++ top ∷ []) ≡ length below + 1 = length-append below (top ∷ []) in
    let on : AreStacked callee.base callee.floor (top ∷ reverse below) = (omega (arith, laid.0), omega (arith, laid.1), omega (arith, laid.2), laid.3) in
    record {
      laid = stacked_push (length rs2) (length os) callee top below (omega arith, omega arith, few, on);
      small = small;
      few = omega (arith, one, size);
      bounded = k.bounded;
      object_bound = k.object_bound;
      objects_within = k.objects_within;
      registers_fit = omega (arith, k.registers_fit);
      objects_fit = k.objects_fit;
      lines_fit = omega (arith, k.lines_fit);
    }

-- the machine after the newest activation is away
pub popped-rows : (rs : List ℕ) (os : List Begun) (top caller : Line) (rest : List Line) (budgets : Budgets) → AreStacked (length rs) (length os) (top ∷ reverse (rest ++ caller ∷ [])) → machine_in (take top.base rs) (take top.floor os) caller rest budgets ≡ popped (activation_in rs os caller) (map (activation_in rs os) (reverse rest)) (machine_in rs os top (rest ++ caller ∷ []) budgets)
popped-rows rs os top caller rest budgets stacked =
    let laid = stacked_pop (length rs) (length os) top caller rest stacked in
    let part = part_take caller.base caller.count top.base rs (omega (arith, laid.3.0)) in
    let opens = part_take caller.floor caller.held top.floor os (omega (arith, laid.3.1)) in
    let same : take caller.base (take top.base rs) ≡ take caller.base rs = take-take caller.base top.base rs (omega (arith, laid.3.0)) in
    let same_os : take caller.floor (take top.floor os) ≡ take caller.floor os = take-take caller.floor top.floor os (omega (arith, laid.3.1)) in
    let low : map (activation_in (take top.base rs) (take top.floor os)) (reverse rest) ≡ map (activation_in rs os) (reverse rest) =
    below_same (reverse rest) caller.base caller.floor rs (take top.base rs) os (take top.floor os) same same_os laid.3.3 in
    rw (low, part, opens) refl

-- the machine after an activation has begun
pub pushed-rows : (rs : List ℕ) (os : List Begun) (top : Line) (below : List Line) (budgets : Budgets) (function count into n : ℕ) (values : List ℕ) → AreStacked (length rs) (length os) (top ∷ reverse below) → n ≡ length values → n ≤ count → machine_in (rs ++ values ++ replicate (count - n) 0) os (record { function = function; into = into; count = count; place = 0; base = length rs; floor = length os; held = 0 }) (below ++ top ∷ []) budgets ≡ pushed (fresh function count values into) (machine_in rs os top below budgets)
pushed-rows rs os top below budgets function count into n values laid many few =
    let zeros : List ℕ = replicate (count - n) 0 in
    let rs2 : List ℕ = rs ++ values ++ zeros in
    let assoc : rs ++ values ++ zeros ≡ rs ++ (values ++ zeros) = append_assoc rs values zeros in
    let len_zeros : length zeros ≡ count - n = length-replicate (count - n) 0 in
    let len : length (values ++ zeros) ≡ count = length-append values zeros ∙ omega (arith, len_zeros, few, many) in
    let high : take count (drop (length rs) (rs ++ values ++ zeros)) ≡ values ++ zeros =
    ap (λ (xs : List ℕ). take count (drop (length rs) xs)) assoc ∙ ap (take count) (drop_at rs (values ++ zeros) (length rs) refl) ∙ take_all count (values ++ zeros) (omega (arith, len)) in
    let same : take (length rs) (rs ++ values ++ zeros) ≡ take (length rs) rs = ap (take (length rs)) assoc ∙ take-append-le (length rs) rs (values ++ zeros) (omega arith) in
    let low : map (activation_in rs2 os) (top ∷ reverse below) ≡ map (activation_in rs os) (top ∷ reverse below) =
    below_same (top ∷ reverse below) (length rs) (length os) rs rs2 os os same refl laid in
    let back : reverse (below ++ top ∷ []) ≡ top ∷ reverse below = reverse-append below (top ∷ []) in
    rw (back, low, high, many) refl

-- the row of registers after an activation has begun
pub pushed-length : (rs values : List ℕ) (count n : ℕ) → n ≡ length values → n ≤ count → length (rs ++ values ++ replicate (count - n) 0) ≡ length rs + count
pushed-length rs values count n many few =
    let zeros : List ℕ = replicate (count - n) 0 in
    let n1 : length (rs ++ values) ≡ length rs + length values = length-append rs values in
    let n2 : length (rs ++ values ++ zeros) ≡ length (rs ++ values) + length zeros = length-append (rs ++ values) zeros in
    let n3 : length zeros ≡ count - n = length-replicate (count - n) 0 in
    omega (arith, n1, n2, n3, few, many)

pub small_pushed : (rs values : List ℕ) (n : ℕ) → All IsValue rs → All IsValue values → All IsValue (rs ++ values ++ replicate n 0)
small_pushed rs values n small each =
    All-append IsValue (rs ++ values) (replicate n 0) (All-append IsValue rs values small each) (All-replicate IsValue n 0 (omega arith))

-- how many activations there are
pub activations-length : (rs : List ℕ) (os : List Begun) (top : Line) (below : List Line) (budgets : Budgets) → length (activations (machine_in rs os top below budgets)) ≡ length below + 1
activations-length rs os top below budgets =
    let mapped = length-map (reverse below) (activation_in rs os) in
    let back = length-reverse below in
    omega (arith, mapped, back)

-- the arguments of a call, as the row has them
pub arguments-row : (rs args : List ℕ) (base count : ℕ) → All (λ r. r < count) args → map (λ r. slice_index rs (base + r)) args ≡ map (λ r. slice_index (take count (drop base rs)) r) args
arguments-row rs [] base count each = refl
arguments-row rs (r ∷ args) base count each =
    let this : get_or (take count (drop base rs)) r 0 ≡ get_or rs (base + r) 0 = get_or-take count (drop base rs) r 0 (each 0 0 (omega arith)) ∙ get_or-drop base rs r 0 in
    let rest = arguments-row rs args base count (λ k d h. each (suc k) d (omega arith)) in
    rw (this, rest) refl

-- they are values
pub small_arguments : (rs args : List ℕ) (base : ℕ) → All IsValue rs → All (λ r. base + r < length rs) args → All IsValue (map (λ r. slice_index rs (base + r)) args)
small_arguments rs [] base small each k d h = absurd (omega arith)
small_arguments rs (r ∷ args) base small each zero d h = small (base + r) 0 (each 0 0 (omega arith))
small_arguments rs (r ∷ args) base small each (suc k) d h = small_arguments rs args base small (λ k d h. each (suc k) d (omega arith)) k d (omega arith)

-- each register that is named lies within the newest activation's part
pub each_within : (rs : List ℕ) (os : List Begun) (top : Line) (below : List Line) (args : List ℕ) → AreStacked (length rs) (length os) (top ∷ reverse below) → All (λ r. r < length (take top.count (drop top.base rs))) args → All (λ r. r < top.count) args
each_within rs os top below args laid each k d h =
    let e = registers_length top (length rs) rs (omega (arith, laid.0)) in
    omega (arith, e, each k d h)

-- what `resize` makes of a row is the row and zeros
pub resized : (rs values xs : List ℕ) (base count to n k : ℕ) → xs ≡ rs ++ values → n ≡ length xs → base ≡ length rs → to ≡ count → length values ≡ k → k ≤ count → take (base + to) xs ++ replicate (base + to - n) 0 ≡ rs ++ values ++ replicate (count - k) 0
resized rs values xs base count to n k is long at same values_long few =
    let len : length (rs ++ values) ≡ length rs + length values = length-append rs values in
    let len2 : length xs ≡ length (rs ++ values) = ap length is in
    let e : base + to - n ≡ count - k = omega (arith, len, len2) in
    let all : take (base + to) xs ≡ xs = take_all (base + to) xs (omega (arith, len, len2)) in
    rw (e, all, is) refl

-- a row of which the part from a place on was handed out and written
pub row_back : (base j n : ℕ) (xs ys zs own : List ℕ) → xs ≡ ys → base ≤ length xs → j ≡ length xs - base → n ≡ length ys → length own ≡ j →
    drop base (take n (take base xs ++ (own ++ drop j (drop base xs)) ++ zs)) ≡ own
row_back base j n xs ys zs own same within count all long =
    let none : drop j (drop base xs) ≡ [] = drop_all j (drop base xs) (omega (arith, length-drop base xs)) in
    let front : length (take base xs) ≡ base = length-take-le base xs within in
    let both : length (take base xs ++ own) ≡ n = length-append (take base xs) own ∙ omega (arith, front, long, ap length same) in
    let nil : own ++ [] ≡ own = append-nil own in
    let cut : take n (take base xs ++ own ++ zs) ≡ take base xs ++ own = take_at (take base xs ++ own) zs n both in
    rw (none, nil, cut) (drop_at (take base xs) own base front)

-- what is kept after the newest activation has gone on by itself
pub kept_ran : (room : Room) (rs rs2 : List ℕ) (os : List Begun) (top : Line) (below : List Line) (budgets budgets2 : Budgets) (rc oc lc rc2 place : ℕ) →
    AreKept room rs os top below budgets rc oc lc → length rs2 ≡ length rs → take top.base rs2 ≡ take top.base rs → All IsValue (drop top.base rs2) →
    depths budgets2 ≡ depths budgets → rc2 ≡ rc → AreKept room rs2 os (record top { place = place }) below budgets2 rc2 oc lc
kept_ran room rs rs2 os top below budgets budgets2 rc oc lc rc2 place k count before own same more =
    let front : All IsValue (take top.base rs2) = subst (All IsValue) (sym before) (All-take IsValue top.base rs k.small) in
    let all : All IsValue rs2 = subst (All IsValue) (take-append-drop top.base rs2) (All-append IsValue (take top.base rs2) (drop top.base rs2) front own) in
    record {
      laid = rw count k.laid;
      small = all;
      few = omega (arith, k.few, same);
      bounded = k.bounded;
      object_bound = k.object_bound;
      objects_within = k.objects_within;
      registers_fit = omega (arith, k.registers_fit, more);
      objects_fit = k.objects_fit;
      lines_fit = k.lines_fit;
    }

-- the registers of the newest activation are the row from its base on
pub own_registers : (rs : List ℕ) (os : List Begun) (top : Line) (below : List Line) → AreStacked (length rs) (length os) (top ∷ reverse below) →
    take top.count (drop top.base rs) ≡ drop top.base rs
own_registers rs os top below laid = take_all top.count (drop top.base rs) (omega (arith, laid.0, length-drop top.base rs))

-- the machine after that
pub ran-rows : (rs rs2 : List ℕ) (os : List Begun) (top : Line) (below : List Line) (budgets budgets2 : Budgets) (place : ℕ) →
    AreStacked (length rs) (length os) (top ∷ reverse below) → length rs2 ≡ length rs → take top.base rs2 ≡ take top.base rs →
    machine_in rs2 os (record top { place = place }) below budgets2 ≡ record (machine_in rs os top below budgets) { top = record (activation_in rs os top) { place = place; registers = drop top.base rs2 }; budgets = budgets2 }
ran-rows rs rs2 os top below budgets budgets2 place laid count before =
    let low : map (activation_in rs2 os) (reverse below) ≡ map (activation_in rs os) (reverse below) = below_same (reverse below) top.base top.floor rs rs2 os os before refl laid.3 in
    let high = own_registers rs2 os top below (rw count laid) in
    rw (low, high) refl
