-- The tasks that stand in the place of an expression come to what the expression comes to.
use Rattle.std.proofs.Common.{◌≡◌, ℕ, suc, ◌==◌, Bool, true, false, List, [], ◌∷◌, ◌++◌, length, refl, sym, ap, ◌∙◌}
use Rattle.std.specs.Prelude.{if◌then◌else◌, take, drop, reverse, slice_index}
use Rattle.std.proofs.Math.Seq.{take-append_seam, drop-append_seam}
use Rattle.std.proofs.lemmas.Grind.{reverse_onto}
use Rattle.std.proofs.lemmas.List.{append_assoc, length-reverse, reverse-reverse}
use Rattle.srmt_base.specs.declared.op.Op.{Op}
use Rattle.srmt_base.specs.declared.ty.Ty.{Ty}
use Rattle.srmt_base.specs.Arith.{arith_of}
use Rattle.srmt_base.specs.Convert.{convert_of}
use Rattle.srmt_base.specs.Pointer.{pointer_difference_of, pointer_comparison_of}
use Rattle.c_types.specs.Types.{CType, Qualified, ty_of}
use Rattle.c_typed.specs.Typed.{Place, place, local, static, text, pointed, element, Value, value, constant, null, read, first_element, address, function, minus, complement, negation, arithmetic, sum, difference, comparison, conjunction, disjunction, choice, sequence, assignment, update, move, conversion, to_bool, requalified, discarded, call, call_through, putchar, getchar, exit, Values, no_values, first_value, type_of, place_type}
use Rattle.c_typed.specs.Statements.{Program}
use Rattle.source_meaning.specs.World.{World, Doing, ◌>>=◌, ◌>>◌, pure, either, computed, local_at}
use Rattle.source_meaning.specs.Places.{Setting, Location, register, cell_of, address_in, row_of, value_of_entity, address_of_text, fetch, store}
use Rattle.source_meaning.specs.Expressions.{scale_of, moved, truth, call_of_value, location_of, value_of, values_of}
use Rattle.source_meaning.specs.Statements.{normal}
use Rattle.source_meaning.proofs.Associates.{then_then, then_same, either_then}
use Rattle.c_meaning.specs.Leaves.{HasParts, HasPlan}
use Rattle.c_meaning.specs.Pending.{Current, Task, does, evaluate, evaluate_all, evaluate_dropped, locate, decide, finish, top_of, below, last_values, with_values, count_of, located, setting_at, goes}
use Rattle.c_meaning.specs.Plans.{value_plan, all_plan, dropped_plan, place_plan, address_of_local}
use Rattle.c_meaning.proofs.Grouped.{two_then, three_then, five_then, either_first, either_second, ResultIs, result_then, any_result, result_same}

-- ---- the values of arguments

pub last_are_given : (n : ℕ) (xs vs : List ℕ) → length xs ≡ n → last_values n (with_values xs vs) ≡ xs
last_are_given n xs vs h =
    ap (λ k. reverse (take k (reverse xs ++ vs))) (sym (length-reverse xs ∙ h)) ∙
    ap reverse (take-append_seam (reverse xs) vs) ∙ reverse-reverse xs

pub rest_is_below : (n : ℕ) (xs vs : List ℕ) → length xs ≡ n → drop n (with_values xs vs) ≡ vs
rest_is_below n xs vs h = ap (λ k. drop k (reverse xs ++ vs)) (sym (length-reverse xs ∙ h)) ∙ drop-append_seam (reverse xs) vs

pub one_more_value : (x : ℕ) (xs vs : List ℕ) → with_values (x ∷ xs) vs ≡ with_values xs (x ∷ vs)
one_more_value x xs vs = ap (λ ys. ys ++ vs) (reverse_onto xs x []) ∙ append_assoc (reverse xs) (x ∷ []) vs

module _ (s : Setting) where
  pub values_are_counted : (es : Values) (w : World) → ResultIs (λ xs. length xs ≡ count_of es) (values_of s es w)
  unfolding values_of
  values_are_counted no_values w = refl
  values_are_counted (first_value e es) w =
      any_result _ (value_of s e w) _ λ x u. result_then _ _ (values_of s es u) _ (values_are_counted es u) (λ xs v h. ap suc h)

  -- the values can be taken from the stack again
  pub values_from_stack : {A : Type 0} (es : Values) (f : List ℕ → List ℕ → Doing A) (vs : List ℕ) (w : World)
      → (values_of s es >>= (λ xs. f xs vs)) w
      ≡ (values_of s es >>= (λ xs. f (last_values (count_of es) (with_values xs vs)) (drop (count_of es) (with_values xs vs)))) w
  values_from_stack es f vs w =
      result_same _ (values_of s es w) _ _ (values_are_counted es w) λ xs u h.
      ap (λ ys. f ys vs u) (sym (last_are_given (count_of es) xs vs h)) ∙
      ap (λ us. f (last_values (count_of es) (with_values xs vs)) us u) (sym (rest_is_below (count_of es) xs vs h))

  -- ---- places

  local_located : (b : Bool) (t : Qualified) (line n : ℕ) (w : World)
      → ResultIs (λ l. (if b then cell_of t line (address_in l) else register n) ≡ l)
      (either b (local_at n >>= (λ a. pure (cell_of t line a))) (pure (register n)) w)
  local_located true t line n w = refl
  local_located false t line n w = refl

  -- a place is known by its address
  pub place_located : (p : Place) (w : World) → ResultIs (λ l. located s p (address_in l) ≡ l) (location_of s p w)
  unfolding location_of
  place_located (place line t (local n)) w = local_located (row_of s n).is_placed t line n w
  place_located (place line t (static n)) w = refl
  place_located (place line t (text n)) w = refl
  place_located (place line t (pointed e)) w = any_result _ (value_of s e w) _ (λ v u. refl)
  place_located (place line t (element at pointer_first a b)) w =
      any_result _ (value_of s a w) _ λ x u. any_result _ (value_of s b u) _ λ y v.
      any_result _ (moved at false pointer_first (type_of a) (type_of b) x y v) _ (λ z r. refl)

  pub place_from_stack : {A : Type 0} (p : Place) (f : Location → Doing A) (w : World)
      → (location_of s p >>= f) w ≡ (location_of s p >>= (λ l. f (located s p (address_in l)))) w
  place_from_stack p f w = result_same _ (location_of s p w) _ _ (place_located p w) (λ l u h. ap (λ m. f m u) (sym h))

-- ---- tasks

-- the address of a local, where it has one, is what a place of it gives
local_address : (b : Bool) (t : Qualified) (line n : ℕ) (k : ℕ → Doing ⊥) (w : World)
    → (either b (local_at n >>= (λ a. pure (cell_of t line a))) (pure (register n)) >>= (λ l. k (address_in l))) w
    ≡ k (if b then slice_index w.locals n else 0) w
local_address true t line n k w = refl
local_address false t line n k w = refl

register_read : (b : Bool) (t : Qualified) (line n : ℕ) (k : ℕ → Doing ⊥) (w : World) → b ≡ false
    → ((either b (local_at n >>= (λ a. pure (cell_of t line a))) (pure (register n)) >>= fetch) >>= k) w ≡ k (slice_index w.locals n) w
register_read true t line n k w h = cc
register_read false t line n k w h = refl

module _ (program : Program) (bound : ℕ) where
  -- a task comes to what these tasks come to, whatever follows
  abbrev pub KeepsMeaning : Task → List Task → Type 0
  KeepsMeaning t plan = (ts : List Task) (c : Current) (vs : List ℕ) (w : World)
      → goes program bound (t ∷ ts) c vs normal w ≡ goes program bound (plan ++ ts) c vs normal w

  -- a task does no more than to put this value onto the stack
  abbrev pub Pushes : Task → (Current → World → ℕ) → Type 0
  Pushes t x = (ts : List Task) (c : Current) (vs : List ℕ) (w : World)
      → goes program bound (t ∷ ts) c vs normal w ≡ goes program bound ts c (x c w ∷ vs) normal w

  -- what comes after a task, which leaves this on the stack
  abbrev next : List Task → Current → List ℕ → Doing ⊥
  next ts c vs = goes program bound ts c vs normal

  abbrev here : Current → Setting
  here c = setting_at program bound c

  pub constant_pushed : (line : ℕ) (t : CType) (n : ℕ) → Pushes (does (evaluate (value line t (constant n)))) (λ c w. n)
  unfolding value_of
  constant_pushed line t n ts c vs w = refl

  pub null_pushed : (line : ℕ) (t : CType) → Pushes (does (evaluate (value line t null))) (λ c w. 0)
  unfolding value_of
  null_pushed line t ts c vs w = refl

  pub function_pushed : (line : ℕ) (t : CType) (n : ℕ) → Pushes (does (evaluate (value line t (function n)))) (λ c w. value_of_entity program n)
  unfolding value_of
  function_pushed line t n ts c vs w = refl

  pub local_pushed : (line : ℕ) (t : Qualified) (n : ℕ)
      → Pushes (does (locate (place line t (local n)))) (λ c w. address_of_local (here c) n w.locals)
  unfolding location_of
  local_pushed line t n ts c vs w = local_address (row_of (here c) n).is_placed t line n (λ a. next ts c (a ∷ vs)) w

  pub static_pushed : (line : ℕ) (t : Qualified) (n : ℕ) → Pushes (does (locate (place line t (static n)))) (λ c w. value_of_entity program n)
  unfolding location_of
  static_pushed line t n ts c vs w = refl

  pub text_pushed : (line : ℕ) (t : Qualified) (n : ℕ)
      → Pushes (does (locate (place line t (text n)))) (λ c w. address_of_text c.part program n)
  unfolding location_of
  text_pushed line t n ts c vs w = refl

  pub register_pushed : (line : ℕ) (t : CType) (l : ℕ) (q : Qualified) (n : ℕ) (ts : List Task) (c : Current) (vs : List ℕ) (w : World)
      → (row_of (here c) n).is_placed ≡ false
      → goes program bound (does (evaluate (value line t (read (place l q (local n))))) ∷ ts) c vs normal w
      ≡ goes program bound ts c (slice_index w.locals n ∷ vs) normal w
  unfolding value_of
  register_pushed line t l q n ts c vs w h =
      register_read (row_of (here c) n).is_placed q l n (λ v. next ts c (v ∷ vs)) w h

  pub place_plan_keeps : (p : Place) → HasParts p → KeepsMeaning (does (locate p)) (place_plan p)
  unfolding location_of
  place_plan_keeps (place line t (local n)) h ts c vs w = absurd h
  place_plan_keeps (place line t (static n)) h ts c vs w = absurd h
  place_plan_keeps (place line t (text n)) h ts c vs w = absurd h
  place_plan_keeps (place line t (pointed e)) h ts c vs w = then_then (value_of (here c) e) _ _ w
  place_plan_keeps (place line t (element at pointer_first a b)) h ts c vs w =
      three_then (value_of (here c) a) (λ x. value_of (here c) b)
      (λ x y. moved at false pointer_first (type_of a) (type_of b) x y) (λ x y z. pure (cell_of t at z)) (λ l. next ts c (address_in l ∷ vs)) w

  pub all_plan_keeps : (es : Values) → KeepsMeaning (does (evaluate_all es)) (all_plan es)
  unfolding values_of
  all_plan_keeps no_values ts c vs w = refl
  all_plan_keeps (first_value e es) ts c vs w =
      two_then (value_of (here c) e) (λ x. values_of (here c) es) (λ x xs. pure (x ∷ xs))
      (λ xs. next ts c (with_values xs vs)) w ∙
      then_same (value_of (here c) e) _ _
      (λ x u. then_same (values_of (here c) es) _ _ (λ xs v. ap (λ us. next ts c us v) (one_more_value x xs vs)) u) w

  pub dropped_plan_keeps : (es : Values) → KeepsMeaning (does (evaluate_dropped es)) (dropped_plan es)
  unfolding values_of
  dropped_plan_keeps no_values ts c vs w = refl
  dropped_plan_keeps (first_value e es) ts c vs w =
      two_then (value_of (here c) e) (λ x. values_of (here c) es) (λ x xs. pure (x ∷ xs))
      (λ xs. next ts c vs) w

  -- an operand is left out, or evaluated

  pub conjunction_stops : (line : ℕ) (t : CType) (a b : Value) (ts : List Task) (c : Current) (vs : List ℕ) (w : World)
      → (top_of vs == 0) ≡ true
      → goes program bound (does (decide (value line t (conjunction a b))) ∷ ts) c vs normal w ≡ goes program bound ts c (0 ∷ below vs) normal w
  conjunction_stops line t a b ts c vs w h = either_first (top_of vs == 0) (next ts c (0 ∷ below vs)) _ w h

  pub conjunction_goes_on : (line : ℕ) (t : CType) (a b : Value) (ts : List Task) (c : Current) (vs : List ℕ) (w : World)
      → (top_of vs == 0) ≡ false
      → goes program bound (does (decide (value line t (conjunction a b))) ∷ ts) c vs normal w
      ≡ goes program bound (does (evaluate b) ∷ does (finish (value line t (conjunction a b))) ∷ ts) c (below vs) normal w
  conjunction_goes_on line t a b ts c vs w h = either_second (top_of vs == 0) (next ts c (0 ∷ below vs)) _ w h

  pub disjunction_goes_on : (line : ℕ) (t : CType) (a b : Value) (ts : List Task) (c : Current) (vs : List ℕ) (w : World)
      → (top_of vs == 0) ≡ true
      → goes program bound (does (decide (value line t (disjunction a b))) ∷ ts) c vs normal w
      ≡ goes program bound (does (evaluate b) ∷ does (finish (value line t (disjunction a b))) ∷ ts) c (below vs) normal w
  disjunction_goes_on line t a b ts c vs w h = either_first (top_of vs == 0) _ (next ts c (1 ∷ below vs)) w h

  pub disjunction_stops : (line : ℕ) (t : CType) (a b : Value) (ts : List Task) (c : Current) (vs : List ℕ) (w : World)
      → (top_of vs == 0) ≡ false
      → goes program bound (does (decide (value line t (disjunction a b))) ∷ ts) c vs normal w ≡ goes program bound ts c (1 ∷ below vs) normal w
  disjunction_stops line t a b ts c vs w h = either_second (top_of vs == 0) _ (next ts c (1 ∷ below vs)) w h

  pub choice_takes_second : (line : ℕ) (t : CType) (e a b : Value) (ts : List Task) (c : Current) (vs : List ℕ) (w : World)
      → (top_of vs == 0) ≡ true
      → goes program bound (does (decide (value line t (choice e a b))) ∷ ts) c vs normal w
      ≡ goes program bound (does (evaluate b) ∷ ts) c (below vs) normal w
  choice_takes_second line t e a b ts c vs w h = either_first (top_of vs == 0) _ _ w h

  pub choice_takes_first : (line : ℕ) (t : CType) (e a b : Value) (ts : List Task) (c : Current) (vs : List ℕ) (w : World)
      → (top_of vs == 0) ≡ false
      → goes program bound (does (decide (value line t (choice e a b))) ∷ ts) c vs normal w
      ≡ goes program bound (does (evaluate a) ∷ ts) c (below vs) normal w
  choice_takes_first line t e a b ts c vs w h = either_second (top_of vs == 0) _ _ w h

  -- what an operator makes of a value follows its choice

  truth_or_zero : (b : Bool) (m : Doing ℕ) (k : ℕ → Doing ⊥) (w : World)
      → (either b (pure 0) (m >>= (λ y. pure (truth y))) >>= k) w ≡ either b (k 0) (m >>= (λ y. k (truth y))) w
  truth_or_zero true m k w = refl
  truth_or_zero false m k w = then_then m (λ y. pure (truth y)) k w

  truth_or_one : (b : Bool) (m : Doing ℕ) (k : ℕ → Doing ⊥) (w : World)
      → (either b (m >>= (λ y. pure (truth y))) (pure 1) >>= k) w ≡ either b (m >>= (λ y. k (truth y))) (k 1) w
  truth_or_one true m k w = then_then m (λ y. pure (truth y)) k w
  truth_or_one false m k w = refl

  conjunction_planned : (line : ℕ) (t : CType) (a b : Value)
      → KeepsMeaning (does (evaluate (value line t (conjunction a b)))) (value_plan (value line t (conjunction a b)))
  unfolding value_of
  conjunction_planned line t a b ts c vs w =
      then_then (value_of (here c) a) _ (λ v. next ts c (v ∷ vs)) w ∙
      then_same (value_of (here c) a) _ _ (λ x u. truth_or_zero (x == 0) (value_of (here c) b) (λ v. next ts c (v ∷ vs)) u) w

  disjunction_planned : (line : ℕ) (t : CType) (a b : Value)
      → KeepsMeaning (does (evaluate (value line t (disjunction a b)))) (value_plan (value line t (disjunction a b)))
  unfolding value_of
  disjunction_planned line t a b ts c vs w =
      then_then (value_of (here c) a) _ (λ v. next ts c (v ∷ vs)) w ∙
      then_same (value_of (here c) a) _ _ (λ x u. truth_or_one (x == 0) (value_of (here c) b) (λ v. next ts c (v ∷ vs)) u) w

  choice_planned : (line : ℕ) (t : CType) (e a b : Value)
      → KeepsMeaning (does (evaluate (value line t (choice e a b)))) (value_plan (value line t (choice e a b)))
  unfolding value_of
  choice_planned line t e a b ts c vs w =
      then_then (value_of (here c) e) _ (λ v. next ts c (v ∷ vs)) w ∙
      then_same (value_of (here c) e) _ _
      (λ x u. either_then (x == 0) (value_of (here c) b) (value_of (here c) a) (λ v. next ts c (v ∷ vs)) u) w

  read_planned : (line : ℕ) (t : CType) (p : Place)
      → KeepsMeaning (does (evaluate (value line t (read p)))) (value_plan (value line t (read p)))
  unfolding value_of
  read_planned line t p ts c vs w =
      then_then (location_of (here c) p) fetch (λ v. next ts c (v ∷ vs)) w ∙
      place_from_stack (here c) p (λ l. fetch l >>= (λ v. next ts c (v ∷ vs))) w

  assignment_planned : (line : ℕ) (t : CType) (p : Place) (e : Value)
      → KeepsMeaning (does (evaluate (value line t (assignment p e)))) (value_plan (value line t (assignment p e)))
  unfolding value_of
  assignment_planned line t p e ts c vs w =
      three_then (location_of (here c) p) (λ l. value_of (here c) e) (λ l x. store l x) (λ l x done. pure x) (λ v. next ts c (v ∷ vs)) w ∙
      place_from_stack (here c) p (λ l. value_of (here c) e >>= (λ x. store l x >> next ts c (x ∷ vs))) w

  call_planned : (line : ℕ) (t : CType) (at n : ℕ) (es : Values)
      → KeepsMeaning (does (evaluate (value line t (call at n es)))) (value_plan (value line t (call at n es)))
  unfolding value_of
  call_planned line t at n es ts c vs w =
      then_then (values_of (here c) es) _ (λ v. next ts c (v ∷ vs)) w ∙
      values_from_stack (here c) es (λ xs us. (here c).call at (value_of_entity program n) xs >>= (λ v. next ts c (v ∷ us))) vs w

  call_through_planned : (line : ℕ) (t : CType) (at : ℕ) (e : Value) (es : Values)
      → KeepsMeaning (does (evaluate (value line t (call_through at e es)))) (value_plan (value line t (call_through at e es)))
  unfolding value_of
  call_through_planned line t at e es ts c vs w =
      two_then (value_of (here c) e) (λ x. values_of (here c) es) (λ x xs. call_of_value (here c) at x xs) (λ v. next ts c (v ∷ vs)) w ∙
      then_same (value_of (here c) e) _ _
      (λ x u. values_from_stack (here c) es
      (λ xs us. call_of_value (here c) at (top_of us) xs >>= (λ v. next ts c (v ∷ below us))) (x ∷ vs) u) w

  update_planned : (line : ℕ) (t : CType) (is_after : Bool) (p : Place) (first : ℕ) (op : Op) (at : ℕ) (ty : Ty) (e : Value)
      → KeepsMeaning (does (evaluate (value line t (update is_after p first op at ty e)))) (value_plan (value line t (update is_after p first op at ty e)))
  unfolding value_of
  update_planned line t is_after p first op at ty e ts c vs w =
      let under = ty_of (place_type p).type in
      five_then (location_of (here c) p) (λ l. fetch l) (λ l old. value_of (here c) e)
      (λ l old x. computed at (arith_of op ty (convert_of under ty old) x)) (λ l old x result. store l (convert_of ty under result))
      (λ l old x result done. pure (if is_after then old else convert_of ty under result)) (λ v. next ts c (v ∷ vs)) w ∙
      place_from_stack (here c) p (λ l. fetch l >>= (λ old. value_of (here c) e >>= (λ x.
      computed at (arith_of op ty (convert_of under ty old) x) >>= (λ result.
      store l (convert_of ty under result) >> next ts c ((if is_after then old else convert_of ty under result) ∷ vs))))) w

  move_planned : (line : ℕ) (t : CType) (is_after : Bool) (p : Place) (is_less : Bool) (at : ℕ) (e : Value)
      → KeepsMeaning (does (evaluate (value line t (move is_after p is_less at e)))) (value_plan (value line t (move is_after p is_less at e)))
  unfolding value_of
  move_planned line t is_after p is_less at e ts c vs w =
      five_then (location_of (here c) p) (λ l. fetch l) (λ l old. value_of (here c) e)
      (λ l old x. moved at is_less true (place_type p).type (type_of e) old x) (λ l old x new. store l new)
      (λ l old x new done. pure (if is_after then old else new)) (λ v. next ts c (v ∷ vs)) w ∙
      place_from_stack (here c) p (λ l. fetch l >>= (λ old. value_of (here c) e >>= (λ x.
      moved at is_less true (place_type p).type (type_of e) old x >>= (λ new.
      store l new >> next ts c ((if is_after then old else new) ∷ vs))))) w

  pub value_plan_keeps : (e : Value) → HasPlan e → KeepsMeaning (does (evaluate e)) (value_plan e)
  unfolding value_of
  value_plan_keeps (value line t (constant n)) h ts c vs w = absurd h
  value_plan_keeps (value line t null) h ts c vs w = absurd h
  value_plan_keeps (value line t (read p)) h ts c vs w = read_planned line t p ts c vs w
  value_plan_keeps (value line t (first_element p)) h ts c vs w = then_then (location_of (here c) p) _ _ w
  value_plan_keeps (value line t (address p)) h ts c vs w = then_then (location_of (here c) p) _ _ w
  value_plan_keeps (value line t (function n)) h ts c vs w = absurd h
  value_plan_keeps (value line t (minus e)) h ts c vs w = then_then (value_of (here c) e) _ _ w
  value_plan_keeps (value line t (complement e)) h ts c vs w = then_then (value_of (here c) e) _ _ w
  value_plan_keeps (value line t (negation e)) h ts c vs w = then_then (value_of (here c) e) _ _ w
  value_plan_keeps (value line t (arithmetic op at a b)) h ts c vs w =
      two_then (value_of (here c) a) (λ x. value_of (here c) b) (λ x y. computed at (arith_of op (ty_of (type_of a)) x y)) _ w
  value_plan_keeps (value line t (sum at is_less pointer_first a b)) h ts c vs w =
      two_then (value_of (here c) a) (λ x. value_of (here c) b) (λ x y. moved at is_less pointer_first (type_of a) (type_of b) x y) _ w
  value_plan_keeps (value line t (difference at a b)) h ts c vs w =
      two_then (value_of (here c) a) (λ x. value_of (here c) b) (λ x y. computed at (pointer_difference_of x y (scale_of (type_of a)))) _ w
  value_plan_keeps (value line t (comparison op at a b)) h ts c vs w =
      two_then (value_of (here c) a) (λ x. value_of (here c) b) (λ x y. computed at (pointer_comparison_of op x y)) _ w
  value_plan_keeps (value line t (conjunction a b)) h ts c vs w = conjunction_planned line t a b ts c vs w
  value_plan_keeps (value line t (disjunction a b)) h ts c vs w = disjunction_planned line t a b ts c vs w
  value_plan_keeps (value line t (choice e a b)) h ts c vs w = choice_planned line t e a b ts c vs w
  value_plan_keeps (value line t (sequence dropped last)) h ts c vs w = then_then (values_of (here c) dropped) _ _ w
  value_plan_keeps (value line t (assignment p e)) h ts c vs w = assignment_planned line t p e ts c vs w
  value_plan_keeps (value line t (update is_after p first op at ty e)) h ts c vs w = update_planned line t is_after p first op at ty e ts c vs w
  value_plan_keeps (value line t (move is_after p is_less at e)) h ts c vs w = move_planned line t is_after p is_less at e ts c vs w
  value_plan_keeps (value line t (conversion first e)) h ts c vs w = then_then (value_of (here c) e) _ _ w
  value_plan_keeps (value line t (to_bool first e)) h ts c vs w = then_then (value_of (here c) e) _ _ w
  value_plan_keeps (value line t (requalified e)) h ts c vs w = refl
  value_plan_keeps (value line t (discarded e)) h ts c vs w = refl
  value_plan_keeps (value line t (call at n es)) h ts c vs w = call_planned line t at n es ts c vs w
  value_plan_keeps (value line t (call_through at e es)) h ts c vs w = call_through_planned line t at e es ts c vs w
  value_plan_keeps (value line t (putchar at e)) h ts c vs w = then_then (value_of (here c) e) _ _ w
  value_plan_keeps (value line t (getchar at)) h ts c vs w = refl
  value_plan_keeps (value line t (exit at e)) h ts c vs w = then_then (value_of (here c) e) _ _ w
