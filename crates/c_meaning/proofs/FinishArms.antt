-- What is still to be done where all operands of a value are on the stack, a node of the code's at a time.
use Rattle.std.proofs.Common.{◌≡◌, ℕ, suc, ◌%◌, ◌⊎◌, inl, inr, Bool, true, false, List, [], ◌∷◌, ◌++◌, map, length, Result, Ok, Err, refl, sym, subst, ap, ◌∙◌, arith}
use Rattle.std.specs.Prelude.{IfOk, OnOk, IsTrue, if◌then◌else◌, ◌==◌}
use Rattle.srmt_base.specs.declared.event.Event.{Event}
use Rattle.srmt_base.specs.declared.event.Event.TheVariants.{Exit as ExitEvent}
use Rattle.srmt_base.specs.declared.op.Op.{Op}
use Rattle.srmt_base.specs.declared.op.Op.TheVariants.{Sub, Xor}
use Rattle.srmt_base.specs.declared.trap.SourceEnd.TheVariants.{Exit as ExitEnd}
use Rattle.srmt_base.specs.Arith.{arith_of, is_comparison}
use Rattle.srmt_base.specs.Convert.{convert_of}
use Rattle.srmt_base.specs.Pointer.{pointer_difference_of, pointer_comparison_of}
use Rattle.srmt_base.specs.Types.{IsPromoted}
use Rattle.c_types.specs.declared.type_ref.TypeRef.{TypeRef}
use Rattle.c_types.specs.Types.{CType, ty_of}
use Rattle.c_typed.specs.declared.value.IntegerChange.{IntegerChange}
use Rattle.c_typed.specs.declared.value.PointerChange.{PointerChange}
use Rattle.c_typed.specs.declared.value.Value as v
use Rattle.c_typed.specs.declared.value.Place as p
use Rattle.c_typed.specs.declared.value.ValueNode as code_node
use Rattle.c_typed.specs.declared.value.ValueNode.TheVariants as vn
use Rattle.c_typed.specs.Typed as tree
use Rattle.c_typed.specs.Typed.{Place, Value, ValueNode, value, type_of, place_type}
use Rattle.c_typed.specs.Views.{values_from, value_view, value_node_view, place_view}
use Rattle.c_typed.proofs.ViewLaws as view
use Rattle.source_meaning.specs.World.{Doing, Ends, pure, computed, reads_byte}
use Rattle.source_meaning.specs.Expressions.{scale_of, moved, truth}
use Rattle.source_meaning.specs.Sound.{HasScale, HasOperands, IsComputedAt}
use Rattle.source_meaning.specs.Statements.{normal}
use Rattle.c_meaning.specs.declared.run.Did.{Did}
use Rattle.c_meaning.specs.declared.run.Did.TheVariants as did
use Rattle.c_meaning.specs.declared.run.Run.{Run}
use Rattle.c_meaning.specs.declared.setting.At.{At}
use Rattle.c_meaning.specs.declared.task.Current.{Current as CodeCurrent}
use Rattle.c_meaning.specs.Finishing as finishing
use Rattle.c_meaning.specs.Operators.{HasScaleOf}
use Rattle.c_meaning.specs.Pending.{does, finish, top_of, count_of}
use Rattle.c_meaning.specs.Runs.{types_of, world_of, going, going_with, of_one, of_two, with_result, Frames, Steps, IsSound, Falls, work_with}
use Rattle.c_meaning.specs.Told.{IsFraming}
use Rattle.c_meaning.proofs.FinishSteps.{type_of_place}
use Rattle.c_meaning.proofs.Framing.{framed-sound, framed-falls, falls-more}

-- ---- what a value's parts are

module _ (types : TypeRef → CType) where
  node-is : (x : v.Value) (n : code_node.ValueNode) (m : ValueNode) → x.node ≡ n → value_node_view types n ≡ m
      → value_view types x ≡ value x.line (types x.ty) m
  node-is x n m is views = view.view_value types x ∙ ap (λ k. value x.line (types x.ty) (value_node_view types k)) is ∙ ap (value x.line (types x.ty)) views

  -- the type of a part, which the code reached by a box
  type-is : (e g : v.Value) → g ≡ e → types g.ty ≡ type_of (value_view types e)
  type-is e g got = ap (λ (z : v.Value). types z.ty) got ∙ sym (ap type_of (view.view_value types e))

  has : (x : v.Value) (n : code_node.ValueNode) (m : ValueNode) → x.node ≡ n → value_node_view types n ≡ m → HasOperands (value_view types x)
      → HasOperands (value x.line (types x.ty) m)
  has x n m is views h = subst HasOperands (node-is x n m is views) h

  module _ (x e g : v.Value) (got : g ≡ e) where
    pub minus-has : x.node ≡ vn.Minus e → HasOperands (value_view types x) → IsComputedAt (types g.ty)
    unfolding HasOperands
    minus-has is h = subst IsComputedAt (sym (type-is e g got)) (has x (vn.Minus e) (tree.minus (value_view types e)) is (view.view_minus types e) h).0

    pub complement-has : x.node ≡ vn.Complement e → HasOperands (value_view types x) → IsComputedAt (types g.ty)
    unfolding HasOperands
    complement-has is h =
        subst IsComputedAt (sym (type-is e g got)) (has x (vn.Complement e) (tree.complement (value_view types e)) is (view.view_complement types e) h).0

    pub arithmetic-has : (op : Op) (at : ℕ) (b : v.Value) → x.node ≡ vn.Arithmetic op at e b → HasOperands (value_view types x) → IsComputedAt (types g.ty)
    unfolding HasOperands
    arithmetic-has op at b is h =
        subst IsComputedAt (sym (type-is e g got))
        (has x (vn.Arithmetic op at e b) (tree.arithmetic op at (value_view types e) (value_view types b)) is (view.view_arithmetic types op at e b) h).0

    pub difference-has : (at : ℕ) (b : v.Value) → x.node ≡ vn.Difference at e b → HasOperands (value_view types x) → HasScale (types g.ty)
    unfolding HasOperands
    difference-has at b is h =
        subst HasScale (sym (type-is e g got))
        (has x (vn.Difference at e b) (tree.difference at (value_view types e) (value_view types b)) is (view.view_difference types at e b) h).0

    pub sum-has : (at : ℕ) (is_less pointer_first : Bool) (b d : v.Value) → d ≡ b → x.node ≡ vn.Sum at is_less pointer_first e b
        → HasOperands (value_view types x) → HasScaleOf pointer_first (types g.ty) (types d.ty)
    unfolding HasOperands
    sum-has at is_less true b d also is h =
        subst HasScale (sym (type-is e g got))
        (has x (vn.Sum at is_less true e b) (tree.sum at is_less true (value_view types e) (value_view types b)) is
        (view.view_sum types at is_less true e b) h).0
    sum-has at is_less false b d also is h =
        subst HasScale (sym (type-is b d also))
        (has x (vn.Sum at is_less false e b) (tree.sum at is_less false (value_view types e) (value_view types b)) is
        (view.view_sum types at is_less false e b) h).0

  pub comparison-has : (x a b : v.Value) (op : Op) (at : ℕ) → x.node ≡ vn.Comparison op at a b → HasOperands (value_view types x) → IsTrue (is_comparison op)
  unfolding HasOperands
  comparison-has x a b op at is h =
      (has x (vn.Comparison op at a b) (tree.comparison op at (value_view types a) (value_view types b)) is (view.view_comparison types op at a b) h).0

  pub update-has : (x e : v.Value) (q : p.Place) (c : IntegerChange) → x.node ≡ vn.Update c q e → HasOperands (value_view types x) → IsPromoted c.ty
  unfolding HasOperands
  update-has x e q c is h =
      (has x (vn.Update c q e) (tree.update c.is_after (place_view types q) c.first c.op c.at c.ty (value_view types e)) is (view.view_update types c q e) h).0

  pub move-has : (x e : v.Value) (q g : p.Place) (c : PointerChange) → g ≡ q → x.node ≡ vn.Move c q e
      → HasOperands (value_view types x) → HasScale (types g.ty.target)
  unfolding HasOperands
  move-has x e q g c got is h =
      subst HasScale (sym (ap (λ (z : p.Place). types z.ty.target) got ∙ type_of_place types q))
      (has x (vn.Move c q e) (tree.move c.is_after (place_view types q) c.is_less c.at (value_view types e)) is (view.view_move types c q e) h).0

  counts : (xs : List v.Value) → length xs ≡ count_of (values_from (map (value_view types) xs))
  counts [] = refl
  counts (x ∷ xs) = ap suc (counts xs)

-- ---- what is still to be done

module _ (at : At) (old : Run) (here : at.current ≡ old.current) (x : v.Value) where
  abbrev types : TypeRef → CType
  types = types_of at.program.now

  abbrev pub finishes : ℕ → Doing ⊥
  finishes bound = going_with at.program.now bound (does (finish (value_view types x))) old

  abbrev one : (ℕ → Doing ℕ) → ℕ → Doing ⊥
  one = of_one at.program.now old

  abbrev two : (ℕ → ℕ → Doing ℕ) → ℕ → Doing ⊥
  two = of_two at.program.now old

  seen : (n : code_node.ValueNode) (m : ValueNode) → x.node ≡ n → value_node_view types n ≡ m
      → (λ bound. going_with at.program.now bound (does (finish (value x.line (types x.ty) m))) old) ≡ finishes
  seen n m is views = sym (ap (λ e (bound : ℕ). going_with at.program.now bound (does (finish e)) old) (node-is types x n m is views))

  pub minus-is : (e g : v.Value) → g ≡ e → x.node ≡ vn.Minus e → one (λ z. computed x.line (arith_of Sub (ty_of (types g.ty)) 0 z)) ≡ finishes
  minus-is e g got is =
      ap (λ (t : CType). one (λ z. computed x.line (arith_of Sub (ty_of t) 0 z))) (type-is types e g got)
      ∙ seen (vn.Minus e) (tree.minus (value_view types e)) is (view.view_minus types e)

  pub complement-is : (e g : v.Value) → g ≡ e → x.node ≡ vn.Complement e
      → one (λ z. computed x.line (arith_of Xor (ty_of (types g.ty)) z 4294967295)) ≡ finishes
  complement-is e g got is =
      ap (λ (t : CType). one (λ z. computed x.line (arith_of Xor (ty_of t) z 4294967295))) (type-is types e g got)
      ∙ seen (vn.Complement e) (tree.complement (value_view types e)) is (view.view_complement types e)

  pub negation-is : (e : v.Value) → x.node ≡ vn.Negation e → one (λ z. pure (if z == 0 then 1 else 0)) ≡ finishes
  negation-is e is = seen (vn.Negation e) (tree.negation (value_view types e)) is (view.view_negation types e)

  pub truth-is : ((a : v.Value) × (b : v.Value) × (x.node ≡ vn.Conjunction a b)) ⊎ (((a : v.Value) × (b : v.Value) × (x.node ≡ vn.Disjunction a b))
      ⊎ ((first : ℕ) × (e : v.Value) × (x.node ≡ vn.ToBool first e))) → one (λ z. pure (truth z)) ≡ finishes
  truth-is (inl (a, b, is)) = seen (vn.Conjunction a b) (tree.conjunction (value_view types a) (value_view types b)) is (view.view_conjunction types a b)
  truth-is (inr (inl (a, b, is))) = seen (vn.Disjunction a b) (tree.disjunction (value_view types a) (value_view types b)) is (view.view_disjunction types a b)
  truth-is (inr (inr (first, e, is))) = seen (vn.ToBool first e) (tree.to_bool first (value_view types e)) is (view.view_to_bool types first e)

  pub conversion-is : (first : ℕ) (e g : v.Value) → g ≡ e → x.node ≡ vn.Conversion first e
      → one (λ z. pure (convert_of (ty_of (types g.ty)) (ty_of (types x.ty)) z)) ≡ finishes
  conversion-is first e g got is =
      ap (λ (t : CType). one (λ z. pure (convert_of (ty_of t) (ty_of (types x.ty)) z))) (type-is types e g got)
      ∙ seen (vn.Conversion first e) (tree.conversion first (value_view types e)) is (view.view_conversion types first e)

  pub arithmetic-is : (op : Op) (line : ℕ) (a b g : v.Value) → g ≡ a → x.node ≡ vn.Arithmetic op line a b
      → two (λ y z. computed line (arith_of op (ty_of (types g.ty)) y z)) ≡ finishes
  arithmetic-is op line a b g got is =
      ap (λ (t : CType). two (λ y z. computed line (arith_of op (ty_of t) y z))) (type-is types a g got)
      ∙ seen (vn.Arithmetic op line a b) (tree.arithmetic op line (value_view types a) (value_view types b)) is (view.view_arithmetic types op line a b)

  pub sum-is : (line : ℕ) (is_less pointer_first : Bool) (a b g h : v.Value) → g ≡ a → h ≡ b → x.node ≡ vn.Sum line is_less pointer_first a b
      → two (moved line is_less pointer_first (types g.ty) (types h.ty)) ≡ finishes
  sum-is line is_less pointer_first a b g h got also is =
      ap (λ (t : CType). two (moved line is_less pointer_first t (types h.ty))) (type-is types a g got)
      ∙ ap (λ (t : CType). two (moved line is_less pointer_first (type_of (value_view types a)) t)) (type-is types b h also)
      ∙ seen (vn.Sum line is_less pointer_first a b) (tree.sum line is_less pointer_first (value_view types a) (value_view types b)) is
      (view.view_sum types line is_less pointer_first a b)

  pub difference-is : (line : ℕ) (a b g : v.Value) → g ≡ a → x.node ≡ vn.Difference line a b
      → two (λ y z. computed line (pointer_difference_of y z (scale_of (types g.ty)))) ≡ finishes
  difference-is line a b g got is =
      ap (λ (t : CType). two (λ y z. computed line (pointer_difference_of y z (scale_of t)))) (type-is types a g got)
      ∙ seen (vn.Difference line a b) (tree.difference line (value_view types a) (value_view types b)) is (view.view_difference types line a b)

  pub comparison-is : (op : Op) (line : ℕ) (a b : v.Value) → x.node ≡ vn.Comparison op line a b
      → two (λ y z. computed line (pointer_comparison_of op y z)) ≡ finishes
  comparison-is op line a b is =
      seen (vn.Comparison op line a b) (tree.comparison op line (value_view types a) (value_view types b)) is (view.view_comparison types op line a b)

  -- where the run stands, as the run itself has it
  abbrev standing : CodeCurrent → At
  standing k = record { program = at.program; current = k }

  pub assignment-is : (q g : p.Place) (e : v.Value) → g ≡ q → x.node ≡ vn.Assignment q e → finishing.assigned at (place_view types g) old ≡ finishes
  assignment-is q g e got is =
      ap (λ (k : CodeCurrent). finishing.assigned (standing k) (place_view types g) old) here
      ∙ ap (λ (z : p.Place). finishing.assigned (standing old.current) (place_view types z) old) got
      ∙ seen (vn.Assignment q e) (tree.assignment (place_view types q) (value_view types e)) is (view.view_assignment types q e)

  pub update-is : (change : IntegerChange) (q g : p.Place) (e : v.Value) → g ≡ q → x.node ≡ vn.Update change q e
      → finishing.updated at change (place_view types g) old ≡ finishes
  update-is change q g e got is =
      ap (λ (k : CodeCurrent). finishing.updated (standing k) change (place_view types g) old) here
      ∙ ap (λ (z : p.Place). finishing.updated (standing old.current) change (place_view types z) old) got
      ∙ seen (vn.Update change q e) (tree.update change.is_after (place_view types q) change.first change.op change.at change.ty (value_view types e)) is
      (view.view_update types change q e)

  pub move-is : (change : PointerChange) (q g : p.Place) (e h : v.Value) → g ≡ q → h ≡ e → x.node ≡ vn.Move change q e
      → finishing.pointer_moved at change (place_view types g) (types h.ty) old ≡ finishes
  move-is change q g e h got also is =
      ap (λ (k : CodeCurrent). finishing.pointer_moved (standing k) change (place_view types g) (types h.ty) old) here
      ∙ ap (λ (z : p.Place). finishing.pointer_moved (standing old.current) change (place_view types z) (types h.ty) old) got
      ∙ ap (λ (t : CType). finishing.pointer_moved (standing old.current) change (place_view types q) t old) (type-is types e h also)
      ∙ seen (vn.Move change q e) (tree.move change.is_after (place_view types q) change.is_less change.at (value_view types e)) is
      (view.view_move types change q e)

  pub putchar-is : (line : ℕ) (e : v.Value) → x.node ≡ vn.Putchar line e → finishing.put at.program.now old ≡ finishes
  putchar-is line e is = seen (vn.Putchar line e) (tree.putchar line (value_view types e)) is (view.view_putchar types line e)

  pub getchar-is : (line : ℕ) → x.node ≡ vn.Getchar line → with_result at.program.now old reads_byte ≡ finishes
  getchar-is line is = seen (vn.Getchar line) (tree.getchar line) is (view.view_getchar types line)

  pub call-is : (line entity : ℕ) (es : List v.Value) (count : ℕ) → count ≡ length es → x.node ≡ vn.Call line entity es
      → finishing.called at.program.now line entity count old ≡ finishes
  call-is line entity es count count-is is =
      ap (λ (n : ℕ). finishing.called at.program.now line entity n old) (count-is ∙ counts types es)
      ∙ seen (vn.Call line entity es) (tree.call line entity (values_from (map (value_view types) es))) is (view.view_call types line entity es)

  pub call_through-is : (line : ℕ) (e : v.Value) (es : List v.Value) (count : ℕ) → count ≡ length es → x.node ≡ vn.CallThrough line e es
      → finishing.called_through at.program.now line count old ≡ finishes
  call_through-is line e es count count-is is =
      ap (λ (n : ℕ). finishing.called_through at.program.now line n old) (count-is ∙ counts types es)
      ∙ seen (vn.CallThrough line e es) (tree.call_through line (value_view types e) (values_from (map (value_view types) es))) is
      (view.view_call_through types line e es)

  pub exit-is : (line : ℕ) (e : v.Value) (status : ℕ) → status ≡ top_of old.values → x.node ≡ vn.Exit line e
      → (bound : ℕ) (es : List Event) → finishes bound (world_of old.world es) ≡ Ends (ExitEnd (status % 256)) (es ++ ExitEvent (status % 256) ∷ [])
  exit-is line e status status-is is bound es =
      ap (λ (m : ℕ → Doing ⊥). m bound (world_of old.world es))
      (sym (seen (vn.Exit line e) (tree.exit line (value_view types e)) is (view.view_exit types line e)))
      ∙ ap (λ (n : ℕ). Ends (ExitEnd (n % 256)) (es ++ ExitEvent (n % 256) ∷ [])) (sym status-is)

  -- ---- values without an operand that is to be finished

  abbrev stays : ℕ → Doing ⊥
  stays bound = going at.program.now bound old old.values normal

  pub constant-is : ((n : ℕ) × (x.node ≡ vn.Constant n)) ⊎ ((x.node ≡ vn.Null) ⊎ ((q : p.Place) × (x.node ≡ vn.Read q))) → stays ≡ finishes
  constant-is (inl (n, is)) = seen (vn.Constant n) (tree.constant n) is (view.view_constant types n)
  constant-is (inr (inl is)) = seen vn.Null tree.null is (view.view_null types)
  constant-is (inr (inr (q, is))) = seen (vn.Read q) (tree.read (place_view types q)) is (view.view_read types q)

  pub address-is : ((q : p.Place) × (x.node ≡ vn.FirstElement q)) ⊎ (((q : p.Place) × (x.node ≡ vn.Address q))
      ⊎ ((n : ℕ) × (x.node ≡ vn.Function n))) → stays ≡ finishes
  address-is (inl (q, is)) = seen (vn.FirstElement q) (tree.first_element (place_view types q)) is (view.view_first_element types q)
  address-is (inr (inl (q, is))) = seen (vn.Address q) (tree.address (place_view types q)) is (view.view_address types q)
  address-is (inr (inr (n, is))) = seen (vn.Function n) (tree.function n) is (view.view_function types n)

  pub choice-is : ((e : v.Value) × (a : v.Value) × (b : v.Value) × (x.node ≡ vn.Choice e a b))
      ⊎ ((es : List v.Value) × (e : v.Value) × (x.node ≡ vn.Sequence es e)) → stays ≡ finishes
  choice-is (inl (e, a, b, is)) =
      seen (vn.Choice e a b) (tree.choice (value_view types e) (value_view types a) (value_view types b)) is (view.view_choice types e a b)
  choice-is (inr (es, e, is)) =
      seen (vn.Sequence es e) (tree.sequence (values_from (map (value_view types) es)) (value_view types e)) is (view.view_sequence types es e)

  pub discarded-is : ((e : v.Value) × (x.node ≡ vn.Requalified e)) ⊎ ((e : v.Value) × (x.node ≡ vn.Discarded e)) → stays ≡ finishes
  discarded-is (inl (e, is)) = seen (vn.Requalified e) (tree.requalified (value_view types e)) is (view.view_requalified types e)
  discarded-is (inr (e, is)) = seen (vn.Discarded e) (tree.discarded (value_view types e)) is (view.view_discarded types e)

  -- ---- what an arm owes

  pub steps-as : {E : Type 0} (r : Result Did E) (new : Run) (m : ℕ → Doing ⊥) → m ≡ finishes
      → IfOk r (Steps at.program.now m old new) → IfOk r (Steps at.program.now finishes old new)
  steps-as r new m is = subst (λ (n : ℕ → Doing ⊥). IfOk r (Steps at.program.now n old new)) is

  pub sound-as : {E : Type 0} (r : Result Did E) (new : Run) → IsSound at.program.now old → OnOk r (Frames old new) → OnOk r (IsSound at.program.now new)
  sound-as (Ok d) new s f = framed-sound at.program.now old new f s
  sound-as (Err e) new s f = f

  pub falls-as : {E : Type 0} (r : Result Did E) (new : Run) → OnOk r (Frames old new) → IfOk r IsFraming
      → IfOk r (Falls at.program.now (work_with at.program.now (does (finish (value_view types x))) old) old new)
  falls-as (Ok d) new f is = framed-falls at.program.now old new f (value_view types x) d is
  falls-as (Err e) new f is = is

  pub turned-as : {E : Type 0} (r : Result Did E) (new : Run) → IfOk r (Falls at.program.now 0 old new)
      → IfOk r (Falls at.program.now (work_with at.program.now (does (finish (value_view types x))) old) old new)
  turned-as (Ok d) new is = falls-more at.program.now old new _ d is
  turned-as (Err e) new is = is

  pub stays-falls : Falls at.program.now (work_with at.program.now (does (finish (value_view types x))) old) old old did.Went
  stays-falls = (refl, omega arith)

  pub stays-steps : stays ≡ finishes → Steps at.program.now finishes old old did.Went
  stays-steps is = λ bound low es. ap (λ (m : ℕ → Doing ⊥). m bound (world_of old.world es)) (sym is)
